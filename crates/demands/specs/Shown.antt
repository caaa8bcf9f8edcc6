-- Which values a schema can show: the trees of values that a lawful sheet stands for, by paper 01's "Value sheet".
use Rattle.std.specs.Prelude.{◌≡◌, List, [], ◌∷◌, Bool, true, ℕ, zero, suc, ◌*◌, ◌^◌, ◌<◌, ◌≤◌, length}
use Rattle.coding.specs.Schema.{Schema, struct_of, element_of, cases_of, case_of, table_of}
use Rattle.coding.specs.Value.{Value, Values, absent, unknown, number, blob, row, chosen, none, ◌then◌, present, count}
use Rattle.coding.specs.Sheet.{unmarked}
use Rattle.coding.specs.declared.Flat.{Flat}
use Rattle.coding.specs.declared.Flat.TheVariants.{Boolean, Integer, Float, Enumerated, Struct}
use Rattle.coding.specs.declared.Object.{Object}
use Rattle.coding.specs.declared.Object.TheVariants as O
use Rattle.coding.specs.declared.Kind.{Kind}
use Rattle.coding.specs.declared.Kind.TheVariants.{OfFlat, OfObject, OfUnion}
use Rattle.coding.specs.declared.Member.{Member}
use Rattle.laws.specs.Sound.{All}
use Rattle.laws.specs.Bits.{Byte}

-- ---- what leads to no object, and a struct's members. "Present bool 1 bit; numbers at their width (floats as their bits);
-- enum 8 bits"; "A present enum is below its count"; "Unknown ...: the 8-bit ... number, which must truly be unknown": not
-- below the count, and not 255, which is no value.
mutual
  pub data FlatShown (S : Schema) : Flat → Value → Type 0 where
    boolean : {x : ℕ} → x < 2 → FlatShown S Boolean (number x)
    integer : {s : Bool} {w x : ℕ} → x < 2 ^ (8 * w) → FlatShown S (Integer s w) (number x)
    float : {w x : ℕ} → x < 2 ^ (8 * w) → FlatShown S (Float w) (number x)
    no-enum : {n : ℕ} → FlatShown S (Enumerated n) absent
    enum : {n x : ℕ} → x < n → FlatShown S (Enumerated n) (number x)
    unknown-enum : {n x : ℕ} → n ≤ x → x < 255 → FlatShown S (Enumerated n) (unknown x)
    struct : {i : ℕ} {vs : Values} → FlatsShown S (struct_of S i) vs → FlatShown S (Struct i) (row vs)

  pub data FlatsShown (S : Schema) : List Flat → Values → Type 0 where
    no-flat : FlatsShown S [] none
    flats : {k : Flat} {ks : List Flat} {v : Value} {vs : Values} → FlatShown S k v → FlatsShown S ks vs
        → FlatsShown S (k ∷ ks) (v then vs)

-- ---- members and elements; `child` says what an object shows
abbrev pub Objects : Type 1
Objects = Object → Value → Type 0

-- "union a 16-bit choice and the object", "a present choice known"
pub data PartShown (child : Objects) (S : Schema) : Kind → Value → Type 0 where
  no-part : {k : Kind} → PartShown child S k absent
  flat : {k : Flat} {v : Value} → FlatShown S k v → PartShown child S (OfFlat k) v
  object : {ob : Object} {v : Value} → child ob v → PartShown child S (OfObject ob) v
  choice : {i c : ℕ} {v : Value} → 1 ≤ c → c ≤ length (cases_of S i) → child (case_of (cases_of S i) c) v
      → PartShown child S (OfUnion i) (chosen c v)
  unknown-choice : {i c : ℕ} → length (cases_of S i) < c → c < 2 ^ 16 → PartShown child S (OfUnion i) (unknown c)

-- "Table members in order"
pub data MembersShown (child : Objects) (S : Schema) : List Member → Values → Type 0 where
  no_member : MembersShown child S [] none
  members : {r : Member} {rs : List Member} {v : Value} {vs : Values} → PartShown child S r.kind v
      → MembersShown child S rs vs → MembersShown child S (r ∷ rs) (v then vs)

-- "Elements ... have a mark too, except bool and integer elements", which are there
pub data ElementsShown (child : Objects) (S : Schema) (k : Kind) : Values → Type 0 where
  no-element : ElementsShown child S k none
  elements : {v : Value} {vs : Values} → PartShown child S k v → (unmarked k ≡ true → present v ≡ true)
      → ElementsShown child S k vs → ElementsShown child S k (v then vs)

-- 02, K1: "the elements without marks": the elements of a direct list of table t, each a table that is there
pub data DirectsShown (child : Objects) (t : ℕ) : Values → Type 0 where
  no-direct : DirectsShown child t none
  directs : {v : Value} {vs : Values} → child (O.Table t) v → DirectsShown child t vs → DirectsShown child t (v then vs)

-- ---- objects. "text or bytes a 32-bit length and the bytes; list a 32-bit count and elements; table its members"; 02, K1: "a 32-bit
-- count and the elements without marks"
pub data ContentShown (child : Objects) (S : Schema) : Object → Value → Type 0 where
  text : {l : List ℕ} → All Byte l → length l < 2 ^ 32 → ContentShown child S O.Text (blob l)
  bytes : {l : List ℕ} → All Byte l → length l < 2 ^ 32 → ContentShown child S O.Bytes (blob l)
  list : {i : ℕ} {vs : Values} → count vs < 2 ^ 32 → ElementsShown child S (element_of S i) vs
      → ContentShown child S (O.List i) (row vs)
  table : {i : ℕ} {vs : Values} → MembersShown child S (table_of S i).members vs → ContentShown child S (O.Table i) (row vs)
  direct_list : {t : ℕ} {vs : Values} → count vs < 2 ^ 32 → DirectsShown child t vs → ContentShown child S (O.DirectList t) (row vs)

-- v is a value that the schema can show at an object, with d objects of depth, this one counted
abbrev pub Shown : ℕ → Schema → Objects
Shown zero S ob v = ⊥
Shown (suc d) S ob v = ContentShown (Shown d S) S ob v
