-- Which trees can be written: those that the schema can show and that are writable, as one relation.
use Rattle.std.specs.Prelude.{◌≡◌, List, [], ◌∷◌, Bool, true, false, ◌&&◌, ℕ, zero, suc, ◌^◌, ◌<◌, ◌≤◌, length}
use Rattle.coding.specs.Bytes.{is_nan}
use Rattle.coding.specs.Utf8.{is_text}
use Rattle.coding.specs.Schema.{Schema, struct_of, element_of, cases_of, case_of, table_of}
use Rattle.coding.specs.Layout.{flat_takes_flag, fixed_size}
use Rattle.coding.specs.Value.{Value, Values, absent, number, blob, row, chosen, none, ◌then◌, present, as_number, count}
use Rattle.coding.specs.Walk.{stands_in_place}
use Rattle.coding.specs.Message.{length_of}
use Rattle.coding.specs.declared.Flat.{Flat}
use Rattle.coding.specs.declared.Flat.TheVariants.{Boolean, Integer, Float, Enumerated, Struct}
use Rattle.coding.specs.declared.Object.{Object}
use Rattle.coding.specs.declared.Object.TheVariants as O
use Rattle.coding.specs.declared.Kind.{Kind}
use Rattle.coding.specs.declared.Kind.TheVariants.{OfFlat, OfObject, OfUnion}
use Rattle.coding.specs.declared.Member.{Member}
use Rattle.laws.specs.Sound.{All, DirectSound}
use Rattle.laws.specs.Bits.{Byte}

-- ---- what leads to no object, and a struct's members
mutual
  pub data FlatWrites (S : Schema) : Flat → Value → Type 0 where
    boolean : {x : ℕ} → x < 2 → FlatWrites S Boolean (number x)
    integer : {s : Bool} {w x : ℕ} → x < 256 ^ w → FlatWrites S (Integer s w) (number x)
    float : {w x : ℕ} → x < 256 ^ w → FlatWrites S (Float w) (number x)
    no-enum : {n : ℕ} → FlatWrites S (Enumerated n) absent
    enum : {n x : ℕ} → x < n → FlatWrites S (Enumerated n) (number x)
    struct : {i : ℕ} {vs : Values} → FlatsWrite S (struct_of S i) vs → FlatWrites S (Struct i) (row vs)

  pub data FlatsWrite (S : Schema) : List Flat → Values → Type 0 where
    no-flat : FlatsWrite S [] none
    flats : {k : Flat} {ks : List Flat} {v : Value} {vs : Values} → FlatWrites S k v → FlatsWrite S ks vs
        → FlatsWrite S (k ∷ ks) (v then vs)

-- ---- members and elements; `child` says which objects can be written
abbrev pub Objects : Type 1
Objects = Object → Value → Type 0

-- no NaN, where a NaN is no value
abbrev pub NotNaN : Bool → Flat → Value → Type 0
NotNaN nan Boolean v = Unit {0}
NotNaN nan (Integer s w) v = Unit {0}
NotNaN nan (Float w) v = (nan && is_nan w (as_number v)) ≡ false
NotNaN nan (Enumerated n) v = Unit {0}
NotNaN nan (Struct i) v = Unit {0}

-- `may`: a bool, integer or struct may be absent (by its flag); `nan`: a float may be, and a NaN is no value
pub data PartWrites (child : Objects) (o : ℕ) (S : Schema) (may nan inplace : Bool) : Kind → Value → Type 0 where
  no-flat : {k : Flat} → may ≡ true → flat_takes_flag k ≡ true → PartWrites child o S may nan inplace (OfFlat k) absent
  no_float_lem : {w : ℕ} → nan ≡ true → PartWrites child o S may nan inplace (OfFlat (Float w)) absent
  flat : {k : Flat} {v : Value} → FlatWrites S k v → NotNaN nan k v → PartWrites child o S may nan inplace (OfFlat k) v
  no-object : {ob : Object} → PartWrites child o S may nan inplace (OfObject ob) absent
  object : {ob : Object} {v : Value} → child ob v → present v ≡ true → (inplace ≡ true → 0 < length_of o S ob v)
      → (inplace ≡ true → stands_in_place ob ≡ true) → PartWrites child o S may nan inplace (OfObject ob) v
  no-union : {i : ℕ} → PartWrites child o S may nan inplace (OfUnion i) absent
  choice : {i c : ℕ} {v : Value} → 0 < c → c ≤ length (cases_of S i) → child (case_of (cases_of S i) c) v
      → (inplace ≡ true → stands_in_place (case_of (cases_of S i) c) ≡ true) → PartWrites child o S may nan inplace (OfUnion i) (chosen c v)

pub data MembersWrite (child : Objects) (o : ℕ) (S : Schema) : List Member → Values → Type 0 where
  no_member : MembersWrite child o S [] none
  members : {r : Member} {rs : List Member} {v : Value} {vs : Values}
      → PartWrites child o S r.optional r.optional r.inplace r.kind v → MembersWrite child o S rs vs
      → MembersWrite child o S (r ∷ rs) (v then vs)

pub data ElementsWrite (child : Objects) (o : ℕ) (S : Schema) (k : Kind) : Values → Type 0 where
  no-element : ElementsWrite child o S k none
  elements : {v : Value} {vs : Values} → PartWrites child o S false true false k v → ElementsWrite child o S k vs
      → ElementsWrite child o S k (v then vs)

-- the elements of a direct list of table t
pub data DirectsWrite (child : Objects) (t : ℕ) : Values → Type 0 where
  no-direct : DirectsWrite child t none
  directs : {v : Value} {vs : Values} → child (O.Table t) v → DirectsWrite child t vs → DirectsWrite child t (v then vs)

-- ---- objects
pub data ContentWrites (child : Objects) (o : ℕ) (S : Schema) : Object → Value → Type 0 where
  text : {l : List ℕ} → All Byte l → is_text l ≡ true → ContentWrites child o S O.Text (blob l)
  bytes : {l : List ℕ} → All Byte l → ContentWrites child o S O.Bytes (blob l)
  list : {i : ℕ} {vs : Values} → ElementsWrite child o S (element_of S i) vs → ContentWrites child o S (O.List i) (row vs)
  table : {i : ℕ} {vs : Values} → MembersWrite child o S (table_of S i).members vs
      → ContentWrites child o S (O.Table i) (row vs)
  direct_list : {t : ℕ} {vs : Values} → DirectSound S t → fixed_size o S (table_of S t).members < 2 ^ 32 → count vs < 2 ^ 32
      → DirectsWrite child t vs → ContentWrites child o S (O.DirectList t) (row vs)

-- v can be written as an object, with d objects of depth, this one counted
abbrev pub Writes : ℕ → ℕ → Schema → Objects
Writes zero o S ob v = ⊥
Writes (suc d) o S ob v = ContentWrites (Writes d o S) o S ob v
