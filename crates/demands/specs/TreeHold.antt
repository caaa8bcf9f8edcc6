-- A message that holds a tree: `HoldsTree d o S m ob v p` says that the value v stands in m as the object ob at the place p,
-- d objects deep, plainly: no unknown enum or choice, every table with its full fixed part, and no unused bit set. What is
-- written holds its tree; reading, judging and an appended schema's reading follow from that alone.
use Rattle.std.specs.Prelude.{◌≡◌, List, [], ◌∷◌, true, ℕ, zero, suc, ◌+◌, ◌*◌, ◌<◌, ◌≤◌, length, get_or, take, drop}
use Rattle.coding.specs.Bytes.{le}
use Rattle.coding.specs.Utf8.{is_text}
use Rattle.coding.specs.Schema.{Schema, element_of, cases_of, case_of, table_of}
use Rattle.coding.specs.Layout.{begin, after_member, fixed_size}
use Rattle.coding.specs.Step.{member_step, element_step, elements_size}
use Rattle.coding.specs.Walk.{start_size, header_size, element_id, element_size, most_elements, stands_in_place, magic}
use Rattle.coding.specs.Value.{Value, Values, absent, number, blob, row, chosen, none, ◌then◌, present, count}
use Rattle.coding.specs.Read.{struct_read}
use Rattle.coding.specs.declared.Flat.{Flat}
use Rattle.coding.specs.declared.Flat.TheVariants as F
use Rattle.coding.specs.declared.Object.{Object}
use Rattle.coding.specs.declared.Object.TheVariants as O
use Rattle.coding.specs.declared.Kind.{Kind}
use Rattle.coding.specs.declared.Kind.TheVariants.{OfFlat, OfObject, OfUnion}
use Rattle.coding.specs.declared.Member.{Member}
use Rattle.coding.specs.declared.Cursor.{Cursor}
use Rattle.coding.specs.declared.Place.{Place}
use Rattle.coding.specs.declared.Place.TheVariants.{ByOffset, InPlace}
use Rattle.coding.specs.declared.Step.{Step}
use Rattle.coding.specs.declared.Step.TheVariants as St
use Rattle.demands.specs.AtCursor.{Unused}
use Rattle.demands.specs.Writes.{FlatWrites}

-- where an object of the level below stands
abbrev pub Below : Type 1
Below = Object → Value → Place → Type 0

-- not by the offset 0
abbrev pub Somewhere : Place → Type 0
Somewhere (ByOffset x) = 0 < x
Somewhere (InPlace a n) = Unit {0}

-- what a step shows of a value
pub data Shows (below : Below) (S : Schema) (m : List ℕ) : Kind → Value → Step → Type 0 where
  nothing : {k : Kind} → Shows below S m k absent St.Absent
  scalar : {k : Flat} {x : ℕ} → Shows below S m (OfFlat k) (number x) (St.Value x)
  struct : {i at : ℕ} {v : Value} → struct_read S m i at ≡ v → FlatWrites S (F.Struct i) v → Shows below S m (OfFlat (F.Struct i)) v (St.Struct i at)
  object : {ob : Object} {v : Value} {p : Place} → present v ≡ true → below ob v p → Shows below S m (OfObject ob) v (St.Object ob p)
  choice : {i c : ℕ} {ob : Object} {v : Value} {p : Place} → ob ≡ case_of (cases_of S i) c → 0 < c → c ≤ length (cases_of S i) → Somewhere p → below ob v p
      → Shows below S m (OfUnion i) (chosen c v) (St.Choice c ob p)

-- the members from the cursor on, of a table whose fixed part has n bytes from `start`
pub data MembersHold (below : Below) (o : ℕ) (S : Schema) (m : List ℕ) (start n : ℕ) : Cursor → List Member → Values → Type 0 where
  no_member : {c : Cursor} → c.end ≡ n → Unused m start c → MembersHold below o S m start n c [] none
  members : {c : Cursor} {r : Member} {rs : List Member} {v : Value} {vs : Values}
      → Shows below S m r.kind v (member_step o S m start n c r)
      → MembersHold below o S m start n (after_member o S r c) rs vs
      → MembersHold below o S m start n c (r ∷ rs) (v then vs)

-- the elements from element i on
pub data ElementsHold (below : Below) (o : ℕ) (S : Schema) (m : List ℕ) (start : ℕ) (k : Kind) : ℕ → Values → Type 0 where
  no-element : {i : ℕ} → ElementsHold below o S m start k i none
  elements : {i : ℕ} {v : Value} {vs : Values} → Shows below S m k v (element_step o S m k start i)
      → ElementsHold below o S m start k (i + 1) vs → ElementsHold below o S m start k i (v then vs)

-- the elements of a direct list of table t, each of w bytes, the first at a place
pub data DirectsHold (below : Below) (t w : ℕ) : ℕ → Values → Type 0 where
  no-direct : {at : ℕ} → DirectsHold below t w at none
  directs : {at : ℕ} {v : Value} {vs : Values} → below (O.Table t) v (InPlace at w) → DirectsHold below t w (at + w) vs
      → DirectsHold below t w at (v then vs)

-- content of length n from `start`, of the object at a place
pub data ContentHolds (below : Below) (o : ℕ) (S : Schema) (m : List ℕ) : Object → Value → ℕ → ℕ → ℕ → Type 0 where
  text : {l : List ℕ} {at start n : ℕ} → take n (drop start m) ≡ l → start + (n + 1) ≤ length m → get_or m (start + n) 0 ≡ 0
      → is_text l ≡ true → ContentHolds below o S m O.Text (blob l) at start n
  bytes : {l : List ℕ} {at start n : ℕ} → take n (drop start m) ≡ l → start + n ≤ length m
      → ContentHolds below o S m O.Bytes (blob l) at start n
  list : {i at start n : ℕ} {vs : Values} → count vs ≡ n → start + elements_size o S (element_of S i) n ≤ length m
      → ElementsHold below o S m start (element_of S i) 0 vs → ContentHolds below o S m (O.List i) (row vs) at start n
  table : {i at start n : ℕ} {vs : Values} → fixed_size o S (table_of S i).members ≡ n → start + n ≤ length m
      → MembersHold below o S m start n begin (table_of S i).members vs → ContentHolds below o S m (O.Table i) (row vs) at start n
  direct_list : {t at start n : ℕ} {vs : Values} → count vs ≡ n → element_id o m at ≡ (table_of S t).id → n ≤ most_elements
      → start + n * element_size o m at ≤ length m → DirectsHold below t (element_size o m at) start vs
      → ContentHolds below o S m (O.DirectList t) (row vs) at start n

pub data PlaceHolds (below : Below) (o : ℕ) (S : Schema) (m : List ℕ) : Object → Value → Place → Type 0 where
  by_offset : {ob : Object} {v : Value} {x : ℕ} → start_size o ≤ x → x + header_size o ob ≤ length m → le m x 4 ≡ magic S ob
      → ContentHolds below o S m ob v x (x + header_size o ob) (le m (x + 4) o) → PlaceHolds below o S m ob v (ByOffset x)
  in_place : {ob : Object} {v : Value} {a n : ℕ} → stands_in_place ob ≡ true → ContentHolds below o S m ob v a a n
      → PlaceHolds below o S m ob v (InPlace a n)

abbrev pub HoldsTree : ℕ → ℕ → Schema → List ℕ → Below
HoldsTree zero o S m ob v p = ⊥
HoldsTree (suc d) o S m ob v p = PlaceHolds (HoldsTree d o S m) o S m ob v p
