-- Plain messages: what the writer makes under a schema, as far as a newer schema's reading depends on it. Every table
-- reached has its full fixed part, the bits of its last bool byte that no member uses are 0, and no enum or choice is
-- unknown. `o` is the width of an offset in bytes.
use Rattle.std.specs.Prelude.{ℕ, zero, suc, ◌≤◌, ◌<◌, ◌+◌, List, [], ◌∷◌, ◌≡◌}
use Rattle.coding.specs.Bytes.{le, bit_at, deepest}
use Rattle.coding.specs.Schema.{Schema, element_of, table_of}
use Rattle.coding.specs.Layout.{begin, after_member}
use Rattle.coding.specs.Step.{member_step, element_step}
use Rattle.coding.specs.Walk.{header_size, element_size, root_place}
use Rattle.coding.specs.Value.{Value, Values, absent, unknown, number, blob, row, chosen, none, ◌then◌}
use Rattle.coding.specs.Read.{struct_read}
use Rattle.coding.specs.declared.Object.{Object}
use Rattle.coding.specs.declared.Object.TheVariants as Ob
use Rattle.coding.specs.declared.Kind.{Kind}
use Rattle.coding.specs.declared.Member.{Member}
use Rattle.coding.specs.declared.Cursor.{Cursor}
use Rattle.coding.specs.declared.Place.{Place}
use Rattle.coding.specs.declared.Place.TheVariants.{ByOffset, InPlace}
use Rattle.coding.specs.declared.Step.{Step}
use Rattle.coding.specs.declared.Step.TheVariants as St

-- no unknown enum or choice in a value
unfoldable mutual
  pub Known : Value → Type 0
  Known absent = Unit {0}
  Known (unknown x) = ⊥
  Known (number x) = Unit {0}
  Known (blob l) = Unit {0}
  Known (row vs) = AllKnown vs
  Known (chosen c v) = Known v

  pub AllKnown : Values → Type 0
  AllKnown none = Unit {0}
  AllKnown (v then vs) = Known v × AllKnown vs

-- which objects are plain
abbrev pub Objects : Type 1
Objects = Object → Place → Type 0

unfoldable pub step_plain : Objects → Schema → List ℕ → Step → Type 0
step_plain child S m (St.Refused n) = Unit {0}
step_plain child S m St.Absent = Unit {0}
step_plain child S m (St.Value x) = Unit {0}
step_plain child S m (St.Unknown x) = ⊥
step_plain child S m (St.Struct i at) = Known (struct_read S m i at)
step_plain child S m (St.Object ob p) = child ob p
step_plain child S m (St.Choice c ob p) = child ob p

-- the cursor behind the last member: a fixed part of n bytes ends there, and the free bits of the last bool byte are 0
pub record Full (m : List ℕ) (start n : ℕ) (c : Cursor) : Type 0 where
  pub size : n ≡ c.end
  pub clear : (j : ℕ) → c.bit ≤ j → j < 8 → bit_at m (start + c.byte) j ≡ 0

unfoldable pub members_plain : Objects → ℕ → Schema → List ℕ → ℕ → ℕ → Cursor → List Member → Type 0
members_plain child o S m start n c [] = Full m start n c
members_plain child o S m start n c (r ∷ rs) =
    step_plain child S m (member_step o S m start n c r) × members_plain child o S m start n (after_member o S r c) rs

unfoldable pub elements_plain : Objects → ℕ → Schema → List ℕ → ℕ → Kind → ℕ → ℕ → Type 0
elements_plain child o S m start k zero i = Unit {0}
elements_plain child o S m start k (suc n) i =
    step_plain child S m (element_step o S m k start i) × elements_plain child o S m start k n (i + 1)

unfoldable pub directs_plain : Objects → ℕ → ℕ → ℕ → ℕ → Type 0
directs_plain child t w zero at = Unit {0}
directs_plain child t w (suc n) at = child (Ob.Table t) (InPlace at w) × directs_plain child t w n (at + w)

unfoldable pub content_plain : Objects → ℕ → Schema → List ℕ → Object → ℕ → ℕ → ℕ → Type 0
content_plain child o S m Ob.Text at start n = Unit {0}
content_plain child o S m Ob.Bytes at start n = Unit {0}
content_plain child o S m (Ob.List i) at start n = elements_plain child o S m start (element_of S i) n 0
content_plain child o S m (Ob.Table i) at start n = members_plain child o S m start n begin (table_of S i).members
content_plain child o S m (Ob.DirectList t) at start n = directs_plain child t (element_size o m at) n start

unfoldable pub place_plain : Objects → ℕ → Schema → List ℕ → Objects
place_plain child o S m ob (ByOffset x) = content_plain child o S m ob x (x + header_size o ob) (le m (x + 4) o)
place_plain child o S m ob (InPlace a n) = content_plain child o S m ob a a n

-- an object with d objects of depth left
unfoldable pub plain : ℕ → ℕ → Schema → List ℕ → Objects
plain zero o S m ob p = Unit {0}
plain (suc d) o S m ob p = place_plain (plain d o S m) o S m ob p

unfoldable pub message_plain : ℕ → Schema → List ℕ → Type 0
message_plain o S m = plain deepest o S m (Ob.Table S.root) (root_place o m)
