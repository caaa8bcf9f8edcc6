-- What an accepted message gives to those who read it: every place that is read lies within the message, and a struct's
-- booleans are 0 or 1. `o` is the width of an offset in bytes.
use Rattle.std.specs.Prelude.{◌≡◌, true, ℕ, zero, suc, ◌+◌, ◌<◌, ◌≤◌, List, [], ◌∷◌, length}
use Rattle.coding.specs.Bytes.{le, deepest}
use Rattle.coding.specs.Schema.{Schema, element_of, table_of}
use Rattle.coding.specs.Structs.{struct_size, struct_ok, flat_width}
use Rattle.coding.specs.Layout.{begin, after_member}
use Rattle.coding.specs.Step.{member_step, element_step}
use Rattle.coding.specs.Walk.{placed, header_size, element_size, start_size, content_size, root_place}
use Rattle.coding.specs.declared.Flat.{Flat}
use Rattle.coding.specs.declared.Flat.TheVariants as F
use Rattle.coding.specs.declared.Object.{Object}
use Rattle.coding.specs.declared.Object.TheVariants as O
use Rattle.coding.specs.declared.Kind.{Kind}
use Rattle.coding.specs.declared.Kind.TheVariants.{OfFlat, OfObject, OfUnion}
use Rattle.coding.specs.declared.Member.{Member}
use Rattle.coding.specs.declared.Cursor.{Cursor}
use Rattle.coding.specs.declared.Place.{Place}
use Rattle.coding.specs.declared.Place.TheVariants.{ByOffset, InPlace}
use Rattle.coding.specs.declared.Step.{Step}
use Rattle.coding.specs.declared.Step.TheVariants as St
use Rattle.laws.specs.Sound.{ObjectSound}

-- ---- an object's content by its place
unfoldable pub start_of : ℕ → Object → Place → ℕ
start_of o ob (ByOffset x) = x + header_size o ob
start_of o ob (InPlace a n) = a

unfoldable pub length_of : ℕ → List ℕ → Place → ℕ
length_of o m (ByOffset x) = le m (x + 4) o
length_of o m (InPlace a n) = n

-- the header lies within the message
unfoldable pub HeaderInside : ℕ → List ℕ → Object → Place → Type 0
HeaderInside o m ob (ByOffset x) = x + header_size o ob ≤ length m
HeaderInside o m ob (InPlace a n) = Unit {0}

-- a text or bytes lies within it too, with its header
unfoldable pub BlobInside : ℕ → List ℕ → Object → Place → Type 0
BlobInside o m ob p = HeaderInside o m ob p × (start_of o ob p + length_of o m p ≤ length m)

-- ---- by the step
abbrev pub Child : Type 1
Child = Object → Place → Type 0

unfoldable pub StepReadable : Child → Schema → List ℕ → Step → Type 0
StepReadable child S m (St.Refused n) = ⊥
StepReadable child S m St.Absent = Unit {0}
StepReadable child S m (St.Value x) = Unit {0}
StepReadable child S m (St.Unknown x) = Unit {0}
StepReadable child S m (St.Struct i at) = (i < length S.structs) × (at + struct_size S i ≤ length m)
StepReadable child S m (St.Object ob p) = child ob p
StepReadable child S m (St.Choice c ob p) = child ob p

-- a value that leads to no object
unfoldable pub FlatReadable : Schema → List ℕ → Flat → ℕ → Type 0
FlatReadable S m F.Boolean at = Unit {0}
FlatReadable S m (F.Integer s w) at = Unit {0}
FlatReadable S m (F.Float w) at = Unit {0}
FlatReadable S m (F.Enumerated n) at = Unit {0}
FlatReadable S m (F.Struct i) at = struct_ok S m i at ≡ true

-- it lies within the message
unfoldable pub ValueInside : Schema → List ℕ → Kind → ℕ → Type 0
ValueInside S m (OfFlat f) at = at + flat_width (struct_size S) f ≤ length m
ValueInside S m (OfObject ob) at = Unit {0}
ValueInside S m (OfUnion u) at = Unit {0}

unfoldable pub ValueReadable : Schema → List ℕ → Kind → ℕ → Type 0
ValueReadable S m (OfFlat f) at = FlatReadable S m f at
ValueReadable S m (OfObject ob) at = Unit {0}
ValueReadable S m (OfUnion u) at = Unit {0}

unfoldable pub MembersReadable : ℕ → Child → Schema → List ℕ → ℕ → ℕ → Cursor → List Member → Type 0
MembersReadable o child S m start n c [] = Unit {0}
MembersReadable o child S m start n c (r ∷ rs) =
    StepReadable child S m (member_step o S m start n c r) × MembersReadable o child S m start n (after_member o S r c) rs

unfoldable pub ElementsReadable : ℕ → Child → Schema → List ℕ → Kind → ℕ → ℕ → ℕ → Type 0
ElementsReadable o child S m k start zero i = Unit {0}
ElementsReadable o child S m k start (suc n) i =
    StepReadable child S m (element_step o S m k start i) × ElementsReadable o child S m k start n (i + 1)

-- n elements of a direct list of table t, each of w bytes, the first at a place
unfoldable pub DirectsReadable : Child → ℕ → ℕ → ℕ → ℕ → Type 0
DirectsReadable child t w zero at = Unit {0}
DirectsReadable child t w (suc n) at = child (O.Table t) (InPlace at w) × DirectsReadable child t w n (at + w)

-- the content of the object at a place
unfoldable pub ContentReadable : ℕ → Child → Schema → List ℕ → Object → ℕ → ℕ → ℕ → Type 0
ContentReadable o child S m O.Text at start n = Unit {0}
ContentReadable o child S m O.Bytes at start n = Unit {0}
ContentReadable o child S m (O.List i) at start n = ElementsReadable o child S m (element_of S i) start n 0
ContentReadable o child S m (O.Table i) at start n = MembersReadable o child S m start n begin (table_of S i).members
ContentReadable o child S m (O.DirectList t) at start n = DirectsReadable child t (element_size o m at) n start

-- the object at a place with its content
pub record Entered (o : ℕ) (child : Child) (S : Schema) (m : List ℕ) (ob : Object) (at start n : ℕ) : Type 0 where
  pub sound : ObjectSound S ob
  pub inside : start + content_size o S m ob at n ≤ length m
  pub parts : ContentReadable o child S m ob at start n

-- an object with d objects of depth left
unfoldable pub ObjectReadable : ℕ → ℕ → Schema → List ℕ → Child
ObjectReadable o zero S m ob p = ⊥
ObjectReadable o (suc d) S m ob p =
    HeaderInside o m ob p × Entered o (ObjectReadable o d S m) S m ob (placed p) (start_of o ob p) (length_of o m p)

-- the whole message: its start, and the root table
pub record MessageReadable (o : ℕ) (S : Schema) (m : List ℕ) : Type 0 where
  pub long : start_size o ≤ length m
  pub short : length m ≤ 16777215
  pub root : ObjectReadable o deepest S m (O.Table S.root) (root_place o m)
