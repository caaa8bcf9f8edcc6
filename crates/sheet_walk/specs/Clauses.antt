-- What the contracts say of a schema's bytes b and a message m: the bits that are put, and what the message gives to those who
-- read it. `o` is the width of an offset in bytes; d objects of depth are left.
use Rattle.std.specs.Prelude.{ℕ, ◌+◌, ◌≤◌, Bool, List, length}
use Rattle.coding.specs.Schema.{element_of, table_of}
use Rattle.coding.specs.Packed.{parse, member_at}
use Rattle.coding.specs.Layout.{begin}
use Rattle.coding.specs.Step.{member_step, elements_size}
use Rattle.coding.specs.declared.Flat.{Flat}
use Rattle.coding.specs.declared.Object.{Object}
use Rattle.coding.specs.declared.Kind.{Kind}
use Rattle.coding.specs.declared.Member.{Member}
use Rattle.coding.specs.declared.Cursor.{Cursor}
use Rattle.coding.specs.declared.Placement.{Placement}
use Rattle.coding.specs.declared.Place.{Place}
use Rattle.coding.specs.declared.Step.{Step}
use Rattle.sheet_walk.specs.MessageBits as A
use Rattle.sheet_walk.specs.Readable as D

-- ---- bits
abbrev pub field_bits : List ℕ → List ℕ → Flat → ℕ → List ℕ
field_bits b m k at = A.field_at (parse b) m k at

abbrev pub struct_bits : List ℕ → List ℕ → ℕ → ℕ → List ℕ
struct_bits b m i at = A.struct_at (parse b) m i at

abbrev pub whole_bits : List ℕ → List ℕ → ℕ → ℕ → List ℕ
whole_bits b m i at = A.whole_at (parse b) m i at

abbrev pub flat_bits : List ℕ → List ℕ → Flat → Bool → ℕ → ℕ → List ℕ
flat_bits b m k none at bit = A.flat_at (parse b) m k none at bit

abbrev pub placed_bits : List ℕ → List ℕ → ℕ → ℕ → Placement → Member → List ℕ
placed_bits b m start n p r = A.placed_at (parse b) m start n p r

abbrev pub lead_bits : ℕ → ℕ → List ℕ → List ℕ → ℕ → ℕ → ℕ → Cursor → List ℕ
lead_bits o d b m at start n c = A.step_at o d (parse b) m (member_at b at).kind (member_step o (parse b) m start n c (member_at b at))

abbrev pub present_bits : ℕ → ℕ → List ℕ → List ℕ → Object → Place → List ℕ
present_bits o d b m ob p = A.present_at o d (parse b) m ob p

abbrev pub choice_bits : ℕ → ℕ → List ℕ → List ℕ → ℕ → ℕ → Place → List ℕ
choice_bits o d b m u c p = A.choice_at o d (parse b) m u c p

abbrev pub object_bits : ℕ → ℕ → List ℕ → List ℕ → Object → Place → List ℕ
object_bits o d b m ob p = A.object_at o d (parse b) m ob p

abbrev pub content_bits : ℕ → ℕ → List ℕ → List ℕ → Object → ℕ → ℕ → ℕ → List ℕ
content_bits o d b m ob at start n = A.content_at o d (parse b) m ob at start n

abbrev pub table_bits : ℕ → ℕ → List ℕ → List ℕ → ℕ → ℕ → ℕ → List ℕ
table_bits o d b m t start n = A.members_at o d (parse b) m start n begin (table_of (parse b) t).members

abbrev pub list_bits : ℕ → ℕ → List ℕ → List ℕ → ℕ → ℕ → ℕ → List ℕ
list_bits o d b m i start n = A.list_at o d (parse b) m (element_of (parse b) i) start n

abbrev pub elements_bits : ℕ → ℕ → List ℕ → List ℕ → Kind → ℕ → ℕ → List ℕ
elements_bits o d b m k start n = A.elements_at o d (parse b) m k start n 0

abbrev pub direct_bits : ℕ → ℕ → List ℕ → List ℕ → ℕ → ℕ → ℕ → ℕ → List ℕ
direct_bits o d b m t w n at = A.direct_at o d (parse b) m t w n at

abbrev pub root_bits : ℕ → List ℕ → List ℕ → List ℕ
root_bits o b m = A.root_at o (parse b) m

-- ---- what is readable
abbrev pub ObjectReadable : ℕ → ℕ → List ℕ → List ℕ → Object → Place → Type 0
ObjectReadable o d b m ob p = D.ObjectReadable o d (parse b) m ob p

abbrev pub ContentReadable : ℕ → ℕ → List ℕ → List ℕ → Object → ℕ → ℕ → ℕ → Type 0
ContentReadable o d b m ob at start n = D.Entered o (D.ObjectReadable o d (parse b) m) (parse b) m ob at start n

abbrev pub StepReadable : ℕ → ℕ → List ℕ → List ℕ → Step → Type 0
StepReadable o d b m s = D.StepReadable (D.ObjectReadable o d (parse b) m) (parse b) m s

abbrev pub LeadReadable : ℕ → ℕ → List ℕ → List ℕ → ℕ → ℕ → ℕ → Cursor → Type 0
LeadReadable o d b m at start n c = StepReadable o d b m (member_step o (parse b) m start n c (member_at b at))

abbrev pub TableReadable : ℕ → ℕ → List ℕ → List ℕ → ℕ → ℕ → ℕ → Type 0
TableReadable o d b m t start n = D.MembersReadable o (D.ObjectReadable o d (parse b) m) (parse b) m start n begin (table_of (parse b) t).members

abbrev pub ElementsReadable : ℕ → ℕ → List ℕ → List ℕ → Kind → ℕ → ℕ → Type 0
ElementsReadable o d b m k start n = D.ElementsReadable o (D.ObjectReadable o d (parse b) m) (parse b) m k start n 0

abbrev pub ListReadable : ℕ → ℕ → List ℕ → List ℕ → ℕ → ℕ → ℕ → Type 0
ListReadable o d b m i start n = ElementsReadable o d b m (element_of (parse b) i) start n

abbrev pub ListInside : ℕ → List ℕ → List ℕ → ℕ → ℕ → ℕ → Type 0
ListInside o b m i start n = start + elements_size o (parse b) (element_of (parse b) i) n ≤ length m

abbrev pub DirectsReadable : ℕ → ℕ → List ℕ → List ℕ → ℕ → ℕ → ℕ → ℕ → Type 0
DirectsReadable o d b m t w n at = D.DirectsReadable (D.ObjectReadable o d (parse b) m) t w n at

abbrev pub MessageReadable : ℕ → List ℕ → List ℕ → Type 0
MessageReadable o b m = D.MessageReadable o (parse b) m
