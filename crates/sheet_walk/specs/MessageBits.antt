-- The sheet's bits of what stands in a message: encode of read, part by part, as the code goes over it.
-- `o` is the width of an offset in bytes.
use Rattle.std.specs.Prelude.{ℕ, ◌+◌, ◌*◌, Bool, true, Option, Some, None, List, [], ◌++◌, length, get_or, leb, ltb, eqb}
use Rattle.coding.specs.Lists.{pick}
use Rattle.coding.specs.Bytes.{le, bit_at}
use Rattle.coding.specs.Schema.{Schema, cases_of, case_of}
use Rattle.coding.specs.Packed.{width_of}
use Rattle.coding.specs.Structs.{struct_ok}
use Rattle.coding.specs.Bits.{bits_of}
use Rattle.coding.specs.Layout.{bit_byte, bit_index, after_bit, has_flag}
use Rattle.sheet_values.specs.Marks.{marked, enum_at, float_at, plain_at}
use Rattle.sheet_lists.specs.Elements.{bools_at, numbers_at, floats_at, enums_at}
use Rattle.coding.specs.Read as R
use Rattle.coding.specs.Sheet as E
use Rattle.coding.specs.Step.{field_step}
use Rattle.coding.specs.declared.Flat.{Flat}
use Rattle.coding.specs.declared.Flat.TheVariants as F
use Rattle.coding.specs.declared.Object.{Object}
use Rattle.coding.specs.declared.Kind.{Kind}
use Rattle.coding.specs.declared.Kind.TheVariants.{OfFlat, OfObject, OfUnion}
use Rattle.coding.specs.declared.Member.{Member}
use Rattle.coding.specs.declared.Cursor.{Cursor}
use Rattle.coding.specs.declared.Placement.{Placement}
use Rattle.coding.specs.declared.Place.{Place}
use Rattle.coding.specs.declared.Step.{Step}
use Rattle.coding.specs.declared.Step.TheVariants as St
use Rattle.message_step.specs.Lead.{reach_of}
use Rattle.message_step.specs.declared.Reach.{Reach}
use Rattle.message_step.specs.declared.Reach.TheVariants.{Cut, Past, Here}
use Rattle.sheet_walk.specs.declared.Code.{Code}
use Rattle.sheet_walk.specs.declared.Code.TheVariants.{Number, Boolean, Float, Enumerated}

-- ---- structs
unfoldable pub struct_at : Schema → List ℕ → ℕ → ℕ → List ℕ
struct_at S m i at = E.struct_bits S i (R.struct_read S m i at)

unfoldable pub field_at : Schema → List ℕ → Flat → ℕ → List ℕ
field_at S m k at = E.field_bits (E.struct_bits S) k (R.step_read (R.struct_read S m) R.no_object (field_step m k at))

unfoldable pub fields_at : Schema → List ℕ → List Flat → ℕ → List ℕ
fields_at S m ks at = E.fields_bits (E.struct_bits S) ks (R.fields_read (R.struct_read S m) S m ks at)

-- ---- objects, with d objects of depth left
unfoldable pub object_at : ℕ → ℕ → Schema → List ℕ → Object → Place → List ℕ
object_at o d S m ob p = E.encode d S ob (R.read d o S m ob p)

-- of the object at a place
unfoldable pub content_at : ℕ → ℕ → Schema → List ℕ → Object → ℕ → ℕ → ℕ → List ℕ
content_at o d S m ob at start n = E.content_bits (E.encode d S) S ob (R.content_read (R.read d o S m) o S m ob at start n)

unfoldable pub members_at : ℕ → ℕ → Schema → List ℕ → ℕ → ℕ → Cursor → List Member → List ℕ
members_at o d S m start n c rs = E.members_bits (E.encode d S) S rs (R.members_read (R.read d o S m) o S m start n c rs)

-- n elements from element i on
unfoldable pub elements_at : ℕ → ℕ → Schema → List ℕ → Kind → ℕ → ℕ → ℕ → List ℕ
elements_at o d S m k start n i = E.elements_bits (E.encode d S) S k (R.elements_read (R.read d o S m) o S m start k n i)

-- n elements of a direct list of table t, each of w bytes, the first at a place
unfoldable pub directs_at : ℕ → ℕ → Schema → List ℕ → ℕ → ℕ → ℕ → ℕ → List ℕ
directs_at o d S m t w n at = E.directs_bits (E.encode d S) t (R.directs_read (R.read d o S m) t w n at)

-- ---- a member's or element's mark, and what follows it
-- the bits of a value that leads nowhere
unfoldable pub flat_value : Flat → ℕ
flat_value F.Boolean = 1
flat_value (F.Integer s w) = 8 * w
flat_value (F.Float w) = 8 * w
flat_value (F.Enumerated n) = 8
flat_value (F.Struct i) = 0

unfoldable pub value_width : Kind → ℕ
value_width (OfFlat k) = flat_value k
value_width (OfObject ob) = 0
value_width (OfUnion i) = 0

-- the bits of what a member or an element of a kind holds
unfoldable pub step_at : ℕ → ℕ → Schema → List ℕ → Kind → Step → List ℕ
step_at o d S m k (St.Refused n) = bits_of 2 0
step_at o d S m k St.Absent = bits_of 2 0
step_at o d S m k (St.Value x) = marked 1 (value_width k) x
step_at o d S m k (St.Unknown x) = marked 2 (E.unknown_width k) x
step_at o d S m k (St.Struct i at) = bits_of 2 1 ++ struct_at S m i at
step_at o d S m k (St.Object ob p) = bits_of 2 1 ++ object_at o d S m ob p
step_at o d S m k (St.Choice c ob p) = marked 1 16 c ++ object_at o d S m ob p

-- a struct, if its booleans are 0 or 1
unfoldable pub whole_at : Schema → List ℕ → ℕ → ℕ → List ℕ
whole_at S m i at = pick (struct_ok S m i at) (bits_of 2 1 ++ struct_at S m i at) (bits_of 2 0)

unfoldable pub flat_at : Schema → List ℕ → Flat → Bool → ℕ → ℕ → List ℕ
flat_at S m F.Boolean none at bit = marked 1 1 (bit_at m at bit)
flat_at S m (F.Integer s w) none at bit = marked 1 (8 * w) (le m at w)
flat_at S m (F.Float w) none at bit = float_at none w (le m at w)
flat_at S m (F.Enumerated n) none at bit = enum_at n (get_or m at 0)
flat_at S m (F.Struct i) none at bit = whole_at S m i at

-- a value of a kind that leads to no object
unfoldable pub value_at : Schema → List ℕ → Kind → Bool → ℕ → ℕ → List ℕ
value_at S m (OfFlat f) none at bit = flat_at S m f none at bit
value_at S m (OfObject ob) none at bit = []
value_at S m (OfUnion u) none at bit = []

-- the same, if it is there
unfoldable pub member_at : Schema → List ℕ → Kind → Bool → Reach → ℕ → ℕ → List ℕ
member_at S m k none Cut at bit = bits_of 2 0
member_at S m k none Past at bit = bits_of 2 0
member_at S m k none Here at bit = value_at S m k none at bit

-- a member by its placement in a fixed part that has n bytes from `start`
unfoldable pub placed_at : Schema → List ℕ → ℕ → ℕ → Placement → Member → List ℕ
placed_at S m start n p r =
    member_at S m r.kind r.optional (reach_of m start n p (has_flag r)) (start + p.value.at) p.value.bit

-- an object at a place, with its mark
unfoldable pub present_at : ℕ → ℕ → Schema → List ℕ → Object → Place → List ℕ
present_at o d S m ob p = bits_of 2 1 ++ object_at o d S m ob p

-- choice c of a union's cases, which leads to a place
unfoldable pub choice_step : List Object → ℕ → Place → Step
choice_step cases c p = pick (eqb c 0) St.Absent (pick (leb c (length cases)) (St.Choice c (case_of cases c) p) (St.Unknown c))

unfoldable pub choice_at : ℕ → ℕ → Schema → List ℕ → ℕ → ℕ → Place → List ℕ
choice_at o d S m u c p = step_at o d S m (OfUnion u) (choice_step (cases_of S u) c p)

-- ---- members by their records, where the cursor stands in a fixed part that has n bytes from `start`
-- where an optional integer stands behind its flag; at the fixed part's end, if the flag says that there is none
unfoldable pub optional_end : List ℕ → ℕ → ℕ → Cursor → ℕ
optional_end m start n c = pick (leb n (bit_byte c)) n (pick (eqb (bit_at m (start + bit_byte c) (bit_index c)) 1) (after_bit c).end n)

-- where a number stands, if it is optional behind its flag
unfoldable pub number_end : List ℕ → Bool → ℕ → ℕ → Cursor → ℕ
number_end m flagged start n c = pick flagged (optional_end m start n c) c.end

-- a bool that is not optional
unfoldable pub bool_at : List ℕ → ℕ → ℕ → Cursor → List ℕ
bool_at m start n c = pick (leb n (bit_byte c)) (bits_of 2 0) (marked 1 1 (bit_at m (start + bit_byte c) (bit_index c)))

-- an enum of k values
unfoldable pub enumerated_at : List ℕ → ℕ → ℕ → ℕ → Cursor → List ℕ
enumerated_at m k start n c = pick (leb n c.end) (bits_of 2 0) (enum_at k (get_or m (start + c.end) 0))

-- an optional float of w bytes
unfoldable pub optional_float_at : List ℕ → ℕ → ℕ → ℕ → Cursor → List ℕ
optional_float_at m w start n c = pick (leb (c.end + w) n) (float_at true w (le m (start + c.end) w)) (bits_of 2 0)

-- the code of an optional bool, integer or float of kind k; a bool has none
unfoldable pub optional_code : ℕ → Option Code
optional_code k = pick (eqb k 0) None (pick (ltb k 9) (Some (Number true (width_of k))) (Some (Float (width_of k))))

-- by the code
unfoldable pub coded_at : List ℕ → Code → ℕ → ℕ → Cursor → List ℕ
coded_at m (Number flagged w) start n c = plain_at m w start n (number_end m flagged start n c)
coded_at m Boolean start n c = bool_at m start n c
coded_at m (Float w) start n c = optional_float_at m w start n c
coded_at m (Enumerated k) start n c = enumerated_at m k start n c

-- the bytes of a member that leads to an object, by its kind: a union has a choice before the reference
unfoldable pub lead_width : ℕ → ℕ → ℕ
lead_width o k = pick (eqb k 17) (2 + o) o

-- n elements of a list that lead to no object, the first at a place
unfoldable pub flats_at : List ℕ → Flat → ℕ → ℕ → List ℕ
flats_at m F.Boolean n at = bools_at m at n 0
flats_at m (F.Integer s w) n at = numbers_at m w n at
flats_at m (F.Float w) n at = floats_at m w n at
flats_at m (F.Enumerated k) n at = enums_at m k n at
flats_at m (F.Struct i) n at = []

-- a list's count and its n elements
unfoldable pub list_at : ℕ → ℕ → Schema → List ℕ → Kind → ℕ → ℕ → List ℕ
list_at o d S m k start n = bits_of 32 n ++ elements_at o d S m k start n 0

-- a direct list's count and its n elements, the first at a place
unfoldable pub direct_at : ℕ → ℕ → Schema → List ℕ → ℕ → ℕ → ℕ → ℕ → List ℕ
direct_at o d S m t w n at = bits_of 32 n ++ directs_at o d S m t w n at

-- ---- the whole sheet
unfoldable pub root_at : ℕ → Schema → List ℕ → List ℕ
root_at o S m = E.sheet_bits S (R.message_read o S m)
