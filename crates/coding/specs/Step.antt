-- What one member or element holds, and where it leads: the step that judging, reading and paths all take.
-- `o` is the width of an offset in bytes. Where a sentence says U48, the older coding has a U32 (02, K5).
use Rattle.std.specs.Prelude.{ℕ, ◌+◌, ◌*◌, ◌/◌, ◌%◌, List, Bool, true, false, ◌&&◌, length, get_or, ltb, leb, eqb}
use Rattle.coding.specs.Lists.{pick}
use Rattle.coding.specs.Bytes.{le, bit_at, is_nan}
use Rattle.coding.specs.Schema.{Schema, cases_of, case_of}
use Rattle.coding.specs.Structs.{struct_ok}
use Rattle.coding.specs.Layout.{width, is_bool, has_flag, placement_of}
use Rattle.coding.specs.declared.Flat.{Flat}
use Rattle.coding.specs.declared.Flat.TheVariants as F
use Rattle.coding.specs.declared.Object.{Object}
use Rattle.coding.specs.declared.Kind.{Kind}
use Rattle.coding.specs.declared.Kind.TheVariants.{OfFlat, OfObject, OfUnion}
use Rattle.coding.specs.declared.Member.{Member}
use Rattle.coding.specs.declared.Cursor.{Cursor}
use Rattle.coding.specs.declared.Slot.{Slot}
use Rattle.coding.specs.declared.Placement.{Placement}
use Rattle.coding.specs.declared.Place.{Place}
use Rattle.coding.specs.declared.Place.TheVariants.{ByOffset, InPlace}
use Rattle.coding.specs.declared.Step.{Step}
use Rattle.coding.specs.declared.Step.TheVariants as St

-- ---- a value that is there
-- "Enum byte 255 is no value, everywhere. A byte at or above the count, not 255, is unknown."
unfoldable pub enum_step : ℕ → ℕ → Step
enum_step n x = pick (eqb x 255) St.Absent (pick (ltb x n) (St.Value x) (St.Unknown x))

-- "a NaN means no value" in a list, and "Optional float: NaN is no value.": `none` says whether it is one of these
unfoldable pub float_step : Bool → ℕ → ℕ → Step
float_step none w x = pick (none && is_nan w x) St.Absent (St.Value x)

-- the object that a reference or, in place, a length x leads to. "In place: the U48 is the length ..., and the content
-- without magic and length starts where its table's fixed part ends": at `tail`.
unfoldable pub place_of : Bool → ℕ → ℕ → Place
place_of inplace tail x = pick inplace (InPlace tail x) (ByOffset x)

-- "Text, bytes, list, table: U48 offset, 0 none."; in place, "Length 0 means no value"
unfoldable pub object_step : Object → Bool → ℕ → ℕ → Step
object_step ob inplace tail x = pick (eqb x 0) St.Absent (St.Object ob (place_of inplace tail x))

-- "choice 0 none, cases from 1"; "A union choice above the case count is unknown and is not followed."; in place, length 0
-- "in a union with a known choice ... is an empty object". An offset 0 under a known choice is refused by the walk.
unfoldable pub union_step : List Object → Bool → ℕ → ℕ → ℕ → Step
union_step cases inplace tail c x =
    pick (eqb c 0) St.Absent
    (pick (leb c (length cases)) (St.Choice c (case_of cases c) (place_of inplace tail x)) (St.Unknown c))

-- what stands at a place, and of a bool at its bit there: "Numbers stand as they are; a NaN means no value. Enum is one
-- byte." `none`: a NaN is no value.
unfoldable pub flat_step : List ℕ → Flat → Bool → ℕ → ℕ → Step
flat_step m F.Boolean none at bit = St.Value (bit_at m at bit)
flat_step m (F.Integer s w) none at bit = St.Value (le m at w)
flat_step m (F.Float w) none at bit = float_step none w (le m at w)
flat_step m (F.Enumerated n) none at bit = enum_step n (get_or m at 0)
flat_step m (F.Struct i) none at bit = St.Struct i at

-- what stands at a struct's member, in a struct that was judged as a whole: "a bool as a byte 0 or 1". A NaN means no value
-- in a list and in an optional member only, so that it is a value here.
unfoldable pub field_step : List ℕ → Flat → ℕ → Step
field_step m F.Boolean at = St.Value (get_or m at 0)
field_step m (F.Integer s w) at = St.Value (le m at w)
field_step m (F.Float w) at = St.Value (le m at w)
field_step m (F.Enumerated n) at = enum_step n (get_or m at 0)
field_step m (F.Struct i) at = St.Struct i at

-- what stands at a place of the message, of any kind: "References are U48; 0 means none. Union: U16 choice and U48 offset."
-- `none`: a NaN is no value.
unfoldable pub value_step : ℕ → Schema → List ℕ → Kind → Bool → Bool → ℕ → ℕ → ℕ → Step
value_step o S m (OfFlat k) none inplace tail at bit = flat_step m k none at bit
value_step o S m (OfObject ob) none inplace tail at bit = object_step ob inplace tail (le m at o)
value_step o S m (OfUnion i) none inplace tail at bit = union_step (cases_of S i) inplace tail (le m at 2) (le m (at + 2) o)

-- ---- the test of a struct
-- refusal 10: "struct boolean not 0 or 1". A struct that a step has found is judged as a whole, after it was found; all
-- else stays.
unfoldable pub struct_tested : Schema → List ℕ → Step → Step
struct_tested S m (St.Refused n) = St.Refused n
struct_tested S m St.Absent = St.Absent
struct_tested S m (St.Value x) = St.Value x
struct_tested S m (St.Unknown x) = St.Unknown x
struct_tested S m (St.Struct i at) = pick (struct_ok S m i at) (St.Struct i at) (St.Refused 10)
struct_tested S m (St.Object ob p) = St.Object ob p
struct_tested S m (St.Choice c ob p) = St.Choice c ob p

-- ---- a member
-- "A table may be shorter or longer than its schema says. A member starting at or after the fixed part's end is absent; one
-- wholly inside is read; one cut by the end is refused.": the slot against a fixed part of n bytes; `past` and `here` are
-- the steps of a member past the end and of one inside
unfoldable pub inside : ℕ → Slot → Step → Step → Step
inside n slot past here = pick (leb n slot.at) past (pick (leb (slot.at + slot.size) n) here (St.Refused 8))

-- "An optional flag of 1 whose value starts at or after the end is refused; with flag 0 the value may lie beyond the end
-- but not be cut, and a struct's bytes are not judged." A flag at or past the end means absent.
unfoldable pub flagged : List ℕ → ℕ → ℕ → Slot → Slot → Step → Step
flagged m start n flag slot here =
    pick (leb n flag.at) St.Absent
    (pick (eqb (bit_at m (start + flag.at) flag.bit) 1)
    (inside n slot (St.Refused 8) here)
    (inside n slot St.Absent St.Absent))

-- what a member of a table whose fixed part has n bytes from `start` holds, by its placement; a struct is not tested yet. Its
-- content in place is at start + n: "table offset + 10 + length"; 002's "table.offset+table.length+8" under the older coding.
unfoldable pub placed_step : ℕ → Schema → List ℕ → ℕ → ℕ → Placement → Member → Step
placed_step o S m start n p r =
    let slot = p.value in
    let here = value_step o S m r.kind r.optional r.inplace (start + n) (start + slot.at) slot.bit in
    pick (has_flag r) (flagged m start n p.flag slot here) (inside n slot St.Absent here)

-- the same of the member that comes next, where the cursor stands; a struct is tested
unfoldable pub member_step : ℕ → Schema → List ℕ → ℕ → ℕ → Cursor → Member → Step
member_step o S m start n c r = struct_tested S m (placed_step o S m start n (placement_of o S r c) r)

-- ---- an element
-- "Bool i is (byte[i>>3] >> (i & 7)) & 1": where element i stands, that byte for a bool; "Next the individual elements are
-- encoded in order." (000)
unfoldable pub element_place : ℕ → Schema → Kind → ℕ → ℕ → ℕ
element_place o S k start i = pick (is_bool k) (start + i / 8) (start + width o S k * i)

-- element i of a list whose elements start at `start`; nothing in a list is in place, and "a NaN means no value". No lawful
-- list holds structs, so that the test finds none.
unfoldable pub element_step : ℕ → Schema → List ℕ → Kind → ℕ → ℕ → Step
element_step o S m k start i = struct_tested S m (value_step o S m k true false 0 (element_place o S k start i) (i % 8))

-- "List: length elements.": the bytes of n elements. "Bools are packed into bytes." (000)
unfoldable pub elements_size : ℕ → Schema → Kind → ℕ → ℕ
elements_size o S k n = pick (is_bool k) ((n + 7) / 8) (width o S k * n)
