-- Where the members of a table stand in its fixed part. A member's slot depends on it and the members before it, and on
-- none after it.
-- `o` is the width of an offset in bytes.
use Rattle.std.specs.Prelude.{ℕ, ◌+◌, List, [], ◌∷◌, Bool, true, false, ◌&&◌, ltb}
use Rattle.coding.specs.Lists.{pick}
use Rattle.coding.specs.Schema.{Schema}
use Rattle.coding.specs.Structs.{flat_width, struct_size}
use Rattle.coding.specs.declared.Flat.{Flat}
use Rattle.coding.specs.declared.Flat.TheVariants.{Boolean, Integer, Float, Enumerated, Struct}
use Rattle.coding.specs.declared.Kind.{Kind}
use Rattle.coding.specs.declared.Kind.TheVariants.{OfFlat, OfObject, OfUnion}
use Rattle.coding.specs.declared.Member.{Member}
use Rattle.coding.specs.declared.Cursor.{Cursor}
use Rattle.coding.specs.declared.Slot.{Slot}
use Rattle.coding.specs.declared.Placement.{Placement}

-- ---- what a kind takes
-- whether it is a bool, which takes a bit ("A bool takes the next free bit"); all else takes bytes
unfoldable pub flat_is_bool : Flat → Bool
flat_is_bool Boolean = true
flat_is_bool (Integer s w) = false
flat_is_bool (Float w) = false
flat_is_bool (Enumerated n) = false
flat_is_bool (Struct i) = false

-- the same of any kind: "A bool takes the next free bit"
unfoldable pub is_bool : Kind → Bool
is_bool (OfFlat k) = flat_is_bool k
is_bool (OfObject ob) = false
is_bool (OfUnion i) = false

-- the bytes of a value: "Text, bytes, list, table: U48 offset"; "Union: 8 bytes as in lists", a U16 choice and an offset;
-- 02, K5: "U32 offsets and lengths", "unions of a U16 choice and U32 length". Of the others Structs.flat_width
unfoldable pub width : ℕ → Schema → Kind → ℕ
width o S (OfFlat k) = flat_width (struct_size S) k
width o S (OfObject ob) = o
width o S (OfUnion i) = 2 + o

-- "Optional bool, integer or struct: a flag bool first, then the value. Optional float: NaN is no value.": whether a flag
-- stands before it, if it is optional
unfoldable pub flat_takes_flag : Flat → Bool
flat_takes_flag Boolean = true
flat_takes_flag (Integer s w) = true
flat_takes_flag (Float w) = false
flat_takes_flag (Enumerated n) = false
flat_takes_flag (Struct i) = true

-- the same of any kind: "Optional bool, integer or struct"
unfoldable pub takes_flag : Kind → Bool
takes_flag (OfFlat k) = flat_takes_flag k
takes_flag (OfObject ob) = false
takes_flag (OfUnion i) = false

-- whether a member has a flag: "a flag bool first"
unfoldable pub has_flag : Member → Bool
has_flag r = r.optional && takes_flag r.kind

-- ---- the cursor: the bytes laid out so far, the last bool byte, and its next free bit
-- before the first member there are no bytes, and of "the last bool byte" no bit is free
unfoldable pub begin : Cursor
begin = record { end = 0; byte = 0; bit = 8 }

-- "A bool takes the next free bit, lowest first, of the last bool byte; if none is free a zeroed byte is appended.": the
-- byte of the next bool
unfoldable pub bit_byte : Cursor → ℕ
bit_byte c = pick (ltb c.bit 8) c.byte c.end

-- "the next free bit, lowest first, of the last bool byte": which bit of that byte
unfoldable pub bit_index : Cursor → ℕ
bit_index c = pick (ltb c.bit 8) c.bit 0

-- the cursor behind a bool: "if none is free a zeroed byte is appended"
unfoldable pub after_bit : Cursor → Cursor
after_bit c =
    pick (ltb c.bit 8)
    (record { end = c.end; byte = c.byte; bit = c.bit + 1 })
    (record { end = c.end + 1; byte = c.end; bit = 1 })

-- the cursor behind w bytes; "the last bool byte" stays the same
unfoldable pub after_bytes : ℕ → Cursor → Cursor
after_bytes w c = record { end = c.end + w; byte = c.byte; bit = c.bit }

-- "a flag bool first": the cursor behind a member's flag, if it has one
unfoldable pub after_flag : Member → Cursor → Cursor
after_flag r c = pick (has_flag r) (after_bit c) c

-- where a bool or a flag stands that comes next: "the next free bit, lowest first, of the last bool byte"
unfoldable pub bit_slot : Cursor → Slot
bit_slot c = record { at = bit_byte c; bit = bit_index c; size = 1 }

-- where the value stands that comes next: a bool in "the next free bit", all else behind what is laid out, "without
-- padding" (000)
unfoldable pub slot_of : ℕ → Schema → Kind → Cursor → Slot
slot_of o S k c = pick (is_bool k) (bit_slot c) (record { at = c.end; bit = 0; size = width o S k })

-- the cursor behind that value: "if none is free a zeroed byte is appended", or as many bytes as it takes
unfoldable pub after_value : ℕ → Schema → Kind → Cursor → Cursor
after_value o S k c = pick (is_bool k) (after_bit c) (after_bytes (width o S k) c)

-- "a flag bool first, then the value": where a member's value stands
unfoldable pub member_slot : ℕ → Schema → Member → Cursor → Slot
member_slot o S r c = slot_of o S r.kind (after_flag r c)

-- "a flag bool first, then the value": where a member stands; the flag's slot counts only where there is a flag
unfoldable pub placement_of : ℕ → Schema → Member → Cursor → Placement
placement_of o S r c = record { value = member_slot o S r c; flag = bit_slot c }

-- the cursor behind a member: "a flag bool first, then the value"
unfoldable pub after_member : ℕ → Schema → Member → Cursor → Cursor
after_member o S r c = after_value o S r.kind (after_flag r c)

-- "Next the members of the table are encoded in turn" (000): the cursor behind these members
unfoldable pub after_members : ℕ → Schema → List Member → Cursor → Cursor
after_members o S [] c = c
after_members o S (r ∷ rs) c = after_members o S rs (after_member o S r c)

-- "Table: length bytes of fixed part.": the bytes of a full one, for "Fixed parts have their full schema size."
unfoldable pub fixed_size : ℕ → Schema → List Member → ℕ
fixed_size o S rs = (after_members o S rs begin).end
