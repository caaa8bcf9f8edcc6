-- Member positions worked out beforehand: 02, K10, whose sentences are quoted here. The layout rule, `Layout.placement_of` at the cursor
-- behind the members before, stays the definition of where a member stands; the table holds what it gives.
-- `o` is the width of an offset in bytes.
use Rattle.std.specs.Prelude.{ℕ, ◌+◌, ◌*◌, Bool, ◌&&◌, length}
use mathlib.Core.List.{List, [], ◌∷◌, ◌++◌, flat_map}
use Rattle.coding.specs.Lists.{pick, same}
use Rattle.coding.specs.Bytes.{le_bytes}
use Rattle.coding.specs.Schema.{Schema, Table}
use Rattle.coding.specs.Packed.{parse}
use Rattle.coding.specs.Lawful.{lawful}
use Rattle.coding.specs.Layout.{is_bool, has_flag, begin, placement_of, after_member}
use Rattle.coding.specs.Message.{Written, refused, message, write_room, write_over}
use Rattle.coding.specs.declared.Kind.{Kind}
use Rattle.coding.specs.declared.Member.{Member}
use Rattle.coding.specs.declared.Cursor.{Cursor}
use Rattle.coding.specs.declared.Slot.{Slot}
use Rattle.coding.specs.declared.Placement.{Placement}
use Rattle.coding.specs.declared.Row.{Row}
use Rattle.coding.specs.declared.WriteAnswer.{WriteAnswer}

-- ---- a row
-- "first bit in the fixed part": of what stands in a slot. Bit k of a byte is the one that 01's "lowest first" counts k bits up.
unfoldable pub first_bit : Slot → ℕ
first_bit s = 8 * s.at + s.bit

-- "4,294,967,295 if none"
unfoldable pub no_flag : ℕ
no_flag = 4294967295

-- "its flag's (4,294,967,295 if none)": the first bit of a member's flag, which would stand in a slot
unfoldable pub flag_bit : Member → Slot → ℕ
flag_bit r s = pick (has_flag r) (first_bit s) no_flag

-- "its size in bits": a bool takes one bit, all else the bytes of its slot
unfoldable pub bit_size : Kind → Slot → ℕ
bit_size k s = pick (is_bool k) 1 (8 * s.size)

-- "its value's first bit in the fixed part, its flag's (4,294,967,295 if none) and its size in bits": the row of a member, by its
-- placement
unfoldable pub row_of : Member → Placement → Row
row_of r p = record { value = first_bit p.value; flag = flag_bit r p.flag; size = bit_size r.kind p.value }

-- "three little-endian U32s": the bytes of a row
unfoldable pub row_bytes : Row → List ℕ
row_bytes x = le_bytes 4 x.value ++ (le_bytes 4 x.flag ++ le_bytes 4 x.size)

-- ---- the table
-- "Each row equals what the old rule gives": the rows of these members of a table, one after the other, from the layout cursor on
unfoldable pub member_rows : ℕ → Schema → Cursor → List Member → List Row
member_rows o S c [] = []
member_rows o S c (r ∷ rs) = row_of r (placement_of o S r c) ∷ member_rows o S (after_member o S r c) rs

-- the rows of a table's members
unfoldable pub table_rows : ℕ → Schema → Table → List Row
table_rows o S t = member_rows o S begin t.members

-- "for each table member in schema order": table by table
unfoldable pub schema_rows : ℕ → Schema → List Row
schema_rows o S = flat_map (table_rows o S) S.tables

-- the table of positions of schema b: "for each table member in schema order three little-endian U32s"
unfoldable pub positions_of : ℕ → List ℕ → List ℕ
positions_of o b = flat_map row_bytes (schema_rows o (parse b))

-- ---- making it
-- "a table built once from a lawful schema under its coding (else 1, ...": a refusal, or the bytes that are written if there is room
unfoldable pub positions_made : ℕ → List ℕ → Written
positions_made o b = pick (lawful o b) (message (positions_of o b)) (refused 1)

-- "else 1, then 14": number and length, for schema b and an output
unfoldable pub positions_answer : ℕ → List ℕ → List ℕ → WriteAnswer
positions_answer o b out = write_room (positions_made o b) (length out)

-- "nothing written" with a refusal; otherwise, as 01 says of every output, "bytes after it keep what they held"
unfoldable pub positions_out : ℕ → List ℕ → List ℕ → List ℕ
positions_out o b out = write_over (positions_made o b) out

-- ---- the readers that it is lent to
-- whether t is the "table built once from a lawful schema under its coding"
unfoldable pub table_right : ℕ → List ℕ → List ℕ → Bool
table_right o b t = lawful o b && same t (positions_of o b)

-- "Any other table handed in gets refusal 1, tried with the schema.": the schema that a reader goes by, of the schema b and the table t
-- that it is handed. With the right table it is b; otherwise it is no bytes, which are not lawful under any coding. So what a
-- reader answers with a table is what it answers by this schema: judging answers `Walk.verdict o (with_table o b t) m budget`, a
-- field `Field.field o (with_table o b t) m path`, and every other reader likewise.
unfoldable pub with_table : ℕ → List ℕ → List ℕ → List ℕ
with_table o b t = pick (table_right o b t) b []
