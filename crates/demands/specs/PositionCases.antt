-- 02, K10, "Member positions worked out beforehand": cases worked out by hand. A table is shown by its length and its little-endian U32s,
-- three a member; 4,294,967,295 is 0xFFFFFFFF here.
use Rattle.std.specs.Prelude.{◌≡◌, refl, ℕ, zero, suc, ◌+◌, ◌*◌, ◌/◌, length, get_or, take, drop, set, replicate}
use mathlib.Core.List.{List, [], ◌∷◌, ◌++◌, map, flat_map}
use Rattle.coding.specs.Lists as Lists
use Rattle.coding.specs.Bytes as Bytes
use Rattle.coding.specs.Utf8 as Utf8
use Rattle.coding.specs.Schema as Schema
use Rattle.coding.specs.Structs as Structs
use Rattle.coding.specs.Packed as Packed
use Rattle.coding.specs.Lawful as Lawful
use Rattle.coding.specs.Layout as Layout
use Rattle.coding.specs.Step as Step
use Rattle.coding.specs.Walk as Walk
use Rattle.coding.specs.Message as Message
use Rattle.coding.specs.Field as Field
use Rattle.coding.specs.Positions as Positions
use Rattle.coding.specs.declared.Verdict.{Verdict}
use Rattle.coding.specs.declared.WriteAnswer.{WriteAnswer}
use Rattle.demands.specs.Counter.{Case, O, N, M, B}
use Rattle.demands.specs.Traps.{table, case}

-- ---- schemas, beside O, a U16; N, a U16 and a text; and B, seven bools and an optional bool
-- nine bools
abbrev bools : List ℕ
bools = table 9 (0 ∷ 0 ∷ 0 ∷ 0 ∷ 0 ∷ 0 ∷ 0 ∷ 0 ∷ 0 ∷ 0 ∷ 0 ∷ 0 ∷ 0 ∷ 0 ∷ 0 ∷ 0 ∷ 0 ∷ 0 ∷ [])

-- a bool, a U16, eight bools, of which the last finds its byte full, and a U8
abbrev apart : List ℕ
apart =
    table 11
    (0 ∷ 0 ∷ 0x10 ∷ 0 ∷ 0 ∷ 0 ∷ 0 ∷ 0 ∷ 0 ∷ 0 ∷ 0 ∷ 0 ∷ 0 ∷ 0 ∷ 0 ∷ 0 ∷ 0 ∷ 0 ∷ 0 ∷ 0 ∷ 0x08 ∷ 0 ∷ [])

-- a U8, an optional F32, an optional F64
abbrev floats : List ℕ
floats = table 3 (0x08 ∷ 0 ∷ 0x4C ∷ 0 ∷ 0x54 ∷ 0 ∷ [])

-- a struct of two U8s and a bool; a table of an optional U16, that struct, optional, the struct itself, and an enum of 3
abbrev struct : List ℕ
struct =
    1 ∷ 0 ∷ 0 ∷ 1 ∷ 0 ∷ 3 ∷ 0x08 ∷ 0 ∷ 0x08 ∷ 0 ∷ 0x00 ∷ 0 ∷ 0x4C ∷ 0x49 ∷ 0x43 ∷ 0x45 ∷ 4 ∷ 0x14 ∷ 0 ∷ 0x64 ∷ 0 ∷ 0x60 ∷ 0 ∷ 0x58 ∷ 3 ∷ []

-- a text and a U8
abbrev text : List ℕ
text = table 2 (0x68 ∷ 0 ∷ 0x08 ∷ 0 ∷ [])

-- a union of a text; a table of a U8, the union and a U8; the same with the union in place
abbrev union : List ℕ
union = 0 ∷ 0 ∷ 1 ∷ 1 ∷ 0 ∷ 1 ∷ 0x68 ∷ 0 ∷ 0x4C ∷ 0x49 ∷ 0x43 ∷ 0x45 ∷ 3 ∷ 0x08 ∷ 0 ∷ 0x88 ∷ 0 ∷ 0x08 ∷ 0 ∷ []

abbrev held_union : List ℕ
held_union = 0 ∷ 0 ∷ 1 ∷ 1 ∷ 0 ∷ 1 ∷ 0x68 ∷ 0 ∷ 0x4C ∷ 0x49 ∷ 0x43 ∷ 0x45 ∷ 3 ∷ 0x08 ∷ 0 ∷ 0x8A ∷ 0 ∷ 0x08 ∷ 0 ∷ []

-- a list of U8s; a table of bytes in place, that list, a reference to the table itself, and a direct list of the second table, which has
-- a bool and an optional bool. The root is the second table.
abbrev tables : List ℕ
tables =
    0 ∷ 1 ∷ 0 ∷ 2 ∷ 1 ∷ 0x08 ∷ 0 ∷ 0x4C ∷ 0x49 ∷ 0x43 ∷ 0x45 ∷ 4 ∷ 0x72 ∷ 0 ∷ 0x78 ∷ 0 ∷ 0x80 ∷ 0 ∷ 0x90 ∷ 1 ∷ 0x53 ∷ 0x45 ∷ 0x41 ∷ 0x54 ∷ 2 ∷ 0
    ∷ 0 ∷ 0x04 ∷ 0 ∷ []

-- a table without members, alone; and between two tables of a U8
abbrev empty : List ℕ
empty = table 0 []

abbrev between : List ℕ
between =
    0 ∷ 0 ∷ 0 ∷ 3 ∷ 0 ∷ 0x4C ∷ 0x49 ∷ 0x43 ∷ 0x45 ∷ 1 ∷ 0x08 ∷ 0 ∷ 0x53 ∷ 0x45 ∷ 0x41 ∷ 0x54 ∷ 0 ∷ 0x53 ∷ 0x45 ∷ 0x41 ∷ 0x55 ∷ 1 ∷ 0x28 ∷ 0 ∷ []

-- four U64s and a U8
abbrev wide : List ℕ
wide = table 5 (0x20 ∷ 0 ∷ 0x20 ∷ 0 ∷ 0x20 ∷ 0 ∷ 0x20 ∷ 0 ∷ 0x08 ∷ 0 ∷ [])

-- ---- what the definitions give
-- the first n little-endian U32s
words : ℕ → List ℕ → List ℕ
words zero t = []
words (suc n) t = (get_or t 0 0 + 256 * get_or t 1 0 + 65536 * get_or t 2 0 + 16777216 * get_or t 3 0) ∷ words n (drop 4 t)

-- of a lawful schema its table's length, and the table
positions : ℕ → List ℕ → List ℕ
positions o b =
    Lists.pick (Lawful.lawful o b)
    (length (Positions.positions_of o b) ∷ words (length (Positions.positions_of o b) / 4) (Positions.positions_of o b))
    []

pub row_cases : List Case
row_cases =
    -- "A bool takes the next free bit, lowest first, of the last bool byte; if none is free a zeroed byte is appended."
    case (positions 6 bools)
    (108 ∷ 0 ∷ 0xFFFF_FFFF ∷ 1 ∷ 1 ∷ 0xFFFF_FFFF ∷ 1 ∷ 2 ∷ 0xFFFF_FFFF ∷ 1 ∷ 3 ∷ 0xFFFF_FFFF ∷ 1 ∷ 4 ∷ 0xFFFF_FFFF ∷ 1 ∷ 5 ∷ 0xFFFF_FFFF ∷ 1
    ∷ 6 ∷ 0xFFFF_FFFF ∷ 1 ∷ 7 ∷ 0xFFFF_FFFF ∷ 1 ∷ 8 ∷ 0xFFFF_FFFF ∷ 1 ∷ [])
    -- the U16 in bytes 1 and 2; the bools in byte 0, before it and behind it, and the ninth of them in byte 3; the U8 in byte 4
    ∷ case (positions 6 apart)
    (132 ∷ 0 ∷ 0xFFFF_FFFF ∷ 1 ∷ 8 ∷ 0xFFFF_FFFF ∷ 16 ∷ 1 ∷ 0xFFFF_FFFF ∷ 1 ∷ 2 ∷ 0xFFFF_FFFF ∷ 1 ∷ 3 ∷ 0xFFFF_FFFF ∷ 1 ∷ 4 ∷ 0xFFFF_FFFF ∷ 1
    ∷ 5 ∷ 0xFFFF_FFFF ∷ 1 ∷ 6 ∷ 0xFFFF_FFFF ∷ 1 ∷ 7 ∷ 0xFFFF_FFFF ∷ 1 ∷ 24 ∷ 0xFFFF_FFFF ∷ 1 ∷ 32 ∷ 0xFFFF_FFFF ∷ 8 ∷ [])
    -- 01's case 12, "Bools 7 then an optional bool: flag bit 7 of byte 0, value bit 0 of byte 1."
    ∷ case (positions 6 B)
    (96 ∷ 0 ∷ 0xFFFF_FFFF ∷ 1 ∷ 1 ∷ 0xFFFF_FFFF ∷ 1 ∷ 2 ∷ 0xFFFF_FFFF ∷ 1 ∷ 3 ∷ 0xFFFF_FFFF ∷ 1 ∷ 4 ∷ 0xFFFF_FFFF ∷ 1 ∷ 5 ∷ 0xFFFF_FFFF ∷ 1
    ∷ 6 ∷ 0xFFFF_FFFF ∷ 1 ∷ 8 ∷ 7 ∷ 1 ∷ [])
    -- "Optional float: NaN is no value.": there is no flag
    ∷ case (positions 6 floats) (36 ∷ 0 ∷ 0xFFFF_FFFF ∷ 8 ∷ 8 ∷ 0xFFFF_FFFF ∷ 32 ∷ 40 ∷ 0xFFFF_FFFF ∷ 64 ∷ [])
    -- "Optional bool, integer or struct: a flag bool first, then the value.": flags in bits 0 and 1 of byte 0; the U16 in bytes 1 and 2, the
    -- structs of three bytes from 3 and from 6, the enum in byte 9
    ∷ case (positions 6 struct) (48 ∷ 8 ∷ 0 ∷ 16 ∷ 24 ∷ 1 ∷ 24 ∷ 48 ∷ 0xFFFF_FFFF ∷ 24 ∷ 72 ∷ 0xFFFF_FFFF ∷ 8 ∷ [])
    -- a text's offset is a U48; under the 32-bit coding a U32
    ∷ case (positions 6 text) (24 ∷ 0 ∷ 0xFFFF_FFFF ∷ 48 ∷ 48 ∷ 0xFFFF_FFFF ∷ 8 ∷ [])
    ∷ case (positions 4 text) (24 ∷ 0 ∷ 0xFFFF_FFFF ∷ 32 ∷ 32 ∷ 0xFFFF_FFFF ∷ 8 ∷ [])
    -- "Union: 8 bytes"; under the 32-bit coding six, "a U16 choice and U32 length always in place"
    ∷ case (positions 6 union) (36 ∷ 0 ∷ 0xFFFF_FFFF ∷ 8 ∷ 8 ∷ 0xFFFF_FFFF ∷ 64 ∷ 72 ∷ 0xFFFF_FFFF ∷ 8 ∷ [])
    ∷ case (positions 4 held_union) (36 ∷ 0 ∷ 0xFFFF_FFFF ∷ 8 ∷ 8 ∷ 0xFFFF_FFFF ∷ 48 ∷ 56 ∷ 0xFFFF_FFFF ∷ 8 ∷ [])
    -- "in schema order": the first table, though the second is the root; each counts from its own fixed part
    ∷ case (positions 6 tables)
    (72 ∷ 0 ∷ 0xFFFF_FFFF ∷ 48 ∷ 48 ∷ 0xFFFF_FFFF ∷ 48 ∷ 96 ∷ 0xFFFF_FFFF ∷ 48 ∷ 144 ∷ 0xFFFF_FFFF ∷ 48 ∷ 0 ∷ 0xFFFF_FFFF ∷ 1 ∷ 2 ∷ 1 ∷ 1 ∷ [])
    -- a table without members has no row
    ∷ case (positions 6 empty) (0 ∷ [])
    ∷ case (positions 6 between) (24 ∷ 0 ∷ 0xFFFF_FFFF ∷ 8 ∷ 0 ∷ 0xFFFF_FFFF ∷ 8 ∷ [])
    -- "little-endian": the last row in bytes, of the U8 behind 256 bits
    ∷ case (drop 48 (Positions.positions_of 6 wide)) (0 ∷ 1 ∷ 0 ∷ 0 ∷ 0xFF ∷ 0xFF ∷ 0xFF ∷ 0xFF ∷ 8 ∷ 0 ∷ 0 ∷ 0 ∷ [])
    ∷ []

-- ---- making it, and handing it in
-- the answer, and what the output holds then, of an output that holds sevens
made : ℕ → List ℕ → ℕ → List ℕ
made o b room = answer (Positions.positions_answer o b (replicate room 7)) ++ Positions.positions_out o b (replicate room 7)
  where
    answer : WriteAnswer → List ℕ
    answer a = a.number ∷ a.length ∷ []

-- O's table: a U16 at the start, without a flag
abbrev right : List ℕ
right = 0 ∷ 0 ∷ 0 ∷ 0 ∷ 0xFF ∷ 0xFF ∷ 0xFF ∷ 0xFF ∷ 16 ∷ 0 ∷ 0 ∷ 0 ∷ []

pub made_cases : List Case
made_cases =
    case (made 6 O 12) (0 ∷ 12 ∷ right)
    -- "bytes after it keep what they held"
    ∷ case (made 6 O 14) (0 ∷ 12 ∷ right ++ (7 ∷ 7 ∷ []))
    -- "then 14, nothing written"
    ∷ case (made 6 O 11) (14 ∷ 0 ∷ replicate 11 7)
    -- "else 1": O without its last byte; O under no coding; a union that is not in place under the 32-bit coding; without room too
    ∷ case (made 6 (take 11 O) 12) (1 ∷ 0 ∷ replicate 12 7)
    ∷ case (made 5 O 12) (1 ∷ 0 ∷ replicate 12 7)
    ∷ case (made 4 union 36) (1 ∷ 0 ∷ replicate 36 7)
    ∷ case (made 6 (take 11 O) 11) (1 ∷ 0 ∷ replicate 11 7)
    -- no rows need no room
    ∷ case (made 6 empty 0) (0 ∷ 0 ∷ [])
    ∷ []

-- number, place and visits of M by N with a table, under the coding of width o
judged : ℕ → List ℕ → List ℕ → List ℕ
judged o t m = told (Walk.verdict o (Positions.with_table o N t) m (Walk.allowing 2 Walk.most_content))
  where
    told : Verdict → List ℕ
    told v = v.number ∷ v.place ∷ v.visits ∷ []

-- the case number and the numbers of a field's answer at a path
field : List ℕ → List ℕ → List ℕ
field t path = Field.case_numbers (Field.answer_case (Field.field 6 (Positions.with_table 6 N t) M path))

-- N's table: a U16 at the start, and behind it a text's offset; and what it is under the 32-bit coding
abbrev rows : ℕ → List ℕ
rows size =
    0 ∷ 0 ∷ 0 ∷ 0 ∷ 0xFF ∷ 0xFF ∷ 0xFF ∷ 0xFF ∷ 16 ∷ 0 ∷ 0 ∷ 0 ∷ 16 ∷ 0 ∷ 0 ∷ 0 ∷ 0xFF ∷ 0xFF ∷ 0xFF ∷ 0xFF ∷ size ∷ 0 ∷ 0 ∷ 0 ∷ []

pub lent_cases : List Case
lent_cases =
    -- "with that table every public answer is equal to the old one": 01's case 1
    case (judged 6 (rows 48) M) (0 ∷ 0 ∷ 2 ∷ [])
    ∷ case (field (rows 48) (0 ∷ [])) (1 ∷ 3 ∷ 16 ∷ 0 ∷ [])
    -- "Any other table handed in gets refusal 1": that of the other coding, one byte longer, one byte shorter, none, one bit other
    ∷ case (judged 6 (rows 32) M) (1 ∷ 0 ∷ 0 ∷ [])
    ∷ case (judged 4 (rows 48) M) (1 ∷ 0 ∷ 0 ∷ [])
    ∷ case (judged 6 (rows 48 ++ (0 ∷ [])) M) (1 ∷ 0 ∷ 0 ∷ [])
    ∷ case (judged 6 (take 23 (rows 48)) M) (1 ∷ 0 ∷ 0 ∷ [])
    ∷ case (judged 6 [] M) (1 ∷ 0 ∷ 0 ∷ [])
    ∷ case (judged 6 (set (rows 48) 4 0xFE) M) (1 ∷ 0 ∷ 0 ∷ [])
    ∷ case (field (rows 32) (0 ∷ [])) (7 ∷ 1 ∷ 0 ∷ 0xFFFF_FFFF ∷ [])
    -- "tried with the schema": before 2 and 3, and before 15 for a path over 96 numbers
    ∷ case (judged 6 (rows 48) []) (2 ∷ 0 ∷ 0 ∷ [])
    ∷ case (judged 6 (rows 32) []) (1 ∷ 0 ∷ 0 ∷ [])
    ∷ case (judged 6 (rows 48) (set M 0 0)) (3 ∷ 0 ∷ 0 ∷ [])
    ∷ case (judged 6 (rows 32) (set M 0 0)) (1 ∷ 0 ∷ 0 ∷ [])
    ∷ case (field (rows 48) (replicate 97 0)) (7 ∷ 15 ∷ 0 ∷ 0xFFFF_FFFF ∷ [])
    ∷ case (field (rows 32) (replicate 97 0)) (7 ∷ 1 ∷ 0 ∷ 0xFFFF_FFFF ∷ [])
    ∷ []

-- THE CLAIM: each case gives what the papers say.
pub position_cases : map (λ c. c.given) (row_cases ++ made_cases ++ lent_cases) ≡ map (λ c. c.expected) (row_cases ++ made_cases ++ lent_cases)
unfolding row_cases made_cases lent_cases words positions made judged field flat_map Lists.same Message.write_room Message.write_over Positions.first_bit Positions.no_flag Positions.flag_bit Positions.bit_size Positions.row_of Positions.row_bytes Positions.member_rows Positions.table_rows Positions.schema_rows Positions.positions_of Positions.positions_made Positions.positions_answer Positions.positions_out Positions.table_right Positions.with_table Lists.every Lists.run Bytes.le Bytes.le_bytes Bytes.bit_at Bytes.is_nan Bytes.no_float Bytes.largest Bytes.deepest Bytes.u48 Bytes.u32 Bytes.width_known Utf8.within Utf8.after_first Utf8.after_octet Utf8.may_end Utf8.text_from Utf8.is_text Schema.struct_of Schema.element_of Schema.cases_of Schema.table_of Schema.field_of Schema.case_of Schema.plain_bool Schema.member_of Structs.lower Structs.by_index Structs.flat_width Structs.total Structs.size_by Structs.struct_size Structs.flat_ok Structs.flats_ok Structs.ok_by Structs.struct_ok Packed.kind_at Packed.optional_at Packed.inplace_at Packed.zero_at Packed.argument_at Packed.width_of Packed.flat_of Packed.object_of Packed.kind_of Packed.flat_at Packed.object_at Packed.element_at Packed.member_at Packed.records Packed.record_place Packed.blocks Packed.struct_place Packed.list_place Packed.union_place Packed.table_place Packed.id_at Packed.records_at Packed.table_at Packed.parse Lawful.counts_ok Lawful.blocks_ok Lawful.places_ok Lawful.shape_ok Lawful.argument_ok Lawful.kind_ok Lawful.optional_ok Lawful.inplace_ok Lawful.flags_ok Lawful.record_ok Lawful.first_ok Lawful.records_ok Lawful.inplaces Lawful.direct_table Lawful.held_union Lawful.direct_ok Lawful.struct_lawful Lawful.list_lawful Lawful.union_lawful Lawful.table_lawful Lawful.id_differs Lawful.id_lawful Lawful.rules_ok Lawful.well_formed Lawful.older_member Lawful.older_element Lawful.older_union Lawful.older_table Lawful.older_ok Lawful.lawful Layout.flat_is_bool Layout.is_bool Layout.width Layout.flat_takes_flag Layout.takes_flag Layout.has_flag Layout.begin Layout.bit_byte Layout.bit_index Layout.after_bit Layout.after_bytes Layout.after_flag Layout.bit_slot Layout.slot_of Layout.after_value Layout.member_slot Layout.placement_of Layout.after_member Layout.after_members Layout.fixed_size Step.enum_step Step.float_step Step.struct_tested Step.place_of Step.object_step Step.union_step Step.flat_step Step.field_step Step.value_step Step.inside Step.flagged Step.placed_step Step.member_step Step.element_place Step.element_step Step.elements_size Walk.placed Walk.magic Walk.header_size Walk.element_id Walk.element_size Walk.most_elements Walk.start_size Walk.content_size Walk.content_length Walk.end_ok Walk.text_ok Walk.fit_content Walk.direct_header Walk.header_tested Walk.stands_in_place Walk.fit_object Walk.bytes_tested Walk.open_object Walk.refuse Walk.and_then Walk.refuse_part Walk.follow_choice Walk.follow Walk.members Walk.elements Walk.directs Walk.content Walk.enter Walk.with_content Walk.admit Walk.arrive Walk.too_deep Walk.one_more Walk.most_content Walk.counted Walk.visit Walk.root_place Walk.nothing Walk.walk Walk.verdict_of Walk.early Walk.size_ok Walk.start_ok Walk.verdict Walk.no_member Field.no_part Field.opened Field.arrived Field.part_refused Field.chosen Field.stepped Field.struct_part Field.object_part Field.part_of Field.along Field.found Field.flat_answer Field.value_answer Field.record_kind Field.answer_of Field.answer_verdict Field.before Field.field_found Field.field Field.answer_case Field.case_numbers Field.reader_of Field.reader_start Field.list_found Field.leads Field.list_gives Field.reader_gives
position_cases = refl
