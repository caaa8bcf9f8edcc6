-- In-place unions at the counter (02, K12): cases worked out by hand, and a stored message that is moved over.
use Rattle.std.specs.Prelude.{◌≡◌, refl, List, [], ◌∷◌, ◌++◌, map, ℕ, replicate}
use Rattle.coding.specs.Lists as Lists
use Rattle.coding.specs.Bytes as Bytes
use Rattle.coding.specs.Utf8 as Utf8
use Rattle.coding.specs.Schema as Schema
use Rattle.coding.specs.Structs as Structs
use Rattle.coding.specs.Packed as Packed
use Rattle.coding.specs.Lawful as Lawful
use Rattle.coding.specs.Layout as Layout
use Rattle.coding.specs.Step as Step
use Rattle.coding.specs.Walk as Walk
use Rattle.coding.specs.Value as Value
use Rattle.coding.specs.Read as Read
use Rattle.coding.specs.Bits as Bits
use Rattle.coding.specs.Sheet as Sheet
use Rattle.coding.specs.Message as Message
use Rattle.coding.specs.Cells as Cells
use Rattle.coding.specs.Moving as Moving
use Rattle.coding.specs.declared.WriteAnswer.{WriteAnswer}
use Rattle.demands.specs.Counter.{Case}
use Rattle.demands.specs.AppendingCases.{bytes}
use Rattle.demands.specs.Moved.{ReadsBack, moved_reads}

-- ---- schemas
-- a union of a text, by the first byte of its record: 0x88 by offset, 0x8A in place
abbrev union : ℕ → List ℕ
union first = 0 ∷ 0 ∷ 1 ∷ 1 ∷ 0 ∷ 1 ∷ 0x68 ∷ 0 ∷ 0x4C ∷ 0x49 ∷ 0x43 ∷ 0x45 ∷ 1 ∷ first ∷ 0 ∷ []

-- a list of second tables, a union of a text and of the second table; the root has one member, by its record; the second table has such a
-- union in place
abbrev holding : ℕ → ℕ → List ℕ
holding first argument =
    0 ∷ 1 ∷ 1 ∷ 2 ∷ 0
    ∷ 0x80 ∷ 1
    ∷ 2 ∷ 0x68 ∷ 0 ∷ 0x80 ∷ 1
    ∷ 0x4C ∷ 0x49 ∷ 0x43 ∷ 0x45 ∷ 1 ∷ first ∷ argument
    ∷ 0x53 ∷ 0x45 ∷ 0x41 ∷ 0x54 ∷ 1 ∷ 0x8A ∷ 0
    ∷ []

-- The byte 8A where it is no union in place: an enum of 138 values, of a struct and of a table, and tables' ids. A struct, a list of
-- unions, a union of a text and the second table. The root has the enum, the union by the byte given, the union by offset and the list;
-- the second table the union by the byte given; the third a U8 and a text in place.
abbrev lookalike : ℕ → List ℕ
lookalike first =
    1 ∷ 1 ∷ 1 ∷ 3 ∷ 0
    ∷ 1 ∷ 0x58 ∷ 0x8A
    ∷ 0x88 ∷ 0
    ∷ 2 ∷ 0x68 ∷ 0 ∷ 0x80 ∷ 1
    ∷ 0x8A ∷ 0x8A ∷ 0x8A ∷ 0x8A ∷ 4 ∷ 0x58 ∷ 0x8A ∷ first ∷ 0 ∷ 0x88 ∷ 0 ∷ 0x78 ∷ 0
    ∷ 0x8A ∷ 0x8A ∷ 0x8A ∷ 0x8B ∷ 1 ∷ first ∷ 0
    ∷ 0x00 ∷ 0x00 ∷ 0x00 ∷ 0x8A ∷ 2 ∷ 0x08 ∷ 0 ∷ 0x6A ∷ 0
    ∷ []

-- a direct list of second tables as a case of a union that no table holds in place, and in the root a union of a text, by its byte
abbrev beside_direct : ℕ → List ℕ
beside_direct first =
    0 ∷ 0 ∷ 2 ∷ 2 ∷ 0
    ∷ 1 ∷ 0x68 ∷ 0
    ∷ 1 ∷ 0x90 ∷ 1
    ∷ 0x4C ∷ 0x49 ∷ 0x43 ∷ 0x45 ∷ 2 ∷ first ∷ 0 ∷ 0x88 ∷ 1
    ∷ 0x53 ∷ 0x45 ∷ 0x41 ∷ 0x54 ∷ 1 ∷ 0x08 ∷ 0
    ∷ []

-- ---- messages and sheets
-- an offset or a length under 256, of 6 bytes
abbrev u48 : ℕ → List ℕ
u48 n = n ∷ 0 ∷ 0 ∷ 0 ∷ 0 ∷ 0 ∷ []

-- the root at 10, its fixed part of n bytes; under the older coding at 8
abbrev rooted : ℕ → List ℕ → List ℕ
rooted n rest = 0xB3 ∷ 0xC4 ∷ 0xC0 ∷ 0xB5 ∷ 10 ∷ 0 ∷ 0 ∷ 0 ∷ 0 ∷ 0 ∷ 0x45 ∷ 0x43 ∷ 0x49 ∷ 0x4C ∷ u48 n ++ rest

abbrev rooted_older : ℕ → List ℕ → List ℕ
rooted_older n rest = 0xB3 ∷ 0xC4 ∷ 0xC0 ∷ 0xB5 ∷ 8 ∷ 0 ∷ 0 ∷ 0 ∷ 0x45 ∷ 0x43 ∷ 0x49 ∷ 0x4C ∷ n ∷ 0 ∷ 0 ∷ 0 ∷ rest

-- the sheet of one union: the text "ab", an empty text, choice 2, nothing
abbrev named : List ℕ
named = 0x40 ∷ 0x00 ∷ 0x40 ∷ 0x00 ∷ 0x00 ∷ 0x00 ∷ 0x98 ∷ 0x58 ∷ 0x80 ∷ []

abbrev empty : List ℕ
empty = 0x40 ∷ 0x00 ∷ 0x40 ∷ 0x00 ∷ 0x00 ∷ 0x00 ∷ 0x00 ∷ []

abbrev other : List ℕ
other = 0x80 ∷ 0x00 ∷ 0x80 ∷ []

-- ---- what the definitions give
-- the number of the writer's answer; and behind it, where it is 0, the message
answer : Message.Written → List ℕ
answer (Message.Written.refused n) = n ∷ []
answer (Message.Written.message m) = 0 ∷ m

wrote : ℕ → List ℕ → List ℕ → List ℕ
wrote o b s = answer (Message.written o b s)

room : WriteAnswer → List ℕ
room a = a.number ∷ a.length ∷ []

-- number, place, visits and content of the verdict, and behind them the bytes of the sheet
judged : List ℕ → List ℕ → ℕ → ℕ → List ℕ
judged b m visits content =
    let v = Walk.verdict Bytes.u48 b m (Walk.allowing visits content) in
    v.number ∷ v.place ∷ v.visits ∷ v.content ∷ Message.message_sheet Bytes.u48 b m

-- 1 if the schema is lawful under the coding of 000
lawful : List ℕ → List ℕ
lawful b = Lists.pick (Lawful.lawful Bytes.u48 b) (1 ∷ []) (0 ∷ [])

abbrev case : List ℕ → List ℕ → Case
case g e = record { given = g; expected = e }

-- ---- the writer
pub written_cases : List Case
written_cases =
    -- "From now the writer refuses a present one": "ab", and an empty text; by offset both are written
    case (wrote Bytes.u48 (union 0x8A) named) (12 ∷ [])
    ∷ case (wrote Bytes.u48 (union 0x8A) empty) (12 ∷ [])
    ∷ case (wrote Bytes.u48 (union 0x88) named)
    (0 ∷ rooted 8 (1 ∷ 0 ∷ u48 28 ++ (0xF5 ∷ 0xC8 ∷ 0x12 ∷ 0xD8 ∷ u48 2 ++ (0x61 ∷ 0x62 ∷ 0 ∷ []))))
    ∷ case (wrote Bytes.u48 (union 0x88) empty) (0 ∷ rooted 8 (1 ∷ 0 ∷ u48 28 ++ (0xF5 ∷ 0xC8 ∷ 0x12 ∷ 0xD8 ∷ u48 0 ++ (0 ∷ []))))
    -- "absent is still written"
    ∷ case (wrote Bytes.u48 (union 0x8A) (0x00 ∷ [])) (0 ∷ rooted 8 (replicate 8 0))
    -- "an unknown mark" is 12 as ever
    ∷ case (wrote Bytes.u48 (union 0x8A) other) (12 ∷ [])
    ∷ case (wrote Bytes.u48 (union 0x88) other) (12 ∷ [])
    -- below the root: in a table by offset, in a table in place, in a list's table, in a union's table, in that of a union in place. First
    -- with "a", then absent
    ∷ case (wrote Bytes.u48 (holding 0x80 1) (0x50 ∷ 0x00 ∷ 0x10 ∷ 0x00 ∷ 0x00 ∷ 0x00 ∷ 0x16 ∷ 0x10 ∷ [])) (12 ∷ [])
    ∷ case (wrote Bytes.u48 (holding 0x80 1) (0x40 ∷ []))
    (0 ∷ rooted 6 (u48 26 ++ (0x54 ∷ 0x41 ∷ 0x45 ∷ 0x53 ∷ u48 8 ++ replicate 8 0)))
    ∷ case (wrote Bytes.u48 (holding 0x82 1) (0x50 ∷ 0x00 ∷ 0x10 ∷ 0x00 ∷ 0x00 ∷ 0x00 ∷ 0x16 ∷ 0x10 ∷ [])) (12 ∷ [])
    ∷ case (wrote Bytes.u48 (holding 0x82 1) (0x40 ∷ [])) (0 ∷ rooted 6 (u48 8 ++ replicate 8 0))
    ∷ case
    (wrote Bytes.u48 (holding 0x78 0)
    (0x40 ∷ 0x00 ∷ 0x00 ∷ 0x00 ∷ 0x54 ∷ 0x00 ∷ 0x04 ∷ 0x00 ∷ 0x00 ∷ 0x00 ∷ 0x05 ∷ 0x84 ∷ []))
    (12 ∷ [])
    ∷ case (wrote Bytes.u48 (holding 0x78 0) (0x40 ∷ 0x00 ∷ 0x00 ∷ 0x00 ∷ 0x50 ∷ []))
    (0 ∷ rooted 6 (u48 26 ++ (0x46 ∷ 0xBB ∷ 0x00 ∷ 0x34 ∷ u48 1 ++ (u48 42 ++ (0x54 ∷ 0x41 ∷ 0x45 ∷ 0x53 ∷ u48 8 ++ replicate 8 0)))))
    ∷ case
    (wrote Bytes.u48 (holding 0x88 0) (0x40 ∷ 0x00 ∷ 0x90 ∷ 0x00 ∷ 0x10 ∷ 0x00 ∷ 0x00 ∷ 0x00 ∷ 0x16 ∷ 0x10 ∷ []))
    (12 ∷ [])
    ∷ case (wrote Bytes.u48 (holding 0x88 0) (0x40 ∷ 0x00 ∷ 0x80 ∷ []))
    (0 ∷ rooted 8 (2 ∷ 0 ∷ u48 28 ++ (0x54 ∷ 0x41 ∷ 0x45 ∷ 0x53 ∷ u48 8 ++ replicate 8 0)))
    ∷ case (wrote Bytes.u48 (holding 0x8A 0) (0x40 ∷ 0x00 ∷ 0x80 ∷ [])) (12 ∷ [])
    -- 11 comes first, where the padding is not zero; 12 before 14; an absent one with no room is 14
    ∷ case (wrote Bytes.u48 (union 0x8A) (0x40 ∷ 0x00 ∷ 0x40 ∷ 0x00 ∷ 0x00 ∷ 0x00 ∷ 0x98 ∷ 0x58 ∷ 0x81 ∷ [])) (11 ∷ [])
    ∷ case (room (Message.write_answer Bytes.u48 (union 0x8A) named [])) (12 ∷ 0 ∷ [])
    ∷ case (room (Message.write_answer Bytes.u48 (union 0x8A) (0x00 ∷ []) [])) (14 ∷ 0 ∷ [])
    -- "The 32-bit coding keeps them."
    ∷ case (wrote Bytes.u32 (union 0x8A) named) (0 ∷ rooted_older 6 (1 ∷ 0 ∷ 2 ∷ 0 ∷ 0 ∷ 0 ∷ 0x61 ∷ 0x62 ∷ 0 ∷ []))
    ∷ case (wrote Bytes.u32 (union 0x8A) empty) (0 ∷ rooted_older 6 (1 ∷ 0 ∷ 0 ∷ 0 ∷ 0 ∷ 0 ∷ 0 ∷ []))
    ∷ case (wrote Bytes.u32 (union 0x8A) (0x00 ∷ [])) (0 ∷ rooted_older 6 (replicate 6 0))
    ∷ case (wrote Bytes.u32 (union 0x8A) other) (12 ∷ [])
    ∷ []

-- THE CLAIM: each case gives what the paper says.
pub writes : map (λ c. c.given) written_cases ≡ map (λ c. c.expected) written_cases
unfolding written_cases answer wrote room Lists.every Lists.run Bytes.le Bytes.le_bytes Bytes.bit_at Bytes.is_nan Bytes.no_float Bytes.largest Bytes.deepest Bytes.u48 Bytes.u32 Bytes.width_known Utf8.within Utf8.after_first Utf8.after_octet Utf8.may_end Utf8.text_from Utf8.is_text Schema.struct_of Schema.element_of Schema.cases_of Schema.table_of Schema.field_of Schema.case_of Schema.plain_bool Schema.member_of Structs.lower Structs.by_index Structs.flat_width Structs.total Structs.size_by Structs.struct_size Structs.flat_ok Structs.flats_ok Structs.ok_by Structs.struct_ok Packed.kind_at Packed.optional_at Packed.inplace_at Packed.zero_at Packed.argument_at Packed.width_of Packed.flat_of Packed.object_of Packed.kind_of Packed.flat_at Packed.object_at Packed.element_at Packed.member_at Packed.records Packed.record_place Packed.blocks Packed.struct_place Packed.list_place Packed.union_place Packed.table_place Packed.id_at Packed.records_at Packed.table_at Packed.parse Lawful.counts_ok Lawful.blocks_ok Lawful.places_ok Lawful.shape_ok Lawful.argument_ok Lawful.kind_ok Lawful.optional_ok Lawful.inplace_ok Lawful.flags_ok Lawful.record_ok Lawful.first_ok Lawful.records_ok Lawful.inplaces Lawful.direct_table Lawful.held_union Lawful.direct_ok Lawful.struct_lawful Lawful.list_lawful Lawful.union_lawful Lawful.table_lawful Lawful.id_differs Lawful.id_lawful Lawful.rules_ok Lawful.well_formed Lawful.older_member Lawful.older_element Lawful.older_union Lawful.older_table Lawful.older_ok Lawful.lawful Layout.flat_is_bool Layout.is_bool Layout.width Layout.flat_takes_flag Layout.takes_flag Layout.has_flag Layout.begin Layout.bit_byte Layout.bit_index Layout.after_bit Layout.after_bytes Layout.after_flag Layout.bit_slot Layout.slot_of Layout.after_value Layout.member_slot Layout.placement_of Layout.after_member Layout.after_members Layout.fixed_size Step.enum_step Step.float_step Step.struct_tested Step.place_of Step.object_step Step.union_step Step.flat_step Step.field_step Step.value_step Step.inside Step.flagged Step.placed_step Step.member_step Step.element_place Step.element_step Step.elements_size Walk.placed Walk.magic Walk.header_size Walk.element_id Walk.element_size Walk.most_elements Walk.start_size Walk.content_size Walk.content_length Walk.end_ok Walk.text_ok Walk.fit_content Walk.direct_header Walk.header_tested Walk.stands_in_place Walk.fit_object Walk.bytes_tested Walk.open_object Walk.refuse Walk.and_then Walk.refuse_part Walk.follow_choice Walk.follow Walk.members Walk.elements Walk.directs Walk.content Walk.enter Walk.with_content Walk.admit Walk.arrive Walk.too_deep Walk.one_more Walk.most_content Walk.counted Walk.visit Walk.root_place Walk.nothing Walk.walk Walk.verdict_of Walk.early Walk.size_ok Walk.start_ok Walk.verdict Value.as_number Value.as_blob Value.as_row Value.as_object Value.present Value.known Value.first Value.others Value.count Read.step_read Read.fields_read Read.read_by Read.struct_read Read.members_read Read.elements_read Read.directs_read Read.content_read Read.place_read Read.read Read.message_read Bits.bits_of Bits.bits Bits.value Bits.pack Bits.byte_count Bits.packed Bits.all_zero Sheet.mark_bits Sheet.flat_bits Sheet.field_bits Sheet.fields_bits Sheet.bits_by Sheet.struct_bits Sheet.body_bits Sheet.flat_unknown Sheet.unknown_width Sheet.part_bits Sheet.flat_unmarked Sheet.unmarked Sheet.element_bits Sheet.members_bits Sheet.elements_bits Sheet.directs_bits Sheet.blob_bits Sheet.content_bits Sheet.encode Sheet.sheet_bits Sheet.sheet_of Sheet.bind Sheet.take_number Sheet.take_bytes Sheet.take_value Sheet.take_if Sheet.take_mark Sheet.unknown_enum Sheet.take_unknown_enum Sheet.take_enum Sheet.take_flat Sheet.take_field Sheet.take_fields Sheet.take_by Sheet.take_struct Sheet.take_choice Sheet.take_body Sheet.take_unknown_flat Sheet.take_unknown Sheet.take_part Sheet.take_element Sheet.take_members Sheet.take_elements Sheet.take_directs Sheet.take_blob Sheet.take_content Sheet.decode Sheet.closed Sheet.tree_of Sheet.sheet_tree Message.length_of Message.flat_known Message.flats_known Message.known_by Message.struct_known Message.flat_writable Message.keeps_unions Message.value_writable Message.members_writable Message.elements_writable Message.directs_writable Message.content_writable Message.writable Message.number_or Message.flat_bytes Message.flats_bytes Message.bytes_by Message.struct_bytes Message.flat_slots Message.object_slots Message.refer_slots Message.value_slots Message.flag_of Message.member_slots Message.members_slots Message.elements_slots Message.directs_slots Message.direct_slots Message.content_slots Message.plan Message.message_of Message.written_tree Message.written Message.write_room Message.write_over Message.write_answer Message.write_out Message.message_sheet Message.fits_room Message.read_answer Message.read_out Cells.width Cells.chain Cells.below Cells.width_bytes Cells.chain_bytes Cells.below_bytes Cells.layout Cells.gather Cells.pack_bits
writes = refl

-- ---- the schema
pub cleared_cases : List Case
cleared_cases =
    -- "only the in-place flag of those unions is cleared"
    case (Moving.without_inplace_unions (union 0x8A)) (union 0x88)
    ∷ case (Moving.without_inplace_unions (union 0x88)) (union 0x88)
    ∷ case (Moving.without_inplace_unions (lookalike 0x8A)) (lookalike 0x88)
    ∷ case (lawful (lookalike 0x8A)) (1 ∷ [])
    ∷ case (lawful (lookalike 0x88)) (1 ∷ [])
    ∷ case (Moving.without_inplace_unions (beside_direct 0x8A)) (beside_direct 0x88)
    ∷ case (lawful (beside_direct 0x8A)) (1 ∷ [])
    ∷ case (lawful (beside_direct 0x88)) (1 ∷ [])
    -- a schema that is not lawful: the record's zero bit is 1
    ∷ case (answer (Moving.clearing (union 0x8B))) (1 ∷ [])
    ∷ case (answer (Moving.clearing (union 0x8A))) (0 ∷ union 0x88)
    ∷ []

-- THE CLAIM: each case gives what the paper says.
pub clears : map (λ c. c.given) cleared_cases ≡ map (λ c. c.expected) cleared_cases
unfolding cleared_cases lawful answer Moving.no_member Moving.member_starts Moving.inplace_union Moving.flag_cleared Moving.cleared_byte Moving.without_inplace_unions Moving.clearing Moving.moved Lists.every Lists.run Bytes.le Bytes.le_bytes Bytes.bit_at Bytes.is_nan Bytes.no_float Bytes.largest Bytes.deepest Bytes.u48 Bytes.u32 Bytes.width_known Utf8.within Utf8.after_first Utf8.after_octet Utf8.may_end Utf8.text_from Utf8.is_text Schema.struct_of Schema.element_of Schema.cases_of Schema.table_of Schema.field_of Schema.case_of Schema.plain_bool Schema.member_of Structs.lower Structs.by_index Structs.flat_width Structs.total Structs.size_by Structs.struct_size Structs.flat_ok Structs.flats_ok Structs.ok_by Structs.struct_ok Packed.kind_at Packed.optional_at Packed.inplace_at Packed.zero_at Packed.argument_at Packed.width_of Packed.flat_of Packed.object_of Packed.kind_of Packed.flat_at Packed.object_at Packed.element_at Packed.member_at Packed.records Packed.record_place Packed.blocks Packed.struct_place Packed.list_place Packed.union_place Packed.table_place Packed.id_at Packed.records_at Packed.table_at Packed.parse Lawful.counts_ok Lawful.blocks_ok Lawful.places_ok Lawful.shape_ok Lawful.argument_ok Lawful.kind_ok Lawful.optional_ok Lawful.inplace_ok Lawful.flags_ok Lawful.record_ok Lawful.first_ok Lawful.records_ok Lawful.inplaces Lawful.direct_table Lawful.held_union Lawful.direct_ok Lawful.struct_lawful Lawful.list_lawful Lawful.union_lawful Lawful.table_lawful Lawful.id_differs Lawful.id_lawful Lawful.rules_ok Lawful.well_formed Lawful.older_member Lawful.older_element Lawful.older_union Lawful.older_table Lawful.older_ok Lawful.lawful Layout.flat_is_bool Layout.is_bool Layout.width Layout.flat_takes_flag Layout.takes_flag Layout.has_flag Layout.begin Layout.bit_byte Layout.bit_index Layout.after_bit Layout.after_bytes Layout.after_flag Layout.bit_slot Layout.slot_of Layout.after_value Layout.member_slot Layout.placement_of Layout.after_member Layout.after_members Layout.fixed_size Step.enum_step Step.float_step Step.struct_tested Step.place_of Step.object_step Step.union_step Step.flat_step Step.field_step Step.value_step Step.inside Step.flagged Step.placed_step Step.member_step Step.element_place Step.element_step Step.elements_size Walk.placed Walk.magic Walk.header_size Walk.element_id Walk.element_size Walk.most_elements Walk.start_size Walk.content_size Walk.content_length Walk.end_ok Walk.text_ok Walk.fit_content Walk.direct_header Walk.header_tested Walk.stands_in_place Walk.fit_object Walk.bytes_tested Walk.open_object Walk.refuse Walk.and_then Walk.refuse_part Walk.follow_choice Walk.follow Walk.members Walk.elements Walk.directs Walk.content Walk.enter Walk.with_content Walk.admit Walk.arrive Walk.too_deep Walk.one_more Walk.most_content Walk.counted Walk.visit Walk.root_place Walk.nothing Walk.walk Walk.verdict_of Walk.early Walk.size_ok Walk.start_ok Walk.verdict Value.as_number Value.as_blob Value.as_row Value.as_object Value.present Value.known Value.first Value.others Value.count Read.step_read Read.fields_read Read.read_by Read.struct_read Read.members_read Read.elements_read Read.directs_read Read.content_read Read.place_read Read.read Read.message_read Bits.bits_of Bits.bits Bits.value Bits.pack Bits.byte_count Bits.packed Bits.all_zero Sheet.mark_bits Sheet.flat_bits Sheet.field_bits Sheet.fields_bits Sheet.bits_by Sheet.struct_bits Sheet.body_bits Sheet.flat_unknown Sheet.unknown_width Sheet.part_bits Sheet.flat_unmarked Sheet.unmarked Sheet.element_bits Sheet.members_bits Sheet.elements_bits Sheet.directs_bits Sheet.blob_bits Sheet.content_bits Sheet.encode Sheet.sheet_bits Sheet.sheet_of Sheet.bind Sheet.take_number Sheet.take_bytes Sheet.take_value Sheet.take_if Sheet.take_mark Sheet.unknown_enum Sheet.take_unknown_enum Sheet.take_enum Sheet.take_flat Sheet.take_field Sheet.take_fields Sheet.take_by Sheet.take_struct Sheet.take_choice Sheet.take_body Sheet.take_unknown_flat Sheet.take_unknown Sheet.take_part Sheet.take_element Sheet.take_members Sheet.take_elements Sheet.take_directs Sheet.take_blob Sheet.take_content Sheet.decode Sheet.closed Sheet.tree_of Sheet.sheet_tree Message.length_of Message.flat_known Message.flats_known Message.known_by Message.struct_known Message.flat_writable Message.keeps_unions Message.value_writable Message.members_writable Message.elements_writable Message.directs_writable Message.content_writable Message.writable Message.number_or Message.flat_bytes Message.flats_bytes Message.bytes_by Message.struct_bytes Message.flat_slots Message.object_slots Message.refer_slots Message.value_slots Message.flag_of Message.member_slots Message.members_slots Message.elements_slots Message.directs_slots Message.direct_slots Message.content_slots Message.plan Message.message_of Message.written_tree Message.written Message.write_room Message.write_over Message.write_answer Message.write_out Message.message_sheet Message.fits_room Message.read_answer Message.read_out Cells.width Cells.chain Cells.below Cells.width_bytes Cells.chain_bytes Cells.below_bytes Cells.layout Cells.gather Cells.pack_bits
clears = refl

-- ---- a stored message. A struct of a bool, a U16 and an enum of 3, and a struct of that one and an F32; a list of bools and a list of
-- unions; a union of a text and the second table. The root: a bool, an optional bool, an optional U16, an I32, an optional F64, an F32,
-- an enum of 3, the second struct, an optional first struct, the two lists, bytes, a bool and a union, in place. The second table: a U8
-- and an in-place text.
abbrev pub schema : List ℕ
schema =
    0x02 ∷ 0x02 ∷ 0x01 ∷ 0x02 ∷ 0x00 ∷ 0x03 ∷ 0x00 ∷ 0x00 ∷ 0x10 ∷ 0x00 ∷ 0x58 ∷ 0x03 ∷ 0x02 ∷ 0x60 ∷ 0x00 ∷ 0x48 ∷ 0x00 ∷ 0x00 ∷ 0x00 ∷ 0x88 ∷ 0x00 ∷ 0x02 ∷ 0x68 ∷ 0x00
    ∷ 0x80 ∷ 0x01 ∷ 0x4C ∷ 0x49 ∷ 0x43 ∷ 0x45 ∷ 0x0E ∷ 0x00 ∷ 0x00 ∷ 0x04 ∷ 0x00 ∷ 0x14 ∷ 0x00 ∷ 0x38 ∷ 0x00 ∷ 0x54 ∷ 0x00 ∷ 0x48 ∷ 0x00 ∷ 0x58 ∷ 0x03 ∷ 0x60 ∷ 0x01 ∷ 0x64
    ∷ 0x00 ∷ 0x78 ∷ 0x00 ∷ 0x78 ∷ 0x01 ∷ 0x70 ∷ 0x00 ∷ 0x00 ∷ 0x00 ∷ 0x8A ∷ 0x00 ∷ 0x53 ∷ 0x45 ∷ 0x41 ∷ 0x54 ∷ 0x02 ∷ 0x08 ∷ 0x00 ∷ 0x6A ∷ 0x00
    ∷ []

-- the union is in place behind the root: choice 2, with the U8 9 and no text
abbrev pub stored : List ℕ
stored =
    0xB3 ∷ 0xC4 ∷ 0xC0 ∷ 0xB5 ∷ 0x0A ∷ 0x00 ∷ 0x00 ∷ 0x00 ∷ 0x00 ∷ 0x00 ∷ 0x45 ∷ 0x43 ∷ 0x49 ∷ 0x4C ∷ 0x3A ∷ 0x00 ∷ 0x00 ∷ 0x00 ∷ 0x00 ∷ 0x00 ∷ 0x07 ∷ 0x00 ∷ 0x00 ∷ 0xFE
    ∷ 0xFF ∷ 0xFF ∷ 0xFF ∷ 0x00 ∷ 0x00 ∷ 0x00 ∷ 0x00 ∷ 0x00 ∷ 0x00 ∷ 0xF8 ∷ 0x7F ∷ 0x01 ∷ 0x00 ∷ 0xC0 ∷ 0x7F ∷ 0x02 ∷ 0x01 ∷ 0x01 ∷ 0x02 ∷ 0xFF ∷ 0x00 ∷ 0x00 ∷ 0x80 ∷ 0x3F
    ∷ 0x00 ∷ 0x00 ∷ 0x00 ∷ 0x00 ∷ 0x55 ∷ 0x00 ∷ 0x00 ∷ 0x00 ∷ 0x00 ∷ 0x00 ∷ 0x61 ∷ 0x00 ∷ 0x00 ∷ 0x00 ∷ 0x00 ∷ 0x00 ∷ 0x00 ∷ 0x00 ∷ 0x00 ∷ 0x00 ∷ 0x00 ∷ 0x00 ∷ 0x02 ∷ 0x00
    ∷ 0x07 ∷ 0x00 ∷ 0x00 ∷ 0x00 ∷ 0x00 ∷ 0x00 ∷ 0x09 ∷ 0x00 ∷ 0x00 ∷ 0x00 ∷ 0x00 ∷ 0x00 ∷ 0x00 ∷ 0x46 ∷ 0xBB ∷ 0x00 ∷ 0x34 ∷ 0x0A ∷ 0x00 ∷ 0x00 ∷ 0x00 ∷ 0x00 ∷ 0x00 ∷ 0x0D
    ∷ 0x03 ∷ 0x46 ∷ 0xBB ∷ 0x00 ∷ 0x34 ∷ 0x03 ∷ 0x00 ∷ 0x00 ∷ 0x00 ∷ 0x00 ∷ 0x00 ∷ 0x01 ∷ 0x00 ∷ 0x83 ∷ 0x00 ∷ 0x00 ∷ 0x00 ∷ 0x00 ∷ 0x00 ∷ 0x00 ∷ 0x00 ∷ 0x00 ∷ 0x00 ∷ 0x00
    ∷ 0x00 ∷ 0x00 ∷ 0x00 ∷ 0x02 ∷ 0x00 ∷ 0x90 ∷ 0x00 ∷ 0x00 ∷ 0x00 ∷ 0x00 ∷ 0x00 ∷ 0xF5 ∷ 0xC8 ∷ 0x12 ∷ 0xD8 ∷ 0x02 ∷ 0x00 ∷ 0x00 ∷ 0x00 ∷ 0x00 ∷ 0x00 ∷ 0x68 ∷ 0x69 ∷ 0x00
    ∷ 0x54 ∷ 0x41 ∷ 0x45 ∷ 0x53 ∷ 0x07 ∷ 0x00 ∷ 0x00 ∷ 0x00 ∷ 0x00 ∷ 0x00 ∷ 0x07 ∷ 0x01 ∷ 0x00 ∷ 0x00 ∷ 0x00 ∷ 0x00 ∷ 0x00 ∷ 0x78 ∷ 0x00
    ∷ []

-- its sheet
abbrev pub sheet : List ℕ
sheet =
    0x6C ∷ 0x7F ∷ 0xFF ∷ 0xFF ∷ 0xFF ∷ 0x85 ∷ 0xFF ∷ 0x00 ∷ 0x00 ∷ 0x05 ∷ 0x02 ∷ 0x60 ∷ 0x40 ∷ 0x21 ∷ 0xFC ∷ 0x00 ∷ 0x00 ∷ 0x00 ∷ 0x80 ∷ 0x00 ∷ 0x00 ∷ 0x05 ∷ 0x58 ∷ 0x68
    ∷ 0x00 ∷ 0x00 ∷ 0x00 ∷ 0x1A ∷ 0x00 ∷ 0x02 ∷ 0x00 ∷ 0x00 ∷ 0x00 ∷ 0x04 ∷ 0xD0 ∷ 0xD2 ∷ 0x20 ∷ 0x00 ∷ 0x48 ∷ 0x3A ∷ 0x00 ∷ 0x00 ∷ 0x00 ∷ 0x02 ∷ 0xF0 ∷ 0x24 ∷ 0x00 ∷ 0x09
    ∷ 0x09 ∷ 0x00
    ∷ []

-- the schema with that flag cleared
abbrev pub cleared_schema : List ℕ
cleared_schema =
    0x02 ∷ 0x02 ∷ 0x01 ∷ 0x02 ∷ 0x00 ∷ 0x03 ∷ 0x00 ∷ 0x00 ∷ 0x10 ∷ 0x00 ∷ 0x58 ∷ 0x03 ∷ 0x02 ∷ 0x60 ∷ 0x00 ∷ 0x48 ∷ 0x00 ∷ 0x00 ∷ 0x00 ∷ 0x88 ∷ 0x00 ∷ 0x02 ∷ 0x68 ∷ 0x00
    ∷ 0x80 ∷ 0x01 ∷ 0x4C ∷ 0x49 ∷ 0x43 ∷ 0x45 ∷ 0x0E ∷ 0x00 ∷ 0x00 ∷ 0x04 ∷ 0x00 ∷ 0x14 ∷ 0x00 ∷ 0x38 ∷ 0x00 ∷ 0x54 ∷ 0x00 ∷ 0x48 ∷ 0x00 ∷ 0x58 ∷ 0x03 ∷ 0x60 ∷ 0x01 ∷ 0x64
    ∷ 0x00 ∷ 0x78 ∷ 0x00 ∷ 0x78 ∷ 0x01 ∷ 0x70 ∷ 0x00 ∷ 0x00 ∷ 0x00 ∷ 0x88 ∷ 0x00 ∷ 0x53 ∷ 0x45 ∷ 0x41 ∷ 0x54 ∷ 0x02 ∷ 0x08 ∷ 0x00 ∷ 0x6A ∷ 0x00
    ∷ []

-- the message in the new form: the union's table is the last object
abbrev pub in_new_form : List ℕ
in_new_form =
    0xB3 ∷ 0xC4 ∷ 0xC0 ∷ 0xB5 ∷ 0x0A ∷ 0x00 ∷ 0x00 ∷ 0x00 ∷ 0x00 ∷ 0x00 ∷ 0x45 ∷ 0x43 ∷ 0x49 ∷ 0x4C ∷ 0x3A ∷ 0x00 ∷ 0x00 ∷ 0x00 ∷ 0x00 ∷ 0x00 ∷ 0x07 ∷ 0x00 ∷ 0x00 ∷ 0xFE
    ∷ 0xFF ∷ 0xFF ∷ 0xFF ∷ 0x00 ∷ 0x00 ∷ 0x00 ∷ 0x00 ∷ 0x00 ∷ 0x00 ∷ 0xF8 ∷ 0x7F ∷ 0x01 ∷ 0x00 ∷ 0xC0 ∷ 0x7F ∷ 0x02 ∷ 0x01 ∷ 0x01 ∷ 0x02 ∷ 0xFF ∷ 0x00 ∷ 0x00 ∷ 0x80 ∷ 0x3F
    ∷ 0x00 ∷ 0x00 ∷ 0x00 ∷ 0x00 ∷ 0x4E ∷ 0x00 ∷ 0x00 ∷ 0x00 ∷ 0x00 ∷ 0x00 ∷ 0x5A ∷ 0x00 ∷ 0x00 ∷ 0x00 ∷ 0x00 ∷ 0x00 ∷ 0x00 ∷ 0x00 ∷ 0x00 ∷ 0x00 ∷ 0x00 ∷ 0x00 ∷ 0x02 ∷ 0x00
    ∷ 0x9C ∷ 0x00 ∷ 0x00 ∷ 0x00 ∷ 0x00 ∷ 0x00 ∷ 0x46 ∷ 0xBB ∷ 0x00 ∷ 0x34 ∷ 0x0A ∷ 0x00 ∷ 0x00 ∷ 0x00 ∷ 0x00 ∷ 0x00 ∷ 0x0D ∷ 0x03 ∷ 0x46 ∷ 0xBB ∷ 0x00 ∷ 0x34 ∷ 0x03 ∷ 0x00
    ∷ 0x00 ∷ 0x00 ∷ 0x00 ∷ 0x00 ∷ 0x01 ∷ 0x00 ∷ 0x7C ∷ 0x00 ∷ 0x00 ∷ 0x00 ∷ 0x00 ∷ 0x00 ∷ 0x00 ∷ 0x00 ∷ 0x00 ∷ 0x00 ∷ 0x00 ∷ 0x00 ∷ 0x00 ∷ 0x00 ∷ 0x02 ∷ 0x00 ∷ 0x89 ∷ 0x00
    ∷ 0x00 ∷ 0x00 ∷ 0x00 ∷ 0x00 ∷ 0xF5 ∷ 0xC8 ∷ 0x12 ∷ 0xD8 ∷ 0x02 ∷ 0x00 ∷ 0x00 ∷ 0x00 ∷ 0x00 ∷ 0x00 ∷ 0x68 ∷ 0x69 ∷ 0x00 ∷ 0x54 ∷ 0x41 ∷ 0x45 ∷ 0x53 ∷ 0x07 ∷ 0x00 ∷ 0x00
    ∷ 0x00 ∷ 0x00 ∷ 0x00 ∷ 0x07 ∷ 0x01 ∷ 0x00 ∷ 0x00 ∷ 0x00 ∷ 0x00 ∷ 0x00 ∷ 0x78 ∷ 0x00 ∷ 0x54 ∷ 0x41 ∷ 0x45 ∷ 0x53 ∷ 0x07 ∷ 0x00 ∷ 0x00 ∷ 0x00 ∷ 0x00 ∷ 0x00 ∷ 0x09 ∷ 0x00
    ∷ 0x00 ∷ 0x00 ∷ 0x00 ∷ 0x00 ∷ 0x00
    ∷ []

pub moved_cases : List Case
moved_cases =
    -- "Readers ... go on with stored messages."
    case (judged schema stored 7 101) (0 ∷ 0 ∷ 7 ∷ 101 ∷ sheet)
    -- the writer makes no such message again
    ∷ case (wrote Bytes.u48 schema sheet) (12 ∷ [])
    -- moved over, it has the same sheet
    ∷ case (Moving.without_inplace_unions schema) cleared_schema
    ∷ case (answer (Moving.moved schema stored)) (0 ∷ in_new_form)
    ∷ case (judged cleared_schema in_new_form 7 101) (0 ∷ 0 ∷ 7 ∷ 101 ∷ sheet)
    -- "12 for an older reason": choice 2 of one is unknown
    ∷ case (answer (Moving.moved (union 0x8A) (rooted 8 (2 ∷ 0 ∷ u48 0)))) (12 ∷ [])
    -- a known choice of length 0 is an empty text, and is moved over as one
    ∷ case (answer (Moving.moved (union 0x8A) (rooted 8 (1 ∷ 0 ∷ u48 0 ++ (0 ∷ [])))))
    (0 ∷ rooted 8 (1 ∷ 0 ∷ u48 28 ++ (0xF5 ∷ 0xC8 ∷ 0x12 ∷ 0xD8 ∷ u48 0 ++ (0 ∷ []))))
    ∷ []

-- THE CLAIM: each case gives what the paper says.
pub moves : map (λ c. c.given) moved_cases ≡ map (λ c. c.expected) moved_cases
unfolding moved_cases judged answer wrote Moving.no_member Moving.member_starts Moving.inplace_union Moving.flag_cleared Moving.cleared_byte Moving.without_inplace_unions Moving.clearing Moving.moved Lists.every Lists.run Bytes.le Bytes.le_bytes Bytes.bit_at Bytes.is_nan Bytes.no_float Bytes.largest Bytes.deepest Bytes.u48 Bytes.u32 Bytes.width_known Utf8.within Utf8.after_first Utf8.after_octet Utf8.may_end Utf8.text_from Utf8.is_text Schema.struct_of Schema.element_of Schema.cases_of Schema.table_of Schema.field_of Schema.case_of Schema.plain_bool Schema.member_of Structs.lower Structs.by_index Structs.flat_width Structs.total Structs.size_by Structs.struct_size Structs.flat_ok Structs.flats_ok Structs.ok_by Structs.struct_ok Packed.kind_at Packed.optional_at Packed.inplace_at Packed.zero_at Packed.argument_at Packed.width_of Packed.flat_of Packed.object_of Packed.kind_of Packed.flat_at Packed.object_at Packed.element_at Packed.member_at Packed.records Packed.record_place Packed.blocks Packed.struct_place Packed.list_place Packed.union_place Packed.table_place Packed.id_at Packed.records_at Packed.table_at Packed.parse Lawful.counts_ok Lawful.blocks_ok Lawful.places_ok Lawful.shape_ok Lawful.argument_ok Lawful.kind_ok Lawful.optional_ok Lawful.inplace_ok Lawful.flags_ok Lawful.record_ok Lawful.first_ok Lawful.records_ok Lawful.inplaces Lawful.direct_table Lawful.held_union Lawful.direct_ok Lawful.struct_lawful Lawful.list_lawful Lawful.union_lawful Lawful.table_lawful Lawful.id_differs Lawful.id_lawful Lawful.rules_ok Lawful.well_formed Lawful.older_member Lawful.older_element Lawful.older_union Lawful.older_table Lawful.older_ok Lawful.lawful Layout.flat_is_bool Layout.is_bool Layout.width Layout.flat_takes_flag Layout.takes_flag Layout.has_flag Layout.begin Layout.bit_byte Layout.bit_index Layout.after_bit Layout.after_bytes Layout.after_flag Layout.bit_slot Layout.slot_of Layout.after_value Layout.member_slot Layout.placement_of Layout.after_member Layout.after_members Layout.fixed_size Step.enum_step Step.float_step Step.struct_tested Step.place_of Step.object_step Step.union_step Step.flat_step Step.field_step Step.value_step Step.inside Step.flagged Step.placed_step Step.member_step Step.element_place Step.element_step Step.elements_size Walk.placed Walk.magic Walk.header_size Walk.element_id Walk.element_size Walk.most_elements Walk.start_size Walk.content_size Walk.content_length Walk.end_ok Walk.text_ok Walk.fit_content Walk.direct_header Walk.header_tested Walk.stands_in_place Walk.fit_object Walk.bytes_tested Walk.open_object Walk.refuse Walk.and_then Walk.refuse_part Walk.follow_choice Walk.follow Walk.members Walk.elements Walk.directs Walk.content Walk.enter Walk.with_content Walk.admit Walk.arrive Walk.too_deep Walk.one_more Walk.most_content Walk.counted Walk.visit Walk.root_place Walk.nothing Walk.walk Walk.verdict_of Walk.early Walk.size_ok Walk.start_ok Walk.verdict Value.as_number Value.as_blob Value.as_row Value.as_object Value.present Value.known Value.first Value.others Value.count Read.step_read Read.fields_read Read.read_by Read.struct_read Read.members_read Read.elements_read Read.directs_read Read.content_read Read.place_read Read.read Read.message_read Bits.bits_of Bits.bits Bits.value Bits.pack Bits.byte_count Bits.packed Bits.all_zero Sheet.mark_bits Sheet.flat_bits Sheet.field_bits Sheet.fields_bits Sheet.bits_by Sheet.struct_bits Sheet.body_bits Sheet.flat_unknown Sheet.unknown_width Sheet.part_bits Sheet.flat_unmarked Sheet.unmarked Sheet.element_bits Sheet.members_bits Sheet.elements_bits Sheet.directs_bits Sheet.blob_bits Sheet.content_bits Sheet.encode Sheet.sheet_bits Sheet.sheet_of Sheet.bind Sheet.take_number Sheet.take_bytes Sheet.take_value Sheet.take_if Sheet.take_mark Sheet.unknown_enum Sheet.take_unknown_enum Sheet.take_enum Sheet.take_flat Sheet.take_field Sheet.take_fields Sheet.take_by Sheet.take_struct Sheet.take_choice Sheet.take_body Sheet.take_unknown_flat Sheet.take_unknown Sheet.take_part Sheet.take_element Sheet.take_members Sheet.take_elements Sheet.take_directs Sheet.take_blob Sheet.take_content Sheet.decode Sheet.closed Sheet.tree_of Sheet.sheet_tree Message.length_of Message.flat_known Message.flats_known Message.known_by Message.struct_known Message.flat_writable Message.keeps_unions Message.value_writable Message.members_writable Message.elements_writable Message.directs_writable Message.content_writable Message.writable Message.number_or Message.flat_bytes Message.flats_bytes Message.bytes_by Message.struct_bytes Message.flat_slots Message.object_slots Message.refer_slots Message.value_slots Message.flag_of Message.member_slots Message.members_slots Message.elements_slots Message.directs_slots Message.direct_slots Message.content_slots Message.plan Message.message_of Message.written_tree Message.written Message.write_room Message.write_over Message.write_answer Message.write_out Message.message_sheet Message.fits_room Message.read_answer Message.read_out Cells.width Cells.chain Cells.below Cells.width_bytes Cells.chain_bytes Cells.below_bytes Cells.layout Cells.gather Cells.pack_bits
moves = refl

-- ---- the theorem at this message
is-moved : Moving.moved schema stored ≡ Message.message in_new_form
unfolding Moving.no_member Moving.member_starts Moving.inplace_union Moving.flag_cleared Moving.cleared_byte Moving.without_inplace_unions Moving.clearing Moving.moved Lists.every Lists.run Bytes.le Bytes.le_bytes Bytes.bit_at Bytes.is_nan Bytes.no_float Bytes.largest Bytes.deepest Bytes.u48 Bytes.u32 Bytes.width_known Utf8.within Utf8.after_first Utf8.after_octet Utf8.may_end Utf8.text_from Utf8.is_text Schema.struct_of Schema.element_of Schema.cases_of Schema.table_of Schema.field_of Schema.case_of Schema.plain_bool Schema.member_of Structs.lower Structs.by_index Structs.flat_width Structs.total Structs.size_by Structs.struct_size Structs.flat_ok Structs.flats_ok Structs.ok_by Structs.struct_ok Packed.kind_at Packed.optional_at Packed.inplace_at Packed.zero_at Packed.argument_at Packed.width_of Packed.flat_of Packed.object_of Packed.kind_of Packed.flat_at Packed.object_at Packed.element_at Packed.member_at Packed.records Packed.record_place Packed.blocks Packed.struct_place Packed.list_place Packed.union_place Packed.table_place Packed.id_at Packed.records_at Packed.table_at Packed.parse Lawful.counts_ok Lawful.blocks_ok Lawful.places_ok Lawful.shape_ok Lawful.argument_ok Lawful.kind_ok Lawful.optional_ok Lawful.inplace_ok Lawful.flags_ok Lawful.record_ok Lawful.first_ok Lawful.records_ok Lawful.inplaces Lawful.direct_table Lawful.held_union Lawful.direct_ok Lawful.struct_lawful Lawful.list_lawful Lawful.union_lawful Lawful.table_lawful Lawful.id_differs Lawful.id_lawful Lawful.rules_ok Lawful.well_formed Lawful.older_member Lawful.older_element Lawful.older_union Lawful.older_table Lawful.older_ok Lawful.lawful Layout.flat_is_bool Layout.is_bool Layout.width Layout.flat_takes_flag Layout.takes_flag Layout.has_flag Layout.begin Layout.bit_byte Layout.bit_index Layout.after_bit Layout.after_bytes Layout.after_flag Layout.bit_slot Layout.slot_of Layout.after_value Layout.member_slot Layout.placement_of Layout.after_member Layout.after_members Layout.fixed_size Step.enum_step Step.float_step Step.struct_tested Step.place_of Step.object_step Step.union_step Step.flat_step Step.field_step Step.value_step Step.inside Step.flagged Step.placed_step Step.member_step Step.element_place Step.element_step Step.elements_size Walk.placed Walk.magic Walk.header_size Walk.element_id Walk.element_size Walk.most_elements Walk.start_size Walk.content_size Walk.content_length Walk.end_ok Walk.text_ok Walk.fit_content Walk.direct_header Walk.header_tested Walk.stands_in_place Walk.fit_object Walk.bytes_tested Walk.open_object Walk.refuse Walk.and_then Walk.refuse_part Walk.follow_choice Walk.follow Walk.members Walk.elements Walk.directs Walk.content Walk.enter Walk.with_content Walk.admit Walk.arrive Walk.too_deep Walk.one_more Walk.most_content Walk.counted Walk.visit Walk.root_place Walk.nothing Walk.walk Walk.verdict_of Walk.early Walk.size_ok Walk.start_ok Walk.verdict Value.as_number Value.as_blob Value.as_row Value.as_object Value.present Value.known Value.first Value.others Value.count Read.step_read Read.fields_read Read.read_by Read.struct_read Read.members_read Read.elements_read Read.directs_read Read.content_read Read.place_read Read.read Read.message_read Bits.bits_of Bits.bits Bits.value Bits.pack Bits.byte_count Bits.packed Bits.all_zero Sheet.mark_bits Sheet.flat_bits Sheet.field_bits Sheet.fields_bits Sheet.bits_by Sheet.struct_bits Sheet.body_bits Sheet.flat_unknown Sheet.unknown_width Sheet.part_bits Sheet.flat_unmarked Sheet.unmarked Sheet.element_bits Sheet.members_bits Sheet.elements_bits Sheet.directs_bits Sheet.blob_bits Sheet.content_bits Sheet.encode Sheet.sheet_bits Sheet.sheet_of Sheet.bind Sheet.take_number Sheet.take_bytes Sheet.take_value Sheet.take_if Sheet.take_mark Sheet.unknown_enum Sheet.take_unknown_enum Sheet.take_enum Sheet.take_flat Sheet.take_field Sheet.take_fields Sheet.take_by Sheet.take_struct Sheet.take_choice Sheet.take_body Sheet.take_unknown_flat Sheet.take_unknown Sheet.take_part Sheet.take_element Sheet.take_members Sheet.take_elements Sheet.take_directs Sheet.take_blob Sheet.take_content Sheet.decode Sheet.closed Sheet.tree_of Sheet.sheet_tree Message.length_of Message.flat_known Message.flats_known Message.known_by Message.struct_known Message.flat_writable Message.keeps_unions Message.value_writable Message.members_writable Message.elements_writable Message.directs_writable Message.content_writable Message.writable Message.number_or Message.flat_bytes Message.flats_bytes Message.bytes_by Message.struct_bytes Message.flat_slots Message.object_slots Message.refer_slots Message.value_slots Message.flag_of Message.member_slots Message.members_slots Message.elements_slots Message.directs_slots Message.direct_slots Message.content_slots Message.plan Message.message_of Message.written_tree Message.written Message.write_room Message.write_over Message.write_answer Message.write_out Message.message_sheet Message.fits_room Message.read_answer Message.read_out Cells.width Cells.chain Cells.below Cells.width_bytes Cells.chain_bytes Cells.below_bytes Cells.layout Cells.gather Cells.pack_bits
is-moved = refl

is_accepted : (Walk.verdict Bytes.u48 schema stored (Walk.allowing 7 101)).number ≡ 0
unfolding Lists.every Lists.run Bytes.le Bytes.le_bytes Bytes.bit_at Bytes.is_nan Bytes.no_float Bytes.largest Bytes.deepest Bytes.u48 Bytes.u32 Bytes.width_known Utf8.within Utf8.after_first Utf8.after_octet Utf8.may_end Utf8.text_from Utf8.is_text Schema.struct_of Schema.element_of Schema.cases_of Schema.table_of Schema.field_of Schema.case_of Schema.plain_bool Schema.member_of Structs.lower Structs.by_index Structs.flat_width Structs.total Structs.size_by Structs.struct_size Structs.flat_ok Structs.flats_ok Structs.ok_by Structs.struct_ok Packed.kind_at Packed.optional_at Packed.inplace_at Packed.zero_at Packed.argument_at Packed.width_of Packed.flat_of Packed.object_of Packed.kind_of Packed.flat_at Packed.object_at Packed.element_at Packed.member_at Packed.records Packed.record_place Packed.blocks Packed.struct_place Packed.list_place Packed.union_place Packed.table_place Packed.id_at Packed.records_at Packed.table_at Packed.parse Lawful.counts_ok Lawful.blocks_ok Lawful.places_ok Lawful.shape_ok Lawful.argument_ok Lawful.kind_ok Lawful.optional_ok Lawful.inplace_ok Lawful.flags_ok Lawful.record_ok Lawful.first_ok Lawful.records_ok Lawful.inplaces Lawful.direct_table Lawful.held_union Lawful.direct_ok Lawful.struct_lawful Lawful.list_lawful Lawful.union_lawful Lawful.table_lawful Lawful.id_differs Lawful.id_lawful Lawful.rules_ok Lawful.well_formed Lawful.older_member Lawful.older_element Lawful.older_union Lawful.older_table Lawful.older_ok Lawful.lawful Layout.flat_is_bool Layout.is_bool Layout.width Layout.flat_takes_flag Layout.takes_flag Layout.has_flag Layout.begin Layout.bit_byte Layout.bit_index Layout.after_bit Layout.after_bytes Layout.after_flag Layout.bit_slot Layout.slot_of Layout.after_value Layout.member_slot Layout.placement_of Layout.after_member Layout.after_members Layout.fixed_size Step.enum_step Step.float_step Step.struct_tested Step.place_of Step.object_step Step.union_step Step.flat_step Step.field_step Step.value_step Step.inside Step.flagged Step.placed_step Step.member_step Step.element_place Step.element_step Step.elements_size Walk.placed Walk.magic Walk.header_size Walk.element_id Walk.element_size Walk.most_elements Walk.start_size Walk.content_size Walk.content_length Walk.end_ok Walk.text_ok Walk.fit_content Walk.direct_header Walk.header_tested Walk.stands_in_place Walk.fit_object Walk.bytes_tested Walk.open_object Walk.refuse Walk.and_then Walk.refuse_part Walk.follow_choice Walk.follow Walk.members Walk.elements Walk.directs Walk.content Walk.enter Walk.with_content Walk.admit Walk.arrive Walk.too_deep Walk.one_more Walk.most_content Walk.counted Walk.visit Walk.root_place Walk.nothing Walk.walk Walk.verdict_of Walk.early Walk.size_ok Walk.start_ok Walk.verdict Value.as_number Value.as_blob Value.as_row Value.as_object Value.present Value.known Value.first Value.others Value.count Read.step_read Read.fields_read Read.read_by Read.struct_read Read.members_read Read.elements_read Read.directs_read Read.content_read Read.place_read Read.read Read.message_read Bits.bits_of Bits.bits Bits.value Bits.pack Bits.byte_count Bits.packed Bits.all_zero Sheet.mark_bits Sheet.flat_bits Sheet.field_bits Sheet.fields_bits Sheet.bits_by Sheet.struct_bits Sheet.body_bits Sheet.flat_unknown Sheet.unknown_width Sheet.part_bits Sheet.flat_unmarked Sheet.unmarked Sheet.element_bits Sheet.members_bits Sheet.elements_bits Sheet.directs_bits Sheet.blob_bits Sheet.content_bits Sheet.encode Sheet.sheet_bits Sheet.sheet_of Sheet.bind Sheet.take_number Sheet.take_bytes Sheet.take_value Sheet.take_if Sheet.take_mark Sheet.unknown_enum Sheet.take_unknown_enum Sheet.take_enum Sheet.take_flat Sheet.take_field Sheet.take_fields Sheet.take_by Sheet.take_struct Sheet.take_choice Sheet.take_body Sheet.take_unknown_flat Sheet.take_unknown Sheet.take_part Sheet.take_element Sheet.take_members Sheet.take_elements Sheet.take_directs Sheet.take_blob Sheet.take_content Sheet.decode Sheet.closed Sheet.tree_of Sheet.sheet_tree Message.length_of Message.flat_known Message.flats_known Message.known_by Message.struct_known Message.flat_writable Message.keeps_unions Message.value_writable Message.members_writable Message.elements_writable Message.directs_writable Message.content_writable Message.writable Message.number_or Message.flat_bytes Message.flats_bytes Message.bytes_by Message.struct_bytes Message.flat_slots Message.object_slots Message.refer_slots Message.value_slots Message.flag_of Message.member_slots Message.members_slots Message.elements_slots Message.directs_slots Message.direct_slots Message.content_slots Message.plan Message.message_of Message.written_tree Message.written Message.write_room Message.write_over Message.write_answer Message.write_out Message.message_sheet Message.fits_room Message.read_answer Message.read_out Cells.width Cells.chain Cells.below Cells.width_bytes Cells.chain_bytes Cells.below_bytes Cells.layout Cells.gather Cells.pack_bits
is_accepted = refl

pub reads_back : ReadsBack (Moving.without_inplace_unions schema) (Message.message_sheet Bytes.u48 schema stored) in_new_form
reads_back =
    moved_reads schema stored (bytes schema refl) (bytes stored refl) (Walk.allowing 7 101) is_accepted in_new_form is-moved
