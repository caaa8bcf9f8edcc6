-- The older coding at the counter: cases worked out by hand from 002 and from 02, K5. All bytes are given in full, so that
-- each can be compared with the document.
use Rattle.std.specs.Prelude.{◌≡◌, refl, List, [], ◌∷◌, map, ℕ, eqb, take}
use Rattle.coding.specs.Lists as Lists
use Rattle.coding.specs.Bytes as Bytes
use Rattle.coding.specs.Utf8 as Utf8
use Rattle.coding.specs.Schema as Schema
use Rattle.coding.specs.Structs as Structs
use Rattle.coding.specs.Packed as Packed
use Rattle.coding.specs.Lawful as Lawful
use Rattle.coding.specs.Layout as Layout
use Rattle.coding.specs.Step as Step
use Rattle.coding.specs.Walk as Walk
use Rattle.coding.specs.Value as Value
use Rattle.coding.specs.Read as Read
use Rattle.coding.specs.Bits as Bits
use Rattle.coding.specs.Sheet as Sheet
use Rattle.coding.specs.Cells as Cells
use Rattle.coding.specs.Message as Message
use Rattle.coding.specs.declared.Verdict.{Verdict}
use Rattle.demands.specs.Counter.{Case}

-- ---- schemas
-- a schema of one table, its n members by their records
abbrev table : ℕ → List ℕ → List ℕ
table n records = 0 ∷ 0 ∷ 0 ∷ 1 ∷ 0 ∷ 0x4C ∷ 0x49 ∷ 0x43 ∷ 0x45 ∷ n ∷ records

-- a U16 and a text; a text in place; an optional U16; a table in place
abbrev seat : List ℕ
seat = table 2 (0x10 ∷ 0 ∷ 0x68 ∷ 0 ∷ [])

abbrev text_in_place : List ℕ
text_in_place = table 1 (0x6A ∷ 0 ∷ [])

abbrev optional : List ℕ
optional = table 1 (0x14 ∷ 0 ∷ [])

abbrev table_in_place : List ℕ
table_in_place = table 1 (0x82 ∷ 0 ∷ [])

-- a union of a text, in place and not; a list of such unions; a list of U8
abbrev union_in_place : List ℕ
union_in_place = 0 ∷ 0 ∷ 1 ∷ 1 ∷ 0 ∷ 1 ∷ 0x68 ∷ 0 ∷ 0x4C ∷ 0x49 ∷ 0x43 ∷ 0x45 ∷ 1 ∷ 0x8A ∷ 0 ∷ []

abbrev union_by_offset : List ℕ
union_by_offset = 0 ∷ 0 ∷ 1 ∷ 1 ∷ 0 ∷ 1 ∷ 0x68 ∷ 0 ∷ 0x4C ∷ 0x49 ∷ 0x43 ∷ 0x45 ∷ 1 ∷ 0x88 ∷ 0 ∷ []

abbrev unions_in_list : List ℕ
unions_in_list = 0 ∷ 1 ∷ 1 ∷ 1 ∷ 0 ∷ 0x88 ∷ 0 ∷ 1 ∷ 0x68 ∷ 0 ∷ 0x4C ∷ 0x49 ∷ 0x43 ∷ 0x45 ∷ 0 ∷ []

-- a union of a second table, which has a U16, in place; a list of texts
abbrev table_case : List ℕ
table_case =
    0 ∷ 0 ∷ 1 ∷ 2 ∷ 0 ∷ 1 ∷ 0x80 ∷ 1 ∷ 0x4C ∷ 0x49 ∷ 0x43 ∷ 0x45 ∷ 1 ∷ 0x8A ∷ 0 ∷ 0x53 ∷ 0x45 ∷ 0x41 ∷ 0x54 ∷ 1 ∷ 0x10 ∷ 0 ∷ []

abbrev texts : List ℕ
texts = 0 ∷ 1 ∷ 0 ∷ 1 ∷ 0 ∷ 0x68 ∷ 0 ∷ 0x4C ∷ 0x49 ∷ 0x43 ∷ 0x45 ∷ 1 ∷ 0x78 ∷ 0 ∷ []

abbrev numbers : List ℕ
numbers = 0 ∷ 1 ∷ 0 ∷ 1 ∷ 0 ∷ 0x08 ∷ 0 ∷ 0x4C ∷ 0x49 ∷ 0x43 ∷ 0x45 ∷ 1 ∷ 0x78 ∷ 0 ∷ []

-- ---- messages
-- "A message starts with the magic UInt32 0xB5C0C4B3, followed by a UInt32 containing the offset of the root table" (002):
-- the root at 8, "First the magic UInt32 id of the table is encoded. Then the length of the non variable length part of the
-- table is encoded as a UInt32." (002); all bytes from 16 on are given
abbrev rooted : ℕ → List ℕ → List ℕ
rooted n rest = 0xB3 ∷ 0xC4 ∷ 0xC0 ∷ 0xB5 ∷ 8 ∷ 0 ∷ 0 ∷ 0 ∷ 0x45 ∷ 0x43 ∷ 0x49 ∷ 0x4C ∷ n ∷ 0 ∷ 0 ∷ 0 ∷ rest

-- the U16 3 and the text "ab" at 22, whose offset is given, of a table whose fixed part has n bytes
abbrev seat_message : ℕ → ℕ → List ℕ
seat_message n x = rooted n (3 ∷ 0 ∷ x ∷ 0 ∷ 0 ∷ 0 ∷ 0xF5 ∷ 0xC8 ∷ 0x12 ∷ 0xD8 ∷ 2 ∷ 0 ∷ 0 ∷ 0 ∷ 0x61 ∷ 0x62 ∷ 0 ∷ [])

-- ---- what the definitions give
-- number, place and visits of the verdict; and behind them, where the message is accepted, the bytes of its sheet
outcome : Verdict → List ℕ → List ℕ
outcome v sheet = v.number ∷ v.place ∷ v.visits ∷ Lists.pick (eqb v.number 0) sheet []

-- under the coding of a width, with a budget of 2
judged : ℕ → List ℕ → List ℕ → List ℕ
judged o b m = outcome (Walk.verdict o b m (Walk.allowing 2 Walk.most_content)) (Message.message_sheet o b m)

-- the number of the writer's answer; and behind it, where it is 0, the message
answer : Message.Written → List ℕ
answer (Message.Written.refused n) = n ∷ []
answer (Message.Written.message m) = 0 ∷ m

wrote : List ℕ → List ℕ → List ℕ
wrote b s = answer (Message.written Bytes.u32 b s)

abbrev case : List ℕ → List ℕ → Case
case g e = record { given = g; expected = e }

pub cases : List Case
cases =
    -- the seat's message: a header of 8 bytes, offsets of 4
    case (judged Bytes.u32 seat (seat_message 6 22)) (0 ∷ 0 ∷ 2 ∷ 0x40 ∷ 0x00 ∷ 0xD0 ∷ 0x00 ∷ 0x00 ∷ 0x00 ∷ 0x26 ∷ 0x16 ∷ 0x20 ∷ [])
    -- the text's offset is cut by the end of a fixed part of 5 bytes
    ∷ case (judged Bytes.u32 seat (seat_message 5 22)) (8 ∷ 8 ∷ 1 ∷ [])
    -- "Offsets under 8 are unlawful there (6)"; at 8 stands the table
    ∷ case (judged Bytes.u32 seat (seat_message 6 7)) (6 ∷ 7 ∷ 2 ∷ [])
    ∷ case (judged Bytes.u32 seat (seat_message 6 8)) (7 ∷ 8 ∷ 2 ∷ [])
    -- "a message under 8 bytes is 2"; one of 8 has a start, but no header fits behind it
    ∷ case (judged Bytes.u32 seat (take 7 (seat_message 6 22))) (2 ∷ 0 ∷ 0 ∷ [])
    ∷ case (judged Bytes.u32 seat (take 8 (seat_message 6 22))) (6 ∷ 8 ∷ 1 ∷ [])
    -- a text in place: "immediately after the table. That is at the location table.offset+table.length+8" (002)
    ∷ case (judged Bytes.u32 text_in_place (rooted 4 (2 ∷ 0 ∷ 0 ∷ 0 ∷ 0x61 ∷ 0x62 ∷ 0 ∷ [])))
    (0 ∷ 0 ∷ 2 ∷ 0x40 ∷ 0x00 ∷ 0x00 ∷ 0x00 ∷ 0x98 ∷ 0x58 ∷ 0x80 ∷ [])
    -- a union: choice 1 as a UInt16, "Next the length of the member is encoded as a UInt32" (002), its text behind the table
    ∷ case (judged Bytes.u32 union_in_place (rooted 6 (1 ∷ 0 ∷ 2 ∷ 0 ∷ 0 ∷ 0 ∷ 0x61 ∷ 0x62 ∷ 0 ∷ [])))
    (0 ∷ 0 ∷ 2 ∷ 0x40 ∷ 0x00 ∷ 0x40 ∷ 0x00 ∷ 0x00 ∷ 0x00 ∷ 0x98 ∷ 0x58 ∷ 0x80 ∷ [])
    -- a text in place of length 0 is absent: "the special length 0 indicates that we have no value" (002)
    ∷ case (judged Bytes.u32 text_in_place (rooted 4 (0 ∷ 0 ∷ 0 ∷ 0 ∷ []))) (0 ∷ 0 ∷ 1 ∷ 0x00 ∷ [])
    -- choice 0 is "no member"; choice 2 is unknown and is not followed
    ∷ case (judged Bytes.u32 union_in_place (rooted 6 (0 ∷ 0 ∷ 2 ∷ 0 ∷ 0 ∷ 0 ∷ []))) (0 ∷ 0 ∷ 1 ∷ 0x00 ∷ [])
    ∷ case (judged Bytes.u32 union_in_place (rooted 6 (2 ∷ 0 ∷ 2 ∷ 0 ∷ 0 ∷ 0 ∷ []))) (0 ∷ 0 ∷ 1 ∷ 0x80 ∷ 0x00 ∷ 0x80 ∷ [])
    -- a union in place whose member is a table, with a U16
    ∷ case (judged Bytes.u32 table_case (rooted 6 (1 ∷ 0 ∷ 2 ∷ 0 ∷ 0 ∷ 0 ∷ 3 ∷ 0 ∷ [])))
    (0 ∷ 0 ∷ 2 ∷ 0x40 ∷ 0x00 ∷ 0x50 ∷ 0x00 ∷ 0x30 ∷ [])
    -- a known choice of length 0 is an empty text, whose zero byte is there or is 1
    ∷ case (judged Bytes.u32 union_in_place (rooted 6 (1 ∷ 0 ∷ 0 ∷ 0 ∷ 0 ∷ 0 ∷ 0 ∷ [])))
    (0 ∷ 0 ∷ 2 ∷ 0x40 ∷ 0x00 ∷ 0x40 ∷ 0x00 ∷ 0x00 ∷ 0x00 ∷ 0x00 ∷ [])
    ∷ case (judged Bytes.u32 union_in_place (rooted 6 (1 ∷ 0 ∷ 0 ∷ 0 ∷ 0 ∷ 0 ∷ 1 ∷ []))) (10 ∷ 22 ∷ 2 ∷ [])
    -- a list at 20: "the number of elements in the list is encoded as a UInt32" (002)
    ∷ case (judged Bytes.u32 numbers (rooted 4 (20 ∷ 0 ∷ 0 ∷ 0 ∷ 0x46 ∷ 0xBB ∷ 0x00 ∷ 0x34 ∷ 3 ∷ 0 ∷ 0 ∷ 0 ∷ 1 ∷ 2 ∷ 3 ∷ [])))
    (0 ∷ 0 ∷ 2 ∷ 0x40 ∷ 0x00 ∷ 0x00 ∷ 0x00 ∷ 0xC0 ∷ 0x40 ∷ 0x80 ∷ 0xC0 ∷ [])
    -- a list of texts at 20, whose offsets are four bytes each: none, and "a" at 36
    ∷ case (judged Bytes.u32 texts (rooted 4 (20 ∷ 0 ∷ 0 ∷ 0 ∷ 0x46 ∷ 0xBB ∷ 0x00 ∷ 0x34 ∷ 2 ∷ 0 ∷ 0 ∷ 0 ∷ 0 ∷ 0 ∷ 0 ∷ 0 ∷ 36 ∷ 0 ∷ 0 ∷ 0 ∷ 0xF5 ∷ 0xC8 ∷ 0x12 ∷ 0xD8 ∷ 1 ∷ 0 ∷ 0 ∷ 0 ∷ 0x61 ∷ 0 ∷ [])))
    (4 ∷ 36 ∷ 2 ∷ [])
    -- an optional U16: there, and its flag without a value
    ∷ case (judged Bytes.u32 optional (rooted 3 (1 ∷ 5 ∷ 0 ∷ []))) (0 ∷ 0 ∷ 1 ∷ 0x40 ∷ 0x01 ∷ 0x40 ∷ [])
    ∷ case (judged Bytes.u32 optional (rooted 1 (1 ∷ []))) (8 ∷ 8 ∷ 1 ∷ [])
    -- "a schema with a union not in place, a table in place, a list of unions ... is 1 under this coding"; under the other it
    -- is lawful, so that the empty message is refused by 2
    ∷ case (judged Bytes.u32 union_by_offset []) (1 ∷ 0 ∷ 0 ∷ [])
    ∷ case (judged Bytes.u32 table_in_place []) (1 ∷ 0 ∷ 0 ∷ [])
    ∷ case (judged Bytes.u32 unions_in_list []) (1 ∷ 0 ∷ 0 ∷ [])
    ∷ case (judged Bytes.u48 union_by_offset []) (2 ∷ 0 ∷ 0 ∷ [])
    ∷ case (judged Bytes.u48 table_in_place []) (2 ∷ 0 ∷ 0 ∷ [])
    ∷ case (judged Bytes.u48 unions_in_list []) (2 ∷ 0 ∷ 0 ∷ [])
    -- the root's offset is under 8 too
    ∷ case (judged Bytes.u32 seat (0xB3 ∷ 0xC4 ∷ 0xC0 ∷ 0xB5 ∷ 7 ∷ 0 ∷ 0 ∷ 0 ∷ [])) (6 ∷ 7 ∷ 1 ∷ [])
    -- no paper has a third coding: no schema is lawful under one
    ∷ case (judged 5 seat []) (1 ∷ 0 ∷ 0 ∷ [])
    -- "the writer puts the root at 8"
    ∷ case (wrote seat (0x40 ∷ 0x00 ∷ 0xD0 ∷ 0x00 ∷ 0x00 ∷ 0x00 ∷ 0x26 ∷ 0x16 ∷ 0x20 ∷ [])) (0 ∷ seat_message 6 22)
    ∷ case (wrote union_in_place (0x40 ∷ 0x00 ∷ 0x40 ∷ 0x00 ∷ 0x00 ∷ 0x00 ∷ 0x98 ∷ 0x58 ∷ 0x80 ∷ []))
    (0 ∷ rooted 6 (1 ∷ 0 ∷ 2 ∷ 0 ∷ 0 ∷ 0 ∷ 0x61 ∷ 0x62 ∷ 0 ∷ []))
    ∷ []

-- THE CLAIM: each case gives what the papers say.
pub counter : map (λ c. c.given) cases ≡ map (λ c. c.expected) cases
unfolding cases judged outcome answer wrote Lists.every Lists.run Bytes.le Bytes.le_bytes Bytes.bit_at Bytes.is_nan Bytes.no_float Bytes.largest Bytes.deepest Bytes.u48 Bytes.u32 Bytes.width_known Utf8.within Utf8.after_first Utf8.after_octet Utf8.may_end Utf8.text_from Utf8.is_text Schema.struct_of Schema.element_of Schema.cases_of Schema.table_of Schema.field_of Schema.case_of Schema.plain_bool Schema.member_of Structs.lower Structs.by_index Structs.flat_width Structs.total Structs.size_by Structs.struct_size Structs.flat_ok Structs.flats_ok Structs.ok_by Structs.struct_ok Packed.kind_at Packed.optional_at Packed.inplace_at Packed.zero_at Packed.argument_at Packed.width_of Packed.flat_of Packed.object_of Packed.kind_of Packed.flat_at Packed.object_at Packed.element_at Packed.member_at Packed.records Packed.record_place Packed.blocks Packed.struct_place Packed.list_place Packed.union_place Packed.table_place Packed.id_at Packed.records_at Packed.table_at Packed.parse Lawful.counts_ok Lawful.blocks_ok Lawful.places_ok Lawful.shape_ok Lawful.argument_ok Lawful.kind_ok Lawful.optional_ok Lawful.inplace_ok Lawful.flags_ok Lawful.record_ok Lawful.first_ok Lawful.records_ok Lawful.inplaces Lawful.direct_table Lawful.held_union Lawful.direct_ok Lawful.struct_lawful Lawful.list_lawful Lawful.union_lawful Lawful.table_lawful Lawful.id_differs Lawful.id_lawful Lawful.rules_ok Lawful.well_formed Lawful.older_member Lawful.older_element Lawful.older_union Lawful.older_table Lawful.older_ok Lawful.lawful Layout.flat_is_bool Layout.is_bool Layout.width Layout.flat_takes_flag Layout.takes_flag Layout.has_flag Layout.begin Layout.bit_byte Layout.bit_index Layout.after_bit Layout.after_bytes Layout.after_flag Layout.bit_slot Layout.slot_of Layout.after_value Layout.member_slot Layout.placement_of Layout.after_member Layout.after_members Layout.fixed_size Step.enum_step Step.float_step Step.struct_tested Step.place_of Step.object_step Step.union_step Step.flat_step Step.field_step Step.value_step Step.inside Step.flagged Step.placed_step Step.member_step Step.element_place Step.element_step Step.elements_size Walk.placed Walk.magic Walk.header_size Walk.element_id Walk.element_size Walk.most_elements Walk.start_size Walk.content_size Walk.content_length Walk.end_ok Walk.text_ok Walk.fit_content Walk.direct_header Walk.header_tested Walk.stands_in_place Walk.fit_object Walk.bytes_tested Walk.open_object Walk.refuse Walk.and_then Walk.refuse_part Walk.follow_choice Walk.follow Walk.members Walk.elements Walk.directs Walk.content Walk.enter Walk.with_content Walk.admit Walk.arrive Walk.too_deep Walk.one_more Walk.most_content Walk.counted Walk.visit Walk.root_place Walk.nothing Walk.walk Walk.verdict_of Walk.early Walk.size_ok Walk.start_ok Walk.verdict Value.as_number Value.as_blob Value.as_row Value.as_object Value.present Value.known Value.first Value.others Value.count Read.step_read Read.fields_read Read.read_by Read.struct_read Read.members_read Read.elements_read Read.directs_read Read.content_read Read.place_read Read.read Read.message_read Bits.bits_of Bits.bits Bits.value Bits.pack Bits.byte_count Bits.packed Bits.all_zero Sheet.mark_bits Sheet.flat_bits Sheet.field_bits Sheet.fields_bits Sheet.bits_by Sheet.struct_bits Sheet.body_bits Sheet.flat_unknown Sheet.unknown_width Sheet.part_bits Sheet.flat_unmarked Sheet.unmarked Sheet.element_bits Sheet.members_bits Sheet.elements_bits Sheet.directs_bits Sheet.blob_bits Sheet.content_bits Sheet.encode Sheet.sheet_bits Sheet.sheet_of Sheet.bind Sheet.take_number Sheet.take_bytes Sheet.take_value Sheet.take_if Sheet.take_mark Sheet.unknown_enum Sheet.take_unknown_enum Sheet.take_enum Sheet.take_flat Sheet.take_field Sheet.take_fields Sheet.take_by Sheet.take_struct Sheet.take_choice Sheet.take_body Sheet.take_unknown_flat Sheet.take_unknown Sheet.take_part Sheet.take_element Sheet.take_members Sheet.take_elements Sheet.take_directs Sheet.take_blob Sheet.take_content Sheet.decode Sheet.closed Sheet.tree_of Sheet.sheet_tree Message.length_of Message.flat_known Message.flats_known Message.known_by Message.struct_known Message.flat_writable Message.keeps_unions Message.value_writable Message.members_writable Message.elements_writable Message.directs_writable Message.content_writable Message.writable Message.number_or Message.flat_bytes Message.flats_bytes Message.bytes_by Message.struct_bytes Message.flat_slots Message.object_slots Message.refer_slots Message.value_slots Message.flag_of Message.member_slots Message.members_slots Message.elements_slots Message.directs_slots Message.direct_slots Message.content_slots Message.plan Message.message_of Message.written_tree Message.written Message.write_room Message.write_over Message.write_answer Message.write_out Message.message_sheet Message.fits_room Message.read_answer Message.read_out Cells.width Cells.chain Cells.below Cells.width_bytes Cells.chain_bytes Cells.below_bytes Cells.layout Cells.gather Cells.pack_bits
counter = refl
