-- "Traps the trade has met", and rules that no general theorem fixes since both of its sides go by them (the depth, a flag
-- without value, a magic, a refusal's place, the order of what is written): cases of paper 01, in three small tables
-- so that a refusal shows which case differs.
use Rattle.std.specs.Prelude.{◌≡◌, refl, List, [], ◌∷◌, ◌++◌, map, ℕ, eqb}
use Rattle.coding.specs.Lists as Lists
use Rattle.coding.specs.Bytes as Bytes
use Rattle.coding.specs.Utf8 as Utf8
use Rattle.coding.specs.Schema as Schema
use Rattle.coding.specs.Structs as Structs
use Rattle.coding.specs.Packed as Packed
use Rattle.coding.specs.Lawful as Lawful
use Rattle.coding.specs.Layout as Layout
use Rattle.coding.specs.Step as Step
use Rattle.coding.specs.Walk as Walk
use Rattle.coding.specs.Value as Value
use Rattle.coding.specs.Read as Read
use Rattle.coding.specs.Bits as Bits
use Rattle.coding.specs.Sheet as Sheet
use Rattle.coding.specs.Cells as Cells
use Rattle.coding.specs.Message as Message
use Rattle.coding.specs.declared.Verdict.{Verdict}
use Rattle.demands.specs.Counter.{Case}

-- ---- schemas and messages
-- a schema of one table, its n members by their records
abbrev pub table : ℕ → List ℕ → List ℕ
table n records = 0 ∷ 0 ∷ 0 ∷ 1 ∷ 0 ∷ 0x4C ∷ 0x49 ∷ 0x43 ∷ 0x45 ∷ n ∷ records

-- an offset or a length under 256
abbrev pub u48 : ℕ → List ℕ
u48 n = n ∷ 0 ∷ 0 ∷ 0 ∷ 0 ∷ 0 ∷ []

-- a message with its root at 10: the length of the root's fixed part, and all bytes from 20 on
abbrev pub rooted : ℕ → List ℕ → List ℕ
rooted n rest =
    0xB3 ∷ 0xC4 ∷ 0xC0 ∷ 0xB5 ∷ 0x0A ∷ 0x00 ∷ 0x00 ∷ 0x00 ∷ 0x00 ∷ 0x00 ∷ 0x45 ∷ 0x43 ∷ 0x49 ∷ 0x4C ∷ u48 n ++ rest

-- a text of one byte
abbrev text : ℕ → List ℕ
text x = 0xF5 ∷ 0xC8 ∷ 0x12 ∷ 0xD8 ∷ 0x01 ∷ 0x00 ∷ 0x00 ∷ 0x00 ∷ 0x00 ∷ 0x00 ∷ x ∷ 0x00 ∷ []

-- an in-place text; two texts; an optional U16; an enum of 3; a reference to the table itself; a U16; bytes
abbrev pub in_place : List ℕ
in_place = table 1 (0x6A ∷ 0 ∷ [])

abbrev texts : List ℕ
texts = table 2 (0x68 ∷ 0 ∷ 0x68 ∷ 0 ∷ [])

abbrev optional : List ℕ
optional = table 1 (0x14 ∷ 0 ∷ [])

abbrev pub enum : List ℕ
enum = table 1 (0x58 ∷ 3 ∷ [])

abbrev itself : List ℕ
itself = table 1 (0x80 ∷ 0 ∷ [])

abbrev plain : List ℕ
plain = table 1 (0x10 ∷ 0 ∷ [])

abbrev blob : List ℕ
blob = table 1 (0x70 ∷ 0 ∷ [])

-- a union of a text; the same in place
abbrev union : List ℕ
union = 0 ∷ 0 ∷ 1 ∷ 1 ∷ 0 ∷ 1 ∷ 0x68 ∷ 0 ∷ 0x4C ∷ 0x49 ∷ 0x43 ∷ 0x45 ∷ 1 ∷ 0x88 ∷ 0 ∷ []

abbrev in_place_union : List ℕ
in_place_union = 0 ∷ 0 ∷ 1 ∷ 1 ∷ 0 ∷ 1 ∷ 0x68 ∷ 0 ∷ 0x4C ∷ 0x49 ∷ 0x43 ∷ 0x45 ∷ 1 ∷ 0x8A ∷ 0 ∷ []

-- the root has an in-place table and a text; that table has a text and in-place bytes
abbrev nested : List ℕ
nested =
    0 ∷ 0 ∷ 0 ∷ 2 ∷ 0 ∷ 0x4C ∷ 0x49 ∷ 0x43 ∷ 0x45 ∷ 2 ∷ 0x82 ∷ 1 ∷ 0x68 ∷ 0 ∷ 0x53 ∷ 0x45 ∷ 0x41 ∷ 0x54 ∷ 2 ∷ 0x68 ∷ 0 ∷ 0x72 ∷ 0 ∷ []

-- its sheet: the inner text "a", the inner bytes 62, the outer text "c"
abbrev nested_sheet : List ℕ
nested_sheet = 0x50 ∷ 0x00 ∷ 0x00 ∷ 0x00 ∷ 0x16 ∷ 0x14 ∷ 0x00 ∷ 0x00 ∷ 0x00 ∷ 0x05 ∷ 0x89 ∷ 0x00 ∷ 0x00 ∷ 0x00 ∷ 0x01 ∷ 0x63 ∷ []

-- ---- what the definitions give
-- number, place and visits of the verdict; and behind them, where the message is accepted, the bytes of its sheet
unfoldable pub outcome : Verdict → List ℕ → List ℕ
outcome v sheet = v.number ∷ v.place ∷ v.visits ∷ Lists.pick (eqb v.number 0) sheet []

judged : List ℕ → List ℕ → ℕ → List ℕ
judged b m n = outcome (Walk.verdict Bytes.u48 b m (Walk.allowing n Walk.most_content)) (Message.message_sheet Bytes.u48 b m)

-- the number of the writer's answer; and behind it, where it is 0, the message
answer : Message.Written → List ℕ
answer (Message.Written.refused n) = n ∷ []
answer (Message.Written.message m) = 0 ∷ m

wrote : List ℕ → List ℕ → List ℕ
wrote b s = answer (Message.written Bytes.u48 b s)

abbrev pub case : List ℕ → List ℕ → Case
case g e = record { given = g; expected = e }

-- ---- "Traps the trade has met"
pub trap_cases : List Case
trap_cases =
    -- "Using +8": in-place content stands where its table's fixed part ends
    case (judged in_place (rooted 6 (u48 2 ++ (0x61 ∷ 0x62 ∷ 0x00 ∷ []))) 2)
    (0 ∷ 0 ∷ 2 ∷ 0x40 ∷ 0x00 ∷ 0x00 ∷ 0x00 ∷ 0x98 ∷ 0x58 ∷ 0x80 ∷ [])
    -- "bounding by the schema's fixed size instead of the message's": two bytes more than the schema knows, and two less
    ∷ case (judged in_place (rooted 8 (u48 2 ++ (0xFF ∷ 0xFF ∷ 0x61 ∷ 0x62 ∷ 0x00 ∷ []))) 2)
    (0 ∷ 0 ∷ 2 ∷ 0x40 ∷ 0x00 ∷ 0x00 ∷ 0x00 ∷ 0x98 ∷ 0x58 ∷ 0x80 ∷ [])
    ∷ case (judged in_place (rooted 4 (u48 2 ++ (0x61 ∷ 0x62 ∷ 0x00 ∷ []))) 2) (8 ∷ 10 ∷ 1 ∷ [])
    -- "checking a shared object once and charging once": both texts are the same object
    ∷ case (judged texts (rooted 12 (u48 32 ++ (u48 32 ++ text 0x61))) 3)
    (0 ∷ 0 ∷ 3 ∷ 0x40 ∷ 0x00 ∷ 0x00 ∷ 0x00 ∷ 0x58 ∷ 0x50 ∷ 0x00 ∷ 0x00 ∷ 0x00 ∷ 0x16 ∷ 0x10 ∷ [])
    ∷ case (judged texts (rooted 12 (u48 32 ++ (u48 32 ++ text 0x61))) 2) (4 ∷ 32 ∷ 2 ∷ [])
    -- "reading a flag of 1 past the end"; with flag 0 the value may lie beyond the end, but not be cut
    ∷ case (judged optional (rooted 1 (1 ∷ [])) 1) (8 ∷ 10 ∷ 1 ∷ [])
    ∷ case (judged optional (rooted 1 (0 ∷ [])) 1) (0 ∷ 0 ∷ 1 ∷ 0x00 ∷ [])
    ∷ case (judged optional (rooted 2 (0 ∷ 0 ∷ [])) 1) (8 ∷ 10 ∷ 1 ∷ [])
    -- "taking enum 255 as unknown"; 3 is unknown, and 2 is not
    ∷ case (judged enum (rooted 1 (255 ∷ [])) 1) (0 ∷ 0 ∷ 1 ∷ 0x00 ∷ [])
    ∷ case (judged enum (rooted 1 (3 ∷ [])) 1) (0 ∷ 0 ∷ 1 ∷ 0x80 ∷ 0xC0 ∷ [])
    ∷ case (judged enum (rooted 1 (2 ∷ [])) 1) (0 ∷ 0 ∷ 1 ∷ 0x40 ∷ 0x80 ∷ [])
    ∷ []

-- THE CLAIM: each case gives what the paper says.
pub traps : map (λ c. c.given) trap_cases ≡ map (λ c. c.expected) trap_cases
unfolding trap_cases judged outcome Lists.every Lists.run Bytes.le Bytes.le_bytes Bytes.bit_at Bytes.is_nan Bytes.no_float Bytes.largest Bytes.deepest Bytes.u48 Bytes.u32 Bytes.width_known Utf8.within Utf8.after_first Utf8.after_octet Utf8.may_end Utf8.text_from Utf8.is_text Schema.struct_of Schema.element_of Schema.cases_of Schema.table_of Schema.field_of Schema.case_of Schema.plain_bool Schema.member_of Structs.lower Structs.by_index Structs.flat_width Structs.total Structs.size_by Structs.struct_size Structs.flat_ok Structs.flats_ok Structs.ok_by Structs.struct_ok Packed.kind_at Packed.optional_at Packed.inplace_at Packed.zero_at Packed.argument_at Packed.width_of Packed.flat_of Packed.object_of Packed.kind_of Packed.flat_at Packed.object_at Packed.element_at Packed.member_at Packed.records Packed.record_place Packed.blocks Packed.struct_place Packed.list_place Packed.union_place Packed.table_place Packed.id_at Packed.records_at Packed.table_at Packed.parse Lawful.counts_ok Lawful.blocks_ok Lawful.places_ok Lawful.shape_ok Lawful.argument_ok Lawful.kind_ok Lawful.optional_ok Lawful.inplace_ok Lawful.flags_ok Lawful.record_ok Lawful.first_ok Lawful.records_ok Lawful.inplaces Lawful.direct_table Lawful.held_union Lawful.direct_ok Lawful.struct_lawful Lawful.list_lawful Lawful.union_lawful Lawful.table_lawful Lawful.id_differs Lawful.id_lawful Lawful.rules_ok Lawful.well_formed Lawful.older_member Lawful.older_element Lawful.older_union Lawful.older_table Lawful.older_ok Lawful.lawful Layout.flat_is_bool Layout.is_bool Layout.width Layout.flat_takes_flag Layout.takes_flag Layout.has_flag Layout.begin Layout.bit_byte Layout.bit_index Layout.after_bit Layout.after_bytes Layout.after_flag Layout.bit_slot Layout.slot_of Layout.after_value Layout.member_slot Layout.placement_of Layout.after_member Layout.after_members Layout.fixed_size Step.enum_step Step.float_step Step.struct_tested Step.place_of Step.object_step Step.union_step Step.flat_step Step.field_step Step.value_step Step.inside Step.flagged Step.placed_step Step.member_step Step.element_place Step.element_step Step.elements_size Walk.placed Walk.magic Walk.header_size Walk.element_id Walk.element_size Walk.most_elements Walk.start_size Walk.content_size Walk.content_length Walk.end_ok Walk.text_ok Walk.fit_content Walk.direct_header Walk.header_tested Walk.stands_in_place Walk.fit_object Walk.bytes_tested Walk.open_object Walk.refuse Walk.and_then Walk.refuse_part Walk.follow_choice Walk.follow Walk.members Walk.elements Walk.directs Walk.content Walk.enter Walk.with_content Walk.admit Walk.arrive Walk.too_deep Walk.one_more Walk.most_content Walk.counted Walk.visit Walk.root_place Walk.nothing Walk.walk Walk.verdict_of Walk.early Walk.size_ok Walk.start_ok Walk.verdict Value.as_number Value.as_blob Value.as_row Value.as_object Value.present Value.known Value.first Value.others Value.count Read.step_read Read.fields_read Read.read_by Read.struct_read Read.members_read Read.elements_read Read.directs_read Read.content_read Read.place_read Read.read Read.message_read Bits.bits_of Bits.bits Bits.value Bits.pack Bits.byte_count Bits.packed Bits.all_zero Sheet.mark_bits Sheet.flat_bits Sheet.field_bits Sheet.fields_bits Sheet.bits_by Sheet.struct_bits Sheet.body_bits Sheet.flat_unknown Sheet.unknown_width Sheet.part_bits Sheet.flat_unmarked Sheet.unmarked Sheet.element_bits Sheet.members_bits Sheet.elements_bits Sheet.directs_bits Sheet.blob_bits Sheet.content_bits Sheet.encode Sheet.sheet_bits Sheet.sheet_of Sheet.bind Sheet.take_number Sheet.take_bytes Sheet.take_value Sheet.take_if Sheet.take_mark Sheet.unknown_enum Sheet.take_unknown_enum Sheet.take_enum Sheet.take_flat Sheet.take_field Sheet.take_fields Sheet.take_by Sheet.take_struct Sheet.take_choice Sheet.take_body Sheet.take_unknown_flat Sheet.take_unknown Sheet.take_part Sheet.take_element Sheet.take_members Sheet.take_elements Sheet.take_directs Sheet.take_blob Sheet.take_content Sheet.decode Sheet.closed Sheet.tree_of Sheet.sheet_tree Message.length_of Message.flat_known Message.flats_known Message.known_by Message.struct_known Message.flat_writable Message.keeps_unions Message.value_writable Message.members_writable Message.elements_writable Message.directs_writable Message.content_writable Message.writable Message.number_or Message.flat_bytes Message.flats_bytes Message.bytes_by Message.struct_bytes Message.flat_slots Message.object_slots Message.refer_slots Message.value_slots Message.flag_of Message.member_slots Message.members_slots Message.elements_slots Message.directs_slots Message.direct_slots Message.content_slots Message.plan Message.message_of Message.written_tree Message.written Message.write_room Message.write_over Message.write_answer Message.write_out Message.message_sheet Message.fits_room Message.read_answer Message.read_out Cells.width Cells.chain Cells.below Cells.width_bytes Cells.chain_bytes Cells.below_bytes Cells.layout Cells.gather Cells.pack_bits
traps = refl

-- ---- other rules of messages
pub rule_cases : List Case
rule_cases =
    -- "Depth: 32 objects, the root being 1": a table that refers to itself is refused at its 33rd arrival
    case (judged itself (rooted 6 (u48 10)) 100) (5 ∷ 10 ∷ 33 ∷ [])
    -- "bytes 0xDCDBBE10"; refusal 7, at the object
    ∷ case (judged blob (rooted 6 (u48 26 ++ (0x10 ∷ 0xBE ∷ 0xDB ∷ 0xDC ∷ u48 1 ++ (0x62 ∷ [])))) 2)
    (0 ∷ 0 ∷ 2 ∷ 0x40 ∷ 0x00 ∷ 0x00 ∷ 0x00 ∷ 0x58 ∷ 0x80 ∷ [])
    ∷ case (judged blob (rooted 6 (u48 26 ++ text 0x62)) 2) (7 ∷ 26 ∷ 2 ∷ [])
    -- refusal 9, at the holder; choice 2 "is unknown and is not followed"
    ∷ case (judged union (rooted 8 (1 ∷ 0 ∷ u48 0)) 2) (9 ∷ 10 ∷ 1 ∷ [])
    ∷ case (judged union (rooted 8 (2 ∷ 0 ∷ u48 0)) 2) (0 ∷ 0 ∷ 1 ∷ 0x80 ∷ 0x00 ∷ 0x80 ∷ [])
    -- "Length 0 means no value ..., except in a union with a known choice, where it is an empty object. A text keeps its zero
    -- byte unless it is absent."
    ∷ case (judged in_place (rooted 6 (u48 0)) 2) (0 ∷ 0 ∷ 1 ∷ 0x00 ∷ [])
    ∷ case (judged in_place_union (rooted 8 (1 ∷ 0 ∷ u48 0 ++ (0 ∷ []))) 2)
    (0 ∷ 0 ∷ 2 ∷ 0x40 ∷ 0x00 ∷ 0x40 ∷ 0x00 ∷ 0x00 ∷ 0x00 ∷ 0x00 ∷ [])
    ∷ case (judged in_place_union (rooted 8 (1 ∷ 0 ∷ u48 0)) 2) (6 ∷ 28 ∷ 2 ∷ [])
    ∷ []

-- THE CLAIM: each case gives what the paper says.
pub rules : map (λ c. c.given) rule_cases ≡ map (λ c. c.expected) rule_cases
unfolding rule_cases judged outcome Lists.every Lists.run Bytes.le Bytes.le_bytes Bytes.bit_at Bytes.is_nan Bytes.no_float Bytes.largest Bytes.deepest Bytes.u48 Bytes.u32 Bytes.width_known Utf8.within Utf8.after_first Utf8.after_octet Utf8.may_end Utf8.text_from Utf8.is_text Schema.struct_of Schema.element_of Schema.cases_of Schema.table_of Schema.field_of Schema.case_of Schema.plain_bool Schema.member_of Structs.lower Structs.by_index Structs.flat_width Structs.total Structs.size_by Structs.struct_size Structs.flat_ok Structs.flats_ok Structs.ok_by Structs.struct_ok Packed.kind_at Packed.optional_at Packed.inplace_at Packed.zero_at Packed.argument_at Packed.width_of Packed.flat_of Packed.object_of Packed.kind_of Packed.flat_at Packed.object_at Packed.element_at Packed.member_at Packed.records Packed.record_place Packed.blocks Packed.struct_place Packed.list_place Packed.union_place Packed.table_place Packed.id_at Packed.records_at Packed.table_at Packed.parse Lawful.counts_ok Lawful.blocks_ok Lawful.places_ok Lawful.shape_ok Lawful.argument_ok Lawful.kind_ok Lawful.optional_ok Lawful.inplace_ok Lawful.flags_ok Lawful.record_ok Lawful.first_ok Lawful.records_ok Lawful.inplaces Lawful.direct_table Lawful.held_union Lawful.direct_ok Lawful.struct_lawful Lawful.list_lawful Lawful.union_lawful Lawful.table_lawful Lawful.id_differs Lawful.id_lawful Lawful.rules_ok Lawful.well_formed Lawful.older_member Lawful.older_element Lawful.older_union Lawful.older_table Lawful.older_ok Lawful.lawful Layout.flat_is_bool Layout.is_bool Layout.width Layout.flat_takes_flag Layout.takes_flag Layout.has_flag Layout.begin Layout.bit_byte Layout.bit_index Layout.after_bit Layout.after_bytes Layout.after_flag Layout.bit_slot Layout.slot_of Layout.after_value Layout.member_slot Layout.placement_of Layout.after_member Layout.after_members Layout.fixed_size Step.enum_step Step.float_step Step.struct_tested Step.place_of Step.object_step Step.union_step Step.flat_step Step.field_step Step.value_step Step.inside Step.flagged Step.placed_step Step.member_step Step.element_place Step.element_step Step.elements_size Walk.placed Walk.magic Walk.header_size Walk.element_id Walk.element_size Walk.most_elements Walk.start_size Walk.content_size Walk.content_length Walk.end_ok Walk.text_ok Walk.fit_content Walk.direct_header Walk.header_tested Walk.stands_in_place Walk.fit_object Walk.bytes_tested Walk.open_object Walk.refuse Walk.and_then Walk.refuse_part Walk.follow_choice Walk.follow Walk.members Walk.elements Walk.directs Walk.content Walk.enter Walk.with_content Walk.admit Walk.arrive Walk.too_deep Walk.one_more Walk.most_content Walk.counted Walk.visit Walk.root_place Walk.nothing Walk.walk Walk.verdict_of Walk.early Walk.size_ok Walk.start_ok Walk.verdict Value.as_number Value.as_blob Value.as_row Value.as_object Value.present Value.known Value.first Value.others Value.count Read.step_read Read.fields_read Read.read_by Read.struct_read Read.members_read Read.elements_read Read.directs_read Read.content_read Read.place_read Read.read Read.message_read Bits.bits_of Bits.bits Bits.value Bits.pack Bits.byte_count Bits.packed Bits.all_zero Sheet.mark_bits Sheet.flat_bits Sheet.field_bits Sheet.fields_bits Sheet.bits_by Sheet.struct_bits Sheet.body_bits Sheet.flat_unknown Sheet.unknown_width Sheet.part_bits Sheet.flat_unmarked Sheet.unmarked Sheet.element_bits Sheet.members_bits Sheet.elements_bits Sheet.directs_bits Sheet.blob_bits Sheet.content_bits Sheet.encode Sheet.sheet_bits Sheet.sheet_of Sheet.bind Sheet.take_number Sheet.take_bytes Sheet.take_value Sheet.take_if Sheet.take_mark Sheet.unknown_enum Sheet.take_unknown_enum Sheet.take_enum Sheet.take_flat Sheet.take_field Sheet.take_fields Sheet.take_by Sheet.take_struct Sheet.take_choice Sheet.take_body Sheet.take_unknown_flat Sheet.take_unknown Sheet.take_part Sheet.take_element Sheet.take_members Sheet.take_elements Sheet.take_directs Sheet.take_blob Sheet.take_content Sheet.decode Sheet.closed Sheet.tree_of Sheet.sheet_tree Message.length_of Message.flat_known Message.flats_known Message.known_by Message.struct_known Message.flat_writable Message.keeps_unions Message.value_writable Message.members_writable Message.elements_writable Message.directs_writable Message.content_writable Message.writable Message.number_or Message.flat_bytes Message.flats_bytes Message.bytes_by Message.struct_bytes Message.flat_slots Message.object_slots Message.refer_slots Message.value_slots Message.flag_of Message.member_slots Message.members_slots Message.elements_slots Message.directs_slots Message.direct_slots Message.content_slots Message.plan Message.message_of Message.written_tree Message.written Message.write_room Message.write_over Message.write_answer Message.write_out Message.message_sheet Message.fits_room Message.read_answer Message.read_out Cells.width Cells.chain Cells.below Cells.width_bytes Cells.chain_bytes Cells.below_bytes Cells.layout Cells.gather Cells.pack_bits
rules = refl

-- ---- rules of the writer
pub written_cases : List Case
written_cases =
    -- "An object is written with its chain of in-place contents behind it; then the objects that these refer to in walk order":
    -- the inner table at 32, its bytes at 44, its text at 45, and then the outer text at 57
    case (wrote nested nested_sheet)
    (0 ∷ rooted 12 (u48 12 ++ (u48 57 ++ (u48 45 ++ (u48 1 ++ (0x62 ∷ text 0x61 ++ text 0x63))))))
    -- "then zero bits to the byte end, nothing more"; "3 not lawful"
    ∷ case (wrote plain (0x40 ∷ 0x00 ∷ 0xC0 ∷ [])) (0 ∷ rooted 2 (3 ∷ 0 ∷ []))
    ∷ case (wrote plain (0x40 ∷ 0x00 ∷ 0xC1 ∷ [])) (11 ∷ [])
    ∷ case (wrote plain (0x40 ∷ 0x00 ∷ 0xC0 ∷ 0x00 ∷ [])) (11 ∷ [])
    ∷ case (wrote plain (0xC0 ∷ 0x00 ∷ 0xC0 ∷ [])) (11 ∷ [])
    ∷ []

-- THE CLAIM: each case gives what the paper says.
pub writes : map (λ c. c.given) written_cases ≡ map (λ c. c.expected) written_cases
unfolding written_cases answer wrote Lists.every Lists.run Bytes.le Bytes.le_bytes Bytes.bit_at Bytes.is_nan Bytes.no_float Bytes.largest Bytes.deepest Bytes.u48 Bytes.u32 Bytes.width_known Utf8.within Utf8.after_first Utf8.after_octet Utf8.may_end Utf8.text_from Utf8.is_text Schema.struct_of Schema.element_of Schema.cases_of Schema.table_of Schema.field_of Schema.case_of Schema.plain_bool Schema.member_of Structs.lower Structs.by_index Structs.flat_width Structs.total Structs.size_by Structs.struct_size Structs.flat_ok Structs.flats_ok Structs.ok_by Structs.struct_ok Packed.kind_at Packed.optional_at Packed.inplace_at Packed.zero_at Packed.argument_at Packed.width_of Packed.flat_of Packed.object_of Packed.kind_of Packed.flat_at Packed.object_at Packed.element_at Packed.member_at Packed.records Packed.record_place Packed.blocks Packed.struct_place Packed.list_place Packed.union_place Packed.table_place Packed.id_at Packed.records_at Packed.table_at Packed.parse Lawful.counts_ok Lawful.blocks_ok Lawful.places_ok Lawful.shape_ok Lawful.argument_ok Lawful.kind_ok Lawful.optional_ok Lawful.inplace_ok Lawful.flags_ok Lawful.record_ok Lawful.first_ok Lawful.records_ok Lawful.inplaces Lawful.direct_table Lawful.held_union Lawful.direct_ok Lawful.struct_lawful Lawful.list_lawful Lawful.union_lawful Lawful.table_lawful Lawful.id_differs Lawful.id_lawful Lawful.rules_ok Lawful.well_formed Lawful.older_member Lawful.older_element Lawful.older_union Lawful.older_table Lawful.older_ok Lawful.lawful Layout.flat_is_bool Layout.is_bool Layout.width Layout.flat_takes_flag Layout.takes_flag Layout.has_flag Layout.begin Layout.bit_byte Layout.bit_index Layout.after_bit Layout.after_bytes Layout.after_flag Layout.bit_slot Layout.slot_of Layout.after_value Layout.member_slot Layout.placement_of Layout.after_member Layout.after_members Layout.fixed_size Step.enum_step Step.float_step Step.struct_tested Step.place_of Step.object_step Step.union_step Step.flat_step Step.field_step Step.value_step Step.inside Step.flagged Step.placed_step Step.member_step Step.element_place Step.element_step Step.elements_size Walk.placed Walk.magic Walk.header_size Walk.element_id Walk.element_size Walk.most_elements Walk.start_size Walk.content_size Walk.content_length Walk.end_ok Walk.text_ok Walk.fit_content Walk.direct_header Walk.header_tested Walk.stands_in_place Walk.fit_object Walk.bytes_tested Walk.open_object Walk.refuse Walk.and_then Walk.refuse_part Walk.follow_choice Walk.follow Walk.members Walk.elements Walk.directs Walk.content Walk.enter Walk.with_content Walk.admit Walk.arrive Walk.too_deep Walk.one_more Walk.most_content Walk.counted Walk.visit Walk.root_place Walk.nothing Walk.walk Walk.verdict_of Walk.early Walk.size_ok Walk.start_ok Walk.verdict Value.as_number Value.as_blob Value.as_row Value.as_object Value.present Value.known Value.first Value.others Value.count Read.step_read Read.fields_read Read.read_by Read.struct_read Read.members_read Read.elements_read Read.directs_read Read.content_read Read.place_read Read.read Read.message_read Bits.bits_of Bits.bits Bits.value Bits.pack Bits.byte_count Bits.packed Bits.all_zero Sheet.mark_bits Sheet.flat_bits Sheet.field_bits Sheet.fields_bits Sheet.bits_by Sheet.struct_bits Sheet.body_bits Sheet.flat_unknown Sheet.unknown_width Sheet.part_bits Sheet.flat_unmarked Sheet.unmarked Sheet.element_bits Sheet.members_bits Sheet.elements_bits Sheet.directs_bits Sheet.blob_bits Sheet.content_bits Sheet.encode Sheet.sheet_bits Sheet.sheet_of Sheet.bind Sheet.take_number Sheet.take_bytes Sheet.take_value Sheet.take_if Sheet.take_mark Sheet.unknown_enum Sheet.take_unknown_enum Sheet.take_enum Sheet.take_flat Sheet.take_field Sheet.take_fields Sheet.take_by Sheet.take_struct Sheet.take_choice Sheet.take_body Sheet.take_unknown_flat Sheet.take_unknown Sheet.take_part Sheet.take_element Sheet.take_members Sheet.take_elements Sheet.take_directs Sheet.take_blob Sheet.take_content Sheet.decode Sheet.closed Sheet.tree_of Sheet.sheet_tree Message.length_of Message.flat_known Message.flats_known Message.known_by Message.struct_known Message.flat_writable Message.keeps_unions Message.value_writable Message.members_writable Message.elements_writable Message.directs_writable Message.content_writable Message.writable Message.number_or Message.flat_bytes Message.flats_bytes Message.bytes_by Message.struct_bytes Message.flat_slots Message.object_slots Message.refer_slots Message.value_slots Message.flag_of Message.member_slots Message.members_slots Message.elements_slots Message.directs_slots Message.direct_slots Message.content_slots Message.plan Message.message_of Message.written_tree Message.written Message.write_room Message.write_over Message.write_answer Message.write_out Message.message_sheet Message.fits_room Message.read_answer Message.read_out Cells.width Cells.chain Cells.below Cells.width_bytes Cells.chain_bytes Cells.below_bytes Cells.layout Cells.gather Cells.pack_bits
writes = refl
