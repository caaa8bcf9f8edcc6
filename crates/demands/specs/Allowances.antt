-- 02, K7, "A second allowance": cases worked out by hand. A verdict is shown as number, place, visits and content, and it is judged
-- with so many visits and so much content.
use Rattle.std.specs.Prelude.{◌≡◌, refl, List, [], ◌∷◌, ◌++◌, map, ℕ, take, set}
use Rattle.coding.specs.Lists as Lists
use Rattle.coding.specs.Bytes as Bytes
use Rattle.coding.specs.Utf8 as Utf8
use Rattle.coding.specs.Schema as Schema
use Rattle.coding.specs.Structs as Structs
use Rattle.coding.specs.Packed as Packed
use Rattle.coding.specs.Lawful as Lawful
use Rattle.coding.specs.Layout as Layout
use Rattle.coding.specs.Step as Step
use Rattle.coding.specs.Walk as Walk
use Rattle.coding.specs.Value as Value
use Rattle.coding.specs.Read as Read
use Rattle.coding.specs.Bits as Bits
use Rattle.coding.specs.Sheet as Sheet
use Rattle.coding.specs.Message as Message
use Rattle.coding.specs.declared.Verdict.{Verdict}
use Rattle.coding.specs.declared.ReadAnswer.{ReadAnswer}
use Rattle.demands.specs.Counter.{Case, N, M}
use Rattle.demands.specs.Traps.{table, u48, rooted, in_place, enum, case}
use Rattle.demands.specs.MovedCases.{schema, stored}

-- ---- schemas and messages, beside N and M, which has its root at 10 with a fixed part of 8 bytes, and a text of two bytes at 28
-- no member; a U16; two texts; a reference to the table itself
abbrev empty : List ℕ
empty = table 0 []

abbrev plain : List ℕ
plain = table 1 (0x10 ∷ 0 ∷ [])

abbrev texts : List ℕ
texts = table 2 (0x68 ∷ 0 ∷ 0x68 ∷ 0 ∷ [])

abbrev itself : List ℕ
itself = table 1 (0x80 ∷ 0 ∷ [])

-- both texts are the one at 32, of one byte
abbrev texts_message : List ℕ
texts_message = rooted 12 (u48 32 ++ (u48 32 ++ (0xF5 ∷ 0xC8 ∷ 0x12 ∷ 0xD8 ∷ u48 1 ++ (0x61 ∷ 0x00 ∷ []))))

-- a union of a text, in place
abbrev union : List ℕ
union = 0 ∷ 0 ∷ 1 ∷ 1 ∷ 0 ∷ 1 ∷ 0x68 ∷ 0 ∷ 0x4C ∷ 0x49 ∷ 0x43 ∷ 0x45 ∷ 1 ∷ 0x8A ∷ 0 ∷ []

-- a list of elements of a kind, at 26
abbrev listed : ℕ → List ℕ
listed kind = 0 ∷ 1 ∷ 0 ∷ 1 ∷ 0 ∷ kind ∷ 0 ∷ 0x4C ∷ 0x49 ∷ 0x43 ∷ 0x45 ∷ 1 ∷ 0x78 ∷ 0 ∷ []

abbrev list_message : ℕ → List ℕ → List ℕ
list_message n rest = rooted 6 (u48 26 ++ (0x46 ∷ 0xBB ∷ 0x00 ∷ 0x34 ∷ u48 n ++ rest))

-- N's message under the older coding: the root at 8 with a fixed part of 6 bytes, the text of two bytes at 22
abbrev older_message : List ℕ
older_message =
    0xB3 ∷ 0xC4 ∷ 0xC0 ∷ 0xB5 ∷ 8 ∷ 0 ∷ 0 ∷ 0 ∷ 0x45 ∷ 0x43 ∷ 0x49 ∷ 0x4C ∷ 6 ∷ 0 ∷ 0 ∷ 0 ∷ 3 ∷ 0 ∷ 22 ∷ 0 ∷ 0 ∷ 0
    ∷ 0xF5 ∷ 0xC8 ∷ 0x12 ∷ 0xD8 ∷ 2 ∷ 0 ∷ 0 ∷ 0 ∷ 0x61 ∷ 0x62 ∷ 0 ∷ []

-- a list of two absent texts under the older coding, at 20
abbrev older_list : List ℕ
older_list =
    0xB3 ∷ 0xC4 ∷ 0xC0 ∷ 0xB5 ∷ 8 ∷ 0 ∷ 0 ∷ 0 ∷ 0x45 ∷ 0x43 ∷ 0x49 ∷ 0x4C ∷ 4 ∷ 0 ∷ 0 ∷ 0 ∷ 20 ∷ 0 ∷ 0 ∷ 0
    ∷ 0x46 ∷ 0xBB ∷ 0x00 ∷ 0x34 ∷ 2 ∷ 0 ∷ 0 ∷ 0 ∷ 0 ∷ 0 ∷ 0 ∷ 0 ∷ 0 ∷ 0 ∷ 0 ∷ 0 ∷ []

-- ---- what the definitions give
told : Verdict → List ℕ
told v = v.number ∷ v.place ∷ v.visits ∷ v.content ∷ []

judged : List ℕ → List ℕ → ℕ → ℕ → List ℕ
judged b m n c = told (Walk.verdict Bytes.u48 b m (Walk.allowing n c))

judged_older : List ℕ → List ℕ → ℕ → ℕ → List ℕ
judged_older b m n c = told (Walk.verdict Bytes.u32 b m (Walk.allowing n c))

-- reading to a sheet, into an output: the verdict and the length
answered : ReadAnswer → List ℕ
answered a = told a.verdict ++ (a.length ∷ [])

answer : List ℕ → List ℕ → ℕ → ℕ → List ℕ → List ℕ
answer b m n c out = answered (Message.read_answer Bytes.u48 b m (Walk.allowing n c) out)

-- ---- how much, and how little
pub allowance_cases : List Case
allowance_cases =
    -- the fixed part of 8 and the text of 2 are 10; "text without its end byte"
    case (judged N M 2 10) (0 ∷ 0 ∷ 2 ∷ 10 ∷ [])
    ∷ case (judged N M 2 11) (0 ∷ 0 ∷ 2 ∷ 10 ∷ [])
    ∷ case (judged N M 2 Walk.most_content) (0 ∷ 0 ∷ 2 ∷ 10 ∷ [])
    -- one less: "17, exactly if the sum would pass the allowance, at the object"; "such an arrival counts as a visit but adds no
    -- content"
    ∷ case (judged N M 2 9) (17 ∷ 28 ∷ 2 ∷ 8 ∷ [])
    ∷ case (judged N M 2 8) (17 ∷ 28 ∷ 2 ∷ 8 ∷ [])
    ∷ case (judged N M 2 7) (17 ∷ 10 ∷ 1 ∷ 0 ∷ [])
    -- nothing is allowed: an empty fixed part adds nothing, and one of a byte is refused
    ∷ case (judged empty (rooted 0 []) 1 0) (0 ∷ 0 ∷ 1 ∷ 0 ∷ [])
    ∷ case (judged N (set M 14 0) 2 0) (0 ∷ 0 ∷ 1 ∷ 0 ∷ [])
    ∷ case (judged enum (rooted 1 (2 ∷ [])) 1 0) (17 ∷ 10 ∷ 1 ∷ 0 ∷ [])
    ∷ case (judged enum (rooted 1 (2 ∷ [])) 1 1) (0 ∷ 0 ∷ 1 ∷ 1 ∷ [])
    -- a fixed part as long as the message says, also where that is more than the schema knows
    ∷ case (judged plain (rooted 4 (3 ∷ 0 ∷ 9 ∷ 9 ∷ [])) 1 4) (0 ∷ 0 ∷ 1 ∷ 4 ∷ [])
    ∷ case (judged plain (rooted 4 (3 ∷ 0 ∷ 9 ∷ 9 ∷ [])) 1 3) (17 ∷ 10 ∷ 1 ∷ 0 ∷ [])
    -- "Each arrival": a shared text is charged each time
    ∷ case (judged texts texts_message 3 14) (0 ∷ 0 ∷ 3 ∷ 14 ∷ [])
    ∷ case (judged texts texts_message 3 13) (17 ∷ 32 ∷ 3 ∷ 13 ∷ [])
    -- in place too; an empty text adds nothing
    ∷ case (judged in_place (rooted 6 (u48 2 ++ (0x61 ∷ 0x62 ∷ 0x00 ∷ []))) 2 8) (0 ∷ 0 ∷ 2 ∷ 8 ∷ [])
    ∷ case (judged in_place (rooted 6 (u48 2 ++ (0x61 ∷ 0x62 ∷ 0x00 ∷ []))) 2 7) (17 ∷ 26 ∷ 2 ∷ 6 ∷ [])
    ∷ case (judged union (rooted 8 (1 ∷ 0 ∷ u48 0 ++ (0 ∷ []))) 2 8) (0 ∷ 0 ∷ 2 ∷ 8 ∷ [])
    -- "list element bytes": ten bools take two bytes, eight take one; two U16s take four, two offsets twelve
    ∷ case (judged (listed 0x00) (list_message 10 (0x0D ∷ 0x03 ∷ [])) 2 8) (0 ∷ 0 ∷ 2 ∷ 8 ∷ [])
    ∷ case (judged (listed 0x00) (list_message 10 (0x0D ∷ 0x03 ∷ [])) 2 7) (17 ∷ 26 ∷ 2 ∷ 6 ∷ [])
    ∷ case (judged (listed 0x00) (list_message 8 (0x0D ∷ [])) 2 7) (0 ∷ 0 ∷ 2 ∷ 7 ∷ [])
    ∷ case (judged (listed 0x10) (list_message 2 (3 ∷ 0 ∷ 4 ∷ 0 ∷ [])) 2 10) (0 ∷ 0 ∷ 2 ∷ 10 ∷ [])
    ∷ case (judged (listed 0x68) (list_message 2 (u48 0 ++ u48 0)) 2 18) (0 ∷ 0 ∷ 2 ∷ 18 ∷ [])
    ∷ case (judged (listed 0x68) (list_message 2 (u48 0 ++ u48 0)) 2 17) (17 ∷ 26 ∷ 2 ∷ 6 ∷ [])
    -- the message of the round trip's case: 58, 2, 24, 2, 7, 1 and, in place at 78, 7
    ∷ case (judged schema stored 7 101) (0 ∷ 0 ∷ 7 ∷ 101 ∷ [])
    ∷ case (judged schema stored 7 100) (17 ∷ 78 ∷ 7 ∷ 94 ∷ [])
    ∷ case (judged schema stored 6 101) (4 ∷ 78 ∷ 6 ∷ 94 ∷ [])
    -- under the older coding the fixed part has 6 bytes
    ∷ case (judged_older N older_message 2 8) (0 ∷ 0 ∷ 2 ∷ 8 ∷ [])
    ∷ case (judged_older N older_message 2 7) (17 ∷ 22 ∷ 2 ∷ 6 ∷ [])
    -- and two offsets take eight
    ∷ case (judged_older (listed 0x68) older_list 2 12) (0 ∷ 0 ∷ 2 ∷ 12 ∷ [])
    ∷ case (judged_older (listed 0x68) older_list 2 11) (17 ∷ 20 ∷ 2 ∷ 4 ∷ [])
    ∷ []

-- ---- what comes first
pub order_cases : List Case
order_cases =
    -- "after content fits": 6 and 7 before 17, and nothing is added
    case (judged N (take 40 M) 2 9) (6 ∷ 28 ∷ 2 ∷ 8 ∷ [])
    ∷ case (judged N (set M 28 0) 2 8) (7 ∷ 28 ∷ 2 ∷ 8 ∷ [])
    -- 4 before 17, and 5: a table that refers to itself, of 6 bytes each time
    ∷ case (judged N M 1 9) (4 ∷ 28 ∷ 1 ∷ 8 ∷ [])
    ∷ case (judged N M 0 0) (4 ∷ 10 ∷ 0 ∷ 0 ∷ [])
    ∷ case (judged itself (rooted 6 (u48 10)) 100 192) (5 ∷ 10 ∷ 33 ∷ 192 ∷ [])
    ∷ case (judged itself (rooted 6 (u48 10)) 100 191) (17 ∷ 10 ∷ 32 ∷ 186 ∷ [])
    -- "before its bytes are judged": 17 before a text's end byte, which is judged after its length is added; 17 before the members
    ∷ case (judged N (set M 40 1) 2 9) (17 ∷ 28 ∷ 2 ∷ 8 ∷ [])
    ∷ case (judged N (set M 40 1) 2 10) (10 ∷ 28 ∷ 2 ∷ 10 ∷ [])
    ∷ case (judged plain (rooted 1 (3 ∷ [])) 1 0) (17 ∷ 10 ∷ 1 ∷ 0 ∷ [])
    ∷ case (judged plain (rooted 1 (3 ∷ [])) 1 1) (8 ∷ 10 ∷ 1 ∷ 1 ∷ [])
    -- before the walk nothing is spent
    ∷ case (judged [] M 2 10) (1 ∷ 0 ∷ 0 ∷ 0 ∷ [])
    ∷ case (judged N [] 2 10) (2 ∷ 0 ∷ 0 ∷ 0 ∷ [])
    ∷ case (judged N (set M 0 0) 2 10) (3 ∷ 0 ∷ 0 ∷ 0 ∷ [])
    -- reading: the sheet has 9 bytes; 14 keeps both; 17 before 14
    ∷ case (answer N M 2 10 (0 ∷ 0 ∷ 0 ∷ 0 ∷ 0 ∷ 0 ∷ 0 ∷ 0 ∷ 0 ∷ [])) (0 ∷ 0 ∷ 2 ∷ 10 ∷ 9 ∷ [])
    ∷ case (answer N M 2 10 []) (14 ∷ 0 ∷ 2 ∷ 10 ∷ 0 ∷ [])
    ∷ case (answer N M 2 9 []) (17 ∷ 28 ∷ 2 ∷ 8 ∷ 0 ∷ [])
    ∷ []

-- THE CLAIM: each case gives what the paper says.
pub allowances : map (λ c. c.given) allowance_cases ≡ map (λ c. c.expected) allowance_cases
unfolding allowance_cases told judged judged_older Lists.every Lists.run Bytes.le Bytes.le_bytes Bytes.bit_at Bytes.is_nan Bytes.no_float Bytes.largest Bytes.deepest Bytes.u48 Bytes.u32 Bytes.width_known Utf8.within Utf8.after_first Utf8.after_octet Utf8.may_end Utf8.text_from Utf8.is_text Schema.struct_of Schema.element_of Schema.cases_of Schema.table_of Schema.field_of Schema.case_of Schema.plain_bool Schema.member_of Structs.lower Structs.by_index Structs.flat_width Structs.total Structs.size_by Structs.struct_size Structs.flat_ok Structs.flats_ok Structs.ok_by Structs.struct_ok Packed.kind_at Packed.optional_at Packed.inplace_at Packed.zero_at Packed.argument_at Packed.width_of Packed.flat_of Packed.object_of Packed.kind_of Packed.flat_at Packed.object_at Packed.element_at Packed.member_at Packed.records Packed.record_place Packed.blocks Packed.struct_place Packed.list_place Packed.union_place Packed.table_place Packed.id_at Packed.records_at Packed.table_at Packed.parse Lawful.counts_ok Lawful.blocks_ok Lawful.places_ok Lawful.shape_ok Lawful.argument_ok Lawful.kind_ok Lawful.optional_ok Lawful.inplace_ok Lawful.flags_ok Lawful.record_ok Lawful.first_ok Lawful.records_ok Lawful.inplaces Lawful.direct_table Lawful.held_union Lawful.direct_ok Lawful.struct_lawful Lawful.list_lawful Lawful.union_lawful Lawful.table_lawful Lawful.id_differs Lawful.id_lawful Lawful.rules_ok Lawful.well_formed Lawful.older_member Lawful.older_element Lawful.older_union Lawful.older_table Lawful.older_ok Lawful.lawful Layout.flat_is_bool Layout.is_bool Layout.width Layout.flat_takes_flag Layout.takes_flag Layout.has_flag Layout.begin Layout.bit_byte Layout.bit_index Layout.after_bit Layout.after_bytes Layout.after_flag Layout.bit_slot Layout.slot_of Layout.after_value Layout.member_slot Layout.placement_of Layout.after_member Layout.after_members Layout.fixed_size Step.enum_step Step.float_step Step.struct_tested Step.place_of Step.object_step Step.union_step Step.flat_step Step.field_step Step.value_step Step.inside Step.flagged Step.placed_step Step.member_step Step.element_place Step.element_step Step.elements_size Walk.placed Walk.magic Walk.header_size Walk.element_id Walk.element_size Walk.most_elements Walk.start_size Walk.content_size Walk.content_length Walk.end_ok Walk.text_ok Walk.fit_content Walk.direct_header Walk.header_tested Walk.stands_in_place Walk.fit_object Walk.bytes_tested Walk.open_object Walk.refuse Walk.and_then Walk.refuse_part Walk.follow_choice Walk.follow Walk.members Walk.elements Walk.directs Walk.content Walk.enter Walk.with_content Walk.admit Walk.arrive Walk.too_deep Walk.one_more Walk.most_content Walk.counted Walk.visit Walk.root_place Walk.nothing Walk.walk Walk.verdict_of Walk.early Walk.size_ok Walk.start_ok Walk.verdict
allowances = refl

pub orders : map (λ c. c.given) order_cases ≡ map (λ c. c.expected) order_cases
unfolding order_cases told judged answered answer Lists.every Lists.run Bytes.le Bytes.le_bytes Bytes.bit_at Bytes.is_nan Bytes.no_float Bytes.largest Bytes.deepest Bytes.u48 Bytes.u32 Bytes.width_known Utf8.within Utf8.after_first Utf8.after_octet Utf8.may_end Utf8.text_from Utf8.is_text Schema.struct_of Schema.element_of Schema.cases_of Schema.table_of Schema.field_of Schema.case_of Schema.plain_bool Schema.member_of Structs.lower Structs.by_index Structs.flat_width Structs.total Structs.size_by Structs.struct_size Structs.flat_ok Structs.flats_ok Structs.ok_by Structs.struct_ok Packed.kind_at Packed.optional_at Packed.inplace_at Packed.zero_at Packed.argument_at Packed.width_of Packed.flat_of Packed.object_of Packed.kind_of Packed.flat_at Packed.object_at Packed.element_at Packed.member_at Packed.records Packed.record_place Packed.blocks Packed.struct_place Packed.list_place Packed.union_place Packed.table_place Packed.id_at Packed.records_at Packed.table_at Packed.parse Lawful.counts_ok Lawful.blocks_ok Lawful.places_ok Lawful.shape_ok Lawful.argument_ok Lawful.kind_ok Lawful.optional_ok Lawful.inplace_ok Lawful.flags_ok Lawful.record_ok Lawful.first_ok Lawful.records_ok Lawful.inplaces Lawful.direct_table Lawful.held_union Lawful.direct_ok Lawful.struct_lawful Lawful.list_lawful Lawful.union_lawful Lawful.table_lawful Lawful.id_differs Lawful.id_lawful Lawful.rules_ok Lawful.well_formed Lawful.older_member Lawful.older_element Lawful.older_union Lawful.older_table Lawful.older_ok Lawful.lawful Layout.flat_is_bool Layout.is_bool Layout.width Layout.flat_takes_flag Layout.takes_flag Layout.has_flag Layout.begin Layout.bit_byte Layout.bit_index Layout.after_bit Layout.after_bytes Layout.after_flag Layout.bit_slot Layout.slot_of Layout.after_value Layout.member_slot Layout.placement_of Layout.after_member Layout.after_members Layout.fixed_size Step.enum_step Step.float_step Step.struct_tested Step.place_of Step.object_step Step.union_step Step.flat_step Step.field_step Step.value_step Step.inside Step.flagged Step.placed_step Step.member_step Step.element_place Step.element_step Step.elements_size Walk.placed Walk.magic Walk.header_size Walk.element_id Walk.element_size Walk.most_elements Walk.start_size Walk.content_size Walk.content_length Walk.end_ok Walk.text_ok Walk.fit_content Walk.direct_header Walk.header_tested Walk.stands_in_place Walk.fit_object Walk.bytes_tested Walk.open_object Walk.refuse Walk.and_then Walk.refuse_part Walk.follow_choice Walk.follow Walk.members Walk.elements Walk.directs Walk.content Walk.enter Walk.with_content Walk.admit Walk.arrive Walk.too_deep Walk.one_more Walk.most_content Walk.counted Walk.visit Walk.root_place Walk.nothing Walk.walk Walk.verdict_of Walk.early Walk.size_ok Walk.start_ok Walk.verdict Value.as_number Value.as_blob Value.as_row Value.as_object Value.present Value.known Value.first Value.others Value.count Read.step_read Read.fields_read Read.read_by Read.struct_read Read.members_read Read.elements_read Read.directs_read Read.content_read Read.place_read Read.read Read.message_read Bits.bits_of Bits.bits Bits.value Bits.pack Bits.byte_count Bits.packed Bits.all_zero Sheet.mark_bits Sheet.flat_bits Sheet.field_bits Sheet.fields_bits Sheet.bits_by Sheet.struct_bits Sheet.body_bits Sheet.flat_unknown Sheet.unknown_width Sheet.part_bits Sheet.flat_unmarked Sheet.unmarked Sheet.element_bits Sheet.members_bits Sheet.elements_bits Sheet.directs_bits Sheet.blob_bits Sheet.content_bits Sheet.encode Sheet.sheet_bits Sheet.sheet_of Sheet.bind Sheet.take_number Sheet.take_bytes Sheet.take_value Sheet.take_if Sheet.take_mark Sheet.unknown_enum Sheet.take_unknown_enum Sheet.take_enum Sheet.take_flat Sheet.take_field Sheet.take_fields Sheet.take_by Sheet.take_struct Sheet.take_choice Sheet.take_body Sheet.take_unknown_flat Sheet.take_unknown Sheet.take_part Sheet.take_element Sheet.take_members Sheet.take_elements Sheet.take_directs Sheet.take_blob Sheet.take_content Sheet.decode Sheet.closed Sheet.tree_of Sheet.sheet_tree Message.length_of Message.flat_known Message.flats_known Message.known_by Message.struct_known Message.flat_writable Message.keeps_unions Message.value_writable Message.members_writable Message.elements_writable Message.directs_writable Message.content_writable Message.writable Message.number_or Message.flat_bytes Message.flats_bytes Message.bytes_by Message.struct_bytes Message.flat_slots Message.object_slots Message.refer_slots Message.value_slots Message.flag_of Message.member_slots Message.members_slots Message.elements_slots Message.directs_slots Message.direct_slots Message.content_slots Message.plan Message.message_of Message.written_tree Message.written Message.write_room Message.write_over Message.write_answer Message.write_out Message.message_sheet Message.fits_room Message.read_answer Message.read_out
orders = refl
