-- "Seats at the counter": the twelve cases of paper 01 that are marked for proof, in a single table under one claim.
use Rattle.std.specs.Prelude.{◌≡◌, refl, List, [], ◌∷◌, map, ℕ, take, set, eqb}
use Rattle.coding.specs.Lists as Lists
use Rattle.coding.specs.Bytes as Bytes
use Rattle.coding.specs.Utf8 as Utf8
use Rattle.coding.specs.Schema as Schema
use Rattle.coding.specs.Structs as Structs
use Rattle.coding.specs.Packed as Packed
use Rattle.coding.specs.Lawful as Lawful
use Rattle.coding.specs.Layout as Layout
use Rattle.coding.specs.Step as Step
use Rattle.coding.specs.Walk as Walk
use Rattle.coding.specs.Value as Value
use Rattle.coding.specs.Read as Read
use Rattle.coding.specs.Bits as Bits
use Rattle.coding.specs.Sheet as Sheet
use Rattle.coding.specs.Message as Message
use Rattle.coding.specs.declared.Verdict.{Verdict}

-- "O is 00 00 00 01 00 4C 49 43 45 01 10 00; N is 00 00 00 01 00 4C 49 43 45 02 10 00 68 00."
abbrev pub O : List ℕ
O = 0x00 ∷ 0x00 ∷ 0x00 ∷ 0x01 ∷ 0x00 ∷ 0x4C ∷ 0x49 ∷ 0x43 ∷ 0x45 ∷ 0x01 ∷ 0x10 ∷ 0x00 ∷ []

abbrev pub N : List ℕ
N = 0x00 ∷ 0x00 ∷ 0x00 ∷ 0x01 ∷ 0x00 ∷ 0x4C ∷ 0x49 ∷ 0x43 ∷ 0x45 ∷ 0x02 ∷ 0x10 ∷ 0x00 ∷ 0x68 ∷ 0x00 ∷ []

-- "M, 41 bytes: B3 C4 C0 B5 0A 00 00 00 00 00 45 43 49 4C 08 00 00 00 00 00 03 00 1C 00 00 00 00 00 F5 C8 12 D8 02 00 00
-- 00 00 00 61 62 00."
abbrev pub M : List ℕ
M =
    0xB3 ∷ 0xC4 ∷ 0xC0 ∷ 0xB5 ∷ 0x0A ∷ 0x00 ∷ 0x00 ∷ 0x00 ∷ 0x00 ∷ 0x00 ∷ 0x45 ∷ 0x43 ∷ 0x49 ∷ 0x4C ∷ 0x08 ∷ 0x00 ∷ 0x00 ∷ 0x00 ∷ 0x00 ∷ 0x00
    ∷ 0x03 ∷ 0x00 ∷ 0x1C ∷ 0x00 ∷ 0x00 ∷ 0x00 ∷ 0x00 ∷ 0x00 ∷ 0xF5 ∷ 0xC8 ∷ 0x12 ∷ 0xD8 ∷ 0x02 ∷ 0x00 ∷ 0x00 ∷ 0x00 ∷ 0x00 ∷ 0x00 ∷ 0x61 ∷ 0x62
    ∷ 0x00 ∷ []

-- seven bools and then an optional bool
abbrev pub B : List ℕ
B =
    0x00 ∷ 0x00 ∷ 0x00 ∷ 0x01 ∷ 0x00 ∷ 0x4C ∷ 0x49 ∷ 0x43 ∷ 0x45 ∷ 0x08 ∷ 0x00 ∷ 0x00 ∷ 0x00 ∷ 0x00 ∷ 0x00 ∷ 0x00 ∷ 0x00 ∷ 0x00 ∷ 0x00 ∷ 0x00
    ∷ 0x00 ∷ 0x00 ∷ 0x00 ∷ 0x00 ∷ 0x04 ∷ 0x00 ∷ []

-- number, place and visits of the verdict; and behind them, where the message is accepted, the bytes of its sheet
outcome : Verdict → List ℕ → List ℕ
outcome v sheet = v.number ∷ v.place ∷ v.visits ∷ Lists.pick (eqb v.number 0) sheet []

-- 02, K7: "the counter's cases and the desk program hand in the largest content allowance"
judged : List ℕ → List ℕ → ℕ → List ℕ
judged b m n = outcome (Walk.verdict Bytes.u48 b m (Walk.allowing n Walk.most_content)) (Message.message_sheet Bytes.u48 b m)

-- byte and bit of the flag of a schema's member j in the root table, and byte and bit of its value
slots : List ℕ → ℕ → List ℕ
slots b j =
    let S = Packed.parse b in
    let t = S.root in
    let c = Layout.after_members Bytes.u48 S (take j (Schema.table_of S t).members) Layout.begin in
    let slot = Layout.member_slot Bytes.u48 S (Schema.member_of S t j) c in
    Layout.bit_byte c ∷ Layout.bit_index c ∷ slot.at ∷ slot.bit ∷ []

-- a case: what the definitions give, and what the paper says
pub record Case : Type 0 where
  pub given : List ℕ
  pub expected : List ℕ

abbrev case : List ℕ → List ℕ → Case
case g e = record { given = g; expected = e }

pub cases : List Case
cases =
    -- "1. M by N, budget 2: 0 0 2, sheet 40 00 D0 00 00 00 26 16 20."
    case (judged N M 2) (0 ∷ 0 ∷ 2 ∷ 0x40 ∷ 0x00 ∷ 0xD0 ∷ 0x00 ∷ 0x00 ∷ 0x00 ∷ 0x26 ∷ 0x16 ∷ 0x20 ∷ [])
    -- "2. Budget 1: 4 28 1. 3. Budget 0: 4 10 0."
    ∷ case (judged N M 1) (4 ∷ 28 ∷ 1 ∷ [])
    ∷ case (judged N M 0) (4 ∷ 10 ∷ 0 ∷ [])
    -- "4. M by O, budget 1: 0 0 1, sheet 40 00 C0."
    ∷ case (judged O M 1) (0 ∷ 0 ∷ 1 ∷ 0x40 ∷ 0x00 ∷ 0xC0 ∷ [])
    -- "5. Table length 5: 8 10 1. 6. Length 2: text absent. 7. Length 0: both absent."
    ∷ case (judged N (set M 14 5) 2) (8 ∷ 10 ∷ 1 ∷ [])
    ∷ case (judged N (set M 14 2) 2) (0 ∷ 0 ∷ 1 ∷ 0x40 ∷ 0x00 ∷ 0xC0 ∷ [])
    ∷ case (judged N (set M 14 0) 2) (0 ∷ 0 ∷ 1 ∷ 0x00 ∷ [])
    -- "8. Last byte 01: 10 28 2. 9. M less its last byte: 6 28 2."
    ∷ case (judged N (set M 40 1) 2) (10 ∷ 28 ∷ 2 ∷ [])
    ∷ case (judged N (take 40 M) 2) (6 ∷ 28 ∷ 2 ∷ [])
    -- "10. Empty message: 2 0 0. 11. Text offset 9: 6 9 2."
    ∷ case (judged N [] 2) (2 ∷ 0 ∷ 0 ∷ [])
    ∷ case (judged N (set M 22 9) 2) (6 ∷ 9 ∷ 2 ∷ [])
    -- "12. Bools 7 then an optional bool: flag bit 7 of byte 0, value bit 0 of byte 1."
    ∷ case (slots B 7) (0 ∷ 7 ∷ 1 ∷ 0 ∷ [])
    ∷ []

-- THE CLAIM: each case gives what the paper says.
pub counter : map (λ c. c.given) cases ≡ map (λ c. c.expected) cases
unfolding cases judged outcome slots Lists.every Lists.run Bytes.le Bytes.le_bytes Bytes.bit_at Bytes.is_nan Bytes.no_float Bytes.largest Bytes.deepest Bytes.u48 Bytes.u32 Bytes.width_known Utf8.within Utf8.after_first Utf8.after_octet Utf8.may_end Utf8.text_from Utf8.is_text Schema.struct_of Schema.element_of Schema.cases_of Schema.table_of Schema.field_of Schema.case_of Schema.plain_bool Schema.member_of Structs.lower Structs.by_index Structs.flat_width Structs.total Structs.size_by Structs.struct_size Structs.flat_ok Structs.flats_ok Structs.ok_by Structs.struct_ok Packed.kind_at Packed.optional_at Packed.inplace_at Packed.zero_at Packed.argument_at Packed.width_of Packed.flat_of Packed.object_of Packed.kind_of Packed.flat_at Packed.object_at Packed.element_at Packed.member_at Packed.records Packed.record_place Packed.blocks Packed.struct_place Packed.list_place Packed.union_place Packed.table_place Packed.id_at Packed.records_at Packed.table_at Packed.parse Lawful.counts_ok Lawful.blocks_ok Lawful.places_ok Lawful.shape_ok Lawful.argument_ok Lawful.kind_ok Lawful.optional_ok Lawful.inplace_ok Lawful.flags_ok Lawful.record_ok Lawful.first_ok Lawful.records_ok Lawful.inplaces Lawful.direct_table Lawful.held_union Lawful.direct_ok Lawful.struct_lawful Lawful.list_lawful Lawful.union_lawful Lawful.table_lawful Lawful.id_differs Lawful.id_lawful Lawful.rules_ok Lawful.well_formed Lawful.older_member Lawful.older_element Lawful.older_union Lawful.older_table Lawful.older_ok Lawful.lawful Layout.flat_is_bool Layout.is_bool Layout.width Layout.flat_takes_flag Layout.takes_flag Layout.has_flag Layout.begin Layout.bit_byte Layout.bit_index Layout.after_bit Layout.after_bytes Layout.after_flag Layout.bit_slot Layout.slot_of Layout.after_value Layout.member_slot Layout.placement_of Layout.after_member Layout.after_members Layout.fixed_size Step.enum_step Step.float_step Step.struct_tested Step.place_of Step.object_step Step.union_step Step.flat_step Step.field_step Step.value_step Step.inside Step.flagged Step.placed_step Step.member_step Step.element_place Step.element_step Step.elements_size Walk.placed Walk.magic Walk.header_size Walk.element_id Walk.element_size Walk.most_elements Walk.start_size Walk.content_size Walk.content_length Walk.end_ok Walk.text_ok Walk.fit_content Walk.direct_header Walk.header_tested Walk.stands_in_place Walk.fit_object Walk.bytes_tested Walk.open_object Walk.refuse Walk.and_then Walk.refuse_part Walk.follow_choice Walk.follow Walk.members Walk.elements Walk.directs Walk.content Walk.enter Walk.with_content Walk.admit Walk.arrive Walk.too_deep Walk.one_more Walk.most_content Walk.counted Walk.visit Walk.root_place Walk.nothing Walk.walk Walk.verdict_of Walk.early Walk.size_ok Walk.start_ok Walk.verdict Value.as_number Value.as_blob Value.as_row Value.as_object Value.present Value.known Value.first Value.others Value.count Read.step_read Read.fields_read Read.read_by Read.struct_read Read.members_read Read.elements_read Read.directs_read Read.content_read Read.place_read Read.read Read.message_read Bits.bits_of Bits.bits Bits.value Bits.pack Bits.byte_count Bits.packed Bits.all_zero Sheet.mark_bits Sheet.flat_bits Sheet.field_bits Sheet.fields_bits Sheet.bits_by Sheet.struct_bits Sheet.body_bits Sheet.flat_unknown Sheet.unknown_width Sheet.part_bits Sheet.flat_unmarked Sheet.unmarked Sheet.element_bits Sheet.members_bits Sheet.elements_bits Sheet.directs_bits Sheet.blob_bits Sheet.content_bits Sheet.encode Sheet.sheet_bits Sheet.sheet_of Sheet.bind Sheet.take_number Sheet.take_bytes Sheet.take_value Sheet.take_if Sheet.take_mark Sheet.unknown_enum Sheet.take_unknown_enum Sheet.take_enum Sheet.take_flat Sheet.take_field Sheet.take_fields Sheet.take_by Sheet.take_struct Sheet.take_choice Sheet.take_body Sheet.take_unknown_flat Sheet.take_unknown Sheet.take_part Sheet.take_element Sheet.take_members Sheet.take_elements Sheet.take_directs Sheet.take_blob Sheet.take_content Sheet.decode Sheet.closed Sheet.tree_of Sheet.sheet_tree Message.length_of Message.flat_known Message.flats_known Message.known_by Message.struct_known Message.flat_writable Message.keeps_unions Message.value_writable Message.members_writable Message.elements_writable Message.directs_writable Message.content_writable Message.writable Message.number_or Message.flat_bytes Message.flats_bytes Message.bytes_by Message.struct_bytes Message.flat_slots Message.object_slots Message.refer_slots Message.value_slots Message.flag_of Message.member_slots Message.members_slots Message.elements_slots Message.directs_slots Message.direct_slots Message.content_slots Message.plan Message.message_of Message.written_tree Message.written Message.write_room Message.write_over Message.write_answer Message.write_out Message.message_sheet Message.fits_room Message.read_answer Message.read_out
counter = refl
