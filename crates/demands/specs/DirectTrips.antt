-- What the theorems say of a written message, of an older and of a newer reader, at schemas with a direct list: each holds there of
-- something, and comes to the bytes that were worked out by hand.
use Rattle.std.specs.Prelude.{◌≡◌, refl, List, [], ◌∷◌, true, false, ℕ, ◌<◌, get_or, take}
use Rattle.std.proofs.Common.{ap, ◌∙◌, arith}
use Rattle.coding.specs.Lists as Lists
use Rattle.coding.specs.Bytes as Bytes
use Rattle.coding.specs.Utf8 as Utf8
use Rattle.coding.specs.Schema as Schema
use Rattle.coding.specs.Structs as Structs
use Rattle.coding.specs.Packed as Packed
use Rattle.coding.specs.Lawful as Lawful
use Rattle.coding.specs.Layout as Layout
use Rattle.coding.specs.Step as Step
use Rattle.coding.specs.Walk as Walk
use Rattle.coding.specs.Value as Value
use Rattle.coding.specs.Read as Read
use Rattle.coding.specs.Bits as Bits
use Rattle.coding.specs.Sheet as Sheet
use Rattle.coding.specs.Cells as Cells
use Rattle.coding.specs.Message as Message
use Rattle.coding.specs.Field as Field
use Rattle.coding.specs.Append as Append
use Rattle.coding.specs.Append.{rest, more, boolean, integer, flat, object, Appends, SchemaAppends}
use Rattle.coding.specs.declared.Object.TheVariants as Ob
use Rattle.coding.specs.declared.Place.TheVariants.{InPlace}
use Rattle.coding.specs.declared.Found.TheVariants as Fd
use Rattle.coding.specs.declared.Budget.{Budget}
use Rattle.coding.specs.declared.Spent.{Spent}
use Rattle.coding.specs.declared.Verdict.{Verdict}
use Rattle.demands.specs.InTurn as InTurn
use Rattle.demands.specs.TreeLengths as TreeLengths
use Rattle.demands.specs.RoundTrip.{option_lengths, sheet_lengths, enough, written-verdict, written-sheet, written_few_visits}
use Rattle.demands.specs.Appending.{OlderAgrees, older_agrees}
use Rattle.demands.specs.AppendingCases.{bytes}
use Rattle.demands.specs.NewerAgrees.{NewerAgrees, newer_agrees}
use Rattle.demands.specs.Arrivals.{part_count, member_at, direct_at, part_step, by_reference, Arrives, root, below, LawfulObject, LawfulMessage}
use Rattle.demands.specs.Reached.{accepted-exactly}
use Rattle.demands.specs.FieldEntries as E
use Rattle.demands.specs.FieldEntries.{Entry, shown}
use Rattle.demands.specs.Fields.{tree_entry, sheet_entry, sheet_entry_lem}
use Rattle.demands.specs.ListReader.{gives_path}
use Rattle.demands.specs.DirectLists.{tables, listed}

-- a direct list of a bool and a U16; the newer's table has a bool and a U8 more
abbrev pub older : List ℕ
older = tables 0x90 2 (0x00 ∷ 0 ∷ 0x10 ∷ 0 ∷ [])

abbrev pub newer : List ℕ
newer = tables 0x90 4 (0x00 ∷ 0 ∷ 0x10 ∷ 0 ∷ 0x00 ∷ 0 ∷ 0x08 ∷ 0 ∷ [])

-- two elements: true and 3, false and 5
abbrev pub sheet : List ℕ
sheet = 0x40 ∷ 0x00 ∷ 0x00 ∷ 0x00 ∷ 0x9A ∷ 0x00 ∷ 0x06 ∷ 0x90 ∷ 0x00 ∷ 0x50 ∷ []

-- each of 3 bytes, the bool's byte and the U16
abbrev pub message : List ℕ
message = listed 2 3 (1 ∷ 3 ∷ 0 ∷ 0 ∷ 5 ∷ 0 ∷ [])

-- ---- the round trip
pub made : Message.written Bytes.u48 older sheet ≡ Message.message message
unfolding Lists.every Lists.run Bytes.le Bytes.le_bytes Bytes.bit_at Bytes.is_nan Bytes.no_float Bytes.largest Bytes.deepest Bytes.u48 Bytes.u32 Bytes.width_known Utf8.within Utf8.after_first Utf8.after_octet Utf8.may_end Utf8.text_from Utf8.is_text Schema.struct_of Schema.element_of Schema.cases_of Schema.table_of Schema.field_of Schema.case_of Schema.plain_bool Schema.member_of Structs.lower Structs.by_index Structs.flat_width Structs.total Structs.size_by Structs.struct_size Structs.flat_ok Structs.flats_ok Structs.ok_by Structs.struct_ok Packed.kind_at Packed.optional_at Packed.inplace_at Packed.zero_at Packed.argument_at Packed.width_of Packed.flat_of Packed.object_of Packed.kind_of Packed.flat_at Packed.object_at Packed.element_at Packed.member_at Packed.records Packed.record_place Packed.blocks Packed.struct_place Packed.list_place Packed.union_place Packed.table_place Packed.id_at Packed.records_at Packed.table_at Packed.parse Lawful.counts_ok Lawful.blocks_ok Lawful.places_ok Lawful.shape_ok Lawful.argument_ok Lawful.kind_ok Lawful.optional_ok Lawful.inplace_ok Lawful.flags_ok Lawful.record_ok Lawful.first_ok Lawful.records_ok Lawful.inplaces Lawful.direct_table Lawful.held_union Lawful.direct_ok Lawful.struct_lawful Lawful.list_lawful Lawful.union_lawful Lawful.table_lawful Lawful.id_differs Lawful.id_lawful Lawful.rules_ok Lawful.well_formed Lawful.older_member Lawful.older_element Lawful.older_union Lawful.older_table Lawful.older_ok Lawful.lawful Layout.flat_is_bool Layout.is_bool Layout.width Layout.flat_takes_flag Layout.takes_flag Layout.has_flag Layout.begin Layout.bit_byte Layout.bit_index Layout.after_bit Layout.after_bytes Layout.after_flag Layout.bit_slot Layout.slot_of Layout.after_value Layout.member_slot Layout.placement_of Layout.after_member Layout.after_members Layout.fixed_size Step.enum_step Step.float_step Step.struct_tested Step.place_of Step.object_step Step.union_step Step.flat_step Step.field_step Step.value_step Step.inside Step.flagged Step.placed_step Step.member_step Step.element_place Step.element_step Step.elements_size Walk.placed Walk.magic Walk.header_size Walk.element_id Walk.element_size Walk.most_elements Walk.start_size Walk.content_size Walk.content_length Walk.end_ok Walk.text_ok Walk.fit_content Walk.direct_header Walk.header_tested Walk.stands_in_place Walk.fit_object Walk.bytes_tested Walk.open_object Walk.refuse Walk.and_then Walk.refuse_part Walk.follow_choice Walk.follow Walk.members Walk.elements Walk.directs Walk.content Walk.enter Walk.with_content Walk.admit Walk.arrive Walk.too_deep Walk.one_more Walk.most_content Walk.counted Walk.visit Walk.root_place Walk.nothing Walk.walk Walk.verdict_of Walk.early Walk.size_ok Walk.start_ok Walk.verdict Value.as_number Value.as_blob Value.as_row Value.as_object Value.present Value.known Value.first Value.others Value.count Read.step_read Read.fields_read Read.read_by Read.struct_read Read.members_read Read.elements_read Read.directs_read Read.content_read Read.place_read Read.read Read.message_read Bits.bits_of Bits.bits Bits.value Bits.pack Bits.byte_count Bits.packed Bits.all_zero Sheet.mark_bits Sheet.flat_bits Sheet.field_bits Sheet.fields_bits Sheet.bits_by Sheet.struct_bits Sheet.body_bits Sheet.flat_unknown Sheet.unknown_width Sheet.part_bits Sheet.flat_unmarked Sheet.unmarked Sheet.element_bits Sheet.members_bits Sheet.elements_bits Sheet.directs_bits Sheet.blob_bits Sheet.content_bits Sheet.encode Sheet.sheet_bits Sheet.sheet_of Sheet.bind Sheet.take_number Sheet.take_bytes Sheet.take_value Sheet.take_if Sheet.take_mark Sheet.unknown_enum Sheet.take_unknown_enum Sheet.take_enum Sheet.take_flat Sheet.take_field Sheet.take_fields Sheet.take_by Sheet.take_struct Sheet.take_choice Sheet.take_body Sheet.take_unknown_flat Sheet.take_unknown Sheet.take_part Sheet.take_element Sheet.take_members Sheet.take_elements Sheet.take_directs Sheet.take_blob Sheet.take_content Sheet.decode Sheet.closed Sheet.tree_of Sheet.sheet_tree Cells.width Cells.chain Cells.below Cells.width_bytes Cells.chain_bytes Cells.below_bytes Cells.layout Cells.gather Cells.pack_bits Message.length_of Message.flat_known Message.flats_known Message.known_by Message.struct_known Message.flat_writable Message.keeps_unions Message.value_writable Message.members_writable Message.elements_writable Message.directs_writable Message.content_writable Message.writable Message.number_or Message.flat_bytes Message.flats_bytes Message.bytes_by Message.struct_bytes Message.flat_slots Message.object_slots Message.refer_slots Message.value_slots Message.flag_of Message.member_slots Message.members_slots Message.elements_slots Message.directs_slots Message.direct_slots Message.content_slots Message.plan Message.message_of Message.written_tree Message.written Message.write_room Message.write_over Message.write_answer Message.write_out Message.message_sheet Message.fits_room Message.read_answer Message.read_out
made = refl

-- the root's fixed part, the direct list, which adds nothing, and its two elements
pub lengths : sheet_lengths Bytes.u48 older sheet ≡ 6 ∷ 0 ∷ 3 ∷ 3 ∷ []
unfolding sheet_lengths option_lengths TreeLengths.part_lengths TreeLengths.members_lengths TreeLengths.elements_lengths TreeLengths.directs_lengths TreeLengths.parts_lengths TreeLengths.tree_lengths Lists.every Lists.run Bytes.le Bytes.le_bytes Bytes.bit_at Bytes.is_nan Bytes.no_float Bytes.largest Bytes.deepest Bytes.u48 Bytes.u32 Bytes.width_known Utf8.within Utf8.after_first Utf8.after_octet Utf8.may_end Utf8.text_from Utf8.is_text Schema.struct_of Schema.element_of Schema.cases_of Schema.table_of Schema.field_of Schema.case_of Schema.plain_bool Schema.member_of Structs.lower Structs.by_index Structs.flat_width Structs.total Structs.size_by Structs.struct_size Structs.flat_ok Structs.flats_ok Structs.ok_by Structs.struct_ok Packed.kind_at Packed.optional_at Packed.inplace_at Packed.zero_at Packed.argument_at Packed.width_of Packed.flat_of Packed.object_of Packed.kind_of Packed.flat_at Packed.object_at Packed.element_at Packed.member_at Packed.records Packed.record_place Packed.blocks Packed.struct_place Packed.list_place Packed.union_place Packed.table_place Packed.id_at Packed.records_at Packed.table_at Packed.parse Lawful.counts_ok Lawful.blocks_ok Lawful.places_ok Lawful.shape_ok Lawful.argument_ok Lawful.kind_ok Lawful.optional_ok Lawful.inplace_ok Lawful.flags_ok Lawful.record_ok Lawful.first_ok Lawful.records_ok Lawful.inplaces Lawful.direct_table Lawful.held_union Lawful.direct_ok Lawful.struct_lawful Lawful.list_lawful Lawful.union_lawful Lawful.table_lawful Lawful.id_differs Lawful.id_lawful Lawful.rules_ok Lawful.well_formed Lawful.older_member Lawful.older_element Lawful.older_union Lawful.older_table Lawful.older_ok Lawful.lawful Layout.flat_is_bool Layout.is_bool Layout.width Layout.flat_takes_flag Layout.takes_flag Layout.has_flag Layout.begin Layout.bit_byte Layout.bit_index Layout.after_bit Layout.after_bytes Layout.after_flag Layout.bit_slot Layout.slot_of Layout.after_value Layout.member_slot Layout.placement_of Layout.after_member Layout.after_members Layout.fixed_size Step.enum_step Step.float_step Step.struct_tested Step.place_of Step.object_step Step.union_step Step.flat_step Step.field_step Step.value_step Step.inside Step.flagged Step.placed_step Step.member_step Step.element_place Step.element_step Step.elements_size Walk.placed Walk.magic Walk.header_size Walk.element_id Walk.element_size Walk.most_elements Walk.start_size Walk.content_size Walk.content_length Walk.end_ok Walk.text_ok Walk.fit_content Walk.direct_header Walk.header_tested Walk.stands_in_place Walk.fit_object Walk.bytes_tested Walk.open_object Walk.refuse Walk.and_then Walk.refuse_part Walk.follow_choice Walk.follow Walk.members Walk.elements Walk.directs Walk.content Walk.enter Walk.with_content Walk.admit Walk.arrive Walk.too_deep Walk.one_more Walk.most_content Walk.counted Walk.visit Walk.root_place Walk.nothing Walk.walk Walk.verdict_of Walk.early Walk.size_ok Walk.start_ok Walk.verdict Value.as_number Value.as_blob Value.as_row Value.as_object Value.present Value.known Value.first Value.others Value.count Read.step_read Read.fields_read Read.read_by Read.struct_read Read.members_read Read.elements_read Read.directs_read Read.content_read Read.place_read Read.read Read.message_read Bits.bits_of Bits.bits Bits.value Bits.pack Bits.byte_count Bits.packed Bits.all_zero Sheet.mark_bits Sheet.flat_bits Sheet.field_bits Sheet.fields_bits Sheet.bits_by Sheet.struct_bits Sheet.body_bits Sheet.flat_unknown Sheet.unknown_width Sheet.part_bits Sheet.flat_unmarked Sheet.unmarked Sheet.element_bits Sheet.members_bits Sheet.elements_bits Sheet.directs_bits Sheet.blob_bits Sheet.content_bits Sheet.encode Sheet.sheet_bits Sheet.sheet_of Sheet.bind Sheet.take_number Sheet.take_bytes Sheet.take_value Sheet.take_if Sheet.take_mark Sheet.unknown_enum Sheet.take_unknown_enum Sheet.take_enum Sheet.take_flat Sheet.take_field Sheet.take_fields Sheet.take_by Sheet.take_struct Sheet.take_choice Sheet.take_body Sheet.take_unknown_flat Sheet.take_unknown Sheet.take_part Sheet.take_element Sheet.take_members Sheet.take_elements Sheet.take_directs Sheet.take_blob Sheet.take_content Sheet.decode Sheet.closed Sheet.tree_of Sheet.sheet_tree Cells.width Cells.chain Cells.below Cells.width_bytes Cells.chain_bytes Cells.below_bytes Cells.layout Cells.gather Cells.pack_bits Message.length_of Message.flat_known Message.flats_known Message.known_by Message.struct_known Message.flat_writable Message.keeps_unions Message.value_writable Message.members_writable Message.elements_writable Message.directs_writable Message.content_writable Message.writable Message.number_or Message.flat_bytes Message.flats_bytes Message.bytes_by Message.struct_bytes Message.flat_slots Message.object_slots Message.refer_slots Message.value_slots Message.flag_of Message.member_slots Message.members_slots Message.elements_slots Message.directs_slots Message.direct_slots Message.content_slots Message.plan Message.message_of Message.written_tree Message.written Message.write_room Message.write_over Message.write_answer Message.write_out Message.message_sheet Message.fits_room Message.read_answer Message.read_out
lengths = refl

pub enough_is : enough Bytes.u48 older sheet ≡ Walk.spending 4 12
unfolding enough InTurn.cost_of InTurn.total
enough_is = ap InTurn.cost_of lengths

schema_bytes : (i : ℕ) → get_or older i 0 < 256
schema_bytes = bytes older refl

sheet_bytes : (i : ℕ) → get_or sheet i 0 < 256
sheet_bytes = bytes sheet refl

-- it is accepted with 4 visits and a content of 12, and reads as that sheet;
pub accepted : Walk.verdict Bytes.u48 older message (Walk.allowing 4 12) ≡ Walk.at_zero 0 (Walk.spending 4 12)
accepted =
    written-verdict Bytes.u48 older sheet message schema_bytes sheet_bytes made (Walk.allowing 4 12)
    (rw enough_is (record { visits = omega arith; content = omega arith }))
    ∙ ap (λ (n : Spent). Walk.at_zero 0 n) enough_is

pub reads_back : Message.message_sheet Bytes.u48 older message ≡ sheet
reads_back = written-sheet Bytes.u48 older sheet message schema_bytes sheet_bytes made

-- with 3 visits the second element is not visited
pub few_visits : (at : ℕ)
    × (Walk.verdict Bytes.u48 older message (Walk.allowing 3 12) ≡ Walk.verdict_at (Walk.refusal 4 at) (Walk.spending 3 9))
unfolding InTurn.total
few_visits =
    let x = written_few_visits Bytes.u48 older sheet message schema_bytes sheet_bytes made (Walk.allowing 3 12)
    (rw enough_is (omega arith)) (rw enough_is (omega arith)) in
    (x.0, x.1 ∙ ap (λ (cs : List ℕ). Walk.verdict_at (Walk.refusal 4 x.0) (Walk.spending 3 (InTurn.total (take 3 cs)))) lengths)

-- ---- the newer appends to the older
lawful-older : Lawful.lawful Bytes.u48 older ≡ true
unfolding Lists.every Lists.run Bytes.u48 Bytes.u32 Bytes.width_known Schema.struct_of Schema.element_of Schema.cases_of Schema.table_of Schema.field_of Schema.case_of Schema.plain_bool Schema.member_of Structs.lower Structs.by_index Structs.flat_width Structs.total Structs.size_by Structs.struct_size Structs.flat_ok Structs.flats_ok Structs.ok_by Structs.struct_ok Packed.kind_at Packed.optional_at Packed.inplace_at Packed.zero_at Packed.argument_at Packed.width_of Packed.flat_of Packed.object_of Packed.kind_of Packed.flat_at Packed.object_at Packed.element_at Packed.member_at Packed.records Packed.record_place Packed.blocks Packed.struct_place Packed.list_place Packed.union_place Packed.table_place Packed.id_at Packed.records_at Packed.table_at Packed.parse Lawful.counts_ok Lawful.blocks_ok Lawful.places_ok Lawful.shape_ok Lawful.argument_ok Lawful.kind_ok Lawful.optional_ok Lawful.inplace_ok Lawful.flags_ok Lawful.record_ok Lawful.first_ok Lawful.records_ok Lawful.inplaces Lawful.direct_table Lawful.held_union Lawful.direct_ok Lawful.struct_lawful Lawful.list_lawful Lawful.union_lawful Lawful.table_lawful Lawful.id_differs Lawful.id_lawful Lawful.rules_ok Lawful.well_formed Lawful.older_member Lawful.older_element Lawful.older_union Lawful.older_table Lawful.older_ok Lawful.lawful
lawful-older = refl

lawful-newer : Lawful.lawful Bytes.u48 newer ≡ true
unfolding Lists.every Lists.run Bytes.u48 Bytes.u32 Bytes.width_known Schema.struct_of Schema.element_of Schema.cases_of Schema.table_of Schema.field_of Schema.case_of Schema.plain_bool Schema.member_of Structs.lower Structs.by_index Structs.flat_width Structs.total Structs.size_by Structs.struct_size Structs.flat_ok Structs.flats_ok Structs.ok_by Structs.struct_ok Packed.kind_at Packed.optional_at Packed.inplace_at Packed.zero_at Packed.argument_at Packed.width_of Packed.flat_of Packed.object_of Packed.kind_of Packed.flat_at Packed.object_at Packed.element_at Packed.member_at Packed.records Packed.record_place Packed.blocks Packed.struct_place Packed.list_place Packed.union_place Packed.table_place Packed.id_at Packed.records_at Packed.table_at Packed.parse Lawful.counts_ok Lawful.blocks_ok Lawful.places_ok Lawful.shape_ok Lawful.argument_ok Lawful.kind_ok Lawful.optional_ok Lawful.inplace_ok Lawful.flags_ok Lawful.record_ok Lawful.first_ok Lawful.records_ok Lawful.inplaces Lawful.direct_table Lawful.held_union Lawful.direct_ok Lawful.struct_lawful Lawful.list_lawful Lawful.union_lawful Lawful.table_lawful Lawful.id_differs Lawful.id_lawful Lawful.rules_ok Lawful.well_formed Lawful.older_member Lawful.older_element Lawful.older_union Lawful.older_table Lawful.older_ok Lawful.lawful
lawful-newer = refl

schemas : SchemaAppends (Packed.parse older) (Packed.parse newer)
unfolding Lists.run Packed.kind_at Packed.optional_at Packed.inplace_at Packed.zero_at Packed.argument_at Packed.width_of Packed.flat_of Packed.object_of Packed.kind_of Packed.flat_at Packed.object_at Packed.element_at Packed.member_at Packed.records Packed.record_place Packed.blocks Packed.struct_place Packed.list_place Packed.union_place Packed.table_place Packed.id_at Packed.records_at Packed.table_at Packed.parse
schemas =
    record {
      root = refl;
      structs = rest;
      lists = rest;
      unions = rest;
      tables =
          more (record { id = refl; members = more (record { kind = object; optional = refl; inplace = refl }) rest })
          (more
          (record {
            id = refl;
            members =
                more (record { kind = flat boolean; optional = refl; inplace = refl })
                (more (record { kind = flat integer; optional = refl; inplace = refl }) rest);
          })
          rest);
    }

pub appends : Appends Bytes.u48 older newer
appends = record { older-lawful = lawful-older; newer-lawful = lawful-newer; schemas = schemas }

-- ---- a newer reader of the older's shorter elements: the added bool stands in a byte already written and is false, the U8 is absent
pub newer_reads : NewerAgrees Bytes.u48 older newer sheet message
newer_reads = newer_agrees Bytes.u48 older newer sheet message schema_bytes sheet_bytes appends made

with_added_lem : Append.sheet_with Bytes.u48 older newer sheet
    ≡ 0x40 ∷ 0x00 ∷ 0x00 ∷ 0x00 ∷ 0x9A ∷ 0x00 ∷ 0x06 ∷ 0x84 ∷ 0x80 ∷ 0x02 ∷ 0xA0 ∷ []
unfolding Lists.every Lists.run Bytes.le Bytes.le_bytes Bytes.bit_at Bytes.is_nan Bytes.no_float Bytes.largest Bytes.deepest Bytes.u48 Bytes.u32 Bytes.width_known Utf8.within Utf8.after_first Utf8.after_octet Utf8.may_end Utf8.text_from Utf8.is_text Schema.struct_of Schema.element_of Schema.cases_of Schema.table_of Schema.field_of Schema.case_of Schema.plain_bool Schema.member_of Structs.lower Structs.by_index Structs.flat_width Structs.total Structs.size_by Structs.struct_size Structs.flat_ok Structs.flats_ok Structs.ok_by Structs.struct_ok Packed.kind_at Packed.optional_at Packed.inplace_at Packed.zero_at Packed.argument_at Packed.width_of Packed.flat_of Packed.object_of Packed.kind_of Packed.flat_at Packed.object_at Packed.element_at Packed.member_at Packed.records Packed.record_place Packed.blocks Packed.struct_place Packed.list_place Packed.union_place Packed.table_place Packed.id_at Packed.records_at Packed.table_at Packed.parse Lawful.counts_ok Lawful.blocks_ok Lawful.places_ok Lawful.shape_ok Lawful.argument_ok Lawful.kind_ok Lawful.optional_ok Lawful.inplace_ok Lawful.flags_ok Lawful.record_ok Lawful.first_ok Lawful.records_ok Lawful.inplaces Lawful.direct_table Lawful.held_union Lawful.direct_ok Lawful.struct_lawful Lawful.list_lawful Lawful.union_lawful Lawful.table_lawful Lawful.id_differs Lawful.id_lawful Lawful.rules_ok Lawful.well_formed Lawful.older_member Lawful.older_element Lawful.older_union Lawful.older_table Lawful.older_ok Lawful.lawful Layout.flat_is_bool Layout.is_bool Layout.width Layout.flat_takes_flag Layout.takes_flag Layout.has_flag Layout.begin Layout.bit_byte Layout.bit_index Layout.after_bit Layout.after_bytes Layout.after_flag Layout.bit_slot Layout.slot_of Layout.after_value Layout.member_slot Layout.placement_of Layout.after_member Layout.after_members Layout.fixed_size Step.enum_step Step.float_step Step.struct_tested Step.place_of Step.object_step Step.union_step Step.flat_step Step.field_step Step.value_step Step.inside Step.flagged Step.placed_step Step.member_step Step.element_place Step.element_step Step.elements_size Value.as_number Value.as_blob Value.as_row Value.as_object Value.present Value.known Value.first Value.others Value.count Bits.bits_of Bits.bits Bits.value Bits.pack Bits.byte_count Bits.packed Bits.all_zero Sheet.mark_bits Sheet.flat_bits Sheet.field_bits Sheet.fields_bits Sheet.bits_by Sheet.struct_bits Sheet.body_bits Sheet.flat_unknown Sheet.unknown_width Sheet.part_bits Sheet.flat_unmarked Sheet.unmarked Sheet.element_bits Sheet.members_bits Sheet.elements_bits Sheet.directs_bits Sheet.blob_bits Sheet.content_bits Sheet.encode Sheet.sheet_bits Sheet.sheet_of Sheet.bind Sheet.take_number Sheet.take_bytes Sheet.take_value Sheet.take_if Sheet.take_mark Sheet.unknown_enum Sheet.take_unknown_enum Sheet.take_enum Sheet.take_flat Sheet.take_field Sheet.take_fields Sheet.take_by Sheet.take_struct Sheet.take_choice Sheet.take_body Sheet.take_unknown_flat Sheet.take_unknown Sheet.take_part Sheet.take_element Sheet.take_members Sheet.take_elements Sheet.take_directs Sheet.take_blob Sheet.take_content Sheet.decode Sheet.closed Sheet.tree_of Sheet.sheet_tree Message.length_of Message.flat_known Message.flats_known Message.known_by Message.struct_known Message.flat_writable Message.keeps_unions Message.value_writable Message.members_writable Message.elements_writable Message.directs_writable Message.content_writable Message.writable Message.number_or Message.flat_bytes Message.flats_bytes Message.bytes_by Message.struct_bytes Message.flat_slots Message.object_slots Message.refer_slots Message.value_slots Message.flag_of Message.member_slots Message.members_slots Message.elements_slots Message.directs_slots Message.direct_slots Message.content_slots Message.plan Message.message_of Message.written_tree Message.written Message.write_room Message.write_over Message.write_answer Message.write_out Message.message_sheet Message.fits_room Message.read_answer Message.read_out Append.in_row Append.added_value Append.added_values Append.with_choice Append.with_part Append.with_members Append.with_elements Append.in_elements Append.added_members Append.with_content Append.with_added Append.resheet Append.sheet_with
with_added_lem = refl

pub newer-sheet : Message.message_sheet Bytes.u48 newer message
    ≡ 0x40 ∷ 0x00 ∷ 0x00 ∷ 0x00 ∷ 0x9A ∷ 0x00 ∷ 0x06 ∷ 0x84 ∷ 0x80 ∷ 0x02 ∷ 0xA0 ∷ []
newer-sheet = newer_reads.newer-sheet ∙ with_added_lem

-- and by itself
newer_computed : Message.message_sheet Bytes.u48 newer message
    ≡ 0x40 ∷ 0x00 ∷ 0x00 ∷ 0x00 ∷ 0x9A ∷ 0x00 ∷ 0x06 ∷ 0x84 ∷ 0x80 ∷ 0x02 ∷ 0xA0 ∷ []
unfolding Lists.every Lists.run Bytes.le Bytes.le_bytes Bytes.bit_at Bytes.is_nan Bytes.no_float Bytes.largest Bytes.deepest Bytes.u48 Bytes.u32 Bytes.width_known Utf8.within Utf8.after_first Utf8.after_octet Utf8.may_end Utf8.text_from Utf8.is_text Schema.struct_of Schema.element_of Schema.cases_of Schema.table_of Schema.field_of Schema.case_of Schema.plain_bool Schema.member_of Structs.lower Structs.by_index Structs.flat_width Structs.total Structs.size_by Structs.struct_size Structs.flat_ok Structs.flats_ok Structs.ok_by Structs.struct_ok Packed.kind_at Packed.optional_at Packed.inplace_at Packed.zero_at Packed.argument_at Packed.width_of Packed.flat_of Packed.object_of Packed.kind_of Packed.flat_at Packed.object_at Packed.element_at Packed.member_at Packed.records Packed.record_place Packed.blocks Packed.struct_place Packed.list_place Packed.union_place Packed.table_place Packed.id_at Packed.records_at Packed.table_at Packed.parse Lawful.counts_ok Lawful.blocks_ok Lawful.places_ok Lawful.shape_ok Lawful.argument_ok Lawful.kind_ok Lawful.optional_ok Lawful.inplace_ok Lawful.flags_ok Lawful.record_ok Lawful.first_ok Lawful.records_ok Lawful.inplaces Lawful.direct_table Lawful.held_union Lawful.direct_ok Lawful.struct_lawful Lawful.list_lawful Lawful.union_lawful Lawful.table_lawful Lawful.id_differs Lawful.id_lawful Lawful.rules_ok Lawful.well_formed Lawful.older_member Lawful.older_element Lawful.older_union Lawful.older_table Lawful.older_ok Lawful.lawful Layout.flat_is_bool Layout.is_bool Layout.width Layout.flat_takes_flag Layout.takes_flag Layout.has_flag Layout.begin Layout.bit_byte Layout.bit_index Layout.after_bit Layout.after_bytes Layout.after_flag Layout.bit_slot Layout.slot_of Layout.after_value Layout.member_slot Layout.placement_of Layout.after_member Layout.after_members Layout.fixed_size Step.enum_step Step.float_step Step.struct_tested Step.place_of Step.object_step Step.union_step Step.flat_step Step.field_step Step.value_step Step.inside Step.flagged Step.placed_step Step.member_step Step.element_place Step.element_step Step.elements_size Walk.placed Walk.magic Walk.header_size Walk.element_id Walk.element_size Walk.most_elements Walk.start_size Walk.content_size Walk.content_length Walk.end_ok Walk.text_ok Walk.fit_content Walk.direct_header Walk.header_tested Walk.stands_in_place Walk.fit_object Walk.bytes_tested Walk.open_object Walk.refuse Walk.and_then Walk.refuse_part Walk.follow_choice Walk.follow Walk.members Walk.elements Walk.directs Walk.content Walk.enter Walk.with_content Walk.admit Walk.arrive Walk.too_deep Walk.one_more Walk.most_content Walk.counted Walk.visit Walk.root_place Walk.nothing Walk.walk Walk.verdict_of Walk.early Walk.size_ok Walk.start_ok Walk.verdict Value.as_number Value.as_blob Value.as_row Value.as_object Value.present Value.known Value.first Value.others Value.count Read.step_read Read.fields_read Read.read_by Read.struct_read Read.members_read Read.elements_read Read.directs_read Read.content_read Read.place_read Read.read Read.message_read Bits.bits_of Bits.bits Bits.value Bits.pack Bits.byte_count Bits.packed Bits.all_zero Sheet.mark_bits Sheet.flat_bits Sheet.field_bits Sheet.fields_bits Sheet.bits_by Sheet.struct_bits Sheet.body_bits Sheet.flat_unknown Sheet.unknown_width Sheet.part_bits Sheet.flat_unmarked Sheet.unmarked Sheet.element_bits Sheet.members_bits Sheet.elements_bits Sheet.directs_bits Sheet.blob_bits Sheet.content_bits Sheet.encode Sheet.sheet_bits Sheet.sheet_of Sheet.bind Sheet.take_number Sheet.take_bytes Sheet.take_value Sheet.take_if Sheet.take_mark Sheet.unknown_enum Sheet.take_unknown_enum Sheet.take_enum Sheet.take_flat Sheet.take_field Sheet.take_fields Sheet.take_by Sheet.take_struct Sheet.take_choice Sheet.take_body Sheet.take_unknown_flat Sheet.take_unknown Sheet.take_part Sheet.take_element Sheet.take_members Sheet.take_elements Sheet.take_directs Sheet.take_blob Sheet.take_content Sheet.decode Sheet.closed Sheet.tree_of Sheet.sheet_tree Message.message_sheet
newer_computed = refl

pub newer_accepts : Walk.verdict Bytes.u48 newer message (Walk.allowing 4 12) ≡ Walk.at_zero 0 (Walk.spending 4 12)
newer_accepts = newer_reads.verdicts (Walk.allowing 4 12) ∙ accepted

-- ---- an older reader of the newer's longer elements: one of 4 bytes, both bools true, 3 and 7
abbrev pub longer : List ℕ
longer = listed 1 4 (3 ∷ 3 ∷ 0 ∷ 7 ∷ [])

abbrev pub three : Budget
three = Walk.allowing 3 Walk.most_content

pub accepted-longer : Walk.verdict Bytes.u48 newer longer three ≡ Walk.at_zero 0 (Walk.spending 3 10)
unfolding Lists.every Lists.run Bytes.le Bytes.le_bytes Bytes.bit_at Bytes.is_nan Bytes.no_float Bytes.largest Bytes.deepest Bytes.u48 Bytes.u32 Bytes.width_known Utf8.within Utf8.after_first Utf8.after_octet Utf8.may_end Utf8.text_from Utf8.is_text Schema.struct_of Schema.element_of Schema.cases_of Schema.table_of Schema.field_of Schema.case_of Schema.plain_bool Schema.member_of Structs.lower Structs.by_index Structs.flat_width Structs.total Structs.size_by Structs.struct_size Structs.flat_ok Structs.flats_ok Structs.ok_by Structs.struct_ok Packed.kind_at Packed.optional_at Packed.inplace_at Packed.zero_at Packed.argument_at Packed.width_of Packed.flat_of Packed.object_of Packed.kind_of Packed.flat_at Packed.object_at Packed.element_at Packed.member_at Packed.records Packed.record_place Packed.blocks Packed.struct_place Packed.list_place Packed.union_place Packed.table_place Packed.id_at Packed.records_at Packed.table_at Packed.parse Lawful.counts_ok Lawful.blocks_ok Lawful.places_ok Lawful.shape_ok Lawful.argument_ok Lawful.kind_ok Lawful.optional_ok Lawful.inplace_ok Lawful.flags_ok Lawful.record_ok Lawful.first_ok Lawful.records_ok Lawful.inplaces Lawful.direct_table Lawful.held_union Lawful.direct_ok Lawful.struct_lawful Lawful.list_lawful Lawful.union_lawful Lawful.table_lawful Lawful.id_differs Lawful.id_lawful Lawful.rules_ok Lawful.well_formed Lawful.older_member Lawful.older_element Lawful.older_union Lawful.older_table Lawful.older_ok Lawful.lawful Layout.flat_is_bool Layout.is_bool Layout.width Layout.flat_takes_flag Layout.takes_flag Layout.has_flag Layout.begin Layout.bit_byte Layout.bit_index Layout.after_bit Layout.after_bytes Layout.after_flag Layout.bit_slot Layout.slot_of Layout.after_value Layout.member_slot Layout.placement_of Layout.after_member Layout.after_members Layout.fixed_size Step.enum_step Step.float_step Step.struct_tested Step.place_of Step.object_step Step.union_step Step.flat_step Step.field_step Step.value_step Step.inside Step.flagged Step.placed_step Step.member_step Step.element_place Step.element_step Step.elements_size Walk.placed Walk.magic Walk.header_size Walk.element_id Walk.element_size Walk.most_elements Walk.start_size Walk.content_size Walk.content_length Walk.end_ok Walk.text_ok Walk.fit_content Walk.direct_header Walk.header_tested Walk.stands_in_place Walk.fit_object Walk.bytes_tested Walk.open_object Walk.refuse Walk.and_then Walk.refuse_part Walk.follow_choice Walk.follow Walk.members Walk.elements Walk.directs Walk.content Walk.enter Walk.with_content Walk.admit Walk.arrive Walk.too_deep Walk.one_more Walk.most_content Walk.counted Walk.visit Walk.root_place Walk.nothing Walk.walk Walk.verdict_of Walk.early Walk.size_ok Walk.start_ok Walk.verdict
accepted-longer = refl

pub older_reads : OlderAgrees Bytes.u48 older newer longer three
older_reads =
    older_agrees Bytes.u48 older newer longer (bytes older refl) (bytes newer refl) (bytes longer refl) appends three
    (ap (λ (v : Verdict). v.number) accepted-longer)

pub older-sheet : Message.message_sheet Bytes.u48 older longer ≡ 0x40 ∷ 0x00 ∷ 0x00 ∷ 0x00 ∷ 0x5A ∷ 0x00 ∷ 0x06 ∷ []
unfolding Lists.every Lists.run Bytes.le Bytes.le_bytes Bytes.bit_at Bytes.is_nan Bytes.no_float Bytes.largest Bytes.deepest Bytes.u48 Bytes.u32 Bytes.width_known Utf8.within Utf8.after_first Utf8.after_octet Utf8.may_end Utf8.text_from Utf8.is_text Schema.struct_of Schema.element_of Schema.cases_of Schema.table_of Schema.field_of Schema.case_of Schema.plain_bool Schema.member_of Structs.lower Structs.by_index Structs.flat_width Structs.total Structs.size_by Structs.struct_size Structs.flat_ok Structs.flats_ok Structs.ok_by Structs.struct_ok Packed.kind_at Packed.optional_at Packed.inplace_at Packed.zero_at Packed.argument_at Packed.width_of Packed.flat_of Packed.object_of Packed.kind_of Packed.flat_at Packed.object_at Packed.element_at Packed.member_at Packed.records Packed.record_place Packed.blocks Packed.struct_place Packed.list_place Packed.union_place Packed.table_place Packed.id_at Packed.records_at Packed.table_at Packed.parse Lawful.counts_ok Lawful.blocks_ok Lawful.places_ok Lawful.shape_ok Lawful.argument_ok Lawful.kind_ok Lawful.optional_ok Lawful.inplace_ok Lawful.flags_ok Lawful.record_ok Lawful.first_ok Lawful.records_ok Lawful.inplaces Lawful.direct_table Lawful.held_union Lawful.direct_ok Lawful.struct_lawful Lawful.list_lawful Lawful.union_lawful Lawful.table_lawful Lawful.id_differs Lawful.id_lawful Lawful.rules_ok Lawful.well_formed Lawful.older_member Lawful.older_element Lawful.older_union Lawful.older_table Lawful.older_ok Lawful.lawful Layout.flat_is_bool Layout.is_bool Layout.width Layout.flat_takes_flag Layout.takes_flag Layout.has_flag Layout.begin Layout.bit_byte Layout.bit_index Layout.after_bit Layout.after_bytes Layout.after_flag Layout.bit_slot Layout.slot_of Layout.after_value Layout.member_slot Layout.placement_of Layout.after_member Layout.after_members Layout.fixed_size Step.enum_step Step.float_step Step.struct_tested Step.place_of Step.object_step Step.union_step Step.flat_step Step.field_step Step.value_step Step.inside Step.flagged Step.placed_step Step.member_step Step.element_place Step.element_step Step.elements_size Walk.placed Walk.magic Walk.header_size Walk.element_id Walk.element_size Walk.most_elements Walk.start_size Walk.content_size Walk.content_length Walk.end_ok Walk.text_ok Walk.fit_content Walk.direct_header Walk.header_tested Walk.stands_in_place Walk.fit_object Walk.bytes_tested Walk.open_object Walk.refuse Walk.and_then Walk.refuse_part Walk.follow_choice Walk.follow Walk.members Walk.elements Walk.directs Walk.content Walk.enter Walk.with_content Walk.admit Walk.arrive Walk.too_deep Walk.one_more Walk.most_content Walk.counted Walk.visit Walk.root_place Walk.nothing Walk.walk Walk.verdict_of Walk.early Walk.size_ok Walk.start_ok Walk.verdict Value.as_number Value.as_blob Value.as_row Value.as_object Value.present Value.known Value.first Value.others Value.count Read.step_read Read.fields_read Read.read_by Read.struct_read Read.members_read Read.elements_read Read.directs_read Read.content_read Read.place_read Read.read Read.message_read Bits.bits_of Bits.bits Bits.value Bits.pack Bits.byte_count Bits.packed Bits.all_zero Sheet.mark_bits Sheet.flat_bits Sheet.field_bits Sheet.fields_bits Sheet.bits_by Sheet.struct_bits Sheet.body_bits Sheet.flat_unknown Sheet.unknown_width Sheet.part_bits Sheet.flat_unmarked Sheet.unmarked Sheet.element_bits Sheet.members_bits Sheet.elements_bits Sheet.directs_bits Sheet.blob_bits Sheet.content_bits Sheet.encode Sheet.sheet_bits Sheet.sheet_of Sheet.bind Sheet.take_number Sheet.take_bytes Sheet.take_value Sheet.take_if Sheet.take_mark Sheet.unknown_enum Sheet.take_unknown_enum Sheet.take_enum Sheet.take_flat Sheet.take_field Sheet.take_fields Sheet.take_by Sheet.take_struct Sheet.take_choice Sheet.take_body Sheet.take_unknown_flat Sheet.take_unknown Sheet.take_part Sheet.take_element Sheet.take_members Sheet.take_elements Sheet.take_directs Sheet.take_blob Sheet.take_content Sheet.decode Sheet.closed Sheet.tree_of Sheet.sheet_tree Message.message_sheet
older-sheet = refl

-- ---- what is reached: the second element is an arrival, one deeper than its list and placed at its first byte
pub element_arrives : Arrives Bytes.u48 (Packed.parse older) message 3 (Ob.Table 1) (InPlace 47 3)
unfolding part_count member_at direct_at part_step Lists.every Lists.run Bytes.le Bytes.le_bytes Bytes.bit_at Bytes.is_nan Bytes.no_float Bytes.largest Bytes.deepest Bytes.u48 Bytes.u32 Bytes.width_known Utf8.within Utf8.after_first Utf8.after_octet Utf8.may_end Utf8.text_from Utf8.is_text Schema.struct_of Schema.element_of Schema.cases_of Schema.table_of Schema.field_of Schema.case_of Schema.plain_bool Schema.member_of Structs.lower Structs.by_index Structs.flat_width Structs.total Structs.size_by Structs.struct_size Structs.flat_ok Structs.flats_ok Structs.ok_by Structs.struct_ok Packed.kind_at Packed.optional_at Packed.inplace_at Packed.zero_at Packed.argument_at Packed.width_of Packed.flat_of Packed.object_of Packed.kind_of Packed.flat_at Packed.object_at Packed.element_at Packed.member_at Packed.records Packed.record_place Packed.blocks Packed.struct_place Packed.list_place Packed.union_place Packed.table_place Packed.id_at Packed.records_at Packed.table_at Packed.parse Lawful.counts_ok Lawful.blocks_ok Lawful.places_ok Lawful.shape_ok Lawful.argument_ok Lawful.kind_ok Lawful.optional_ok Lawful.inplace_ok Lawful.flags_ok Lawful.record_ok Lawful.first_ok Lawful.records_ok Lawful.inplaces Lawful.direct_table Lawful.held_union Lawful.direct_ok Lawful.struct_lawful Lawful.list_lawful Lawful.union_lawful Lawful.table_lawful Lawful.id_differs Lawful.id_lawful Lawful.rules_ok Lawful.well_formed Lawful.older_member Lawful.older_element Lawful.older_union Lawful.older_table Lawful.older_ok Lawful.lawful Layout.flat_is_bool Layout.is_bool Layout.width Layout.flat_takes_flag Layout.takes_flag Layout.has_flag Layout.begin Layout.bit_byte Layout.bit_index Layout.after_bit Layout.after_bytes Layout.after_flag Layout.bit_slot Layout.slot_of Layout.after_value Layout.member_slot Layout.placement_of Layout.after_member Layout.after_members Layout.fixed_size Step.enum_step Step.float_step Step.struct_tested Step.place_of Step.object_step Step.union_step Step.flat_step Step.field_step Step.value_step Step.inside Step.flagged Step.placed_step Step.member_step Step.element_place Step.element_step Step.elements_size Walk.placed Walk.magic Walk.header_size Walk.element_id Walk.element_size Walk.most_elements Walk.start_size Walk.content_size Walk.content_length Walk.end_ok Walk.text_ok Walk.fit_content Walk.direct_header Walk.header_tested Walk.stands_in_place Walk.fit_object Walk.bytes_tested Walk.open_object Walk.refuse Walk.and_then Walk.refuse_part Walk.follow_choice Walk.follow Walk.members Walk.elements Walk.directs Walk.content Walk.enter Walk.with_content Walk.admit Walk.arrive Walk.too_deep Walk.one_more Walk.most_content Walk.counted Walk.visit Walk.root_place Walk.nothing Walk.walk Walk.verdict_of Walk.early Walk.size_ok Walk.start_ok Walk.verdict
element_arrives = below 44 2 1 (below 20 6 0 root refl (omega arith) by_reference) refl (omega arith) by_reference

-- so it is lawful, where the message is accepted
pub reached : LawfulMessage Bytes.u48 older message (Walk.allowing 4 12)
reached = (accepted-exactly Bytes.u48 older message (Walk.allowing 4 12)).0 (ap (λ (v : Verdict). v.number) accepted)

pub element-lawful : LawfulObject Bytes.u48 (Packed.parse older) message (Ob.Table 1) (InPlace 47 3)
element-lawful = reached.objects.lawful 3 (Ob.Table 1) (InPlace 47 3) element_arrives

-- ---- a field of the second element is the sheet's entry there
pub element_entry : shown (Field.field Bytes.u48 older message (0 ∷ 1 ∷ 1 ∷ [])) ≡ Entry.number 5 16 false
unfolding sheet_entry tree_entry E.flat_part E.kind_part E.part_here E.value_at E.struct_part E.object_part E.part_of E.part_along E.flat_entry E.object_entry E.entry_of E.entry_at Lists.every Lists.run Bytes.le Bytes.le_bytes Bytes.bit_at Bytes.is_nan Bytes.no_float Bytes.largest Bytes.deepest Bytes.u48 Bytes.u32 Bytes.width_known Utf8.within Utf8.after_first Utf8.after_octet Utf8.may_end Utf8.text_from Utf8.is_text Schema.struct_of Schema.element_of Schema.cases_of Schema.table_of Schema.field_of Schema.case_of Schema.plain_bool Schema.member_of Structs.lower Structs.by_index Structs.flat_width Structs.total Structs.size_by Structs.struct_size Structs.flat_ok Structs.flats_ok Structs.ok_by Structs.struct_ok Packed.kind_at Packed.optional_at Packed.inplace_at Packed.zero_at Packed.argument_at Packed.width_of Packed.flat_of Packed.object_of Packed.kind_of Packed.flat_at Packed.object_at Packed.element_at Packed.member_at Packed.records Packed.record_place Packed.blocks Packed.struct_place Packed.list_place Packed.union_place Packed.table_place Packed.id_at Packed.records_at Packed.table_at Packed.parse Lawful.counts_ok Lawful.blocks_ok Lawful.places_ok Lawful.shape_ok Lawful.argument_ok Lawful.kind_ok Lawful.optional_ok Lawful.inplace_ok Lawful.flags_ok Lawful.record_ok Lawful.first_ok Lawful.records_ok Lawful.inplaces Lawful.direct_table Lawful.held_union Lawful.direct_ok Lawful.struct_lawful Lawful.list_lawful Lawful.union_lawful Lawful.table_lawful Lawful.id_differs Lawful.id_lawful Lawful.rules_ok Lawful.well_formed Lawful.older_member Lawful.older_element Lawful.older_union Lawful.older_table Lawful.older_ok Lawful.lawful Layout.flat_is_bool Layout.is_bool Layout.width Layout.flat_takes_flag Layout.takes_flag Layout.has_flag Layout.begin Layout.bit_byte Layout.bit_index Layout.after_bit Layout.after_bytes Layout.after_flag Layout.bit_slot Layout.slot_of Layout.after_value Layout.member_slot Layout.placement_of Layout.after_member Layout.after_members Layout.fixed_size Step.enum_step Step.float_step Step.struct_tested Step.place_of Step.object_step Step.union_step Step.flat_step Step.field_step Step.value_step Step.inside Step.flagged Step.placed_step Step.member_step Step.element_place Step.element_step Step.elements_size Walk.placed Walk.magic Walk.header_size Walk.element_id Walk.element_size Walk.most_elements Walk.start_size Walk.content_size Walk.content_length Walk.end_ok Walk.text_ok Walk.fit_content Walk.direct_header Walk.header_tested Walk.stands_in_place Walk.fit_object Walk.bytes_tested Walk.open_object Walk.refuse Walk.and_then Walk.refuse_part Walk.follow_choice Walk.follow Walk.members Walk.elements Walk.directs Walk.content Walk.enter Walk.with_content Walk.admit Walk.arrive Walk.too_deep Walk.one_more Walk.most_content Walk.counted Walk.visit Walk.root_place Walk.nothing Walk.walk Walk.verdict_of Walk.early Walk.size_ok Walk.start_ok Walk.verdict Value.as_number Value.as_blob Value.as_row Value.as_object Value.present Value.known Value.first Value.others Value.count Read.step_read Read.fields_read Read.read_by Read.struct_read Read.members_read Read.elements_read Read.directs_read Read.content_read Read.place_read Read.read Read.message_read Bits.bits_of Bits.bits Bits.value Bits.pack Bits.byte_count Bits.packed Bits.all_zero Sheet.mark_bits Sheet.flat_bits Sheet.field_bits Sheet.fields_bits Sheet.bits_by Sheet.struct_bits Sheet.body_bits Sheet.flat_unknown Sheet.unknown_width Sheet.part_bits Sheet.flat_unmarked Sheet.unmarked Sheet.element_bits Sheet.members_bits Sheet.elements_bits Sheet.directs_bits Sheet.blob_bits Sheet.content_bits Sheet.encode Sheet.sheet_bits Sheet.sheet_of Sheet.bind Sheet.take_number Sheet.take_bytes Sheet.take_value Sheet.take_if Sheet.take_mark Sheet.unknown_enum Sheet.take_unknown_enum Sheet.take_enum Sheet.take_flat Sheet.take_field Sheet.take_fields Sheet.take_by Sheet.take_struct Sheet.take_choice Sheet.take_body Sheet.take_unknown_flat Sheet.take_unknown Sheet.take_part Sheet.take_element Sheet.take_members Sheet.take_elements Sheet.take_directs Sheet.take_blob Sheet.take_content Sheet.decode Sheet.closed Sheet.tree_of Sheet.sheet_tree Message.message_sheet
element_entry =
    sheet_entry_lem Bytes.u48 older message schema_bytes (bytes message refl) (Walk.allowing 4 12) (ap (λ (v : Verdict). v.number) accepted)
    (0 ∷ 1 ∷ 1 ∷ []) (omega arith)

-- ---- the list reader has the direct list, and its step at the second element answers as that element's path
reader_has : Field.reader_start Bytes.u48 older message (0 ∷ []) ≡ Fd.Object (Ob.DirectList 1) 26 44 2 30
unfolding Lists.every Lists.run Bytes.le Bytes.le_bytes Bytes.bit_at Bytes.is_nan Bytes.no_float Bytes.largest Bytes.deepest Bytes.u48 Bytes.u32 Bytes.width_known Utf8.within Utf8.after_first Utf8.after_octet Utf8.may_end Utf8.text_from Utf8.is_text Schema.struct_of Schema.element_of Schema.cases_of Schema.table_of Schema.field_of Schema.case_of Schema.plain_bool Schema.member_of Structs.lower Structs.by_index Structs.flat_width Structs.total Structs.size_by Structs.struct_size Structs.flat_ok Structs.flats_ok Structs.ok_by Structs.struct_ok Packed.kind_at Packed.optional_at Packed.inplace_at Packed.zero_at Packed.argument_at Packed.width_of Packed.flat_of Packed.object_of Packed.kind_of Packed.flat_at Packed.object_at Packed.element_at Packed.member_at Packed.records Packed.record_place Packed.blocks Packed.struct_place Packed.list_place Packed.union_place Packed.table_place Packed.id_at Packed.records_at Packed.table_at Packed.parse Lawful.counts_ok Lawful.blocks_ok Lawful.places_ok Lawful.shape_ok Lawful.argument_ok Lawful.kind_ok Lawful.optional_ok Lawful.inplace_ok Lawful.flags_ok Lawful.record_ok Lawful.first_ok Lawful.records_ok Lawful.inplaces Lawful.direct_table Lawful.held_union Lawful.direct_ok Lawful.struct_lawful Lawful.list_lawful Lawful.union_lawful Lawful.table_lawful Lawful.id_differs Lawful.id_lawful Lawful.rules_ok Lawful.well_formed Lawful.older_member Lawful.older_element Lawful.older_union Lawful.older_table Lawful.older_ok Lawful.lawful Layout.flat_is_bool Layout.is_bool Layout.width Layout.flat_takes_flag Layout.takes_flag Layout.has_flag Layout.begin Layout.bit_byte Layout.bit_index Layout.after_bit Layout.after_bytes Layout.after_flag Layout.bit_slot Layout.slot_of Layout.after_value Layout.member_slot Layout.placement_of Layout.after_member Layout.after_members Layout.fixed_size Step.enum_step Step.float_step Step.struct_tested Step.place_of Step.object_step Step.union_step Step.flat_step Step.field_step Step.value_step Step.inside Step.flagged Step.placed_step Step.member_step Step.element_place Step.element_step Step.elements_size Walk.placed Walk.magic Walk.header_size Walk.element_id Walk.element_size Walk.most_elements Walk.start_size Walk.content_size Walk.content_length Walk.end_ok Walk.text_ok Walk.fit_content Walk.direct_header Walk.header_tested Walk.stands_in_place Walk.fit_object Walk.bytes_tested Walk.open_object Walk.refuse Walk.and_then Walk.refuse_part Walk.follow_choice Walk.follow Walk.members Walk.elements Walk.directs Walk.content Walk.enter Walk.with_content Walk.admit Walk.arrive Walk.too_deep Walk.one_more Walk.most_content Walk.counted Walk.visit Walk.root_place Walk.nothing Walk.walk Walk.verdict_of Walk.early Walk.size_ok Walk.start_ok Walk.verdict Field.no_part Field.opened Field.arrived Field.part_refused Field.chosen Field.stepped Field.struct_part Field.object_part Field.part_of Field.along Field.found Field.flat_answer Field.value_answer Field.record_kind Field.answer_of Field.answer_verdict Field.before Field.field_found Field.field Field.answer_case Field.case_numbers Field.list_found Field.leads Field.reader_of Field.reader_start Field.list_gives Field.reader_gives Field.list_count Field.reader_count
reader_has = refl

pub reader-gives : Field.reader_gives Bytes.u48 older message (0 ∷ []) 1 ≡ Field.field Bytes.u48 older message (0 ∷ 1 ∷ [])
reader-gives = gives_path Bytes.u48 older message (0 ∷ []) (Ob.DirectList 1) 26 44 2 30 reader_has 1
