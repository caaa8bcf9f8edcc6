-- The second half of demand 3 at a message: a plain bool that the newer schema adds reads false where its bit falls in a byte
-- that was written, and is absent where it would take a new one.
use Rattle.std.specs.Prelude.{◌≡◌, refl, List, [], ◌∷◌, true, ℕ}
use Rattle.std.proofs.Common.{◌∙◌}
use Rattle.coding.specs.Lists as Lists
use Rattle.coding.specs.Bytes as Bytes
use Rattle.coding.specs.Utf8 as Utf8
use Rattle.coding.specs.Schema as Schema
use Rattle.coding.specs.Structs as Structs
use Rattle.coding.specs.Packed as Packed
use Rattle.coding.specs.Lawful as Lawful
use Rattle.coding.specs.Layout as Layout
use Rattle.coding.specs.Step as Step
use Rattle.coding.specs.Walk as Walk
use Rattle.coding.specs.Value as Value
use Rattle.coding.specs.Read as Read
use Rattle.coding.specs.Bits as Bits
use Rattle.coding.specs.Sheet as Sheet
use Rattle.coding.specs.Cells as Cells
use Rattle.coding.specs.Message as Message
use Rattle.coding.specs.Append as Append
use Rattle.coding.specs.Append.{rest, more, boolean, integer, flat, object, Appends, SchemaAppends}
use Rattle.coding.specs.declared.Budget.{Budget}
use Rattle.demands.specs.AppendingCases.{bytes}
use Rattle.demands.specs.NewerAgrees.{NewerAgrees, newer_agrees}

-- a table of a bool and a reference to a table of a U8
abbrev pub older : List ℕ
older =
    0 ∷ 0 ∷ 0 ∷ 2 ∷ 0
    ∷ 0x4C ∷ 0x49 ∷ 0x43 ∷ 0x45 ∷ 2 ∷ 0x00 ∷ 0 ∷ 0x80 ∷ 1
    ∷ 0x53 ∷ 0x45 ∷ 0x41 ∷ 0x54 ∷ 1 ∷ 0x08 ∷ 0
    ∷ []

-- the first table gets a bool, an optional bool and an in-place text, the second a bool
abbrev pub newer : List ℕ
newer =
    0 ∷ 0 ∷ 0 ∷ 2 ∷ 0
    ∷ 0x4C ∷ 0x49 ∷ 0x43 ∷ 0x45 ∷ 5 ∷ 0x00 ∷ 0 ∷ 0x80 ∷ 1 ∷ 0x00 ∷ 0 ∷ 0x04 ∷ 0 ∷ 0x6A ∷ 0
    ∷ 0x53 ∷ 0x45 ∷ 0x41 ∷ 0x54 ∷ 2 ∷ 0x08 ∷ 0 ∷ 0x00 ∷ 0
    ∷ []

lawful-older : Lawful.lawful Bytes.u48 older ≡ true
unfolding Lists.every Lists.run Schema.struct_of Structs.lower Structs.by_index Structs.flat_width Structs.total Structs.size_by Structs.struct_size Packed.kind_at Packed.optional_at Packed.inplace_at Packed.zero_at Packed.argument_at Packed.width_of Packed.flat_of Packed.object_of Packed.kind_of Packed.flat_at Packed.object_at Packed.element_at Packed.member_at Packed.records Packed.record_place Packed.blocks Packed.struct_place Packed.list_place Packed.union_place Packed.table_place Packed.id_at Packed.records_at Packed.table_at Packed.parse Lawful.counts_ok Lawful.blocks_ok Lawful.places_ok Lawful.shape_ok Lawful.argument_ok Lawful.kind_ok Lawful.optional_ok Lawful.inplace_ok Lawful.flags_ok Lawful.record_ok Lawful.first_ok Lawful.records_ok Lawful.inplaces Lawful.direct_table Lawful.held_union Lawful.direct_ok Lawful.struct_lawful Lawful.list_lawful Lawful.union_lawful Lawful.table_lawful Lawful.id_differs Lawful.id_lawful Lawful.rules_ok Lawful.well_formed Lawful.older_member Lawful.older_element Lawful.older_union Lawful.older_table Lawful.older_ok Lawful.lawful Bytes.u32 Bytes.width_known Bytes.u48
lawful-older = refl

lawful-newer : Lawful.lawful Bytes.u48 newer ≡ true
unfolding Lists.every Lists.run Schema.struct_of Structs.lower Structs.by_index Structs.flat_width Structs.total Structs.size_by Structs.struct_size Packed.kind_at Packed.optional_at Packed.inplace_at Packed.zero_at Packed.argument_at Packed.width_of Packed.flat_of Packed.object_of Packed.kind_of Packed.flat_at Packed.object_at Packed.element_at Packed.member_at Packed.records Packed.record_place Packed.blocks Packed.struct_place Packed.list_place Packed.union_place Packed.table_place Packed.id_at Packed.records_at Packed.table_at Packed.parse Lawful.counts_ok Lawful.blocks_ok Lawful.places_ok Lawful.shape_ok Lawful.argument_ok Lawful.kind_ok Lawful.optional_ok Lawful.inplace_ok Lawful.flags_ok Lawful.record_ok Lawful.first_ok Lawful.records_ok Lawful.inplaces Lawful.direct_table Lawful.held_union Lawful.direct_ok Lawful.struct_lawful Lawful.list_lawful Lawful.union_lawful Lawful.table_lawful Lawful.id_differs Lawful.id_lawful Lawful.rules_ok Lawful.well_formed Lawful.older_member Lawful.older_element Lawful.older_union Lawful.older_table Lawful.older_ok Lawful.lawful Bytes.u32 Bytes.width_known Bytes.u48
lawful-newer = refl

schemas : SchemaAppends (Packed.parse older) (Packed.parse newer)
unfolding Lists.run Packed.kind_at Packed.optional_at Packed.inplace_at Packed.argument_at Packed.width_of Packed.flat_of Packed.object_of Packed.kind_of Packed.flat_at Packed.object_at Packed.element_at Packed.member_at Packed.records Packed.record_place Packed.blocks Packed.struct_place Packed.list_place Packed.union_place Packed.table_place Packed.id_at Packed.records_at Packed.table_at Packed.parse
schemas =
    record {
      root = refl;
      structs = rest;
      lists = rest;
      unions = rest;
      tables =
          more
          (record {
            id = refl;
            members =
                more (record { kind = flat boolean; optional = refl; inplace = refl })
                (more (record { kind = object; optional = refl; inplace = refl }) rest);
          })
          (more (record { id = refl; members = more (record { kind = flat integer; optional = refl; inplace = refl }) rest }) rest);
    }

appends : Appends Bytes.u48 older newer
appends = record { older-lawful = lawful-older; newer-lawful = lawful-newer; schemas = schemas }

-- the bool is true and the U8 is 42
abbrev pub sheet : List ℕ
sheet = 0x6A ∷ 0x54 ∷ []

abbrev pub message : List ℕ
message =
    0xB3 ∷ 0xC4 ∷ 0xC0 ∷ 0xB5 ∷ 0x0A ∷ 0x00 ∷ 0x00 ∷ 0x00 ∷ 0x00 ∷ 0x00 ∷ 0x45 ∷ 0x43 ∷ 0x49 ∷ 0x4C ∷ 0x07 ∷ 0x00 ∷ 0x00 ∷ 0x00 ∷ 0x00 ∷ 0x00
    ∷ 0x01 ∷ 0x1B ∷ 0x00 ∷ 0x00 ∷ 0x00 ∷ 0x00 ∷ 0x00 ∷ 0x54 ∷ 0x41 ∷ 0x45 ∷ 0x53 ∷ 0x01 ∷ 0x00 ∷ 0x00 ∷ 0x00 ∷ 0x00 ∷ 0x00 ∷ 0x2A ∷ []

-- it is what the writer makes of the sheet
pub made : Message.written Bytes.u48 older sheet ≡ Message.message message
unfolding Lists.every Lists.run Bytes.le_bytes Bytes.is_nan Bytes.no_float Bytes.largest Bytes.deepest Bytes.u48 Bytes.u32 Bytes.width_known Utf8.within Utf8.after_first Utf8.after_octet Utf8.may_end Utf8.text_from Utf8.is_text Schema.struct_of Schema.element_of Schema.cases_of Schema.table_of Schema.case_of Structs.lower Structs.by_index Structs.flat_width Structs.total Structs.size_by Structs.struct_size Packed.kind_at Packed.optional_at Packed.inplace_at Packed.zero_at Packed.argument_at Packed.width_of Packed.flat_of Packed.object_of Packed.kind_of Packed.flat_at Packed.object_at Packed.element_at Packed.member_at Packed.records Packed.record_place Packed.blocks Packed.struct_place Packed.list_place Packed.union_place Packed.table_place Packed.id_at Packed.records_at Packed.table_at Packed.parse Lawful.counts_ok Lawful.blocks_ok Lawful.places_ok Lawful.shape_ok Lawful.argument_ok Lawful.kind_ok Lawful.optional_ok Lawful.inplace_ok Lawful.flags_ok Lawful.record_ok Lawful.first_ok Lawful.records_ok Lawful.inplaces Lawful.direct_table Lawful.held_union Lawful.direct_ok Lawful.struct_lawful Lawful.list_lawful Lawful.union_lawful Lawful.table_lawful Lawful.id_differs Lawful.id_lawful Lawful.rules_ok Lawful.well_formed Lawful.older_member Lawful.older_element Lawful.older_union Lawful.older_table Lawful.older_ok Lawful.lawful Layout.flat_is_bool Layout.is_bool Layout.width Layout.flat_takes_flag Layout.takes_flag Layout.has_flag Layout.begin Layout.after_bit Layout.after_bytes Layout.after_flag Layout.after_value Layout.after_member Layout.after_members Layout.fixed_size Walk.magic Value.as_number Value.as_blob Value.as_row Value.as_object Value.present Value.known Value.first Value.others Value.count Bits.bits_of Bits.bits Bits.value Bits.pack Bits.all_zero Sheet.flat_unmarked Sheet.unmarked Sheet.bind Sheet.take_number Sheet.take_bytes Sheet.take_value Sheet.take_if Sheet.take_mark Sheet.unknown_enum Sheet.take_unknown_enum Sheet.take_enum Sheet.take_flat Sheet.take_field Sheet.take_fields Sheet.take_by Sheet.take_struct Sheet.take_choice Sheet.take_body Sheet.take_unknown_flat Sheet.take_unknown Sheet.take_part Sheet.take_element Sheet.take_members Sheet.take_elements Sheet.take_directs Sheet.take_blob Sheet.take_content Sheet.decode Sheet.closed Sheet.tree_of Sheet.sheet_tree Cells.width Cells.chain Cells.below Cells.width_bytes Cells.chain_bytes Cells.below_bytes Cells.layout Cells.gather Cells.pack_bits Message.length_of Message.flat_known Message.flats_known Message.known_by Message.struct_known Message.flat_writable Message.keeps_unions Message.value_writable Message.members_writable Message.elements_writable Message.directs_writable Message.content_writable Message.writable Message.number_or Message.flat_bytes Message.flats_bytes Message.bytes_by Message.struct_bytes Message.flat_slots Message.object_slots Message.refer_slots Message.value_slots Message.flag_of Message.member_slots Message.members_slots Message.elements_slots Message.directs_slots Message.direct_slots Message.content_slots Message.plan Message.message_of Message.written_tree Message.written
made = refl

pub agrees : NewerAgrees Bytes.u48 older newer sheet message
agrees = newer_agrees Bytes.u48 older newer sheet message (bytes older refl) (bytes sheet refl) appends made

-- the sheet with the added members: behind the U8 its table's bool is absent; then the bool is false, the optional bool and
-- the text are absent
with_added_lem : Append.sheet_with Bytes.u48 older newer sheet ≡ 0x6A ∷ 0x54 ∷ 0x20 ∷ []
unfolding Lists.run Bytes.deepest Bytes.u48 Bytes.u32 Bytes.width_known Schema.struct_of Schema.element_of Schema.cases_of Schema.table_of Schema.case_of Structs.lower Structs.by_index Structs.flat_width Structs.total Structs.size_by Structs.struct_size Packed.kind_at Packed.optional_at Packed.inplace_at Packed.argument_at Packed.width_of Packed.flat_of Packed.object_of Packed.kind_of Packed.flat_at Packed.object_at Packed.element_at Packed.member_at Packed.records Packed.record_place Packed.blocks Packed.struct_place Packed.list_place Packed.union_place Packed.table_place Packed.id_at Packed.records_at Packed.table_at Packed.parse Layout.flat_is_bool Layout.is_bool Layout.width Layout.flat_takes_flag Layout.takes_flag Layout.has_flag Layout.begin Layout.bit_byte Layout.after_bit Layout.after_bytes Layout.after_flag Layout.after_value Layout.after_member Value.as_number Value.as_blob Value.as_row Value.as_object Value.first Value.others Value.count Bits.bits_of Bits.bits Bits.value Bits.pack Bits.byte_count Bits.packed Bits.all_zero Sheet.mark_bits Sheet.flat_bits Sheet.field_bits Sheet.fields_bits Sheet.bits_by Sheet.struct_bits Sheet.body_bits Sheet.flat_unknown Sheet.unknown_width Sheet.part_bits Sheet.flat_unmarked Sheet.unmarked Sheet.element_bits Sheet.members_bits Sheet.elements_bits Sheet.directs_bits Sheet.blob_bits Sheet.content_bits Sheet.encode Sheet.sheet_bits Sheet.sheet_of Sheet.bind Sheet.take_number Sheet.take_bytes Sheet.take_value Sheet.take_if Sheet.take_mark Sheet.unknown_enum Sheet.take_unknown_enum Sheet.take_enum Sheet.take_flat Sheet.take_field Sheet.take_fields Sheet.take_by Sheet.take_struct Sheet.take_choice Sheet.take_body Sheet.take_unknown_flat Sheet.take_unknown Sheet.take_part Sheet.take_element Sheet.take_members Sheet.take_elements Sheet.take_directs Sheet.take_blob Sheet.take_content Sheet.decode Sheet.closed Sheet.tree_of Append.in_row Append.added_value Append.added_values Append.with_choice Append.with_part Append.with_members Append.with_elements Append.in_elements Append.added_members Append.with_content Append.with_added Append.resheet Append.sheet_with
with_added_lem = refl

-- so it is what the newer reads
pub newer-sheet : Message.message_sheet Bytes.u48 newer message ≡ 0x6A ∷ 0x54 ∷ 0x20 ∷ []
newer-sheet = agrees.newer-sheet ∙ with_added_lem

-- and by itself
newer_computed : Message.message_sheet Bytes.u48 newer message ≡ 0x6A ∷ 0x54 ∷ 0x20 ∷ []
unfolding Lists.run Bytes.le Bytes.bit_at Bytes.is_nan Bytes.deepest Bytes.u48 Bytes.u32 Bytes.width_known Schema.struct_of Schema.element_of Schema.cases_of Schema.table_of Schema.case_of Structs.lower Structs.by_index Structs.flat_width Structs.total Structs.size_by Structs.struct_size Structs.flat_ok Structs.flats_ok Structs.ok_by Structs.struct_ok Packed.kind_at Packed.optional_at Packed.inplace_at Packed.argument_at Packed.width_of Packed.flat_of Packed.object_of Packed.kind_of Packed.flat_at Packed.object_at Packed.element_at Packed.member_at Packed.records Packed.record_place Packed.blocks Packed.struct_place Packed.list_place Packed.union_place Packed.table_place Packed.id_at Packed.records_at Packed.table_at Packed.parse Layout.flat_is_bool Layout.is_bool Layout.width Layout.flat_takes_flag Layout.takes_flag Layout.has_flag Layout.begin Layout.bit_byte Layout.bit_index Layout.after_bit Layout.after_bytes Layout.after_flag Layout.bit_slot Layout.slot_of Layout.after_value Layout.member_slot Layout.placement_of Layout.after_member Step.enum_step Step.float_step Step.struct_tested Step.place_of Step.object_step Step.union_step Step.flat_step Step.field_step Step.value_step Step.inside Step.flagged Step.placed_step Step.member_step Step.element_place Step.element_step Walk.header_size Walk.element_id Walk.element_size Walk.most_elements Walk.root_place Value.as_number Value.as_blob Value.as_row Value.as_object Value.first Value.others Value.count Read.step_read Read.fields_read Read.read_by Read.struct_read Read.members_read Read.elements_read Read.directs_read Read.content_read Read.place_read Read.read Read.message_read Bits.bits_of Bits.bits Bits.value Bits.pack Bits.byte_count Bits.packed Sheet.mark_bits Sheet.flat_bits Sheet.field_bits Sheet.fields_bits Sheet.bits_by Sheet.struct_bits Sheet.body_bits Sheet.flat_unknown Sheet.unknown_width Sheet.part_bits Sheet.flat_unmarked Sheet.unmarked Sheet.element_bits Sheet.members_bits Sheet.elements_bits Sheet.directs_bits Sheet.blob_bits Sheet.content_bits Sheet.encode Sheet.sheet_bits Sheet.sheet_of Message.message_sheet
newer_computed = refl

-- the older accepts with two visits and fixed parts of 7 bytes and 1, and so does the newer
abbrev two : Budget
two = Walk.allowing 2 Walk.most_content

older_accepts : Walk.verdict Bytes.u48 older message two ≡ Walk.at_zero 0 (Walk.spending 2 8)
unfolding Lists.every Lists.run Bytes.le Bytes.bit_at Bytes.is_nan Bytes.largest Bytes.deepest Bytes.u48 Bytes.u32 Bytes.width_known Utf8.within Utf8.after_first Utf8.after_octet Utf8.may_end Utf8.text_from Utf8.is_text Schema.struct_of Schema.element_of Schema.cases_of Schema.table_of Schema.case_of Structs.lower Structs.by_index Structs.flat_width Structs.total Structs.size_by Structs.struct_size Structs.flat_ok Structs.flats_ok Structs.ok_by Structs.struct_ok Packed.kind_at Packed.optional_at Packed.inplace_at Packed.zero_at Packed.argument_at Packed.width_of Packed.flat_of Packed.object_of Packed.kind_of Packed.flat_at Packed.object_at Packed.element_at Packed.member_at Packed.records Packed.record_place Packed.blocks Packed.struct_place Packed.list_place Packed.union_place Packed.table_place Packed.id_at Packed.records_at Packed.table_at Packed.parse Lawful.counts_ok Lawful.blocks_ok Lawful.places_ok Lawful.shape_ok Lawful.argument_ok Lawful.kind_ok Lawful.optional_ok Lawful.inplace_ok Lawful.flags_ok Lawful.record_ok Lawful.first_ok Lawful.records_ok Lawful.inplaces Lawful.direct_table Lawful.held_union Lawful.direct_ok Lawful.struct_lawful Lawful.list_lawful Lawful.union_lawful Lawful.table_lawful Lawful.id_differs Lawful.id_lawful Lawful.rules_ok Lawful.well_formed Lawful.older_member Lawful.older_element Lawful.older_union Lawful.older_table Lawful.older_ok Lawful.lawful Layout.flat_is_bool Layout.is_bool Layout.width Layout.flat_takes_flag Layout.takes_flag Layout.has_flag Layout.begin Layout.bit_byte Layout.bit_index Layout.after_bit Layout.after_bytes Layout.after_flag Layout.bit_slot Layout.slot_of Layout.after_value Layout.member_slot Layout.placement_of Layout.after_member Step.enum_step Step.float_step Step.struct_tested Step.place_of Step.object_step Step.union_step Step.flat_step Step.value_step Step.inside Step.flagged Step.placed_step Step.member_step Step.element_place Step.element_step Step.elements_size Walk.placed Walk.magic Walk.header_size Walk.element_id Walk.element_size Walk.most_elements Walk.start_size Walk.content_size Walk.content_length Walk.end_ok Walk.text_ok Walk.fit_content Walk.direct_header Walk.header_tested Walk.stands_in_place Walk.fit_object Walk.bytes_tested Walk.open_object Walk.refuse Walk.and_then Walk.refuse_part Walk.follow_choice Walk.follow Walk.members Walk.elements Walk.directs Walk.content Walk.enter Walk.with_content Walk.admit Walk.arrive Walk.too_deep Walk.one_more Walk.most_content Walk.counted Walk.visit Walk.root_place Walk.nothing Walk.walk Walk.verdict_of Walk.early Walk.size_ok Walk.start_ok Walk.verdict
older_accepts = refl

pub newer_accepts : Walk.verdict Bytes.u48 newer message two ≡ Walk.at_zero 0 (Walk.spending 2 8)
newer_accepts = agrees.verdicts two ∙ older_accepts
