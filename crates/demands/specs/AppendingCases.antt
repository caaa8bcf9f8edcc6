-- Schemas that append: the papers' O and N, and a pair in which something of every kind is appended. The first half of demand
-- 3 at the papers' message.
use Rattle.std.specs.Prelude.{◌≡◌, refl, List, [], ◌∷◌, Bool, true, ◌&&◌, ℕ, ltb}
use Rattle.std.proofs.Common.{ap, arith, ltb-true}
use Rattle.coding.specs.Lists as Lists
use Rattle.coding.specs.Bytes as Bytes
use Rattle.coding.specs.Utf8 as Utf8
use Rattle.coding.specs.Schema as Schema
use Rattle.coding.specs.Structs as Structs
use Rattle.coding.specs.Packed as Packed
use Rattle.coding.specs.Lawful as Lawful
use Rattle.coding.specs.Layout as Layout
use Rattle.coding.specs.Step as Step
use Rattle.coding.specs.Walk as Walk
use Rattle.coding.specs.Value as Value
use Rattle.coding.specs.Read as Read
use Rattle.coding.specs.Bits as Bits
use Rattle.coding.specs.Sheet as Sheet
use Rattle.coding.specs.Message as Message
use Rattle.coding.specs.Append.{rest, more, done, also, boolean, integer, enumerated, struct, flat, object, union, same, SchemaAppends, Appends}
use Rattle.coding.specs.declared.Budget.{Budget}
use Rattle.coding.specs.declared.Verdict.{Verdict}
use Rattle.laws.specs.Sound.{All}
use Rattle.laws.specs.Lists.{both_left, both_right}
use Rattle.laws.specs.All.{index_all}
use Rattle.laws.specs.Bits.{Byte}
use Rattle.demands.specs.Counter.{O, N, M}
use Rattle.demands.specs.Appending.{AreBytes, OlderAgrees, older_agrees}

-- every number of a list is a byte, tested
abbrev pub all_bytes : List ℕ → Bool
all_bytes [] = true
all_bytes (x ∷ xs) = ltb x 256 && all_bytes xs

all_bytes_lem : (l : List ℕ) → all_bytes l ≡ true → All Byte l
all_bytes_lem [] e = tt
all_bytes_lem (x ∷ xs) e =
    (ltb-true x 256 (both_left (ltb x 256) (all_bytes xs) e), all_bytes_lem xs (both_right (ltb x 256) (all_bytes xs) e))

pub bytes : (l : List ℕ) → all_bytes l ≡ true → AreBytes l
bytes l e = index_all Byte 0 l (omega arith) (all_bytes_lem l e)

-- ---- a pair in which something of every kind is appended
-- a struct of an enum of 2 and a U8; a list of unions; a union of a text; a table of a bool, an enum of 3, the struct, the
-- list and the union
abbrev pub older : List ℕ
older =
    1 ∷ 1 ∷ 1 ∷ 1 ∷ 0
    ∷ 2 ∷ 0x58 ∷ 2 ∷ 0x08 ∷ 0
    ∷ 0x88 ∷ 0
    ∷ 1 ∷ 0x68 ∷ 0
    ∷ 0x4C ∷ 0x49 ∷ 0x43 ∷ 0x45 ∷ 5 ∷ 0x00 ∷ 0 ∷ 0x58 ∷ 3 ∷ 0x60 ∷ 0 ∷ 0x78 ∷ 0 ∷ 0x88 ∷ 0
    ∷ []

-- the struct's enum has 5 values, the table's 7; there is a second struct, of the first and a bool; a second list, of the
-- second table; the union has a second case, the second table; a second union, of the second list. Members are appended: an
-- optional bool (its flag and its value in the free bits of the bool's byte), an in-place text, the second struct, the second
-- union. The second table has a U32.
abbrev pub newer : List ℕ
newer =
    2 ∷ 2 ∷ 2 ∷ 2 ∷ 0
    ∷ 2 ∷ 0x58 ∷ 5 ∷ 0x08 ∷ 0
    ∷ 2 ∷ 0x60 ∷ 0 ∷ 0x00 ∷ 0
    ∷ 0x88 ∷ 0 ∷ 0x80 ∷ 1
    ∷ 2 ∷ 0x68 ∷ 0 ∷ 0x80 ∷ 1
    ∷ 1 ∷ 0x78 ∷ 1
    ∷ 0x4C ∷ 0x49 ∷ 0x43 ∷ 0x45 ∷ 9 ∷ 0x00 ∷ 0 ∷ 0x58 ∷ 7 ∷ 0x60 ∷ 0 ∷ 0x78 ∷ 0 ∷ 0x88 ∷ 0
    ∷ 0x04 ∷ 0 ∷ 0x6A ∷ 0 ∷ 0x60 ∷ 1 ∷ 0x88 ∷ 1
    ∷ 0x53 ∷ 0x45 ∷ 0x41 ∷ 0x54 ∷ 1 ∷ 0x18 ∷ 0
    ∷ []

lawful-older : Lawful.lawful Bytes.u48 older ≡ true
unfolding Lists.every Lists.run Schema.struct_of Structs.lower Structs.by_index Structs.flat_width Structs.total Structs.size_by Structs.struct_size Packed.kind_at Packed.optional_at Packed.inplace_at Packed.zero_at Packed.argument_at Packed.width_of Packed.flat_of Packed.object_of Packed.kind_of Packed.flat_at Packed.object_at Packed.element_at Packed.member_at Packed.records Packed.record_place Packed.blocks Packed.struct_place Packed.list_place Packed.union_place Packed.table_place Packed.id_at Packed.records_at Packed.table_at Packed.parse Lawful.counts_ok Lawful.blocks_ok Lawful.places_ok Lawful.shape_ok Lawful.argument_ok Lawful.kind_ok Lawful.optional_ok Lawful.inplace_ok Lawful.flags_ok Lawful.record_ok Lawful.first_ok Lawful.records_ok Lawful.inplaces Lawful.direct_table Lawful.held_union Lawful.direct_ok Lawful.struct_lawful Lawful.list_lawful Lawful.union_lawful Lawful.table_lawful Lawful.id_differs Lawful.id_lawful Lawful.rules_ok Lawful.well_formed Lawful.older_member Lawful.older_element Lawful.older_union Lawful.older_table Lawful.older_ok Lawful.lawful Bytes.u32 Bytes.width_known Bytes.u48
lawful-older = refl

lawful-newer : Lawful.lawful Bytes.u48 newer ≡ true
unfolding Lists.every Lists.run Schema.struct_of Structs.lower Structs.by_index Structs.flat_width Structs.total Structs.size_by Structs.struct_size Packed.kind_at Packed.optional_at Packed.inplace_at Packed.zero_at Packed.argument_at Packed.width_of Packed.flat_of Packed.object_of Packed.kind_of Packed.flat_at Packed.object_at Packed.element_at Packed.member_at Packed.records Packed.record_place Packed.blocks Packed.struct_place Packed.list_place Packed.union_place Packed.table_place Packed.id_at Packed.records_at Packed.table_at Packed.parse Lawful.counts_ok Lawful.blocks_ok Lawful.places_ok Lawful.shape_ok Lawful.argument_ok Lawful.kind_ok Lawful.optional_ok Lawful.inplace_ok Lawful.flags_ok Lawful.record_ok Lawful.first_ok Lawful.records_ok Lawful.inplaces Lawful.direct_table Lawful.held_union Lawful.direct_ok Lawful.struct_lawful Lawful.list_lawful Lawful.union_lawful Lawful.table_lawful Lawful.id_differs Lawful.id_lawful Lawful.rules_ok Lawful.well_formed Lawful.older_member Lawful.older_element Lawful.older_union Lawful.older_table Lawful.older_ok Lawful.lawful Bytes.u32 Bytes.width_known Bytes.u48
lawful-newer = refl

schemas : SchemaAppends (Packed.parse older) (Packed.parse newer)
unfolding Lists.run Packed.kind_at Packed.optional_at Packed.inplace_at Packed.argument_at Packed.width_of Packed.flat_of Packed.object_of Packed.kind_of Packed.flat_at Packed.object_at Packed.element_at Packed.member_at Packed.records Packed.record_place Packed.blocks Packed.struct_place Packed.list_place Packed.union_place Packed.table_place Packed.id_at Packed.records_at Packed.table_at Packed.parse
schemas =
    record {
      root = refl;
      structs = more (also (enumerated {n = 2} {n' = 5} (omega arith)) (also integer done)) rest;
      lists = more union rest;
      unions = more (more same rest) rest;
      tables =
          more
          (record {
            id = refl;
            members =
                more (record { kind = flat boolean; optional = refl; inplace = refl })
                (more (record { kind = flat (enumerated {n = 3} {n' = 7} (omega arith)); optional = refl; inplace = refl })
                (more (record { kind = flat struct; optional = refl; inplace = refl })
                (more (record { kind = object; optional = refl; inplace = refl })
                (more (record { kind = union; optional = refl; inplace = refl }) rest))));
          })
          rest;
    }

pub every_kind_appends : Appends Bytes.u48 older newer
every_kind_appends = record { older-lawful = lawful-older; newer-lawful = lawful-newer; schemas = schemas }

-- a message of the newer that uses what is appended: both enums are above their old counts, the union and the list's element
-- are of the new case (the same table, twice), and there are an optional bool, an in-place text and the second struct
abbrev pub message : List ℕ
message =
    0xB3 ∷ 0xC4 ∷ 0xC0 ∷ 0xB5 ∷ 0x0A ∷ 0x00 ∷ 0x00 ∷ 0x00 ∷ 0x00 ∷ 0x00 ∷ 0x45 ∷ 0x43 ∷ 0x49 ∷ 0x4C ∷ 0x23 ∷ 0x00
    ∷ 0x00 ∷ 0x00 ∷ 0x00 ∷ 0x00 ∷ 0x07 ∷ 0x05 ∷ 0x04 ∷ 0x09 ∷ 0x3A ∷ 0x00 ∷ 0x00 ∷ 0x00 ∷ 0x00 ∷ 0x00 ∷ 0x02 ∷ 0x00
    ∷ 0x4C ∷ 0x00 ∷ 0x00 ∷ 0x00 ∷ 0x00 ∷ 0x00 ∷ 0x02 ∷ 0x00 ∷ 0x00 ∷ 0x00 ∷ 0x00 ∷ 0x00 ∷ 0x01 ∷ 0x07 ∷ 0x01 ∷ 0x00
    ∷ 0x00 ∷ 0x00 ∷ 0x00 ∷ 0x00 ∷ 0x00 ∷ 0x00 ∷ 0x00 ∷ 0x61 ∷ 0x62 ∷ 0x00 ∷ 0x46 ∷ 0xBB ∷ 0x00 ∷ 0x34 ∷ 0x01 ∷ 0x00
    ∷ 0x00 ∷ 0x00 ∷ 0x00 ∷ 0x00 ∷ 0x02 ∷ 0x00 ∷ 0x4C ∷ 0x00 ∷ 0x00 ∷ 0x00 ∷ 0x00 ∷ 0x00 ∷ 0x54 ∷ 0x41 ∷ 0x45 ∷ 0x53
    ∷ 0x04 ∷ 0x00 ∷ 0x00 ∷ 0x00 ∷ 0x00 ∷ 0x00 ∷ 0x2A ∷ 0x00 ∷ 0x00 ∷ 0x00 ∷ []

abbrev pub five : Budget
five = Walk.allowing 5 Walk.most_content

-- the root's fixed part of 35 bytes, the list's element of 8, its table's 4, the union's the same 4, the text's 2
pub accepted-message : Walk.verdict Bytes.u48 newer message five ≡ Walk.at_zero 0 (Walk.spending 5 53)
unfolding Lists.every Lists.run Bytes.le Bytes.bit_at Bytes.is_nan Bytes.largest Bytes.deepest Bytes.u48 Bytes.u32 Bytes.width_known Utf8.within Utf8.after_first Utf8.after_octet Utf8.may_end Utf8.text_from Utf8.is_text Schema.struct_of Schema.element_of Schema.cases_of Schema.table_of Schema.case_of Structs.lower Structs.by_index Structs.flat_width Structs.total Structs.size_by Structs.struct_size Structs.flat_ok Structs.flats_ok Structs.ok_by Structs.struct_ok Packed.kind_at Packed.optional_at Packed.inplace_at Packed.zero_at Packed.argument_at Packed.width_of Packed.flat_of Packed.object_of Packed.kind_of Packed.flat_at Packed.object_at Packed.element_at Packed.member_at Packed.records Packed.record_place Packed.blocks Packed.struct_place Packed.list_place Packed.union_place Packed.table_place Packed.id_at Packed.records_at Packed.table_at Packed.parse Lawful.counts_ok Lawful.blocks_ok Lawful.places_ok Lawful.shape_ok Lawful.argument_ok Lawful.kind_ok Lawful.optional_ok Lawful.inplace_ok Lawful.flags_ok Lawful.record_ok Lawful.first_ok Lawful.records_ok Lawful.inplaces Lawful.direct_table Lawful.held_union Lawful.direct_ok Lawful.struct_lawful Lawful.list_lawful Lawful.union_lawful Lawful.table_lawful Lawful.id_differs Lawful.id_lawful Lawful.rules_ok Lawful.well_formed Lawful.older_member Lawful.older_element Lawful.older_union Lawful.older_table Lawful.older_ok Lawful.lawful Layout.flat_is_bool Layout.is_bool Layout.width Layout.flat_takes_flag Layout.takes_flag Layout.has_flag Layout.begin Layout.bit_byte Layout.bit_index Layout.after_bit Layout.after_bytes Layout.after_flag Layout.bit_slot Layout.slot_of Layout.after_value Layout.member_slot Layout.placement_of Layout.after_member Step.enum_step Step.float_step Step.struct_tested Step.place_of Step.object_step Step.union_step Step.flat_step Step.value_step Step.inside Step.flagged Step.placed_step Step.member_step Step.element_place Step.element_step Step.elements_size Walk.placed Walk.magic Walk.header_size Walk.element_id Walk.element_size Walk.most_elements Walk.start_size Walk.content_size Walk.content_length Walk.end_ok Walk.text_ok Walk.fit_content Walk.direct_header Walk.header_tested Walk.stands_in_place Walk.fit_object Walk.bytes_tested Walk.open_object Walk.refuse Walk.and_then Walk.refuse_part Walk.follow_choice Walk.follow Walk.members Walk.elements Walk.directs Walk.content Walk.enter Walk.with_content Walk.admit Walk.arrive Walk.too_deep Walk.one_more Walk.most_content Walk.counted Walk.visit Walk.root_place Walk.nothing Walk.walk Walk.verdict_of Walk.early Walk.size_ok Walk.start_ok Walk.verdict
accepted-message = refl

pub every_kind_agrees : OlderAgrees Bytes.u48 older newer message five
every_kind_agrees =
    older_agrees Bytes.u48 older newer message (bytes older refl) (bytes newer refl) (bytes message refl) every_kind_appends five
    (ap (λ (v : Verdict). v.number) accepted-message)

-- the older's sheet: both enums and both choices are unknown
pub every_kind-sheet : Message.message_sheet Bytes.u48 older message ≡ 0x70 ∷ 0x2B ∷ 0x02 ∷ 0x04 ∷ 0xA0 ∷ 0x00 ∷ 0x00 ∷ 0x00 ∷ 0x30 ∷ 0x00 ∷ 0x14 ∷ 0x00 ∷ 0x04 ∷ []
unfolding Lists.every Lists.run Bytes.le Bytes.bit_at Bytes.is_nan Bytes.largest Bytes.deepest Bytes.u48 Bytes.u32 Bytes.width_known Utf8.within Utf8.after_first Utf8.after_octet Utf8.may_end Utf8.text_from Utf8.is_text Schema.struct_of Schema.element_of Schema.cases_of Schema.table_of Schema.case_of Structs.lower Structs.by_index Structs.flat_width Structs.total Structs.size_by Structs.struct_size Structs.flat_ok Structs.flats_ok Structs.ok_by Structs.struct_ok Packed.kind_at Packed.optional_at Packed.inplace_at Packed.zero_at Packed.argument_at Packed.width_of Packed.flat_of Packed.object_of Packed.kind_of Packed.flat_at Packed.object_at Packed.element_at Packed.member_at Packed.records Packed.record_place Packed.blocks Packed.struct_place Packed.list_place Packed.union_place Packed.table_place Packed.id_at Packed.records_at Packed.table_at Packed.parse Lawful.counts_ok Lawful.blocks_ok Lawful.places_ok Lawful.shape_ok Lawful.argument_ok Lawful.kind_ok Lawful.optional_ok Lawful.inplace_ok Lawful.flags_ok Lawful.record_ok Lawful.first_ok Lawful.records_ok Lawful.inplaces Lawful.direct_table Lawful.held_union Lawful.direct_ok Lawful.struct_lawful Lawful.list_lawful Lawful.union_lawful Lawful.table_lawful Lawful.id_differs Lawful.id_lawful Lawful.rules_ok Lawful.well_formed Lawful.older_member Lawful.older_element Lawful.older_union Lawful.older_table Lawful.older_ok Lawful.lawful Layout.flat_is_bool Layout.is_bool Layout.width Layout.flat_takes_flag Layout.takes_flag Layout.has_flag Layout.begin Layout.bit_byte Layout.bit_index Layout.after_bit Layout.after_bytes Layout.after_flag Layout.bit_slot Layout.slot_of Layout.after_value Layout.member_slot Layout.placement_of Layout.after_member Step.enum_step Step.float_step Step.struct_tested Step.place_of Step.object_step Step.union_step Step.flat_step Step.value_step Step.inside Step.flagged Step.placed_step Step.member_step Step.element_place Step.element_step Step.elements_size Walk.placed Walk.magic Walk.header_size Walk.element_id Walk.element_size Walk.most_elements Walk.start_size Walk.content_size Walk.content_length Walk.end_ok Walk.text_ok Walk.fit_content Walk.direct_header Walk.header_tested Walk.stands_in_place Walk.fit_object Walk.bytes_tested Walk.open_object Walk.refuse Walk.and_then Walk.refuse_part Walk.follow_choice Walk.follow Walk.members Walk.elements Walk.directs Walk.content Walk.enter Walk.with_content Walk.admit Walk.arrive Walk.too_deep Walk.one_more Walk.most_content Walk.counted Walk.visit Walk.root_place Walk.nothing Walk.walk Walk.verdict_of Walk.early Walk.size_ok Walk.start_ok Walk.verdict Value.as_number Value.as_blob Value.as_row Value.as_object Value.first Value.others Value.count Read.step_read Read.fields_read Read.read_by Read.struct_read Read.members_read Read.elements_read Read.directs_read Read.content_read Read.place_read Read.read Read.message_read Step.field_step Bits.bits_of Bits.bits Bits.value Bits.pack Bits.byte_count Bits.packed Sheet.mark_bits Sheet.flat_bits Sheet.field_bits Sheet.fields_bits Sheet.bits_by Sheet.struct_bits Sheet.body_bits Sheet.flat_unknown Sheet.unknown_width Sheet.part_bits Sheet.flat_unmarked Sheet.unmarked Sheet.element_bits Sheet.members_bits Sheet.elements_bits Sheet.directs_bits Sheet.blob_bits Sheet.content_bits Sheet.encode Sheet.sheet_bits Sheet.sheet_of Message.message_sheet
every_kind-sheet = refl

-- ---- the papers' O and N
lawful-O : Lawful.lawful Bytes.u48 O ≡ true
unfolding Lists.every Lists.run Schema.struct_of Structs.lower Structs.by_index Structs.flat_width Structs.total Structs.size_by Structs.struct_size Packed.kind_at Packed.optional_at Packed.inplace_at Packed.zero_at Packed.argument_at Packed.width_of Packed.flat_of Packed.object_of Packed.kind_of Packed.flat_at Packed.object_at Packed.element_at Packed.member_at Packed.records Packed.record_place Packed.blocks Packed.struct_place Packed.list_place Packed.union_place Packed.table_place Packed.id_at Packed.records_at Packed.table_at Packed.parse Lawful.counts_ok Lawful.blocks_ok Lawful.places_ok Lawful.shape_ok Lawful.argument_ok Lawful.kind_ok Lawful.optional_ok Lawful.inplace_ok Lawful.flags_ok Lawful.record_ok Lawful.first_ok Lawful.records_ok Lawful.inplaces Lawful.direct_table Lawful.held_union Lawful.direct_ok Lawful.struct_lawful Lawful.list_lawful Lawful.union_lawful Lawful.table_lawful Lawful.id_differs Lawful.id_lawful Lawful.rules_ok Lawful.well_formed Lawful.older_member Lawful.older_element Lawful.older_union Lawful.older_table Lawful.older_ok Lawful.lawful Bytes.u32 Bytes.width_known Bytes.u48
lawful-O = refl

lawful-N : Lawful.lawful Bytes.u48 N ≡ true
unfolding Lists.every Lists.run Schema.struct_of Structs.lower Structs.by_index Structs.flat_width Structs.total Structs.size_by Structs.struct_size Packed.kind_at Packed.optional_at Packed.inplace_at Packed.zero_at Packed.argument_at Packed.width_of Packed.flat_of Packed.object_of Packed.kind_of Packed.flat_at Packed.object_at Packed.element_at Packed.member_at Packed.records Packed.record_place Packed.blocks Packed.struct_place Packed.list_place Packed.union_place Packed.table_place Packed.id_at Packed.records_at Packed.table_at Packed.parse Lawful.counts_ok Lawful.blocks_ok Lawful.places_ok Lawful.shape_ok Lawful.argument_ok Lawful.kind_ok Lawful.optional_ok Lawful.inplace_ok Lawful.flags_ok Lawful.record_ok Lawful.first_ok Lawful.records_ok Lawful.inplaces Lawful.direct_table Lawful.held_union Lawful.direct_ok Lawful.struct_lawful Lawful.list_lawful Lawful.union_lawful Lawful.table_lawful Lawful.id_differs Lawful.id_lawful Lawful.rules_ok Lawful.well_formed Lawful.older_member Lawful.older_element Lawful.older_union Lawful.older_table Lawful.older_ok Lawful.lawful Bytes.u32 Bytes.width_known Bytes.u48
lawful-N = refl

schemas-O-N : SchemaAppends (Packed.parse O) (Packed.parse N)
unfolding Lists.run Packed.kind_at Packed.optional_at Packed.inplace_at Packed.argument_at Packed.width_of Packed.flat_of Packed.object_of Packed.kind_of Packed.flat_at Packed.object_at Packed.element_at Packed.member_at Packed.records Packed.record_place Packed.blocks Packed.struct_place Packed.list_place Packed.union_place Packed.table_place Packed.id_at Packed.records_at Packed.table_at Packed.parse
schemas-O-N =
    record {
      root = refl;
      structs = rest;
      lists = rest;
      unions = rest;
      tables =
          more (record { id = refl; members = more (record { kind = flat integer; optional = refl; inplace = refl }) rest }) rest;
    }

pub O-N_appends : Appends Bytes.u48 O N
O-N_appends = record { older-lawful = lawful-O; newer-lawful = lawful-N; schemas = schemas-O-N }

-- "1. M by N, budget 2: 0 0 2"
abbrev two : Budget
two = Walk.allowing 2 Walk.most_content

accepted-M : (Walk.verdict Bytes.u48 N M two).number ≡ 0
unfolding Lists.every Lists.run Bytes.le Bytes.bit_at Bytes.is_nan Bytes.largest Bytes.deepest Bytes.u48 Bytes.u32 Bytes.width_known Utf8.within Utf8.after_first Utf8.after_octet Utf8.may_end Utf8.text_from Utf8.is_text Schema.struct_of Schema.element_of Schema.cases_of Schema.table_of Schema.case_of Structs.lower Structs.by_index Structs.flat_width Structs.total Structs.size_by Structs.struct_size Structs.flat_ok Structs.flats_ok Structs.ok_by Structs.struct_ok Packed.kind_at Packed.optional_at Packed.inplace_at Packed.zero_at Packed.argument_at Packed.width_of Packed.flat_of Packed.object_of Packed.kind_of Packed.flat_at Packed.object_at Packed.element_at Packed.member_at Packed.records Packed.record_place Packed.blocks Packed.struct_place Packed.list_place Packed.union_place Packed.table_place Packed.id_at Packed.records_at Packed.table_at Packed.parse Lawful.counts_ok Lawful.blocks_ok Lawful.places_ok Lawful.shape_ok Lawful.argument_ok Lawful.kind_ok Lawful.optional_ok Lawful.inplace_ok Lawful.flags_ok Lawful.record_ok Lawful.first_ok Lawful.records_ok Lawful.inplaces Lawful.direct_table Lawful.held_union Lawful.direct_ok Lawful.struct_lawful Lawful.list_lawful Lawful.union_lawful Lawful.table_lawful Lawful.id_differs Lawful.id_lawful Lawful.rules_ok Lawful.well_formed Lawful.older_member Lawful.older_element Lawful.older_union Lawful.older_table Lawful.older_ok Lawful.lawful Layout.flat_is_bool Layout.is_bool Layout.width Layout.flat_takes_flag Layout.takes_flag Layout.has_flag Layout.begin Layout.bit_byte Layout.bit_index Layout.after_bit Layout.after_bytes Layout.after_flag Layout.bit_slot Layout.slot_of Layout.after_value Layout.member_slot Layout.placement_of Layout.after_member Step.enum_step Step.float_step Step.struct_tested Step.place_of Step.object_step Step.union_step Step.flat_step Step.value_step Step.inside Step.flagged Step.placed_step Step.member_step Step.element_place Step.element_step Step.elements_size Walk.placed Walk.magic Walk.header_size Walk.element_id Walk.element_size Walk.most_elements Walk.start_size Walk.content_size Walk.content_length Walk.end_ok Walk.text_ok Walk.fit_content Walk.direct_header Walk.header_tested Walk.stands_in_place Walk.fit_object Walk.bytes_tested Walk.open_object Walk.refuse Walk.and_then Walk.refuse_part Walk.follow_choice Walk.follow Walk.members Walk.elements Walk.directs Walk.content Walk.enter Walk.with_content Walk.admit Walk.arrive Walk.too_deep Walk.one_more Walk.most_content Walk.counted Walk.visit Walk.root_place Walk.nothing Walk.walk Walk.verdict_of Walk.early Walk.size_ok Walk.start_ok Walk.verdict
accepted-M = refl

pub case-one : OlderAgrees Bytes.u48 O N M two
case-one = older_agrees Bytes.u48 O N M (bytes O refl) (bytes N refl) (bytes M refl) O-N_appends two accepted-M
