-- 02, K6, "Which member?": cases worked out by hand. A verdict is shown as number, place, member and visits, a field's answer as
-- its case and numbers: 7, then number, place and member. 4,294,967,295 is 0xFFFFFFFF here.
use Rattle.std.specs.Prelude.{◌≡◌, refl, List, [], ◌∷◌, ◌++◌, map, ℕ, take, set}
use Rattle.coding.specs.Lists as Lists
use Rattle.coding.specs.Bytes as Bytes
use Rattle.coding.specs.Utf8 as Utf8
use Rattle.coding.specs.Schema as Schema
use Rattle.coding.specs.Structs as Structs
use Rattle.coding.specs.Packed as Packed
use Rattle.coding.specs.Lawful as Lawful
use Rattle.coding.specs.Layout as Layout
use Rattle.coding.specs.Step as Step
use Rattle.coding.specs.Walk as Walk
use Rattle.coding.specs.Field as Field
use Rattle.coding.specs.declared.Verdict.{Verdict}
use Rattle.coding.specs.declared.Answer.{Answer}
use Rattle.demands.specs.Counter.{Case, N, M}
use Rattle.demands.specs.Traps.{table, u48, rooted, case}

-- ---- schemas and messages, beside N and M, which has its root at 10, a U16 in it, and a text of two bytes at 28
-- three U16s; a U8 and an optional U16
abbrev numbers : List ℕ
numbers = table 3 (0x10 ∷ 0 ∷ 0x10 ∷ 0 ∷ 0x10 ∷ 0 ∷ [])

abbrev optional : List ℕ
optional = table 2 (0x08 ∷ 0 ∷ 0x14 ∷ 0 ∷ [])

-- a U8 and a struct of two U8s and a bool, whose byte is given; the struct at 21
abbrev struct : List ℕ
struct = 1 ∷ 0 ∷ 0 ∷ 1 ∷ 0 ∷ 3 ∷ 0x08 ∷ 0 ∷ 0x08 ∷ 0 ∷ 0x00 ∷ 0 ∷ 0x4C ∷ 0x49 ∷ 0x43 ∷ 0x45 ∷ 2 ∷ 0x08 ∷ 0 ∷ 0x60 ∷ 0 ∷ []

abbrev struct_message : ℕ → List ℕ
struct_message bool = rooted 4 (7 ∷ 8 ∷ 9 ∷ bool ∷ [])

-- a reference to a second table, which has two U8s and a U16; the second table at 26, its fixed part of n bytes
abbrev tables : List ℕ
tables =
    0 ∷ 0 ∷ 0 ∷ 2 ∷ 0 ∷ 0x4C ∷ 0x49 ∷ 0x43 ∷ 0x45 ∷ 1 ∷ 0x80 ∷ 1 ∷ 0x53 ∷ 0x45 ∷ 0x41 ∷ 0x54 ∷ 3 ∷ 0x08 ∷ 0 ∷ 0x08 ∷ 0 ∷ 0x10 ∷ 0 ∷ []

abbrev tables_message : ℕ → List ℕ
tables_message n = rooted 6 (u48 26 ++ (0x54 ∷ 0x41 ∷ 0x45 ∷ 0x53 ∷ u48 n ++ (1 ∷ 2 ∷ 3 ∷ 0 ∷ [])))

-- a U8 and a union of a text: choice 1, offset 0
abbrev union : List ℕ
union = 0 ∷ 0 ∷ 1 ∷ 1 ∷ 0 ∷ 1 ∷ 0x68 ∷ 0 ∷ 0x4C ∷ 0x49 ∷ 0x43 ∷ 0x45 ∷ 2 ∷ 0x08 ∷ 0 ∷ 0x88 ∷ 0 ∷ []

abbrev union_message : List ℕ
union_message = rooted 9 (7 ∷ 1 ∷ 0 ∷ u48 0)

-- a list of such unions, at 26: choice 0; choice 1, offset 0
abbrev unions : List ℕ
unions = 0 ∷ 1 ∷ 1 ∷ 1 ∷ 0 ∷ 0x88 ∷ 0 ∷ 1 ∷ 0x68 ∷ 0 ∷ 0x4C ∷ 0x49 ∷ 0x43 ∷ 0x45 ∷ 1 ∷ 0x78 ∷ 0 ∷ []

abbrev unions_message : List ℕ
unions_message = rooted 6 (u48 26 ++ (0x46 ∷ 0xBB ∷ 0x00 ∷ 0x34 ∷ u48 2 ++ (0 ∷ 0 ∷ u48 0 ++ (1 ∷ 0 ∷ u48 0))))

-- ---- what the definitions give
told : Verdict → List ℕ
told v = v.number ∷ v.place ∷ v.member ∷ v.visits ∷ []

judged : List ℕ → List ℕ → ℕ → List ℕ
judged b m n = told (Walk.verdict Bytes.u48 b m (Walk.allowing n Walk.most_content))

answered : Answer → List ℕ
answered a = Field.case_numbers (Field.answer_case a)

field : List ℕ → List ℕ → List ℕ → List ℕ
field b m path = answered (Field.field Bytes.u48 b m path)

-- the list reader's step at element j
stepped : List ℕ → List ℕ → List ℕ → ℕ → List ℕ
stepped b m path j = answered (Field.reader_gives Bytes.u48 b m path j)

pub walk_cases : List Case
walk_cases =
    -- "Refusals 8, 9 and 10 shall carry the member's or element's number in its holder, counted from 0": the first of three is
    -- cut by the end of the fixed part, and the last
    case (judged numbers (rooted 1 (1 ∷ [])) 1) (8 ∷ 10 ∷ 0 ∷ 1 ∷ [])
    ∷ case (judged numbers (rooted 5 (1 ∷ 0 ∷ 2 ∷ 0 ∷ 3 ∷ [])) 1) (8 ∷ 10 ∷ 2 ∷ 1 ∷ [])
    -- a flag without value, of member 1; with flag 0 it is accepted
    ∷ case (judged optional (rooted 2 (7 ∷ 1 ∷ [])) 1) (8 ∷ 10 ∷ 1 ∷ 1 ∷ [])
    ∷ case (judged optional (rooted 2 (7 ∷ 0 ∷ [])) 1) (0 ∷ 0 ∷ 0xFFFF_FFFF ∷ 1 ∷ [])
    -- "A struct reports the table's member.": the bool is member 2 of the struct, the struct member 1 of the table
    ∷ case (judged struct (struct_message 2) 1) (10 ∷ 10 ∷ 1 ∷ 1 ∷ [])
    ∷ case (judged struct (struct_message 1) 1) (0 ∷ 0 ∷ 0xFFFF_FFFF ∷ 1 ∷ [])
    -- "in its holder": member 2 of the second table, which is member 0 of the root
    ∷ case (judged tables (tables_message 3) 2) (8 ∷ 26 ∷ 2 ∷ 2 ∷ [])
    -- a known choice without an offset: member 1 of a table, element 1 of a list
    ∷ case (judged union union_message 1) (9 ∷ 10 ∷ 1 ∷ 1 ∷ [])
    ∷ case (judged unions unions_message 2) (9 ∷ 26 ∷ 1 ∷ 2 ∷ [])
    -- "a text's end byte and every other answer carry 4,294,967,295": the text is member 1 of its table
    ∷ case (judged N (set M 40 1) 2) (10 ∷ 28 ∷ 0xFFFF_FFFF ∷ 2 ∷ [])
    ∷ case (judged N (take 40 M) 2) (6 ∷ 28 ∷ 0xFFFF_FFFF ∷ 2 ∷ [])
    ∷ case (judged N (set M 28 0) 2) (7 ∷ 28 ∷ 0xFFFF_FFFF ∷ 2 ∷ [])
    ∷ case (judged N M 1) (4 ∷ 28 ∷ 0xFFFF_FFFF ∷ 1 ∷ [])
    ∷ case (told (Walk.verdict Bytes.u48 N M (Walk.allowing 2 9))) (17 ∷ 28 ∷ 0xFFFF_FFFF ∷ 2 ∷ [])
    ∷ case (judged N M 2) (0 ∷ 0 ∷ 0xFFFF_FFFF ∷ 2 ∷ [])
    ∷ case (judged N [] 2) (2 ∷ 0 ∷ 0xFFFF_FFFF ∷ 0 ∷ [])
    ∷ []

-- "Field reading answers likewise."
pub field_cases : List Case
field_cases =
    case (field numbers (rooted 5 (1 ∷ 0 ∷ 2 ∷ 0 ∷ 3 ∷ [])) (2 ∷ [])) (7 ∷ 8 ∷ 10 ∷ 2 ∷ [])
    ∷ case (field optional (rooted 2 (7 ∷ 1 ∷ [])) (1 ∷ [])) (7 ∷ 8 ∷ 10 ∷ 1 ∷ [])
    ∷ case (field struct (struct_message 2) (1 ∷ 0 ∷ [])) (7 ∷ 10 ∷ 10 ∷ 1 ∷ [])
    ∷ case (field tables (tables_message 3) (0 ∷ 2 ∷ [])) (7 ∷ 8 ∷ 26 ∷ 2 ∷ [])
    ∷ case (field union union_message (1 ∷ [])) (7 ∷ 9 ∷ 10 ∷ 1 ∷ [])
    ∷ case (field unions unions_message (0 ∷ 1 ∷ [])) (7 ∷ 9 ∷ 26 ∷ 1 ∷ [])
    ∷ case (stepped unions unions_message (0 ∷ []) 1) (7 ∷ 9 ∷ 26 ∷ 1 ∷ [])
    ∷ case (field N (set M 40 1) (1 ∷ [])) (7 ∷ 10 ∷ 28 ∷ 0xFFFF_FFFF ∷ [])
    ∷ case (field N M (2 ∷ [])) (7 ∷ 15 ∷ 10 ∷ 0xFFFF_FFFF ∷ [])
    ∷ case (field N [] (0 ∷ [])) (7 ∷ 2 ∷ 0 ∷ 0xFFFF_FFFF ∷ [])
    ∷ []

-- THE CLAIM: each case gives what the paper says.
pub member_cases : map (λ c. c.given) (walk_cases ++ field_cases) ≡ map (λ c. c.expected) (walk_cases ++ field_cases)
unfolding walk_cases field_cases told judged answered field stepped Lists.every Lists.run Bytes.le Bytes.le_bytes Bytes.bit_at Bytes.is_nan Bytes.no_float Bytes.largest Bytes.deepest Bytes.u48 Bytes.u32 Bytes.width_known Utf8.within Utf8.after_first Utf8.after_octet Utf8.may_end Utf8.text_from Utf8.is_text Schema.struct_of Schema.element_of Schema.cases_of Schema.table_of Schema.field_of Schema.case_of Schema.plain_bool Schema.member_of Structs.lower Structs.by_index Structs.flat_width Structs.total Structs.size_by Structs.struct_size Structs.flat_ok Structs.flats_ok Structs.ok_by Structs.struct_ok Packed.kind_at Packed.optional_at Packed.inplace_at Packed.zero_at Packed.argument_at Packed.width_of Packed.flat_of Packed.object_of Packed.kind_of Packed.flat_at Packed.object_at Packed.element_at Packed.member_at Packed.records Packed.record_place Packed.blocks Packed.struct_place Packed.list_place Packed.union_place Packed.table_place Packed.id_at Packed.records_at Packed.table_at Packed.parse Lawful.counts_ok Lawful.blocks_ok Lawful.places_ok Lawful.shape_ok Lawful.argument_ok Lawful.kind_ok Lawful.optional_ok Lawful.inplace_ok Lawful.flags_ok Lawful.record_ok Lawful.first_ok Lawful.records_ok Lawful.inplaces Lawful.direct_table Lawful.held_union Lawful.direct_ok Lawful.struct_lawful Lawful.list_lawful Lawful.union_lawful Lawful.table_lawful Lawful.id_differs Lawful.id_lawful Lawful.rules_ok Lawful.well_formed Lawful.older_member Lawful.older_element Lawful.older_union Lawful.older_table Lawful.older_ok Lawful.lawful Layout.flat_is_bool Layout.is_bool Layout.width Layout.flat_takes_flag Layout.takes_flag Layout.has_flag Layout.begin Layout.bit_byte Layout.bit_index Layout.after_bit Layout.after_bytes Layout.after_flag Layout.bit_slot Layout.slot_of Layout.after_value Layout.member_slot Layout.placement_of Layout.after_member Layout.after_members Layout.fixed_size Step.enum_step Step.float_step Step.struct_tested Step.place_of Step.object_step Step.union_step Step.flat_step Step.field_step Step.value_step Step.inside Step.flagged Step.placed_step Step.member_step Step.element_place Step.element_step Step.elements_size Walk.placed Walk.magic Walk.header_size Walk.element_id Walk.element_size Walk.most_elements Walk.start_size Walk.content_size Walk.content_length Walk.end_ok Walk.text_ok Walk.fit_content Walk.direct_header Walk.header_tested Walk.stands_in_place Walk.fit_object Walk.bytes_tested Walk.open_object Walk.refuse Walk.and_then Walk.refuse_part Walk.follow_choice Walk.follow Walk.members Walk.elements Walk.directs Walk.content Walk.enter Walk.with_content Walk.admit Walk.arrive Walk.too_deep Walk.one_more Walk.most_content Walk.counted Walk.visit Walk.root_place Walk.nothing Walk.walk Walk.verdict_of Walk.early Walk.size_ok Walk.start_ok Walk.verdict Walk.no_member Field.no_part Field.opened Field.arrived Field.part_refused Field.chosen Field.stepped Field.struct_part Field.object_part Field.part_of Field.along Field.found Field.flat_answer Field.value_answer Field.record_kind Field.answer_of Field.answer_verdict Field.before Field.field_found Field.field Field.answer_case Field.case_numbers Field.reader_of Field.reader_start Field.list_found Field.leads Field.list_gives Field.reader_gives
member_cases = refl
