-- "Reading one field": the order in which 1, 15, 2 and 3 come, and the place of 15, which no general theorem fixes since
-- both of its sides go by them. Cases of paper 01, in two tables under one claim.
use Rattle.std.specs.Prelude.{◌≡◌, refl, List, [], ◌∷◌, ◌++◌, map, ℕ, zero, suc, take, set}
use Rattle.coding.specs.Lists as Lists
use Rattle.coding.specs.Bytes as Bytes
use Rattle.coding.specs.Utf8 as Utf8
use Rattle.coding.specs.Schema as Schema
use Rattle.coding.specs.Structs as Structs
use Rattle.coding.specs.Packed as Packed
use Rattle.coding.specs.Lawful as Lawful
use Rattle.coding.specs.Layout as Layout
use Rattle.coding.specs.Step as Step
use Rattle.coding.specs.Walk as Walk
use Rattle.coding.specs.Field as Field
use Rattle.coding.specs.declared.Answer.{Answer}
use Rattle.demands.specs.Counter.{Case, N, M}
use Rattle.demands.specs.Traps.{u48, rooted, in_place, enum, outcome, case}

-- ---- schemas and messages, beside N and M, which has its root at 10, a U16 in it, and a text of two bytes at 28
-- the root has a reference to a second table with a U16; the same in place
abbrev tables : ℕ → List ℕ
tables first =
    0 ∷ 0 ∷ 0 ∷ 2 ∷ 0 ∷ 0x4C ∷ 0x49 ∷ 0x43 ∷ 0x45 ∷ 1 ∷ first ∷ 1 ∷ 0x53 ∷ 0x45 ∷ 0x41 ∷ 0x54 ∷ 1 ∷ 0x10 ∷ 0 ∷ []

abbrev linked : List ℕ
linked = tables 0x80

abbrev nested : List ℕ
nested = tables 0x82

-- the second table at 26; its content in place at 26
abbrev linked_message : List ℕ
linked_message = rooted 6 (u48 26 ++ (0x54 ∷ 0x41 ∷ 0x45 ∷ 0x53 ∷ u48 2 ++ (3 ∷ 0 ∷ [])))

abbrev nested_message : List ℕ
nested_message = rooted 6 (u48 2 ++ (3 ∷ 0 ∷ []))

-- a U8 and a struct of a U16 and an inner struct, which has a bool; the struct at 21, the inner one at 23
abbrev structs : List ℕ
structs =
    2 ∷ 0 ∷ 0 ∷ 1 ∷ 0 ∷ 1 ∷ 0x00 ∷ 0 ∷ 2 ∷ 0x10 ∷ 0 ∷ 0x60 ∷ 0 ∷ 0x4C ∷ 0x49 ∷ 0x43 ∷ 0x45 ∷ 2 ∷ 0x08 ∷ 0 ∷ 0x60 ∷ 1 ∷ []

abbrev structs_message : ℕ → List ℕ
structs_message bool = rooted 4 (7 ∷ 3 ∷ 0 ∷ bool ∷ [])

-- a list of U16, at 26: 3 and 4
abbrev numbers : List ℕ
numbers = 0 ∷ 1 ∷ 0 ∷ 1 ∷ 0 ∷ 0x10 ∷ 0 ∷ 0x4C ∷ 0x49 ∷ 0x43 ∷ 0x45 ∷ 1 ∷ 0x78 ∷ 0 ∷ []

abbrev numbers_message : List ℕ
numbers_message = rooted 6 (u48 26 ++ (0x46 ∷ 0xBB ∷ 0x00 ∷ 0x34 ∷ u48 2 ++ (3 ∷ 0 ∷ 4 ∷ 0 ∷ [])))

-- no lawful schema; M with a wrong magic; a path of n numbers
abbrev unlawful : List ℕ
unlawful = []

abbrev unmarked : List ℕ
unmarked = set M 0 0

zeros : ℕ → List ℕ
zeros zero = []
zeros (suc n) = 0 ∷ zeros n

-- ---- what the definitions give
-- number, place and visits of an answer; and behind them, where it is no refusal, its case and values
answered : Answer → List ℕ
answered a = outcome (Field.answer_verdict a) (Field.case_numbers (Field.answer_case a))

field : List ℕ → List ℕ → List ℕ → List ℕ
field b m path = answered (Field.field Bytes.u48 b m path)

-- ---- "1, 15 for length, 2 and 3 come first"
pub order_cases : List Case
order_cases =
    -- a schema that is not lawful, with all else wrong too: 1 before 15, 2 and 3
    case (field unlawful [] (zeros 97)) (1 ∷ 0 ∷ 0 ∷ [])
    ∷ case (field unlawful M (zeros 97)) (1 ∷ 0 ∷ 0 ∷ [])
    ∷ case (field unlawful [] []) (1 ∷ 0 ∷ 0 ∷ [])
    ∷ case (field unlawful unmarked []) (1 ∷ 0 ∷ 0 ∷ [])
    -- a "path over 96 numbers": 15 before 2 and 3, with "0 for length"; 96 numbers are not over 96, and 15 comes at the root
    ∷ case (field N [] (zeros 97)) (15 ∷ 0 ∷ 0 ∷ [])
    ∷ case (field N unmarked (zeros 97)) (15 ∷ 0 ∷ 0 ∷ [])
    ∷ case (field N M (zeros 97)) (15 ∷ 0 ∷ 0 ∷ [])
    ∷ case (field N M (zeros 96)) (15 ∷ 10 ∷ 0 ∷ [])
    ∷ case (field N [] (zeros 96)) (2 ∷ 0 ∷ 0 ∷ [])
    -- "message under 10 bytes", with a wrong magic too: 2 before 3; and 3 before anything is judged
    ∷ case (field N (take 9 unmarked) []) (2 ∷ 0 ∷ 0 ∷ [])
    ∷ case (field N (take 10 unmarked) []) (3 ∷ 0 ∷ 0 ∷ [])
    ∷ case (field N unmarked (2 ∷ [])) (3 ∷ 0 ∷ 0 ∷ [])
    ∷ []

-- ---- 15, "path step has no such part", at the "last object judged"
pub place_cases : List Case
place_cases =
    -- a table without such a member: at the table; in place, where its content starts
    case (field N M (2 ∷ [])) (15 ∷ 10 ∷ 0 ∷ [])
    ∷ case (field linked linked_message (0 ∷ 1 ∷ [])) (15 ∷ 26 ∷ 0 ∷ [])
    ∷ case (field nested nested_message (0 ∷ 1 ∷ [])) (15 ∷ 26 ∷ 0 ∷ [])
    -- a text has no parts: at the text; in place, where its content starts
    ∷ case (field N M (1 ∷ 0 ∷ [])) (15 ∷ 28 ∷ 0 ∷ [])
    ∷ case (field in_place (rooted 6 (u48 2 ++ (0x61 ∷ 0x62 ∷ 0x00 ∷ []))) (0 ∷ 0 ∷ [])) (15 ∷ 26 ∷ 0 ∷ [])
    -- a number has no parts: at the table or the list that holds it
    ∷ case (field N M (0 ∷ [])) (0 ∷ 0 ∷ 0 ∷ 1 ∷ 3 ∷ 16 ∷ 0 ∷ [])
    ∷ case (field N M (0 ∷ 0 ∷ [])) (15 ∷ 10 ∷ 0 ∷ [])
    ∷ case (field linked linked_message (0 ∷ 0 ∷ 0 ∷ [])) (15 ∷ 26 ∷ 0 ∷ [])
    ∷ case (field nested nested_message (0 ∷ 0 ∷ 0 ∷ [])) (15 ∷ 26 ∷ 0 ∷ [])
    ∷ case (field numbers numbers_message (0 ∷ 1 ∷ 0 ∷ [])) (15 ∷ 26 ∷ 0 ∷ [])
    -- a list without such an element: at the list
    ∷ case (field numbers numbers_message (0 ∷ 1 ∷ [])) (0 ∷ 0 ∷ 0 ∷ 1 ∷ 4 ∷ 16 ∷ 0 ∷ [])
    ∷ case (field numbers numbers_message (0 ∷ 2 ∷ [])) (15 ∷ 26 ∷ 0 ∷ [])
    -- a struct is no object: what it or its inner struct has not, and a part of its number, at the table that holds it
    ∷ case (field structs (structs_message 1) (1 ∷ [])) (0 ∷ 0 ∷ 0 ∷ 4 ∷ 21 ∷ 0 ∷ 0 ∷ [])
    ∷ case (field structs (structs_message 1) (1 ∷ 2 ∷ [])) (15 ∷ 10 ∷ 0 ∷ [])
    ∷ case (field structs (structs_message 1) (1 ∷ 1 ∷ 1 ∷ [])) (15 ∷ 10 ∷ 0 ∷ [])
    ∷ case (field structs (structs_message 1) (1 ∷ 0 ∷ 0 ∷ [])) (15 ∷ 10 ∷ 0 ∷ [])
    -- "A holder is judged before 15 is given at it."
    ∷ case (field N (set M 13 0) (2 ∷ [])) (7 ∷ 10 ∷ 0 ∷ [])
    ∷ case (field N (set M 22 9) (1 ∷ 0 ∷ [])) (6 ∷ 9 ∷ 0 ∷ [])
    ∷ case (field N (set M 40 1) (1 ∷ 0 ∷ [])) (10 ∷ 28 ∷ 0 ∷ [])
    ∷ case (field structs (structs_message 2) (1 ∷ 2 ∷ [])) (10 ∷ 10 ∷ 0 ∷ [])
    -- "An absent or unknown place ends it, whatever steps remain."
    ∷ case (field N (set M 22 0) (1 ∷ 5 ∷ 5 ∷ [])) (0 ∷ 0 ∷ 0 ∷ 5 ∷ 0 ∷ 0 ∷ 0 ∷ [])
    ∷ case (field enum (rooted 1 (3 ∷ [])) (0 ∷ 9 ∷ [])) (0 ∷ 0 ∷ 0 ∷ 6 ∷ 3 ∷ 0 ∷ 0 ∷ [])
    ∷ []

-- THE CLAIM: each case gives what the paper says.
pub field_cases : map (λ c. c.given) (order_cases ++ place_cases) ≡ map (λ c. c.expected) (order_cases ++ place_cases)
unfolding order_cases place_cases zeros field answered outcome Lists.every Lists.run Bytes.le Bytes.bit_at Bytes.is_nan Bytes.largest Bytes.deepest Bytes.u48 Bytes.u32 Bytes.width_known Utf8.within Utf8.after_first Utf8.after_octet Utf8.may_end Utf8.text_from Utf8.is_text Schema.struct_of Schema.element_of Schema.cases_of Schema.table_of Schema.field_of Schema.case_of Schema.plain_bool Schema.member_of Structs.lower Structs.by_index Structs.flat_width Structs.total Structs.size_by Structs.struct_size Structs.flat_ok Structs.flats_ok Structs.ok_by Structs.struct_ok Packed.kind_at Packed.optional_at Packed.inplace_at Packed.zero_at Packed.argument_at Packed.width_of Packed.flat_of Packed.object_of Packed.kind_of Packed.flat_at Packed.object_at Packed.element_at Packed.member_at Packed.records Packed.record_place Packed.blocks Packed.struct_place Packed.list_place Packed.union_place Packed.table_place Packed.id_at Packed.records_at Packed.table_at Packed.parse Lawful.counts_ok Lawful.blocks_ok Lawful.places_ok Lawful.shape_ok Lawful.argument_ok Lawful.kind_ok Lawful.optional_ok Lawful.inplace_ok Lawful.flags_ok Lawful.record_ok Lawful.first_ok Lawful.records_ok Lawful.inplaces Lawful.direct_table Lawful.held_union Lawful.direct_ok Lawful.struct_lawful Lawful.list_lawful Lawful.union_lawful Lawful.table_lawful Lawful.id_differs Lawful.id_lawful Lawful.rules_ok Lawful.well_formed Lawful.older_member Lawful.older_element Lawful.older_union Lawful.older_table Lawful.older_ok Lawful.lawful Layout.flat_is_bool Layout.is_bool Layout.width Layout.flat_takes_flag Layout.takes_flag Layout.has_flag Layout.begin Layout.bit_byte Layout.bit_index Layout.after_bit Layout.after_bytes Layout.after_flag Layout.bit_slot Layout.slot_of Layout.after_value Layout.member_slot Layout.placement_of Layout.after_member Layout.after_members Layout.fixed_size Step.enum_step Step.float_step Step.struct_tested Step.place_of Step.object_step Step.union_step Step.flat_step Step.field_step Step.value_step Step.inside Step.flagged Step.placed_step Step.member_step Step.element_place Step.element_step Step.elements_size Walk.placed Walk.magic Walk.header_size Walk.element_id Walk.element_size Walk.most_elements Walk.start_size Walk.content_size Walk.end_ok Walk.text_ok Walk.fit_content Walk.direct_header Walk.header_tested Walk.stands_in_place Walk.fit_object Walk.bytes_tested Walk.open_object Walk.root_place Walk.early Walk.size_ok Walk.start_ok Field.no_part Field.opened Field.arrived Field.part_refused Field.chosen Field.stepped Field.struct_part Field.object_part Field.part_of Field.along Field.found Field.flat_answer Field.value_answer Field.record_kind Field.answer_of Field.answer_verdict Field.before Field.field_found Field.field Field.answer_case Field.case_numbers Walk.nothing
field_cases = refl
