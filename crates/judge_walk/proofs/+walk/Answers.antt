use Rattle.judge_walk.proofs.DirectCases.{directs_start, directs_done, directs_stopped, directs_turn, directs_sized, directs_there, direct-place, direct-size, direct-table, direct_sound, direct-held}
use Rattle.judge_walk.proofs.ReferenceCases.{reference_past, reference-cut, reference_here, reference-text, reference_sound, reference_stopped, reference_turn, reference_laid, same_sound}
use Rattle.schema.specs.Records.{record_whole}
use native.Mathlib.Omega.{arith}
use borrow.Author.Rules.{rules}
use Rattle.outcome.proofs.ArrivalCases.{visit_stopped, visit_refused, charged_deep, not_more}
use Rattle.message_object.proofs.OpenCases.{length_small, placed_small, text_fits, list_fits, table_fits, list-counted-of, table-counted-of, offset_small, inplace-first, inplace-length}
use Rattle.judge_walk.proofs.AdmitCases.{visit-content, below_falls, admit_unpaid, admit-text, admit_bytes, admit_list, admit-table, admit-direct, held_fits}
use Rattle.judge_walk.proofs.WalkCases.{arrive-text, arrive_offset, arrive_inplace, follow_absent, follow-value, follow-unknown, follow-struct, follow_refused, follow-object, follow-choice, object_small, object-place, choice_small, choice-place, union_none, union_offset, union_inplace}
use Rattle.judge_rows.proofs.MemberCases.{members_start, members_ended, members_done, members_stopped, members_turn, members_nowhere}
use Rattle.judge_walk.proofs.ListCases.{list-flat, list_objects, list-unions, objects_sound, unions-counted, objects_there, unions_there, references-texts, choice-number, choices_stopped, choices_turn, choice_none, choice-unknown, choice-known, choice_sound}
use Rattle.judge_text.proofs.ElementCases.{value_there, value_fits, value_next, elements_start, elements_done, references_stopped, references_turn, refer_none, refer-object}
use Prim.Native.Nat.{◌-◌}
use borrow.Fn.PlainCycle.{is}
use Rattle.judge_walk.proofs.+walk.Goals as goal

pub admit-returns-then-exceeds : goal.admit-returns-then-exceeds
admit-returns-then-exceeds t c = search admit_unpaid

pub admit-rest-left-requires : goal.admit-rest-left-requires
admit-rest-left-requires t c = search not_more

pub admit-text_tested-requires : goal.admit-text_tested-requires
admit-text_tested-requires t c = search text_fits

pub admit-list-requires : goal.admit-list-requires
admit-list-requires t c = search (list-counted-of, list_fits, rules)

pub admit-table-requires : goal.admit-table-requires
admit-table-requires t c = search (table-counted-of, table_fits, rules)

pub admit-directs-requires : goal.admit-directs-requires
admit-directs-requires t c = search (direct_sound, direct-held, rules)

pub admit-returns-in-Text : goal.admit-returns-in-Text
admit-returns-in-Text t c = search admit-text

pub admit-returns-in-Bytes : goal.admit-returns-in-Bytes
admit-returns-in-Bytes t c = search admit_bytes

pub admit-returns-in-List : goal.admit-returns-in-List
admit-returns-in-List t c = search admit_list

pub admit-returns-in-Table : goal.admit-returns-in-Table
admit-returns-in-Table t c = search admit-table

pub admit-returns-in-DirectList : goal.admit-returns-in-DirectList
admit-returns-in-DirectList t c = search admit-direct

pub arrive-visit_text-requires : goal.arrive-visit_text-requires
arrive-visit_text-requires t c = search (offset_small, rules)

pub arrive-returns-then-is_text : goal.arrive-returns-then-is_text
arrive-returns-then-is_text t c = search arrive-text

pub arrive-visit-requires : goal.arrive-visit-requires
arrive-visit-requires t c = (omega arith, (c.requires.0, search offset_small))

pub arrive-visit-requires-in-InPlace : goal.arrive-visit-requires-in-InPlace
arrive-visit-requires-in-InPlace t c = search (inplace-first, inplace-length, rules)

pub arrive-returns-else-is_text : goal.arrive-returns-else-is_text
arrive-returns-else-is_text t c = search (arrive_offset, c.in-ByOffset.is, c.visit.ensures)

pub arrive-returns-in-InPlace : goal.arrive-returns-in-InPlace
arrive-returns-in-InPlace t c = search arrive_inplace

pub choice-returns-then-c-eq0 : goal.choice-returns-then-c-eq0
choice-returns-then-c-eq0 t c = search choice_none

pub choice-returns-then-case_count-c : goal.choice-returns-then-case_count-c
choice-returns-then-case_count-c t c = search choice-unknown

pub choice-union-requires : goal.choice-union-requires
choice-union-requires t c = (omega arith, (search (choice_sound, c.args.reading.now.schema.accepted, c.if-c-eq0.false, c.case_count.ensures.0, c.if-case_count-c.false, c.union_case-ob.ensures), c.offset_in-x.ensures.1))

pub choice-returns : goal.choice-returns
choice-returns t c = search choice-known

pub choices-loop-j-init : goal.choices-loop-j-init
choices-loop-j-init t c = (omega arith, omega arith, search elements_start)

pub choices-overflow_cast-part : goal.choices-overflow_cast-part
choices-overflow_cast-part t c = record { fits = choice-number _ _ _ _ _ c.loop-j-test.true c.requires.1 c.args.reading.now.within }

pub choices-choice-g-requires : goal.choices-choice-g-requires
choices-choice-g-requires t c = (omega arith, (c.requires.0, search value_there))

pub choices-returns-then-g-ne0 : goal.choices-returns-then-g-ne0
choices-returns-then-g-ne0 t c = search choices_stopped

pub choices-overflow_add-at : goal.choices-overflow_add-at
choices-overflow_add-at t c = record { fits = omega (arith, c.union_size-size.ensures, value_fits _ _ _ _ _ _ c.loop-j.invariant.1 c.loop-j-test.true c.requires.1 c.args.reading.now.within) }

pub choices-loop-j-preserved : goal.choices-loop-j-preserved
choices-loop-j-preserved t c = (omega arith, omega (arith, c.union_size-size.ensures, value_next _ _ _ _ c.loop-j.invariant.1), search choices_turn)

pub choices-returns : goal.choices-returns
choices-returns t c = search elements_done

pub directs-only_count-requires : goal.directs-only_count-requires
directs-only_count-requires t c = search (direct-table, rules)

pub directs-count-requires : goal.directs-count-requires
directs-count-requires t c = (search directs_there, c.only_count.ensures c.if-only_count.true)

pub directs-returns-then-only_count : goal.directs-returns-then-only_count
directs-returns-then-only_count t c = search directs_sized

pub directs-elements-requires : goal.directs-elements-requires
directs-elements-requires t c = search (direct-table, directs_there, rules)

pub directs-returns : goal.directs-returns
directs-returns t c = search directs_sized

pub elements-loop-j-init : goal.elements-loop-j-init
elements-loop-j-init t c = (omega arith, omega arith, search directs_start)

pub elements-visit-g-requires : goal.elements-visit-g-requires
elements-visit-g-requires t c = search (direct-place, direct-size, rules)

pub elements-returns-then-g-ne0 : goal.elements-returns-then-g-ne0
elements-returns-then-g-ne0 t c = search directs_stopped

pub elements-overflow_add-at : goal.elements-overflow_add-at
elements-overflow_add-at t c = record { fits = search value_fits }

pub elements-loop-j-preserved : goal.elements-loop-j-preserved
elements-loop-j-preserved t c = (omega arith, search value_next, search directs_turn)

pub elements-returns : goal.elements-returns
elements-returns t c = search directs_done

pub follow-arrive-requires : goal.follow-arrive-requires
follow-arrive-requires t c = search (object_small, object-place, rules)

pub follow-union-requires : goal.follow-union-requires
follow-union-requires t c = search (choice_small, choice-place, rules)

pub follow-returns-in-Refused : goal.follow-returns-in-Refused
follow-returns-in-Refused t c = search follow_refused

pub follow-returns-in-Absent : goal.follow-returns-in-Absent
follow-returns-in-Absent t c = search follow_absent

pub follow-returns-in-Value : goal.follow-returns-in-Value
follow-returns-in-Value t c = search follow-value

pub follow-returns-in-Unknown : goal.follow-returns-in-Unknown
follow-returns-in-Unknown t c = search follow-unknown

pub follow-returns-in-Struct : goal.follow-returns-in-Struct
follow-returns-in-Struct t c = search follow-struct

pub follow-returns-in-Object : goal.follow-returns-in-Object
follow-returns-in-Object t c = search follow-object

pub follow-returns-in-Choice : goal.follow-returns-in-Choice
follow-returns-in-Choice t c = search follow-choice

pub list-returns-then-is_flat_kind : goal.list-returns-then-is_flat_kind
list-returns-then-is_flat_kind t c = search list-flat

pub list-references-requires : goal.list-references-requires
list-references-requires t c = (omega arith, (search objects_sound, search objects_there))

pub list-returns-then-is_object_kind : goal.list-returns-then-is_object_kind
list-returns-then-is_object_kind t c = search list_objects

pub list-choices-requires : goal.list-choices-requires
list-choices-requires t c = (omega arith, (search unions-counted, search unions_there))

pub list-returns : goal.list-returns
list-returns t c = search list-unions

pub refer-returns-then-x-eq0 : goal.refer-returns-then-x-eq0
refer-returns-then-x-eq0 t c = search refer_none

pub refer-visit-requires : goal.refer-visit-requires
refer-visit-requires t c = (omega arith, (c.requires.0, c.requires.1))

pub refer-returns : goal.refer-returns
refer-returns t c = search refer-object

pub reference-returns-then-x-end : goal.reference-returns-then-x-end
reference-returns-then-x-end t c = search reference_past

pub reference-returns-then-x-end-2 : goal.reference-returns-then-x-end-2
reference-returns-then-x-end-2 t c = search reference-cut

pub reference-refer_text-requires : goal.reference-refer_text-requires
reference-refer_text-requires t c = c.offset_in-y.ensures.1

pub reference-returns-then-is_text : goal.reference-returns-then-is_text
reference-returns-then-is_text t c = search reference-text

pub reference-refer-requires : goal.reference-refer-requires
reference-refer-requires t c = (omega arith, (same_sound _ _ _ c.object_at-ob.ensures c.requires.object_sound.0, c.offset_in-y.ensures.1))

pub reference-returns : goal.reference-returns
reference-returns t c = reference_here _ _ _ _ _ _ _ _ _ c.requires.in_bounds.1 _ c.if-x-end.false c.if-x-end-2.false _ c.offset_in-y.ensures.0 _ c.object_at-ob.ensures c.refer.ensures

pub references-returns-then-is_text : goal.references-returns-then-is_text
references-returns-then-is_text t c = search references-texts

pub references-row_references-requires : goal.references-row_references-requires
references-row_references-requires t c = (c.requires.0, c.requires.1, c.is_row_table.ensures c.if-is_row_table.true)

pub references-returns-then-is_row_table : goal.references-returns-then-is_row_table
references-returns-then-is_row_table t c = c.row_references.ensures

pub references-loop-j-init : goal.references-loop-j-init
references-loop-j-init t c = (omega arith, omega arith, search elements_start)

pub references-offset_in-requires : goal.references-offset_in-requires
references-offset_in-requires t c = search (value_there, rules)

pub references-refer-g-requires : goal.references-refer-g-requires
references-refer-g-requires t c = (omega arith, (c.requires.0, c.offset_in.ensures.1))

pub references-returns-then-g-ne0 : goal.references-returns-then-g-ne0
references-returns-then-g-ne0 t c = search references_stopped

pub references-overflow_add-at : goal.references-overflow_add-at
references-overflow_add-at t c = record { fits = value_fits _ _ _ _ _ _ c.loop-j.invariant.1 c.loop-j-test.true c.requires.1 c.args.reading.now.within }

pub references-loop-j-preserved : goal.references-loop-j-preserved
references-loop-j-preserved t c = (omega arith, search value_next, search references_turn)

pub references-returns : goal.references-returns
references-returns t c = search elements_done

pub table-loop-j-init : goal.table-loop-j-init
table-loop-j-init t c = (omega arith, search rules, search members_start)

pub table-bit_byte-requires : goal.table-bit_byte-requires
table-bit_byte-requires t c = c.loop-j.invariant.1.byte

pub table-returns-then-x-bit_byte : goal.table-returns-then-x-bit_byte
table-returns-then-x-bit_byte t c = search members_ended

pub table-record_place-at-requires : goal.table-record_place-at-requires
table-record_place-at-requires t c = (omega arith, c.table_place-first.ensures.small, omega (arith, c.member_count-count.ensures.1))

pub table-refers-requires : goal.table-refers-requires
table-refers-requires t c = omega (arith, record_whole _ _ _ c.requires.0 _ c.member_count-count.ensures.0 c.loop-j-test.true _ c.table_place-first.ensures _ c.record_place-at.ensures.1)

pub table-overflow_cast-k : goal.table-overflow_cast-k
table-overflow_cast-k t c = record { fits = omega (arith, c.loop-j-test.true, c.member_count-count.ensures.1) }

pub table-reference-g-requires : goal.table-reference-g-requires
table-reference-g-requires t c = (omega arith, ((record_whole _ _ _ c.requires.0 _ c.member_count-count.ensures.0 c.loop-j-test.true _ c.table_place-first.ensures _ c.record_place-at.ensures.1, c.refers.ensures c.if-refers.true), (reference_sound _ _ _ c.requires.0 _ c.member_count-count.ensures.0 c.loop-j-test.true _ c.table_place-first.ensures _ _ c.args.reading.now.schema.accepted c.record_place-at.ensures.0 (c.refers.ensures c.if-refers.true), c.requires.1, omega (arith, c.loop-j.invariant.1.end, c.member_count-count.ensures.1))))

pub table-returns-then-g-ne0 : goal.table-returns-then-g-ne0
table-returns-then-g-ne0 t c = reference_stopped _ _ _ _ _ _ _ _ _ _ _ _ c.loop-j.invariant.2 _ c.member_count-count.ensures.0 c.loop-j-test.true c.requires.0 _ c.table_place-first.ensures _ c.record_place-at.ensures.0 _ c.reference-g.ensures c.if-g-ne0.true

pub table-after_bytes-c-requires : goal.table-after_bytes-c-requires
table-after_bytes-c-requires t c = (c.loop-j.invariant.1.byte, c.loop-j.invariant.1.bit, omega (arith, c.loop-j.invariant.1.end, c.member_count-count.ensures.1), omega (arith, c.args.reading.now.schema.coded.1))

pub table-loop-j-preserved-then-refers : goal.table-loop-j-preserved-then-refers
table-loop-j-preserved-then-refers t c = (omega arith, reference_laid _ _ _ _ c.args.reading.now.schema.coded.1 c.loop-j.invariant.1 c.after_bytes-c.ensures.1, reference_turn _ _ _ _ _ _ _ _ _ _ _ _ c.loop-j.invariant.2 _ c.member_count-count.ensures.0 c.loop-j-test.true c.requires.0 _ c.table_place-first.ensures _ c.record_place-at.ensures.0 _ c.reference-g.ensures c.if-g-ne0.false (c.refers.ensures c.if-refers.true) _ c.after_bytes-c.ensures.0)

pub table-lead_member-q-requires : goal.table-lead_member-q-requires
table-lead_member-q-requires t c = record { in_bounds = (c.requires.0, omega (arith, c.member_count-count.ensures.0), omega (arith, c.member_count-count.ensures.1)); length_in_bounds = (omega (arith, c.requires.1), c.loop-j.invariant.1) }

pub table-loop-j-preserved-then-leads_nowhere : goal.table-loop-j-preserved-then-leads_nowhere
table-loop-j-preserved-then-leads_nowhere t c = (omega arith, c.lead_member-q.ensures.laid, members_nowhere _ _ _ _ _ _ _ _ _ _ _ _ c.loop-j.invariant.2 _ c.member_count-count.ensures.0 c.loop-j-test.true _ c.lead_member-q.ensures.step_is (c.leads_nowhere.ensures c.if-leads_nowhere.true) _ c.lead_member-q.ensures.next_is)

pub table-overflow_cast-part : goal.table-overflow_cast-part
table-overflow_cast-part t c = record { fits = omega (arith, c.loop-j-test.true, c.member_count-count.ensures.1) }

pub table-follow-g-requires : goal.table-follow-g-requires
table-follow-g-requires t c = (omega arith, c.lead_member-q.ensures.small)

pub table-returns-then-g-ne0-2 : goal.table-returns-then-g-ne0-2
table-returns-then-g-ne0-2 t c = members_stopped _ _ _ _ _ _ _ _ _ _ _ _ c.loop-j.invariant.2 _ c.member_count-count.ensures.0 c.loop-j-test.true _ c.lead_member-q.ensures.step_is _ c.follow-g.ensures c.if-g-ne0-2.true

pub table-loop-j-preserved : goal.table-loop-j-preserved
table-loop-j-preserved t c = (omega arith, c.lead_member-q.ensures.laid, members_turn _ _ _ _ _ _ _ _ _ _ _ _ c.loop-j.invariant.2 _ c.member_count-count.ensures.0 c.loop-j-test.true _ c.lead_member-q.ensures.step_is _ c.follow-g.ensures c.if-g-ne0-2.false _ c.lead_member-q.ensures.next_is)

pub table-returns : goal.table-returns
table-returns t c = search members_done

pub union-returns-then-x-eq0 : goal.union-returns-then-x-eq0
union-returns-then-x-eq0 t c = search union_none

pub union-visit-requires : goal.union-visit-requires
union-visit-requires t c = (omega arith, (c.requires.0, search offset_small))

pub union-visit-requires-in-InPlace : goal.union-visit-requires-in-InPlace
union-visit-requires-in-InPlace t c = search (inplace-first, inplace-length, rules)

pub union-returns-else-x-eq0 : goal.union-returns-else-x-eq0
union-returns-else-x-eq0 t c = search (union_offset, c.if-x-eq0.false, c.in-ByOffset.is, c.visit.ensures)

pub union-returns-in-InPlace : goal.union-returns-in-InPlace
union-returns-in-InPlace t c = search union_inplace

pub visit-returns-then-g-ne0 : goal.visit-returns-then-g-ne0
visit-returns-then-g-ne0 t c = search visit_stopped

pub visit-below-requires : goal.visit-below-requires
visit-below-requires t c = search charged_deep

pub visit-admit-requires : goal.visit-admit-requires
visit-admit-requires t c = (omega (arith, below_falls _ _ c.below.ensures (charged_deep _ _ _ _ c.charge-g.ensures c.if-g-ne0.false)), (c.requires.0, (search held_fits, length_small _ _ _ c.fit_object.ensures.1 c.in-Ok.is, search placed_small)))

pub visit-returns-in-Err : goal.visit-returns-in-Err
visit-returns-in-Err t c = search visit_refused

pub visit-returns-in-Ok : goal.visit-returns-in-Ok
visit-returns-in-Ok t c = search visit-content
