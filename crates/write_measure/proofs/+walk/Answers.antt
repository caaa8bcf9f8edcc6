use native.Mathlib.Omega.{arith}
use borrow.Author.Rules.{rules}
use Rattle.write_measure.specs.Survey.{may_lack, survey_part, survey_unknown, survey_object, survey_choice, survey_content}
use Rattle.write_measure.proofs.MarkCases.{bind_fails, mark_fails, surveyed_absent, surveyed_present, surveyed_unknown, unknown_fails}
use Rattle.write_measure.proofs.PartCases.{union-counted, case_sound, body_flat, body_object, body_union, choice-zero, choice_above, choice-known, refer_surveyed, refer-blob, object_present, part_absent}
use Rattle.write_measure.proofs.ExtentCases.{size_short}
use Rattle.write_measure.proofs.ObjectCases.{list_counted, table_counted, element_sound, member_kind, members_start, members_done, elements_start, elements_simple, elements-rows, row-counted, row_deep, row_fails, row_there, rows_start, object-marked, elements_done, elements_fail, elements_turn, object_deep, object-text, object_bytes, object_list, object-table, object-direct, direct-counted, direct_there, directs_start, directs_fail, directs_turn, directs_done}
use Rattle.write_measure.proofs.ElementCases.{simple_is, not_simple}
use Rattle.write_measure.proofs.SimpleCases.{table_fails, table_ended, table_stops, table_turn}
use Rattle.write_measure.proofs.+walk.Goals as goal
use Rattle.write_measure.proofs.+walk.Goals.{choice-then-c-eq0-via-then-c-eq0, choice-then-c-eq0-via-else-c-eq0+then-n-c}

pub body-choice-requires : goal.body-choice-requires
body-choice-requires t c = search (union-counted, rules)

pub body-returns-in-OfFlat : goal.body-returns-in-OfFlat
body-returns-in-OfFlat t c = body_flat _ _ _ _ _ _ _ _ _ c.in-OfFlat.is c.flat_test.result c.flat_test.ensures c.map.result c.map.ensures.cases

pub body-returns-in-OfObject : goal.body-returns-in-OfObject
body-returns-in-OfObject t c = search body_object

pub body-returns-in-OfUnion : goal.body-returns-in-OfUnion
body-returns-in-OfUnion t c = search body_union

pub choice-returns-in_err-x : goal.choice-returns-in_err-x
unfolding survey_choice
choice-returns-in_err-x t c = rw c.from_residual.ensures (search (bind_fails, c.in_err-x.ensures))

pub choice-returns-then-c-eq0 : goal.choice-returns-then-c-eq0
choice-returns-then-c-eq0 t c =
    elim c.then-c-eq0.branch [
      | choice-then-c-eq0-via-then-c-eq0 w ↦ search (choice-zero, c.in_ok-x.ensures)
      | choice-then-c-eq0-via-else-c-eq0+then-n-c w ↦ search (choice_above, c.in_ok-x.ensures)
    ]

pub choice-refer-requires : goal.choice-refer-requires
choice-refer-requires t c = search (case_sound, rules)

pub choice-returns : goal.choice-returns
choice-returns t c = search (choice-known, c.in_ok-x.ensures)

pub direct-returns-then-d-eq0 : goal.direct-returns-then-d-eq0
direct-returns-then-d-eq0 t c = search object_deep

pub direct-returns : goal.direct-returns
direct-returns t c = search direct_there

pub directs-returns-in_err-y : goal.directs-returns-in_err-y
unfolding survey_content
directs-returns-in_err-y t c = rw c.from_residual.ensures (search (bind_fails, c.in_err-y.ensures))

pub directs-loop-init : goal.directs-loop-init
directs-loop-init t c = (c.in_ok-y.ensures.inside, search rules, search (directs_start, c.in_ok-y.ensures))

pub directs-returns-in_err-x : goal.directs-returns-in_err-x
directs-returns-in_err-x t c = rw c.from_residual-in_err-x.ensures (search (directs_fail, c.in_err-x.ensures))

pub directs-loop-preserved : goal.directs-loop-preserved
directs-loop-preserved t c = (c.in_ok-x.ensures.inside, search rules, search (directs_turn, c.in_ok-x.ensures))

pub directs-returns : goal.directs-returns
directs-returns t c = search directs_done

pub list-returns-in_err-y : goal.list-returns-in_err-y
unfolding survey_content
list-returns-in_err-y t c = rw c.from_residual.ensures (search (bind_fails, c.in_err-y.ensures))

pub list-elements_size-total-requires : goal.list-elements_size-total-requires
list-elements_size-total-requires t c = search (element_sound, rules)

pub list-rows-requires : goal.list-rows-requires
list-rows-requires t c =
    let e = rw c.in-OfObject-Table.is at c.in-OfObject-Table.field-0-is in
    (search rules, (row-counted _ _ c.args.schema.now.accepted _ _ c.element-k.ensures _ c.in-OfObject-Table.t _ c.in-OfObject-Table.is e c.from.ensures, (search rules, c.in_ok-y.ensures.inside), c.in_ok-y.ensures.small, search (size_short, c.in_ok-y.ensures.small)))

pub list-returns-in-OfObject-Table : goal.list-returns-in-OfObject-Table
list-returns-in-OfObject-Table t c =
    let e = rw c.in-OfObject-Table.is at c.in-OfObject-Table.field-0-is in
    elements-rows _ _ _ _ _ _ _ c.in_ok-y.ensures _ c.element-k.ensures _ c.elements_size-total.ensures.0 _ c.in-OfObject-Table.t _ c.in-OfObject-Table.is e c.from.ensures _ c.rows.ensures

pub list-simple_elements-requires : goal.list-simple_elements-requires
list-simple_elements-requires t c = (search element_sound, search simple_is, (search rules, c.in_ok-y.ensures.inside), c.in_ok-y.ensures.small, search (size_short, c.in_ok-y.ensures.small))

pub list-returns-then-is_simple : goal.list-returns-then-is_simple
list-returns-then-is_simple t c = search (elements_simple, c.in_ok-y.ensures)

pub list-loop-init : goal.list-loop-init
list-loop-init t c = (c.in_ok-y.ensures.inside, search rules, search (elements_start, c.in_ok-y.ensures))

pub list-part-requires : goal.list-part-requires
list-part-requires t c = (search rules, (search element_sound, (search rules, search rules)))

pub list-returns-in_err-x : goal.list-returns-in_err-x
list-returns-in_err-x t c = rw c.from_residual-in_err-x.ensures (search (elements_fail, not_simple, c.in_err-x.ensures))

pub list-loop-preserved : goal.list-loop-preserved
list-loop-preserved t c = (c.in_ok-x.ensures.inside, search rules, search (elements_turn, not_simple, c.in_ok-x.ensures))

pub list-returns : goal.list-returns
list-returns t c = search elements_done

pub marked_row-returns-in_err-m : goal.marked_row-returns-in_err-m
unfolding survey_part
marked_row-returns-in_err-m t c = rw c.from_residual.ensures (search (mark_fails, c.in_err-m.ensures))

pub marked_row-returns-in-Absent : goal.marked_row-returns-in-Absent
unfolding survey_part may_lack
marked_row-returns-in-Absent t c = search (surveyed_absent, c.in_ok-m.ensures)

pub marked_row-returns-in-Present : goal.marked_row-returns-in-Present
unfolding survey_part
marked_row-returns-in-Present t c = search (surveyed_present, object_present, c.in_ok-m.ensures)

pub marked_row-returns-in-Unknown : goal.marked_row-returns-in-Unknown
unfolding survey_part survey_unknown
marked_row-returns-in-Unknown t c = search (unknown_fails, c.in_ok-m.ensures)

pub object-returns-then-d-eq0 : goal.object-returns-then-d-eq0
object-returns-then-d-eq0 t c = search object_deep

pub object-list-requires : goal.object-list-requires
object-list-requires t c = search (list_counted, rules)

pub object-table_found-requires : goal.object-table_found-requires
object-table_found-requires t c = search (table_counted, rules)

pub object-directs-requires : goal.object-directs-requires
object-directs-requires t c = search (direct-counted, rules)

pub object-returns-in-Text : goal.object-returns-in-Text
object-returns-in-Text t c = search object-text

pub object-returns-in-Bytes : goal.object-returns-in-Bytes
object-returns-in-Bytes t c = search object_bytes

pub object-returns-in-List : goal.object-returns-in-List
object-returns-in-List t c = search object_list

pub object-returns-in-Table : goal.object-returns-in-Table
object-returns-in-Table t c = search object-table

pub object-returns-in-DirectList : goal.object-returns-in-DirectList
object-returns-in-DirectList t c = search object-direct

pub part-returns-in_err-m : goal.part-returns-in_err-m
unfolding survey_part
part-returns-in_err-m t c = rw c.from_residual.ensures (search (mark_fails, c.in_err-m.ensures))

pub part-returns-in-Absent : goal.part-returns-in-Absent
part-returns-in-Absent t c = search (part_absent, c.in_ok-m.ensures)

pub part-returns-in-Present : goal.part-returns-in-Present
unfolding survey_part
part-returns-in-Present t c = search (surveyed_present, c.in_ok-m.ensures)

pub part-returns-in-Unknown : goal.part-returns-in-Unknown
unfolding survey_part
part-returns-in-Unknown t c = search (surveyed_unknown, c.in_ok-m.ensures)

pub refer-returns-in-Some : goal.refer-returns-in-Some
refer-returns-in-Some t c = search (refer-blob, c.in-Some.ensures)

pub refer-returns-in_err-x : goal.refer-returns-in_err-x
unfolding survey_object
refer-returns-in_err-x t c = rw c.from_residual.ensures (search (bind_fails, c.in_err-x.ensures))

pub refer-returns : goal.refer-returns
refer-returns t c = search (refer_surveyed, c.in_ok-x.ensures)

pub row-returns-then-d-eq0 : goal.row-returns-then-d-eq0
row-returns-then-d-eq0 t c = search row_deep

pub row-returns-in_err-x : goal.row-returns-in_err-x
row-returns-in_err-x t c = rw c.from_residual.ensures (search (row_fails, c.in_err-x.ensures))

pub row-returns : goal.row-returns
row-returns t c = search (row_there, c.in_ok-x.ensures)

pub rows-loop-init : goal.rows-loop-init
rows-loop-init t c = (search rules, search rules, search rows_start)

pub rows-returns-in_err-x : goal.rows-returns-in_err-x
rows-returns-in_err-x t c = rw c.from_residual.ensures (search (elements_fail, object-marked, c.in_err-x.ensures))

pub rows-loop-preserved : goal.rows-loop-preserved
rows-loop-preserved t c = (c.in_ok-x.ensures.inside, search rules, search (elements_turn, object-marked, c.in_ok-x.ensures))

pub rows-returns : goal.rows-returns
rows-returns t c = search elements_done

pub table-loop-j-init : goal.table-loop-j-init
table-loop-j-init t c = (search rules, search rules, search rules, search members_start)

pub table-returns-in_err-g : goal.table-returns-in_err-g
table-returns-in_err-g t c = rw c.from_residual.ensures (search (table_fails, c.in_err-g.ensures))

pub table-returns-then-count-g : goal.table-returns-then-count-g
table-returns-then-count-g t c = search (table_ended, c.in_ok-g.ensures)

pub table-member_part-requires : goal.table-member_part-requires
table-member_part-requires t c = (search rules, (member_kind _ _ c.args.schema.now.accepted _ _ _ c.member.ensures _ c.member_count-count.ensures.0 c.if-count-g.false, (search rules, c.in_ok-g.ensures.inside)))

pub table-returns-in_err-x : goal.table-returns-in_err-x
table-returns-in_err-x t c = rw c.from_residual-in_err-x.ensures (search (table_stops, c.in_ok-g.ensures, c.in_err-x.ensures))

pub table-loop-j-preserved : goal.table-loop-j-preserved
table-loop-j-preserved t c = (search rules, c.in_ok-x.ensures.inside, search rules, search (table_turn, c.in_ok-g.ensures, c.in_ok-x.ensures))

pub table-returns : goal.table-returns
table-returns t c = search members_done
