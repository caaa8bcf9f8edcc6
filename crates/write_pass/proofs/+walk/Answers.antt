use mathlib.Core.Path.{◌∙◌}
use native.Mathlib.Omega.{arith}
use borrow.Author.Rules.{rules}
use Rattle.write_measure.proofs.PartCases.{kind-flat, kind-object, union-counted, case_sound}
use Rattle.write_measure.proofs.ObjectCases.{list_counted, table_counted, direct-counted, element_sound, member_kind, member-counted}
use Rattle.write_pass.proofs.EmitRoom.{going_room, room_taken, room_mark, room_lacked, room-choice, room_open, room-below, room_low, stood_next, stood_tail}
use Rattle.write_pass.proofs.EmitPartCases.{measured_some, refer-none, choice-cut, choice-zero, choice_above, choice-known, body_no-flat, kept-object, kept-union, none-object, none-union, unflagged-cut, unflagged_there, unflagged_none, unflagged-pass, terminal_told, terminal-refers, object-refers, union-refers, element-flat, element-refers, not-unmarked, flat-marked, flat_scalar, marked-cut, marked_there, marked_none, marked_bad, marked_unlawful}
use Rattle.write_pass.proofs.EmitObjectCases.{refer-cut, refer_done, members_start, members_done, members_stopped, members_turn, refers_stopped, refers_turn, element_scalar, elements-cut, list-elements, list_objects, list_flats, element-object, element-flat_sound, element-flat_scalar, element-flat-marked, elements_start, elements_done, elements_stopped, elements_turn, content_deep, content-text, content_bytes, content_list, content-table, content-direct}
use Rattle.write_pass.proofs.RunCases.{integer-wide, list_octets, list-run}
use Rattle.write_pass.proofs.EmitDirectCases.{direct_room, direct_deep, direct-cut, direct_done, directs-cut, directs-listed, directs_start, directs_room, directs_done, directs_stopped, directs_turn}
use Rattle.write_pass.proofs.+walk.Goals.{emit_choice-then-k-eq0-via-then-k-eq0, emit_choice-then-k-eq0-via-else-k-eq0+then-n-k}
use Rattle.write_pass.proofs.+walk.Goals as goal

pub emit_body-emit_refer-requires : goal.emit_body-emit_refer-requires
emit_body-emit_refer-requires t c = search (kind-object, rules)

pub emit_body-emit_choice-requires : goal.emit_body-emit_choice-requires
emit_body-emit_choice-requires t c = search (union-counted, rules)

pub emit_body-returns-in-OfFlat : goal.emit_body-returns-in-OfFlat
emit_body-returns-in-OfFlat t c = search body_no-flat

pub emit_body-returns-in_err-emit_refer-in-OfObject : goal.emit_body-returns-in_err-emit_refer-in-OfObject
emit_body-returns-in_err-emit_refer-in-OfObject t c = search (none-object, c.in_err-emit_refer-in-OfObject.ensures)

pub emit_body-returns-in_ok-emit_refer-in-OfObject : goal.emit_body-returns-in_ok-emit_refer-in-OfObject
emit_body-returns-in_ok-emit_refer-in-OfObject t c = search (kept-object, c.in_ok-emit_refer-in-OfObject.ensures)

pub emit_body-returns-in_err-x-in-OfUnion : goal.emit_body-returns-in_err-x-in-OfUnion
emit_body-returns-in_err-x-in-OfUnion t c = search (none-union, c.in_err-x-in-OfUnion.ensures)

pub emit_body-returns-in_ok-x-in-OfUnion : goal.emit_body-returns-in_ok-x-in-OfUnion
emit_body-returns-in_ok-x-in-OfUnion t c = search (kept-union, c.in_ok-x-in-OfUnion.ensures)

pub emit_choice-returns-in_err-x : goal.emit_choice-returns-in_err-x
emit_choice-returns-in_err-x t c = search (choice-cut, c.in_err-x.ensures)

pub emit_choice-returns-then-k-eq0 : goal.emit_choice-returns-then-k-eq0
emit_choice-returns-then-k-eq0 t c =
    elim c.then-k-eq0.branch [
      | emit_choice-then-k-eq0-via-then-k-eq0 w ↦ search (choice-zero, c.in_ok-x.ensures, w.if-k-eq0.true)
      | emit_choice-then-k-eq0-via-else-k-eq0+then-n-k w ↦ search (choice_above, c.in_ok-x.ensures, w.if-k-eq0.false, c.case_count-n.ensures.0, w.if-n-k.true)
    ]

pub emit_choice-put_number-p-requires : goal.emit_choice-put_number-p-requires
emit_choice-put_number-p-requires t c = search (room-below, rules)

pub emit_choice-emit_refer-requires : goal.emit_choice-emit_refer-requires
emit_choice-emit_refer-requires t c = (omega arith, (search (case_sound, c.args.schema.now.accepted, c.if-k-eq0.false, c.case_count-n.ensures.0, c.if-n-k.false, c.union_case-ob.ensures), search (room-choice, c.requires.room, c.in_ok-x.ensures, c.put_number-p.ensures, c.behind.ensures)))

pub emit_choice-returns : goal.emit_choice-returns
emit_choice-returns t c = search (choice-known, c.requires.room, c.in_ok-x.ensures, c.if-k-eq0.false, c.case_count-n.ensures.0, c.if-n-k.false, c.union_case-ob.ensures, c.put_number-p.ensures, c.behind.ensures, c.emit_refer.ensures)

pub emit_content-returns-then-d-eq0 : goal.emit_content-returns-then-d-eq0
emit_content-returns-then-d-eq0 t c = search content_deep

pub emit_content-emit_list-requires : goal.emit_content-emit_list-requires
emit_content-emit_list-requires t c = search (list_counted, rules)

pub emit_content-emit_table-requires : goal.emit_content-emit_table-requires
emit_content-emit_table-requires t c = search (table_counted, rules)

pub emit_content-emit_direct_list-requires : goal.emit_content-emit_direct_list-requires
emit_content-emit_direct_list-requires t c = search (direct-counted, rules)

pub emit_content-returns-in-Text : goal.emit_content-returns-in-Text
emit_content-returns-in-Text t c = search content-text

pub emit_content-returns-in-Bytes : goal.emit_content-returns-in-Bytes
emit_content-returns-in-Bytes t c = search content_bytes

pub emit_content-returns-in-List : goal.emit_content-returns-in-List
emit_content-returns-in-List t c = search content_list

pub emit_content-returns-in-Table : goal.emit_content-returns-in-Table
emit_content-returns-in-Table t c = search content-table

pub emit_content-returns-in-DirectList : goal.emit_content-returns-in-DirectList
emit_content-returns-in-DirectList t c = search content-direct

pub emit_direct-returns-then-d-eq0 : goal.emit_direct-returns-then-d-eq0
emit_direct-returns-then-d-eq0 t c = search direct_deep

pub emit_direct-emit_table-requires : goal.emit_direct-emit_table-requires
emit_direct-emit_table-requires t c = search (direct_room, rules)

pub emit_direct-returns-in_err-y : goal.emit_direct-returns-in_err-y
emit_direct-returns-in_err-y t c = search (direct-cut, c.if-d-eq0.false, c.enter_part-q.ensures, c.behind.ensures, c.in_err-y.ensures, c.from_residual.ensures)

pub emit_direct-returns : goal.emit_direct-returns
emit_direct-returns t c = search (direct_done, c.requires.room, c.if-d-eq0.false, c.enter_part-q.ensures, c.behind.ensures, c.in_ok-y.ensures, c.leave_part.ensures, c.behind-2.ensures)

pub emit_direct_list-returns-in_err-y : goal.emit_direct_list-returns-in_err-y
emit_direct_list-returns-in_err-y t c = search (directs-cut, c.in_err-y.ensures)

pub emit_direct_list-put_direct-p-requires : goal.emit_direct_list-put_direct-p-requires
emit_direct_list-put_direct-p-requires t c = search (room_low, rules)

pub emit_direct_list-emit_directs-requires : goal.emit_direct_list-emit_directs-requires
emit_direct_list-emit_directs-requires t c = search (directs_room, c.in_ok-y.ensures, rules)

pub emit_direct_list-returns : goal.emit_direct_list-returns
emit_direct_list-returns t c = search (directs-listed, c.in_ok-y.ensures, c.requires.room, c.put_direct-p.ensures, c.behind.ensures, c.emit_directs.ensures)

pub emit_directs-loop-j-init : goal.emit_directs-loop-j-init
emit_directs-loop-j-init t c = (search rules, search rules, search directs_start)

pub emit_directs-emit_direct-requires : goal.emit_directs-emit_direct-requires
emit_directs-emit_direct-requires t c = search (going_room, rules)

pub emit_directs-returns-in_err-emit_direct : goal.emit_directs-returns-in_err-emit_direct
emit_directs-returns-in_err-emit_direct t c = search (directs_stopped, c.in_err-emit_direct.ensures)

pub emit_directs-loop-j-preserved : goal.emit_directs-loop-j-preserved
emit_directs-loop-j-preserved t c = (search rules, search rules, search (directs_turn, c.in_ok-emit_direct.ensures))

pub emit_directs-returns : goal.emit_directs-returns
emit_directs-returns t c = search directs_done

pub emit_elements-loop-j-init : goal.emit_elements-loop-j-init
emit_elements-loop-j-init t c = (search rules, search rules, search elements_start)

pub emit_elements-emit_element-requires : goal.emit_elements-emit_element-requires
emit_elements-emit_element-requires t c = search (going_room, rules)

pub emit_elements-returns-in_err-emit_element : goal.emit_elements-returns-in_err-emit_element
emit_elements-returns-in_err-emit_element t c = search (elements_stopped, c.in_err-emit_element.ensures)

pub emit_elements-loop-j-preserved : goal.emit_elements-loop-j-preserved
emit_elements-loop-j-preserved t c = (search rules, search rules, search (elements_turn, c.in_ok-emit_element.ensures))

pub emit_elements-returns : goal.emit_elements-returns
emit_elements-returns t c = search elements_done

pub emit_objects-loop-j-init : goal.emit_objects-loop-j-init
emit_objects-loop-j-init t c = (search rules, search rules, search elements_start)

pub emit_objects-emit_marked-requires : goal.emit_objects-emit_marked-requires
emit_objects-emit_marked-requires t c = search (going_room, rules)

pub emit_objects-returns-in_err-emit_marked : goal.emit_objects-returns-in_err-emit_marked
emit_objects-returns-in_err-emit_marked t c = search (elements_stopped, c.in_err-emit_marked.ensures)

pub emit_objects-loop-j-preserved : goal.emit_objects-loop-j-preserved
emit_objects-loop-j-preserved t c = (search rules, search rules, search (elements_turn, c.in_ok-emit_marked.ensures))

pub emit_objects-returns : goal.emit_objects-returns
emit_objects-returns t c = search elements_done

pub emit_element-emit_marked_flat-requires : goal.emit_element-emit_marked_flat-requires
emit_element-emit_marked_flat-requires t c = search (kind-flat, flat_scalar, flat-marked, rules)

pub emit_element-emit_part-requires : goal.emit_element-emit_part-requires
emit_element-emit_part-requires t c = search (object-refers, rules)

pub emit_element-emit_part-requires-in-OfUnion : goal.emit_element-emit_part-requires-in-OfUnion
emit_element-emit_part-requires-in-OfUnion t c = search (union-refers, rules)

pub emit_element-returns-in-OfFlat : goal.emit_element-returns-in-OfFlat
emit_element-returns-in-OfFlat t c = search element-flat

pub emit_element-returns-in-OfObject : goal.emit_element-returns-in-OfObject
emit_element-returns-in-OfObject t c = search element-refers

pub emit_element-returns-in-OfUnion : goal.emit_element-returns-in-OfUnion
emit_element-returns-in-OfUnion t c = search element-refers

pub emit_list-returns-then-w-eq1 : goal.emit_list-returns-then-w-eq1
emit_list-returns-then-w-eq1 t c = search (list_octets, c.element-k.ensures, c.integer_width-w.ensures, c.if-w-eq1.true, c.emit_bytes.ensures)

pub emit_list-returns-in_err-y : goal.emit_list-returns-in_err-y
emit_list-returns-in_err-y t c = search (elements-cut, c.in_err-y.ensures)

pub emit_list-emit_unmarked-requires : goal.emit_list-emit_unmarked-requires
emit_list-emit_unmarked-requires t c = record { w_bound = search integer-wide; room = search (room_taken, c.in_ok-y.ensures) }

pub emit_list-returns-then-unmarked : goal.emit_list-returns-then-unmarked
emit_list-returns-then-unmarked t c = search (list-run, c.args.schema.now.accepted, c.requires.room, c.element-k.ensures, c.in_ok-y.ensures, c.unmarked.ensures, c.if-unmarked.true, c.integer_width-w.ensures, c.behind-first.ensures, c.emit_unmarked.ensures)

pub emit_list-emit_flats-requires : goal.emit_list-emit_flats-requires
emit_list-emit_flats-requires t c = search (element-flat_sound, element-flat_scalar, element-flat-marked, room_taken, c.in_ok-y.ensures, rules)

pub emit_list-emit_objects-requires : goal.emit_list-emit_objects-requires
emit_list-emit_objects-requires t c = search (element-object, room_taken, c.in_ok-y.ensures, rules)

pub emit_list-emit_elements-requires : goal.emit_list-emit_elements-requires
emit_list-emit_elements-requires t c = (search rules, ((search (element_sound, c.args.schema.now.accepted, c.element-k.ensures), search (element_scalar, c.args.schema.now.accepted, c.element-k.ensures), search (not-unmarked, c.unmarked.ensures, c.if-unmarked.false), search (c.in_ok-y.ensures, rules)), search (room_taken, c.requires.room, c.in_ok-y.ensures, c.behind-first.ensures)))

pub emit_list-returns-in-OfFlat : goal.emit_list-returns-in-OfFlat
emit_list-returns-in-OfFlat t c = search (list_flats, c.requires.room, c.element-k.ensures, c.in_ok-y.ensures, c.behind-first.ensures, c.unmarked.ensures, c.if-unmarked.false, c.emit_flats.ensures)

pub emit_list-returns-in-OfObject : goal.emit_list-returns-in-OfObject
emit_list-returns-in-OfObject t c = search (list_objects, c.requires.room, c.element-k.ensures, c.in_ok-y.ensures, c.behind-first.ensures, c.emit_objects.ensures)

pub emit_list-returns-in-OfUnion : goal.emit_list-returns-in-OfUnion
emit_list-returns-in-OfUnion t c = search (list-elements, c.requires.room, c.element-k.ensures, c.in_ok-y.ensures, c.behind-first.ensures, c.emit_elements.ensures)

pub emit_marked-returns-in_err-m : goal.emit_marked-returns-in_err-m
emit_marked-returns-in_err-m t c = search (marked-cut, c.in_err-m.ensures)

pub emit_marked-returns-in-Absent : goal.emit_marked-returns-in-Absent
emit_marked-returns-in-Absent t c = search (marked_none, c.requires.room, c.in_ok-m.ensures, c.put_offset-p.ensures, c.behind.ensures, c.args.schema.now.coded.1)

pub emit_marked-returns-in_err-e-in-Present : goal.emit_marked-returns-in_err-e-in-Present
emit_marked-returns-in_err-e-in-Present t c = search (marked_unlawful, c.in_ok-m.ensures, c.in_err-e-in-Present.ensures)

pub emit_marked-emit_measured-requires : goal.emit_marked-emit_measured-requires
emit_marked-emit_measured-requires t c = search (measured_some, c.in_ok-e-in-Present.ensures, room_mark, c.in_ok-m.ensures, rules)

pub emit_marked-returns-in_ok-e-in-Present : goal.emit_marked-returns-in_ok-e-in-Present
emit_marked-returns-in_ok-e-in-Present t c = search (marked_there, c.requires.room, c.in_ok-m.ensures, c.in-Present.is, c.behind-in-Present.ensures, c.emit_measured.ensures, c.args.schema.now.coded.1)

pub emit_marked-returns-in-Unknown : goal.emit_marked-returns-in-Unknown
emit_marked-returns-in-Unknown t c = search (marked_bad, c.in_ok-m.ensures)

pub emit_measured-open-q-requires : goal.emit_measured-open-q-requires
emit_measured-open-q-requires t c = (c.requires.sound.0, c.requires.sound.1.small, search (stood_next, c.requires.room, c.put_reference-p.ensures), search (stood_tail, c.requires.room, c.put_reference-p.ensures))

pub emit_measured-emit_content-requires : goal.emit_measured-emit_content-requires
emit_measured-emit_content-requires t c = (omega arith, (c.requires.sound.0, search (room_open, c.requires.room, c.open-q.ensures, c.behind.ensures, c.args.schema.now.coded.1)))

pub emit_measured-returns-in_err-y : goal.emit_measured-returns-in_err-y
emit_measured-returns-in_err-y t c = search (refer-cut, c.args.schema.now.accepted, c.requires.room, c.requires.sound.1, c.put_reference-p.ensures, c.open-q.ensures, c.behind.ensures, c.in_err-y.ensures, c.from_residual.ensures)

pub emit_measured-returns : goal.emit_measured-returns
emit_measured-returns t c = search (refer_done, c.args.schema.now.accepted, c.requires.room, c.requires.sound.1, c.put_reference-p.ensures, c.open-q.ensures, c.behind.ensures, c.in_ok-y.ensures, c.close.ensures, c.behind-2.ensures)

pub emit_part-returns-in_err-m : goal.emit_part-returns-in_err-m
emit_part-returns-in_err-m t c = search (unflagged-cut, c.in_err-m.ensures)

pub emit_part-lack-p-requires : goal.emit_part-lack-p-requires
emit_part-lack-p-requires t c = search (room-below, rules)

pub emit_part-returns-in-Absent : goal.emit_part-returns-in-Absent
emit_part-returns-in-Absent t c = search (unflagged_none, c.requires.room, c.in_ok-m.ensures, c.lack-p.ensures, c.behind.ensures)

pub emit_part-emit_body-requires : goal.emit_part-emit_body-requires
emit_part-emit_body-requires t c = search (room_mark, c.in_ok-m.ensures, rules)

pub emit_part-returns-in-Present : goal.emit_part-returns-in-Present
emit_part-returns-in-Present t c = search (unflagged_there, c.requires.room, c.in_ok-m.ensures, c.in-Present.is, c.behind-in-Present.ensures, c.emit_body.ensures, c.args.schema.now.coded.1)

pub emit_part-lack-p-requires-in-Unknown : goal.emit_part-lack-p-requires-in-Unknown
emit_part-lack-p-requires-in-Unknown t c = search (room-below, rules)

pub emit_part-pass-requires : goal.emit_part-pass-requires
emit_part-pass-requires t c = search (room_lacked, c.in_ok-m.ensures, rules)

pub emit_part-returns-in-Unknown : goal.emit_part-returns-in-Unknown
emit_part-returns-in-Unknown t c = search (unflagged-pass, c.requires.room, c.in_ok-m.ensures, c.in-Unknown.is, c.lack-p-in-Unknown.ensures, c.behind-in-Unknown.ensures, c.pass.ensures)

pub emit_refer-returns-in_err-e : goal.emit_refer-returns-in_err-e
emit_refer-returns-in_err-e t c = search (refer-none, c.in_err-e.ensures)

pub emit_refer-emit_measured-requires : goal.emit_refer-emit_measured-requires
emit_refer-emit_measured-requires t c = search (measured_some, c.in_ok-e.ensures, rules)

pub emit_table-loop-j-init : goal.emit_table-loop-j-init
emit_table-loop-j-init t c = (search rules, search rules, search rules, search members_start)

pub emit_table-member-r-requires : goal.emit_table-member-r-requires
emit_table-member-r-requires t c = (search rules, search member-counted, search rules)

pub emit_table-emit_terminal-requires : goal.emit_table-emit_terminal-requires
emit_table-emit_terminal-requires t c = search (member_kind, terminal_told, rules)

pub emit_table-returns-in_err-emit_terminal : goal.emit_table-returns-in_err-emit_terminal
emit_table-returns-in_err-emit_terminal t c = search (members_stopped, c.in_err-emit_terminal.ensures)

pub emit_table-loop-j-preserved-then-is_terminal : goal.emit_table-loop-j-preserved-then-is_terminal
emit_table-loop-j-preserved-then-is_terminal t c = (search rules, search rules, search rules, search (members_turn, c.in_ok-emit_terminal.ensures))

pub emit_table-emit_part-requires : goal.emit_table-emit_part-requires
emit_table-emit_part-requires t c = search (member_kind, terminal-refers, going_room, rules)

pub emit_table-returns-in_err-emit_part : goal.emit_table-returns-in_err-emit_part
emit_table-returns-in_err-emit_part t c = search (refers_stopped, c.in_err-emit_part.ensures)

pub emit_table-loop-j-preserved : goal.emit_table-loop-j-preserved
emit_table-loop-j-preserved t c = (search rules, search rules, search rules, search (refers_turn, c.is_terminal.ensures, c.if-is_terminal.false, c.in_ok-emit_part.ensures))

pub emit_table-returns : goal.emit_table-returns
emit_table-returns t c = search members_done
