use borrow.Author.Rules.{rules}
use Rattle.write_pass.proofs.EmitRoom.{room_mark}
use Rattle.write_pass.proofs.EmitCases.{float_cut, float_none, float_there, float_bad}
use Rattle.write_pass.proofs.emit_marked_float.Goals as goal

pub returns-in_err-m : goal.returns-in_err-m
returns-in_err-m c = search (float_cut, c.in_err-m.ensures)

pub returns-in-Absent : goal.returns-in-Absent
returns-in-Absent c = search (float_none, c.in_ok-m.ensures)

pub emit_number-requires-clause-room : goal.emit_number-requires-clause-room
emit_number-requires-clause-room c = search (room_mark, c.in_ok-m.ensures)

pub returns-in-Present : goal.returns-in-Present
returns-in-Present c = search (float_there, c.in_ok-m.ensures)

pub returns-in-Unknown : goal.returns-in-Unknown
returns-in-Unknown c = search (float_bad, c.in_ok-m.ensures)
