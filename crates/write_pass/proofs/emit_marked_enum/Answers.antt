use borrow.Author.Rules.{rules}
use Rattle.write_pass.proofs.EmitCases.{mark-cut, mark_none, mark-known, mark-unknown}
use Rattle.write_pass.proofs.EmitRoom.{room_mark, room-byte}
use Rattle.write_pass.proofs.emit_marked_enum.Goals as goal

pub returns-in_err-m : goal.returns-in_err-m
returns-in_err-m c = search (mark-cut, c.in_err-m.ensures)

pub returns-in-Absent : goal.returns-in-Absent
returns-in-Absent c = search (mark_none, c.in_ok-m.ensures)

pub emit_enum-requires : goal.emit_enum-requires
emit_enum-requires c = search (room_mark, c.in_ok-m.ensures)

pub returns-in-Present : goal.returns-in-Present
returns-in-Present c = search (mark-known, c.in_ok-m.ensures)

pub pass_enum-requires : goal.pass_enum-requires
pass_enum-requires c = search (room-byte, c.in_ok-m.ensures)

pub returns-in-Unknown : goal.returns-in-Unknown
returns-in-Unknown c = search (mark-unknown, c.in_ok-m.ensures)
