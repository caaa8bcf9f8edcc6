use borrow.Author.Rules.{rules}
use Rattle.write_pass.proofs.EmitRoom.{room_flag, room-absent, room_low}
use Rattle.write_pass.proofs.EmitPartCases.{part_cut, part_there, part_none, part-pass}
use Rattle.write_pass.proofs.emit_terminal.Goals as goal

pub returns-in_err-m : goal.returns-in_err-m
returns-in_err-m c = search (part_cut, c.in_err-m.ensures)

pub absent-p-requires : goal.absent-p-requires
absent-p-requires c = search (room_low, rules)

pub returns-in-Absent : goal.returns-in-Absent
returns-in-Absent c = search (part_none, c.in_ok-m.ensures)

pub terminal_body-requires-clause-room : goal.terminal_body-requires-clause-room
terminal_body-requires-clause-room c = search (room_flag, c.in_ok-m.ensures)

pub returns-in-Present : goal.returns-in-Present
returns-in-Present c = search (part_there, c.requires.room, c.in_ok-m.ensures, c.in-Present.is, c.flag-p.ensures, c.behind-in-Present.ensures, c.terminal_body.ensures, c.args.schema.now.coded.1)

pub absent-p-requires-in-Unknown : goal.absent-p-requires-in-Unknown
absent-p-requires-in-Unknown c = search (room_low, rules)

pub pass-requires-clause-room : goal.pass-requires-clause-room
pass-requires-clause-room c = search (room-absent, c.in_ok-m.ensures)

pub returns-in-Unknown : goal.returns-in-Unknown
returns-in-Unknown c = search (part-pass, c.in_ok-m.ensures)
