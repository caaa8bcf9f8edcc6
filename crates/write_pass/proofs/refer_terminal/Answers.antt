use borrow.Author.Rules.{rules}
use mathlib.Core.Path.{◌∙◌}
use Rattle.write_pass.proofs.EmitRoom.{room-below, room_open, stood_next}
use Rattle.write_pass.proofs.EmitPartCases.{blob_sound, measured_some, small_some, refer-none}
use Rattle.write_pass.proofs.OpenCases.{object-by_offset}
use Rattle.write_pass.proofs.EmitObjectCases.{refer-cut, refer_done}
use Rattle.write_pass.proofs.refer_terminal.Goals as goal

pub measure-requires : goal.measure-requires
measure-requires c = search (blob_sound, rules)

pub returns-in_err-e : goal.returns-in_err-e
returns-in_err-e c = search (refer-none, c.in_err-e.ensures)

pub put_reference-p-requires : goal.put_reference-p-requires
put_reference-p-requires c = search (room-below, rules)

pub open_object-q-requires : goal.open_object-q-requires
open_object-q-requires c = (search blob_sound, search (small_some, c.in_ok-e.ensures), search (stood_next, rules))

pub terminal_content-requires-clause-room : goal.terminal_content-requires-clause-room
terminal_content-requires-clause-room c = search (room_open, c.requires.room, c.open_object-q.ensures, c.behind.ensures, c.args.schema.now.coded.1)

pub returns-in_err-y : goal.returns-in_err-y
returns-in_err-y c = search (refer-cut, c.args.schema.now.accepted, c.requires.room, measured_some, c.in_ok-e.ensures, c.put_reference-p.ensures, object-by_offset, c.open_object-q.ensures, c.behind.ensures, c.in_err-y.ensures, c.from_residual-in_err-y.ensures)

pub returns : goal.returns
returns c = search (refer_done, c.args.schema.now.accepted, c.requires.room, measured_some, c.in_ok-e.ensures, c.put_reference-p.ensures, object-by_offset, c.open_object-q.ensures, c.behind.ensures, c.in_ok-y.ensures, c.close.ensures, c.behind-2.ensures)
