use borrow.Author.Rules.{rules}
use Rattle.write_pass.proofs.EmitRoom.{begun, going_room}
use Rattle.write_pass.proofs.RunCases.{flats_start, flats-cut, flats_done, flats_turn}
use Rattle.write_pass.proofs.emit_flats.Goals as goal

pub loop-j-init : goal.loop-j-init
loop-j-init c = (search rules, search flats_start)

pub emit_marked_flat-requires-clause-room : goal.emit_marked_flat-requires-clause-room
emit_marked_flat-requires-clause-room c = search going_room

pub returns-in_err-emit_marked_flat : goal.returns-in_err-emit_marked_flat
returns-in_err-emit_marked_flat c = search (flats-cut, c.in_err-emit_marked_flat.ensures)

pub loop-j-preserved : goal.loop-j-preserved
loop-j-preserved c = (search rules, search (flats_turn, c.in_ok-emit_marked_flat.ensures))

pub returns : goal.returns
returns c = search flats_done
