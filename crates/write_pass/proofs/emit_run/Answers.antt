use borrow.Author.Rules.{rules}
use Rattle.write_pass.proofs.EmitRoom.{room-below}
use Rattle.write_pass.proofs.RunCases.{run_begun, run-cut, run_done, run-below, run_turn}
use Rattle.write_pass.proofs.emit_run.Goals as goal

pub loop-j-init : goal.loop-j-init
loop-j-init c = (search rules, search rules, search (room-below, rules), search run_begun)

pub returns-in_err-x : goal.returns-in_err-x
returns-in_err-x c = search (run-cut, c.in_err-x.ensures)

pub loop-j-preserved : goal.loop-j-preserved
loop-j-preserved c = (search rules, search rules, search (run-below, c.in_ok-x.ensures), search (run_turn, c.in_ok-x.ensures))

pub returns : goal.returns
returns c = search run_done
