use borrow.Author.Rules.{rules}
use Rattle.write_measure.proofs.ObjectCases.{object-marked, elements_done, elements_fail, elements_turn}
use Rattle.write_measure.proofs.blob_elements.Goals as goal

pub returns-in_err-x : goal.returns-in_err-x
returns-in_err-x c = rw c.from_residual-in_err-x.ensures (search (elements_fail, object-marked, c.in_err-x.ensures))

pub loop-preserved : goal.loop-preserved
loop-preserved c = (search rules, search rules, search (elements_turn, object-marked, c.in_ok-x.ensures))

pub returns : goal.returns
returns c = search elements_done
