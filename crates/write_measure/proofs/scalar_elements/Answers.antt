use borrow.Author.Rules.{rules}
use Rattle.write_measure.proofs.ObjectCases.{elements_done}
use Rattle.write_measure.proofs.ElementCases.{scalars_fail, scalars_turn}
use Rattle.write_measure.proofs.scalar_elements.Goals as goal

pub returns-in_err-t : goal.returns-in_err-t
returns-in_err-t c = rw c.from_residual.ensures (search (scalars_fail, c.in_err-t.ensures))

pub loop-preserved : goal.loop-preserved
loop-preserved c = (search rules, search rules, search (scalars_turn, c.in_ok-t.ensures))

pub returns : goal.returns
returns c = search elements_done
