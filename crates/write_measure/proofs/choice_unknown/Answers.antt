use Rattle.write_measure.specs.Survey.{test_if}
use Rattle.write_measure.proofs.MarkCases.{bind_fails}
use Rattle.write_measure.proofs.FlatCases.{choice_tested}
use Rattle.write_measure.proofs.choice_unknown.Goals as goal

pub returns-in_err-x : goal.returns-in_err-x
unfolding test_if
returns-in_err-x c = rw c.from_residual.ensures (search (bind_fails, c.in_err-x.ensures))

pub returns : goal.returns
returns c = search (choice_tested, c.in_ok-x.ensures)
