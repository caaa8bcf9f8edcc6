use Rattle.write_measure.proofs.FlatCases.{float_tested, float_fails}
use Rattle.write_measure.proofs.float_number.Goals as goal

pub returns-in_err-x : goal.returns-in_err-x
returns-in_err-x c = rw c.from_residual.ensures (search (float_fails, c.in_err-x.ensures))

pub returns : goal.returns
returns c = search (float_tested, c.in_ok-x.ensures)
