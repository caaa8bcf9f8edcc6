use Rattle.write_pass.proofs.EmitCases.{number_cut, number_there}
use Rattle.write_pass.proofs.emit_number.Goals as goal

pub returns-in_err-x : goal.returns-in_err-x
returns-in_err-x c = search (number_cut, c.in_err-x.ensures)

pub returns : goal.returns
returns c = search (number_there, c.in_ok-x.ensures)
