use Rattle.write_pass.proofs.EmitCases.{if-cut, choice_there, choice_fails}
use Rattle.write_pass.proofs.pass_choice.Goals as goal

pub returns-in_err-x : goal.returns-in_err-x
returns-in_err-x c = search (if-cut, c.in_err-x.ensures)

pub returns-then-n-x : goal.returns-then-n-x
returns-then-n-x c = search (choice_there, c.in_ok-x.ensures)

pub returns : goal.returns
returns c = search (choice_fails, c.in_ok-x.ensures)
