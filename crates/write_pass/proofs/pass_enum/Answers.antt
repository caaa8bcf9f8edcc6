use Rattle.write_pass.proofs.EmitCases.{if-cut, unknown_there, unknown_fails}
use Rattle.write_pass.proofs.pass_enum.Goals as goal

pub returns-in_err-x : goal.returns-in_err-x
returns-in_err-x c = search (if-cut, c.in_err-x.ensures)

pub returns-then-is_unknown_enum : goal.returns-then-is_unknown_enum
returns-then-is_unknown_enum c = search (unknown_there, c.in_ok-x.ensures)

pub returns : goal.returns
returns c = search (unknown_fails, c.in_ok-x.ensures)
