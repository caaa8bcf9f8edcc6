use Rattle.write_pass.proofs.EmitCases.{if-cut, enum_there, enum_fails}
use Rattle.write_pass.proofs.emit_enum.Goals as goal

pub returns-in_err-x : goal.returns-in_err-x
returns-in_err-x c = search (if-cut, c.in_err-x.ensures)

pub returns-then-v-from : goal.returns-then-v-from
returns-then-v-from c = search (enum_there, c.in_ok-x.ensures)

pub returns : goal.returns
returns c = search (enum_fails, c.in_ok-x.ensures)
