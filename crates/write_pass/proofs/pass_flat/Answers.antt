use Rattle.write_pass.proofs.EmitCases.{pass-enum, pass_none}
use Rattle.write_pass.proofs.pass_flat.Goals as goal

pub returns-in-Enumerated : goal.returns-in-Enumerated
returns-in-Enumerated c = search pass-enum

pub returns-in_default : goal.returns-in_default
returns-in_default c = search (pass_none, c.in_default.not-Enumerated)
