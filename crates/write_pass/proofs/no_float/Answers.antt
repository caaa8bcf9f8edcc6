use Rattle.write_pass.proofs.EmitCases.{no_four, no_eight}
use Rattle.write_pass.proofs.no_float.Goals as goal

pub returns-then-w-eq4 : goal.returns-then-w-eq4
returns-then-w-eq4 c = search no_four

pub returns : goal.returns
returns c = search no_eight
