use Rattle.sheet_lists.proofs.Elements.{float-wide, floats_put}
use Rattle.sheet_lists.proofs.put_floats.Goals as goal

pub returns-then-w-eq4 : goal.returns-then-w-eq4
returns-then-w-eq4 c = search floats_put

pub returns : goal.returns
returns c = search (floats_put, float-wide)
