use mathlib.Core.Path.{refl}
use Rattle.outcome.specs.Answers as As
use Rattle.outcome.proofs.going.Goals as goal

pub returns : goal.returns
unfolding As.walked_of
returns c = refl
