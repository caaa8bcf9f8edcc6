use mathlib.Core.Path.{refl}
use Rattle.coding.specs.Message as M
use Rattle.coding.specs.Walk as W
use Rattle.write.proofs.verdict_of.Goals as goal

pub returns : goal.returns
unfolding M.write_verdict W.early W.nothing W.no_member
returns c = refl
