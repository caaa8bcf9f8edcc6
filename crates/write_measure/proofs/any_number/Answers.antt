use Rattle.write_measure.proofs.FlatCases.{any_left, any_short}
use Rattle.write_measure.proofs.any_number.Goals as goal

pub returns-then-s-pos : goal.returns-then-s-pos
returns-then-s-pos c = search any_short

pub returns : goal.returns
returns c = search any_left
