use Rattle.positions.proofs.PlacementCases.{placement_is}
use Rattle.positions.proofs.placement_in.Goals as goal

pub returns : goal.returns
returns c = search placement_is
