use Rattle.positions.proofs.PlacementCases.{slot_is}
use Rattle.positions.proofs.slot_at.Goals as goal

pub returns : goal.returns
returns c = search slot_is
