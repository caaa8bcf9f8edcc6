use native.Mathlib.Omega.{arith}
use Rattle.positions.proofs.PlacementCases.{row_inside, placed_by}
use Rattle.positions.proofs.placement_at.Goals as goal

pub placement_in-requires : goal.placement_in-requires
placement_in-requires c = (omega arith, search row_inside)

pub returns : goal.returns
returns c = search placed_by
