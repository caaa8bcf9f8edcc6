-- `wire::is_nan` meets its contract.
use Rattle.wire.proofs.Floats.{nan_four, nan_eight}
use Rattle.wire.proofs.is_nan.Goals as goal

pub returns-then-w-eq4 : goal.returns-then-w-eq4
returns-then-w-eq4 c = search nan_four

pub returns : goal.returns
returns c = search nan_eight
