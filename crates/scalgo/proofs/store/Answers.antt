-- `scalgo::store` meets its contract.
use mathlib.Core.Path.{refl}
use Rattle.scalgo.specs.Numbers.{verdict_numbers}
use Rattle.scalgo.proofs.store.Goals as goal

pub returns : goal.returns
unfolding verdict_numbers
returns c = refl
