-- `message_start::root_object` meets its contract.
use Rattle.message_start.proofs.StartCases.{root_sound}
use mathlib.Core.Path.{ap}
use Rattle.coding.specs.declared.Object.TheVariants as O
use Rattle.message_start.proofs.root_object.Goals as goal

pub returns : goal.returns
returns c = (ap O.Table c.root.ensures.0, search root_sound)
