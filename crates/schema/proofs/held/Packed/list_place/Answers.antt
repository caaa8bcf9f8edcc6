-- `schema::held::Packed::list_place` meets its contract.
use Rattle.schema.proofs.Inside.{list-place_is, list_inside}
use Rattle.schema.proofs.held.Packed.list_place.Goals as goal

pub returns : goal.returns
returns c = (search list-place_is, search list_inside)
