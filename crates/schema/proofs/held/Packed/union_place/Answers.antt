-- `schema::held::Packed::union_place` meets its contract.
use Rattle.schema.proofs.Inside.{union_block}
use Rattle.schema.proofs.held.Packed.union_place.Goals as goal

pub returns : goal.returns
returns c = search union_block
