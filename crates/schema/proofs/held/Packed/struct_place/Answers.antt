-- `schema::held::Packed::struct_place` meets its contract.
use Rattle.schema.proofs.Inside.{struct_block}
use Rattle.schema.proofs.held.Packed.struct_place.Goals as goal

pub returns : goal.returns
returns c = search struct_block
