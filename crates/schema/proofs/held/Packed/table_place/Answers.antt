-- `schema::held::Packed::table_place` meets its contract.
use Rattle.schema.proofs.Inside.{table_block}
use Rattle.schema.proofs.held.Packed.table_place.Goals as goal

pub returns : goal.returns
returns c = search table_block
