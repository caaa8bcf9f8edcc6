-- `schema::held::Packed::table_id` meets its contract.
use native.Mathlib.Omega.{arith}
use Rattle.schema.proofs.Access.{table_id_is}
use Rattle.schema.proofs.held.Packed.table_id.Goals as goal

pub returns : goal.returns
returns c = (search table_id_is, omega arith)
