-- `schema::held::Packed::field_count` meets its contract.
use native.Mathlib.Omega.{arith}
use Rattle.schema.proofs.Access.{field-count_is}
use Rattle.schema.proofs.held.Packed.field_count.Goals as goal

pub returns : goal.returns
returns c = (search field-count_is, omega arith)
