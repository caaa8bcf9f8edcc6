-- `schema::held::Packed::case_count` meets its contract.
use native.Mathlib.Omega.{arith}
use Rattle.schema.proofs.Access.{case-count_is}
use Rattle.schema.proofs.held.Packed.case_count.Goals as goal

pub returns : goal.returns
returns c = (search case-count_is, omega arith)
