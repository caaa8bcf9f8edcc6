-- `schema::held::Packed::member_count` meets its contract.
use native.Mathlib.Omega.{arith}
use Rattle.schema.proofs.Access.{member-count_is}
use Rattle.schema.proofs.held.Packed.member_count.Goals as goal

pub returns : goal.returns
returns c = (search member-count_is, omega arith)
