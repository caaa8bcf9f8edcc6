-- `schema::held::Packed::union_case` meets its contract.
use Rattle.schema.proofs.Access.{case-inside}
use Rattle.schema.proofs.Access.{case_is}
use Rattle.schema.proofs.held.Packed.union_case.Goals as goal

pub object_at-requires : goal.object_at-requires
object_at-requires c = search case-inside

pub returns : goal.returns
returns c = search case_is
