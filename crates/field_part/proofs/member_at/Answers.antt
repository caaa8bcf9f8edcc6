use Rattle.message_step.proofs.StructCases.{found_step}
use Rattle.field_part.proofs.RowCases.{placed_is, placed-inside}
use borrow.Author.Rules.{rules}
use Rattle.field_part.proofs.member_at.Goals as goal

pub struct_tested-requires : goal.struct_tested-requires
struct_tested-requires c = search (found_step, rules)

pub returns : goal.returns
returns c = (search placed_is, search placed-inside)
