-- `message_step::member_step` meets its contract: it is placed, found and tested.
use Rattle.message_step.proofs.MemberCases.{sits, member-stepped}
use Rattle.message_step.proofs.StructCases.{found_step}
use borrow.Author.Rules.{rules}
use Rattle.message_step.proofs.member_step.Goals as goal

pub placed_step-found-requires : goal.placed_step-found-requires
placed_step-found-requires g c = search (sits, rules)

pub struct_tested-step-requires : goal.struct_tested-step-requires
struct_tested-step-requires g c = search (sits, found_step, rules)

pub returns : goal.returns
returns g c = (search member-stepped, c.struct_tested-step.ensures.1 c.placed_step-found.ensures.1)
