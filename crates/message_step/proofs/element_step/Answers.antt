-- `message_step::element_step` meets its contract.
use Rattle.message_step.proofs.StepCases.{element_there, element_low, element-value}
use Rattle.message_step.proofs.Inside.{index_small}
use Rattle.message_step.proofs.StructCases.{found-element}
use borrow.Author.Rules.{rules}
use Rattle.message_step.proofs.element_step.Goals as goal

pub element_place-at-requires : goal.element_place-at-requires
element_place-at-requires c = search (index_small, rules)

pub value_step-found-requires : goal.value_step-found-requires
value_step-found-requires c = search (element_there, element_low, rules)

pub struct_tested-requires : goal.struct_tested-requires
struct_tested-requires c = search (found-element, rules)

pub returns : goal.returns
returns c = search element-value
