-- `message_step::value_step` meets its contract, by the kind.
use Rattle.message_step.proofs.LeadCases.{flat_whole, flat_leads, step_small, lead_small, value_object, value_union}
use Rattle.message_step.proofs.Inside.{union-counted}
use borrow.Author.Rules.{rules}
use Rattle.message_step.proofs.value_step.Goals as goal

pub union_step-requires : goal.union_step-requires
union_step-requires g c = search (union-counted, rules)

pub returns-then-this-ne0 : goal.returns-then-this-ne0
returns-then-this-ne0 g c = (search flat_whole, search step_small)

pub returns-else-this-ne0 : goal.returns-else-this-ne0
returns-else-this-ne0 g c = (search flat_leads, search lead_small)

pub returns-in-OfObject : goal.returns-in-OfObject
returns-in-OfObject g c = search (value_object, rules)

pub returns-in-OfUnion : goal.returns-in-OfUnion
returns-in-OfUnion g c = search (value_union, rules)
