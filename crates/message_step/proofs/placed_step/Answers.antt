-- `message_step::placed_step` meets its contract, by the reach.
use Rattle.message_step.proofs.MemberCases.{step_cut, step_past, step_here, value-inside, value_low, tail_small}
use Rattle.message_step.proofs.Inside.{member_kind}
use borrow.Author.Rules.{rules}
use Rattle.message_step.proofs.placed_step.Goals as goal

pub value_step-requires : goal.value_step-requires
value_step-requires g c = record { sound = (search member_kind, search tail_small); k_in_bounds = (search value-inside, search rules, search value_low) }

pub returns-in-Cut : goal.returns-in-Cut
returns-in-Cut g c = (search step_cut, tt)

pub returns-in-Past : goal.returns-in-Past
returns-in-Past g c = (search step_past, tt)

pub returns-in-Here : goal.returns-in-Here
returns-in-Here g c = search (step_here, rules)
