use Rattle.field_part.proofs.PartCases.{list_none, list_there, element_step-within}
use Rattle.field_part.proofs.ElementSound.{element_sound, elements_there, element-number}
use borrow.Author.Rules.{rules}
use Rattle.field_part.proofs.list_part.Goals as goal

pub element_step-step-requires : goal.element_step-step-requires
element_step-step-requires c = search (element_sound, elements_there, rules)

pub overflow_cast-number : goal.overflow_cast-number
overflow_cast-number c = record { fits = search element-number }

pub follow-requires : goal.follow-requires
follow-requires c = search (element_step-within, rules)
