use mathlib.Core.Path.{sym, ap, ◌∙◌}
use Rattle.field_element.specs.declared.list.Elements.TheVariants as E
use Rattle.field_element.proofs.element_answer.Goals as goal

pub list_answer-requires : goal.list_answer-requires
list_answer-requires c = c.in-List.is ∙ ap E.List (sym c.from.ensures)
