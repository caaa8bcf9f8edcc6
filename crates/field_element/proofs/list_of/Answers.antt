use mathlib.Core.Path.{refl, ap, ◌∙◌}
use Rattle.coding.specs.declared.Found.TheVariants as Fd
use Rattle.field_element.proofs.ElementCases.{found-list, found-none}
use Rattle.field_element.proofs.list_of.Goals as goal

pub returns-in-Some : goal.returns-in-Some
returns-in-Some c = (search found-list, (refl, refl, refl))

pub returns-in-None : goal.returns-in-None
returns-in-None c = (ap Fd.Refused c.refusal.ensures ∙ search found-none, tt)
