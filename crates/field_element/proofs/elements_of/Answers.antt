use Rattle.message_object.proofs.OpenCases.{list-counted-of}
use borrow.Author.Rules.{rules}
use Rattle.field_element.proofs.elements_of.Goals as goal

pub element-requires : goal.element-requires
element-requires c = search (list-counted-of, rules)
