use borrow.Author.Rules.{rules}
use Rattle.write_measure.proofs.PartCases.{kind-flat}
use Rattle.write_measure.proofs.ElementCases.{element-marked, element-blob, elements-passed, elements-flat, elements-object, elements-union}
use Rattle.write_measure.proofs.simple_elements.Goals as goal

pub returns-in-Some : goal.returns-in-Some
returns-in-Some c = search (elements-passed, c.in-Some.ensures)

pub scalar_elements-requires : goal.scalar_elements-requires
scalar_elements-requires c = search (kind-flat, element-marked, c.in_default.ensures, rules)

pub blob_elements-requires : goal.blob_elements-requires
blob_elements-requires c = search (element-blob, rules)

pub returns-in-OfFlat : goal.returns-in-OfFlat
returns-in-OfFlat c = search elements-flat

pub returns-in-OfObject : goal.returns-in-OfObject
returns-in-OfObject c = search elements-object

pub returns-in-OfUnion : goal.returns-in-OfUnion
returns-in-OfUnion c = search elements-union
