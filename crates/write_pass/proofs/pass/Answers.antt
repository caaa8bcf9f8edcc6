use borrow.Author.Rules.{rules}
use Rattle.write_pass.proofs.EmitCases.{pass-flat, pass-object, pass-union}
use Rattle.write_measure.proofs.PartCases.{union-counted}
use Rattle.write_pass.proofs.pass.Goals as goal

pub pass_choice-requires : goal.pass_choice-requires
pass_choice-requires c = search (union-counted, rules)

pub returns-in-OfFlat : goal.returns-in-OfFlat
returns-in-OfFlat c = search pass-flat

pub returns-in-OfObject : goal.returns-in-OfObject
returns-in-OfObject c = search pass-object

pub returns-in-OfUnion : goal.returns-in-OfUnion
returns-in-OfUnion c = search pass-union
