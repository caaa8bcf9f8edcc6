use borrow.Author.Rules.{rules}
use Rattle.write_measure.proofs.PartCases.{kind-flat}
use Rattle.write_pass.proofs.EmitCases.{lacks-flat, lacks-object, lacks-union}
use Rattle.write_pass.proofs.lack.Goals as goal

pub lack_flat-requires : goal.lack_flat-requires
lack_flat-requires c = search (kind-flat, rules)

pub returns-in-OfFlat : goal.returns-in-OfFlat
returns-in-OfFlat c = search lacks-flat

pub returns-in-OfObject : goal.returns-in-OfObject
returns-in-OfObject c = search lacks-object

pub returns-in-OfUnion : goal.returns-in-OfUnion
returns-in-OfUnion c = search lacks-union
