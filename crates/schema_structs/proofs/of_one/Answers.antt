use borrow.Author.Rules.{rules}
use Rattle.schema_structs.proofs.Representing.{represents_only}
use Rattle.schema_structs.proofs.of_one.Goals as goal

pub returns-then-s-i : goal.returns-then-s-i
returns-then-s-i c = (search represents_only, search rules)
