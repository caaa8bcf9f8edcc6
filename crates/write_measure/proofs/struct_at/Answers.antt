use borrow.Author.Rules.{rules}
use Rattle.write_measure.proofs.SimpleCases.{struct_index-same, struct-same}
use Rattle.write_measure.proofs.struct_at.Goals as goal

pub struct_test-requires : goal.struct_test-requires
struct_test-requires c = search (struct_index-same, rules)

pub returns : goal.returns
returns c = search struct-same
