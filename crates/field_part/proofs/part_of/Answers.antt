use Rattle.field_part.proofs.PartCases.{struct_fits, struct-counted-of}
use borrow.Author.Rules.{rules}
use Rattle.field_part.proofs.part_of.Goals as goal

pub struct_part-requires : goal.struct_part-requires
struct_part-requires c = search (struct-counted-of, struct_fits, rules)
