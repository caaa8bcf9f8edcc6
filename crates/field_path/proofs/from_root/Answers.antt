use Rattle.field_part.proofs.FoundsWithin.{arrival-within}
use borrow.Author.Rules.{rules}
use Rattle.field_path.proofs.from_root.Goals as goal

pub along-requires : goal.along-requires
along-requires c = search arrival-within
