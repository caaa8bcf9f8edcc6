use Rattle.field_path.proofs.PathCases.{along_turn, along_done}
use Rattle.field_part.proofs.FoundsWithin.{next-within}
use borrow.Author.Rules.{rules}
use Rattle.field_path.proofs.along.Goals as goal

pub loop-number-preserved : goal.loop-number-preserved
loop-number-preserved c = (search along_turn, search next-within)

pub returns : goal.returns
returns c = (search along_done, search rules)
