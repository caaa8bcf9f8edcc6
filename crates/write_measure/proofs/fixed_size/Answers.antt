use borrow.Author.Rules.{rules}
use Rattle.write_measure.proofs.ExtentCases.{fixed_done, fixed_turn}
use Rattle.write_measure.proofs.fixed_size.Goals as goal

pub loop-j-preserved : goal.loop-j-preserved
loop-j-preserved c = (search rules, search fixed_turn)

pub returns : goal.returns
returns c = (search fixed_done, search rules)
