use Rattle.coding.specs.Walk as W
use borrow.Author.Rules.{rules}
use Rattle.outcome.proofs.refuse.Goals as goal

pub returns : goal.returns
unfolding W.refuse W.refuse_part W.no_member
returns c = search rules
