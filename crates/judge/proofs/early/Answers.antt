use Rattle.coding.specs.Walk as W
use borrow.Author.Rules.{rules}
use Rattle.judge.proofs.early.Goals as goal

pub returns : goal.returns
unfolding W.early W.nothing W.no_member
returns c = search rules
