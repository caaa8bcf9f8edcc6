use Rattle.positions.proofs.RowCases.{bit_is}
use borrow.Author.Rules.{rules}
use Rattle.positions.proofs.next_bit.Goals as goal

pub returns : goal.returns
returns c = (search bit_is, search rules)
