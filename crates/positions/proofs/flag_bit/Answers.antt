use Rattle.positions.proofs.RowCases.{flag_there, flag_none}
use borrow.Author.Rules.{rules}
use Rattle.positions.proofs.flag_bit.Goals as goal

pub returns-then-flagged : goal.returns-then-flagged
returns-then-flagged c = (search flag_there, search rules)

pub returns : goal.returns
returns c = (search flag_none, search rules)
