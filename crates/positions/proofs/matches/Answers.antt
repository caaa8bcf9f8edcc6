use native.Mathlib.Omega.{arith}
use Rattle.positions.proofs.AnswerCases.{other_length, table_short, right-length, rows_same}
use borrow.Author.Rules.{rules}
use Rattle.positions.proofs.matches.Goals as goal

pub returns-then-rows-size : goal.returns-then-rows-size
returns-then-rows-size c = other_length _ _ _ c.size.ensures.0 _ (λ e. omega arith)

pub tables_are-requires : goal.tables_are-requires
tables_are-requires c = (search right-length, search table_short)

pub returns : goal.returns
returns c = search rows_same
