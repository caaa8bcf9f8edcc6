use Rattle.judge_member.proofs.RowRecords.{row-table, row-counted}
use mathlib.Core.Path.{refl}
use borrow.Author.Rules.{rules}
use Rattle.judge_member.proofs.rows_of.Goals as goal

pub table_place-first-requires : goal.table_place-first-requires
table_place-first-requires c = search (row-counted, rules)

pub table_id-requires : goal.table_id-requires
table_id-requires c = search (row-counted, rules)

pub returns : goal.returns
returns c = (refl, search row-table)
