use Rattle.outcome.proofs.ArrivalCases.{offset_stopped, offset_refused, table_unpaid, table_paid, charged_deep, not_more}
use Rattle.message_object.proofs.OpenCases.{table-found}
use borrow.Author.Rules.{rules}
use Rattle.judge_rows.proofs.visit_row.Goals as goal

pub returns-then-g-ne0 : goal.returns-then-g-ne0
returns-then-g-ne0 c = search offset_stopped

pub returns-then-exceeds : goal.returns-then-exceeds
returns-then-exceeds c = search table_unpaid

pub below-requires : goal.below-requires
below-requires c = search charged_deep

pub rest-requires : goal.rest-requires
rest-requires c = search not_more

pub row_members-requires : goal.row_members-requires
row_members-requires c = search (table-found, rules)

pub returns-in-Err : goal.returns-in-Err
returns-in-Err c = search offset_refused

pub returns-else-exceeds : goal.returns-else-exceeds
returns-else-exceeds c = search table_paid
