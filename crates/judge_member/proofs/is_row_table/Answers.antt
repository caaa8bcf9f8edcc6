use Rattle.judge_member.proofs.RowRecords.{row-object}
use Rattle.message_object.proofs.OpenCases.{table-counted-of}
use Rattle.laws.specs.Lists.{never}
use borrow.Author.Rules.{rules}
use Rattle.judge_member.proofs.is_row_table.Goals as goal

pub table_place-first-requires : goal.table_place-first-requires
table_place-first-requires c = search (table-counted-of, rules)

pub returns-in-Text : goal.returns-in-Text
returns-in-Text c = λ e. never e

pub returns-in-Table : goal.returns-in-Table
returns-in-Table c = λ e. row-object _ _ _ _ c.in-Table.is c.index.ensures.0 _ c.table_place-first.ensures _ c.records.ensures.0 (c.all_row_members.ensures e)
