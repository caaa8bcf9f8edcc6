use Rattle.judge_rows.proofs.RowCases.{row_sound, row_is, row_no-text, row_no_bytes, row_no_list, row_no-direct, row_list}
use borrow.Author.Rules.{rules}
use Rattle.judge_rows.proofs.row_references.Goals as goal

pub rows_of-requires : goal.rows_of-requires
rows_of-requires c = search (row_sound, row_is, rules)

pub returns-in-Text : goal.returns-in-Text
returns-in-Text c = search row_no-text

pub returns-in-Bytes : goal.returns-in-Bytes
returns-in-Bytes c = search row_no_bytes

pub returns-in-List : goal.returns-in-List
returns-in-List c = search row_no_list

pub returns-in-Table : goal.returns-in-Table
returns-in-Table c = search row_list

pub returns-in-DirectList : goal.returns-in-DirectList
returns-in-DirectList c = search row_no-direct
