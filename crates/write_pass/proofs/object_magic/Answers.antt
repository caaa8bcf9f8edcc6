use borrow.Author.Rules.{rules}
use Rattle.write_measure.proofs.ObjectCases.{table_counted}
use Rattle.write_pass.proofs.OpenCases.{magic-text, magic_bytes, magic_list, magic-table, magic-direct}
use Rattle.write_pass.proofs.object_magic.Goals as goal

pub table_id-requires : goal.table_id-requires
table_id-requires c = search (table_counted, rules)

pub returns-in-Text : goal.returns-in-Text
returns-in-Text c = search magic-text

pub returns-in-Bytes : goal.returns-in-Bytes
returns-in-Bytes c = search magic_bytes

pub returns-in-List : goal.returns-in-List
returns-in-List c = search magic_list

pub returns-in-Table : goal.returns-in-Table
returns-in-Table c = search magic-table

pub returns-in-DirectList : goal.returns-in-DirectList
returns-in-DirectList c = search magic-direct
