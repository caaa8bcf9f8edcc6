use Rattle.message_object.proofs.OpenCases.{table-counted-of, elements-counted-of}
use borrow.Author.Rules.{rules}
use Rattle.message_object.proofs.header_of.Goals as goal

pub table_id-requires : goal.table_id-requires
table_id-requires c = search (table-counted-of, rules)

pub table_id-requires-in-DirectList : goal.table_id-requires-in-DirectList
table_id-requires-in-DirectList c = search (elements-counted-of, rules)
