use borrow.Author.Rules.{rules}
use Rattle.write_measure.proofs.ObjectCases.{table_counted}
use Rattle.write_pass.proofs.MeasureCases.{known_none, known-table}
use Rattle.write_pass.proofs.known_size.Goals as goal

pub known_table-requires : goal.known_table-requires
known_table-requires c = search (table_counted, rules)

pub returns-in-Table : goal.returns-in-Table
returns-in-Table c = search known-table

pub returns-in-Text : goal.returns-in-Text
returns-in-Text c = search known_none
