use borrow.Author.Rules.{rules}
use Rattle.write_measure.proofs.ObjectCases.{list_counted}
use Rattle.write_pass.proofs.MeasureCases.{measured-text, measured_bytes, measured_list, measured-table, measured-direct, table_sound, direct_sound}
use Rattle.write_pass.proofs.measure.Goals as goal

pub measure_list-requires : goal.measure_list-requires
measure_list-requires c = search (list_counted, rules)

pub measure_table-requires : goal.measure_table-requires
measure_table-requires c = search (table_sound, rules)

pub measure_direct-requires : goal.measure_direct-requires
measure_direct-requires c = search (direct_sound, rules)

pub returns-in-Text : goal.returns-in-Text
returns-in-Text c = search measured-text

pub returns-in-Bytes : goal.returns-in-Bytes
returns-in-Bytes c = search measured_bytes

pub returns-in-List : goal.returns-in-List
returns-in-List c = search measured_list

pub returns-in-Table : goal.returns-in-Table
returns-in-Table c = search measured-table

pub returns-in-DirectList : goal.returns-in-DirectList
returns-in-DirectList c = search measured-direct
