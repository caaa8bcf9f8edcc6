use borrow.Author.Rules.{rules}
use Rattle.write_pass.proofs.MeasureCases.{surveyed_measured, surveyed-none, table_measured, table-known}
use Rattle.write_pass.proofs.measure_table.Goals as goal

pub chained-requires : goal.chained-requires
chained-requires c = search (table-known, rules)

pub returns-in_err-x : goal.returns-in_err-x
returns-in_err-x c = search (surveyed-none, c.in_err-x.ensures)

pub returns-then-chained : goal.returns-then-chained
returns-then-chained c = search (surveyed_measured, c.in_ok-x.ensures)

pub fixed_size-n-requires : goal.fixed_size-n-requires
fixed_size-n-requires c = search (table-known, rules)

pub returns : goal.returns
returns c = search table_measured
