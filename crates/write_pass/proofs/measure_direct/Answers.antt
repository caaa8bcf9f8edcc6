use borrow.Author.Rules.{rules}
use Rattle.write_pass.proofs.MeasureCases.{direct-cut, direct_measured, direct-known}
use Rattle.write_pass.proofs.measure_direct.Goals as goal

pub returns-in_err-x : goal.returns-in_err-x
returns-in_err-x c = search (direct-cut, c.in_err-x.ensures)

pub fixed_size-size-requires : goal.fixed_size-size-requires
fixed_size-size-requires c = search (direct-known, rules)

pub returns : goal.returns
returns c = search (direct_measured, c.in_ok-x.ensures)
