use borrow.Author.Rules.{rules}
use Rattle.write_measure.proofs.ObjectCases.{element_sound}
use Rattle.write_pass.proofs.MeasureCases.{list-cut, list_measured}
use Rattle.write_pass.proofs.measure_list.Goals as goal

pub returns-in_err-x : goal.returns-in_err-x
returns-in_err-x c = search (list-cut, c.in_err-x.ensures)

pub elements_size-requires : goal.elements_size-requires
elements_size-requires c = search (element_sound, c.in_ok-x.ensures, rules)

pub returns : goal.returns
returns c = search (list_measured, c.in_ok-x.ensures)
