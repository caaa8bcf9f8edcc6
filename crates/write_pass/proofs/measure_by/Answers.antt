use borrow.Author.Rules.{rules}
use Rattle.write_pass.proofs.MeasureCases.{known-length, known-width, known_measured}
use Rattle.write_pass.proofs.measure_by.Goals as goal

pub opened-requires : goal.opened-requires
opened-requires c = (search known-length, search known-width)

pub returns-in-Some : goal.returns-in-Some
returns-in-Some c = search known_measured
