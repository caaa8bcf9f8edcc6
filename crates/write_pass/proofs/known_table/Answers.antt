use Rattle.write_pass.proofs.MeasureCases.{known_none, known-fixed}
use Rattle.write_pass.proofs.known_table.Goals as goal

pub returns-then-any_in_place : goal.returns-then-any_in_place
returns-then-any_in_place c = search known_none

pub returns : goal.returns
returns c = search known-fixed
