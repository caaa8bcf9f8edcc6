use Rattle.write_measure.proofs.PartCases.{unknown_known, unknown_other}
use Rattle.write_measure.proofs.flat_unknown.Goals as goal

pub returns-in-Enumerated : goal.returns-in-Enumerated
returns-in-Enumerated c = search unknown_known

pub returns-in_default : goal.returns-in_default
returns-in_default c = search (unknown_other, c.in_default.not-Enumerated)
