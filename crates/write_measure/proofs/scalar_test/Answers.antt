use Rattle.write_measure.proofs.PartCases.{flat_float, flat-enum}
use Rattle.write_measure.proofs.scalar_test.Goals as goal

pub returns-in-Float : goal.returns-in-Float
returns-in-Float c = search flat_float

pub returns-in-Enumerated : goal.returns-in-Enumerated
returns-in-Enumerated c = search flat-enum
