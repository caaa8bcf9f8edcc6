use Rattle.write_measure.proofs.ExtentCases.{plain-joined}
use Rattle.write_measure.proofs.joined_plain.Goals as goal

pub returns-then-a : goal.returns-then-a
returns-then-a c = plain-joined _ c.requires _ _ (rw c.if-a.true)

pub returns-else-a : goal.returns-else-a
returns-else-a c = plain-joined _ c.requires _ _ (rw c.if-a.false)
