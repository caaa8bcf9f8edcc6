use Rattle.positions.proofs.RecordCases.{flag-plain, flag-number, flag-other}
use Rattle.positions.proofs.flagged_at.Goals as goal

pub returns-then-not-optional_at : goal.returns-then-not-optional_at
returns-then-not-optional_at c = search flag-plain

pub returns-then-k-lt-KIND_FLOAT : goal.returns-then-k-lt-KIND_FLOAT
returns-then-k-lt-KIND_FLOAT c = search flag-number

pub returns : goal.returns
returns c = search flag-other
