use Rattle.write_measure.proofs.SimpleCases.{lack-enum, lack-other}
use Rattle.write_measure.proofs.may_lack_at.Goals as goal

pub returns-then-kind_at-eq-KIND_ENUM : goal.returns-then-kind_at-eq-KIND_ENUM
returns-then-kind_at-eq-KIND_ENUM c = search lack-enum

pub returns-else-kind_at-eq-KIND_ENUM : goal.returns-else-kind_at-eq-KIND_ENUM
returns-else-kind_at-eq-KIND_ENUM c = search lack-other
