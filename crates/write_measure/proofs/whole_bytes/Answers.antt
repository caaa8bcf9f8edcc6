use borrow.Author.Rules.{rules}
use native.Mathlib.Omega.{arith}
use Rattle.write_measure.proofs.SimpleCases.{number_bytes, float_bytes, enum_bytes, object_bytes, union_bytes}
use Rattle.write_measure.proofs.whole_bytes.Goals as goal

pub returns-then-k-lt-KIND_FLOAT : goal.returns-then-k-lt-KIND_FLOAT
returns-then-k-lt-KIND_FLOAT c = (search rules, search number_bytes)

pub returns-then-k-lt-KIND_ENUM : goal.returns-then-k-lt-KIND_ENUM
returns-then-k-lt-KIND_ENUM c = (search rules, search float_bytes)

pub returns-then-k-eq-KIND_ENUM : goal.returns-then-k-eq-KIND_ENUM
returns-then-k-eq-KIND_ENUM c = (search rules, search enum_bytes)

pub returns-then-k-eq-KIND_UNION : goal.returns-then-k-eq-KIND_UNION
returns-then-k-eq-KIND_UNION c = (search rules, search union_bytes)

pub returns : goal.returns
returns c = (search rules, search object_bytes)
