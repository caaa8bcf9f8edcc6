use native.Mathlib.Omega.{arith}
use Rattle.sheet_walk.proofs.CodedMembers.{number_at, optional-at, bool_at, enum-at}
use Rattle.sheet_walk.proofs.code_at.Goals as goal

pub returns-then-k-eq-KIND_ENUM : goal.returns-then-k-eq-KIND_ENUM
returns-then-k-eq-KIND_ENUM c = (search enum-at, tt)

pub returns-then-optional_at : goal.returns-then-optional_at
returns-then-optional_at c = optional-at _ _ _ c.kind_at-k.ensures.0 (omega arith) _ c.optional_at.ensures c.if-optional_at.true _ c.optional_code.ensures

pub returns-then-k-eq-KIND_BOOL : goal.returns-then-k-eq-KIND_BOOL
returns-then-k-eq-KIND_BOOL c = (search bool_at, tt)

pub returns : goal.returns
returns c = number_at _ _ _ c.kind_at-k.ensures.0 (omega arith) _ c.optional_at.ensures c.if-optional_at.false c.if-k-eq-KIND_BOOL.false _ c.width_of.ensures
