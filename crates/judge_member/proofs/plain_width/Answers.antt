use native.Mathlib.Omega.{arith}
use Rattle.judge_member.proofs.PlainCases.{width-enum, width-number}
use Rattle.judge_member.proofs.plain_width.Goals as goal

pub returns-then-k-eq-KIND_ENUM : goal.returns-then-k-eq-KIND_ENUM
returns-then-k-eq-KIND_ENUM c = (search width-enum, omega arith)

pub returns : goal.returns
returns c = (search width-number, omega arith)
