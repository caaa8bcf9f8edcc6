use Rattle.judge_member.proofs.RowRecords.{row-members_none, row-members_more, row-members_all}
use native.Mathlib.Omega.{arith}
use Prim.Native.Nat.{◌-◌}
use Rattle.laws.specs.Lists.{never}
use Rattle.judge_member.proofs.all_row_members.Goals as goal

pub loop-j-init : goal.loop-j-init
loop-j-init c = (omega arith, search row-members_none)

pub loop-j-preserved : goal.loop-j-preserved
loop-j-preserved c = (omega arith, row-members_more _ _ _ c.loop-j.invariant.1 _ c.record_place-at.ensures.1 _ c.byte_in.ensures _ c.index.ensures.0 (c.is_row_member.ensures c.if-not-is_row_member.false))

pub returns-then-not-is_row_member : goal.returns-then-not-is_row_member
returns-then-not-is_row_member c = λ e. never e

pub returns : goal.returns
returns c = λ e. search row-members_all
