use Prim.Native.Nat.{◌-◌}
use native.Mathlib.Omega.{arith}
use Rattle.positions.proofs.LoopCases.{stands_start, stands_turn, stands_off, stands_done}
use borrow.Author.Rules.{rules}
use mathlib.Core.Path.{ap}
use mathlib.Core.Bool.{not}
use Rattle.positions.proofs.table_is.Goals as goal

pub loop-j-init : goal.loop-j-init
loop-j-init c = (omega arith, omega arith, search rules, search stands_start)

pub returns-then-not-row_is : goal.returns-then-not-row_is
returns-then-not-row_is c = stands_off _ _ _ _ c.member_count-n.ensures.0 _ c.loop-j-test.true _ _ _ c.next_row-s.ensures _ _ _ _ c.loop-j.invariant.3 c.row_is.ensures (ap not c.if-not-row_is.true)

pub loop-j-preserved : goal.loop-j-preserved
loop-j-preserved c = (omega arith, omega arith, search rules, stands_turn _ _ _ _ c.member_count-n.ensures.0 _ c.loop-j-test.true _ _ _ c.next_row-s.ensures _ _ _ _ c.loop-j.invariant.3 c.row_is.ensures (ap not c.if-not-row_is.false))

pub returns : goal.returns
returns c = search stands_done
