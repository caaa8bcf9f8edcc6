use Prim.Native.Nat.{◌-◌}
use mathlib.Core.Path.{refl}
use native.Mathlib.Omega.{arith}
use Rattle.positions.proofs.LoopCases.{put_start, put_turn, put_done}
use borrow.Author.Rules.{rules}
use Rattle.positions.proofs.put_table.Goals as goal

pub loop-j-init : goal.loop-j-init
loop-j-init c = (omega arith, omega arith, refl, search rules, search put_start)

pub loop-j-preserved : goal.loop-j-preserved
loop-j-preserved c = (omega arith, omega arith, search rules, search rules, put_turn _ _ _ _ c.member_count-n.ensures.0 _ c.loop-j-test.true _ _ _ c.next_row-s.ensures _ _ _ _ c.loop-j.invariant.4 c.put_row.ensures)

pub returns : goal.returns
returns c = (search put_done, omega arith)
