use Prim.Native.Nat.{◌-◌}
use mathlib.Core.Path.{refl}
use native.Mathlib.Omega.{arith}
use lib.ListN.{length-set}
use Rattle.schema_cleared.proofs.ClearCases.{copy_turn, copy_done}
use Rattle.schema_cleared.proofs.copy.Goals as goal

pub loop-p-init : goal.loop-p-init
loop-p-init c = (omega arith, omega arith, refl, refl)

pub loop-p-preserved : goal.loop-p-preserved
loop-p-preserved c = (omega arith, omega arith, simp length-set c.loop-p.invariant.2, search copy_turn)

pub returns : goal.returns
returns c = search copy_done
