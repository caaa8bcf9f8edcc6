-- A number of more than 32 bits is two runs joined.
use Rattle.bitio.proofs.Runs.{run_join}
use Prim.Native.Nat.{◌+◌, ◌-◌}
use native.Mathlib.Omega.{arith}
use Rattle.bitio.proofs.get.Goals as goal

pub returns : goal.returns
returns c = let a = c.args in
    run_join a.s.now a.pos (a.pos + (a.width - 32)) (a.width - 32) 32 a.width c.get_short-2.result c.get_short-3.result
    (omega arith) (omega arith) (omega arith) (omega arith) c.get_short-2.ensures c.get_short-3.ensures
