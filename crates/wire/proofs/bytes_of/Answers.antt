use Rattle.std.proofs.Common.{arith}
use Rattle.wire.proofs.Bits.{number_done, number_turn}
use Rattle.wire.proofs.bytes_of.Goals as goal

pub loop-i-init : goal.loop-i-init
loop-i-init c = number_done _ _ _

pub loop-i-preserved : goal.loop-i-preserved
loop-i-preserved c = let l = c.loop-i in
    number_turn _ _ _ _ _ _ _ (omega arith) (omega arith) (omega arith) l.invariant c.byte.ensures c.from.ensures (omega arith)
