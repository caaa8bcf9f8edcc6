use mathlib.Core.Path.{◌≡◌}
use lib.ListN.{length, drop}
use Rattle.coding.specs.Bits.{bits}
use Rattle.write_store.specs.State.{put_bit}
use Rattle.write_pass.specs.EmitRun.{emit_run}
use Rattle.write_store.specs.Storing.{state_of}
use Rattle.write_pass.proofs.EmitRoom.{Going}
use Rattle.write_pass.proofs.emit_bits.Given as goal

abbrev pub invariant-loop-left : goal.invariant-loop-left
invariant-loop-left l = (length l.out ≡ length l.initial.out)
    × Going l.s (emit_run 1 put_bit l.n (state_of l.fn.from.places l.initial.out) (drop l.fn.from.next (bits l.s))) l.fn.from (emit_run 1 put_bit l.left) l.at l.out

abbrev pub decreases-loop-left : goal.decreases-loop-left
decreases-loop-left l = l.left
