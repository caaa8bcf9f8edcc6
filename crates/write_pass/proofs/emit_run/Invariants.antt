use mathlib.Core.Path.{◌≡◌}
use Prim.Native.Nat.{◌+◌, ◌-◌, ◌*◌, ◌^◌, ◌≤◌, ◌<◌}
use lib.ListN.{length, drop}
use Rattle.coding.specs.Bits.{bits}
use Rattle.write_store.specs.State.{put_number}
use Rattle.write_pass.specs.EmitRun.{emit_run}
use Rattle.write_store.specs.Storing.{state_of, forward}
use Rattle.write_pass.proofs.EmitRoom.{Going}
use Rattle.write_pass.proofs.emit_run.Given as goal

abbrev pub invariant-loop-j : goal.invariant-loop-j
invariant-loop-j l = (l.w ≤ 8) × (length l.out ≡ length l.initial.out) × (l.from.places.at + l.done < 2 ^ 61)
    × Going l.s (emit_run (8 * l.w) (put_number l.w) l.n (state_of l.from.places l.initial.out) (drop l.from.next (bits l.s))) l.from
    (emit_run (8 * l.w) (put_number l.w) (l.n - l._j)) (record { places = forward l.done l.from.places; next = l.next }) l.out
