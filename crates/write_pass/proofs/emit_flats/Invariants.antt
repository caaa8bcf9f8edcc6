use mathlib.Core.Path.{◌≡◌}
use Prim.Native.Nat.{◌-◌}
use lib.ListN.{length, drop}
use Rattle.coding.specs.Bits.{bits}
use Rattle.schema.specs.Parsed.{parsed}
use Rattle.write_pass.specs.EmitRun.{emit_flats}
use Rattle.write_store.specs.Storing.{state_of}
use Rattle.write_pass.specs.Emitting.{Room}
use Rattle.write_pass.proofs.EmitRoom.{Going}
use Rattle.write_pass.proofs.emit_flats.Given as goal

abbrev pub invariant-loop-j : goal.invariant-loop-j
invariant-loop-j l = (length l.out ≡ length l.initial.out)
    × Going l.s (emit_flats (parsed l.schema) l.k l.n (state_of l.fn.from.places l.initial.out) (drop l.fn.from.next (bits l.s))) l.fn.from (emit_flats (parsed l.schema) l.k (l.n - l._j)) l.at l.out
