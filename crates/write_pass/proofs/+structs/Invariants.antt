use mathlib.Core.Path.{◌≡◌}
use Prim.Native.Nat.{◌+◌, ◌*◌, ◌<◌}
use lib.ListN.{length, drop}
use Rattle.coding.specs.Bits.{bits}
use Rattle.coding.specs.Schema as Sc
use Rattle.schema.specs.Parsed.{parsed}
use Rattle.write_pass.specs.EmitSheet.{emit_fields, emit_struct}
use Rattle.write_store.specs.Storing.{state_of}
use Rattle.write_pass.proofs.EmitRoom.{Going}
use Rattle.write_pass.proofs.+structs.Given as goal

abbrev pub decreases-emit_field : goal.decreases-emit_field
decreases-emit_field l = 2 * l.i

abbrev pub decreases-emit_struct : goal.decreases-emit_struct
decreases-emit_struct l = 2 * l.i + 1

abbrev pub invariant-emit_struct-loop-j : goal.invariant-emit_struct-loop-j
invariant-emit_struct-loop-j l = (l.n ≡ length (Sc.struct_of (parsed l.schema) l.i)) × (l.n < 256) × (length l.out ≡ length l.initial.out)
    × Going l.s (emit_struct (parsed l.schema) l.i (state_of l.fn.from.places l.initial.out) (drop l.fn.from.next (bits l.s))) l.fn.from (emit_fields (emit_struct (parsed l.schema)) (drop l.j (Sc.struct_of (parsed l.schema) l.i))) l.at l.out
