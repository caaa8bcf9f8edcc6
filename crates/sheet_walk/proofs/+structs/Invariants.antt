use Rattle.schema.specs.Parsed.{parsed}
use Prim.Native.Nat.{◌+◌, ◌-◌, ◌*◌, ◌≤◌}
use mathlib.Core.Path.{◌≡◌}
use lib.ListN.{length, drop}
use Rattle.coding.specs.Packed as P
use Rattle.coding.specs.Schema as Sc
use Rattle.coding.specs.Structs.{total, struct_size}
use Rattle.bitio.specs.Puts.{Room}
use Rattle.sheet_walk.specs.MessageBits as A
use Rattle.sheet_values.proofs.Remaining.{Remaining}
use Rattle.sheet_walk.proofs.+structs.Given as goal

abbrev pub decreases-put_field : goal.decreases-put_field
decreases-put_field l = 2 * l.i

abbrev pub decreases-put_struct : goal.decreases-put_struct
decreases-put_struct l = 2 * l.i + 1

abbrev pub invariant-put_struct-loop-j : goal.invariant-put_struct-loop-j
invariant-put_struct-loop-j l = Room l.out l.p
    × (l.from + total (struct_size (parsed l.reading.schema)) (drop l.j (Sc.struct_of (parsed l.reading.schema) l.i)) ≤ length l.reading.message.now)
    × Remaining l.initial.out l.pos (A.struct_at (parsed l.reading.schema) l.reading.message.now l.i l.at) l.out l.p (A.fields_at (parsed l.reading.schema) l.reading.message.now (drop l.j (Sc.struct_of (parsed l.reading.schema) l.i)) l.from)
