use Rattle.schema.specs.Parsed.{parsed, bytes_of}
use Prim.Native.Nat.{◌+◌, ◌*◌, ◌<◌, ◌≤◌}
use mathlib.Core.Path.{◌≡◌}
use lib.ListN.{length, drop}
use Rattle.coding.specs.Packed as P
use Rattle.coding.specs.Schema as Sc
use Rattle.coding.specs.Structs.{total, struct_size, flats_ok, struct_ok}
use Rattle.message_layout.proofs.+booleans.Given as goal

abbrev pub decreases-field_ok : goal.decreases-field_ok
decreases-field_ok l = 2 * l.i

abbrev pub decreases-struct_ok : goal.decreases-struct_ok
decreases-struct_ok l = 2 * l.i + 1

abbrev pub invariant-struct_ok-loop-j : goal.invariant-struct_ok-loop-j
invariant-struct_ok-loop-j l = (struct_ok (parsed l.schema) l.m l.i l.at ≡ flats_ok (struct_ok (parsed l.schema) l.m) (parsed l.schema) l.m (drop l.j (Sc.struct_of (parsed l.schema) l.s)) l.pos)
    × (l.pos + total (struct_size (parsed l.schema)) (drop l.j (Sc.struct_of (parsed l.schema) l.s)) ≤ length l.m) × (l.s < P.struct_count (bytes_of l.schema)) × (l.s ≤ l.i)
