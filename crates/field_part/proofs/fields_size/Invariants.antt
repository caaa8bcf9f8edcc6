use Rattle.schema.specs.Parsed.{parsed}
use Prim.Native.Nat.{◌*◌, ◌≤◌}
use mathlib.Core.Path.{◌≡◌}
use lib.ListN.{take}
use Rattle.coding.specs.Schema as Sc
use Rattle.coding.specs.Structs.{total, struct_size}
use Rattle.field_part.proofs.fields_size.Given as goal

abbrev pub invariant-loop-i : goal.invariant-loop-i
invariant-loop-i l = (l.size ≡ total (struct_size (parsed l.schema)) (take l.i (Sc.struct_of (parsed l.schema) l.s))) × (l.size ≤ 4096 * l.i)
