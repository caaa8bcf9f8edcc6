use Rattle.schema.specs.Parsed.{parsed}
use Prim.Native.Nat.{◌*◌}
use mathlib.Core.Path.{◌≡◌}
use lib.ListN.{drop}
use Rattle.coding.specs.Schema as Sc
use Rattle.coding.specs.Layout as L
use Rattle.message_layout.specs.Bounds.{Laid}
use Rattle.write_measure.proofs.fixed_size.Given as goal

abbrev pub invariant-loop-j : goal.invariant-loop-j
invariant-loop-j l = Laid (4097 * l.j) l.c
    × (L.after_members l.schema.width (parsed l.schema) (Sc.table_of (parsed l.schema) l.t).members L.begin ≡ L.after_members l.schema.width (parsed l.schema) (drop l.j (Sc.table_of (parsed l.schema) l.t).members) l.c)
