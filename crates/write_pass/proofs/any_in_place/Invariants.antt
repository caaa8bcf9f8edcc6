use Prim.Native.Nat.{◌<◌}
use mathlib.Core.Path.{◌≡◌}
use lib.ListN.{length, drop}
use Rattle.coding.specs.Schema as Sc
use Rattle.schema.specs.Parsed.{parsed}
use Rattle.write_pass.specs.Measure.{any_in_place}
use Rattle.write_pass.proofs.any_in_place.Given as goal

abbrev pub invariant-loop-j : goal.invariant-loop-j
invariant-loop-j l = (l.n ≡ length (Sc.table_of (parsed l.schema) l.t).members) × (l.n < 256)
    × (any_in_place (Sc.table_of (parsed l.schema) l.t).members ≡ any_in_place (drop l.j (Sc.table_of (parsed l.schema) l.t).members))
