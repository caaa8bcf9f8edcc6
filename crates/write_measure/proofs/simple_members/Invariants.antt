use Rattle.schema.specs.Parsed.{parsed}
use Prim.Native.Nat.{◌*◌, ◌≤◌}
use mathlib.Core.Path.{◌≡◌}
use lib.ListN.{length, drop}
use Rattle.coding.specs.Bits.{bits}
use Rattle.coding.specs.Schema as Sc
use Rattle.write_measure.specs.Survey.{survey_members, survey}
use Rattle.write_measure.specs.Surveyed.{Small}
use Rattle.write_measure.proofs.simple_members.Given as goal

abbrev pub invariant-loop-j : goal.invariant-loop-j
invariant-loop-j l = (l.pos ≤ 8 * length l.s) × Small l.a
    × (survey_members (survey l.d l.schema.width (parsed l.schema)) l.schema.width (parsed l.schema) (drop l.from (Sc.table_of (parsed l.schema) l.t).members) l.initial.a (drop l.at (bits l.s))
    ≡ survey_members (survey l.d l.schema.width (parsed l.schema)) l.schema.width (parsed l.schema) (drop l.j (Sc.table_of (parsed l.schema) l.t).members) l.a (drop l.pos (bits l.s)))
