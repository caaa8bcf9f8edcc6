use Rattle.schema.specs.Parsed.{parsed}
use Prim.Native.Nat.{◌-◌, ◌*◌, ◌≤◌}
use mathlib.Core.Path.{◌≡◌}
use lib.ListN.{length, drop}
use Rattle.coding.specs.Bits.{bits}
use Rattle.coding.specs.declared.Kind.TheVariants.{OfObject}
use Rattle.write_measure.specs.Survey.{survey_elements, survey}
use Rattle.write_measure.specs.Surveyed.{Small}
use Rattle.write_measure.proofs.blob_elements.Given as goal

abbrev pub invariant-loop : goal.invariant-loop
invariant-loop l = (l.pos ≤ 8 * length l.s) × Small l.a
    × (survey_elements (survey l.d l.schema.width (parsed l.schema)) l.schema.width (parsed l.schema) (OfObject l.ob) l.n l.initial.a (drop l.at (bits l.s)) ≡ survey_elements (survey l.d l.schema.width (parsed l.schema)) l.schema.width (parsed l.schema) (OfObject l.ob) (l.n - l.counter) l.a (drop l.pos (bits l.s)))
