use Rattle.schema.specs.Parsed.{parsed}
use Prim.Native.Nat.{◌+◌, ◌*◌, ◌≤◌}
use mathlib.Core.Path.{◌≡◌}
use lib.ListN.{length, drop}
use Rattle.coding.specs.Bits.{bits}
use Rattle.coding.specs.Schema as Sc
use Rattle.write_measure.specs.Survey.{survey_fields, survey_struct}
use Rattle.write_measure.proofs.FlatCases.{rank}
use Rattle.write_measure.proofs.+structs.Given as goal

abbrev pub decreases-field_test : goal.decreases-field_test
decreases-field_test l = rank l.k + 1

abbrev pub decreases-flat_test : goal.decreases-flat_test
decreases-flat_test l = rank l.k

abbrev pub decreases-struct_test : goal.decreases-struct_test
decreases-struct_test l = 3 * l.i + 3

abbrev pub invariant-struct_test-loop-j : goal.invariant-struct_test-loop-j
invariant-struct_test-loop-j l = (l.pos ≤ 8 * length l.s)
    × (survey_struct (parsed l.schema) l.i (drop l.at (bits l.s)) ≡ survey_fields (survey_struct (parsed l.schema)) (drop l.j (Sc.struct_of (parsed l.schema) l.i)) l.fine (drop l.pos (bits l.s)))
