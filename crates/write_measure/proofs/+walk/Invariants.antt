use Rattle.schema.specs.Parsed.{parsed}
use Prim.Native.Nat.{◌+◌, ◌-◌, ◌*◌, ◌≤◌}
use mathlib.Core.Path.{◌≡◌}
use lib.ListN.{length, drop}
use Rattle.coding.specs.Bits.{bits}
use Rattle.coding.specs.Schema as Sc
use Rattle.coding.specs.declared.Kind.TheVariants.{OfObject}
use Rattle.coding.specs.declared.Object.TheVariants as O
use Rattle.write_measure.specs.Survey.{opened, survey_members, survey_elements, survey_directs, survey_content, survey}
use Rattle.write_measure.specs.Surveyed.{Small}
use Rattle.write_measure.proofs.+walk.Given as goal

abbrev pub decreases-body : goal.decreases-body
decreases-body l = 8 * l.d + 3

abbrev pub decreases-choice : goal.decreases-choice
decreases-choice l = 8 * l.d + 2

abbrev pub decreases-direct : goal.decreases-direct
decreases-direct l = 8 * l.d + 1

abbrev pub decreases-directs : goal.decreases-directs
decreases-directs l = 8 * l.d + 2

abbrev pub decreases-list : goal.decreases-list
decreases-list l = 8 * l.d + 6

abbrev pub decreases-marked_row : goal.decreases-marked_row
decreases-marked_row l = 8 * l.d + 2

abbrev pub decreases-member_part : goal.decreases-member_part
decreases-member_part l = 8 * l.d + 5

abbrev pub decreases-object : goal.decreases-object
decreases-object l = 8 * l.d + 0

abbrev pub decreases-part : goal.decreases-part
decreases-part l = 8 * l.d + 4

abbrev pub decreases-refer : goal.decreases-refer
decreases-refer l = 8 * l.d + 1

abbrev pub decreases-row : goal.decreases-row
decreases-row l = 8 * l.d + 1

abbrev pub decreases-rows : goal.decreases-rows
decreases-rows l = 8 * l.d + 3

abbrev pub decreases-table : goal.decreases-table
decreases-table l = 8 * l.d + 6

abbrev pub decreases-table_found : goal.decreases-table_found
decreases-table_found l = 8 * l.d + 7

abbrev pub invariant-directs-loop : goal.invariant-directs-loop
invariant-directs-loop l = (l.pos ≤ 8 * length l.s) × Small l.a
    × (survey_content (survey l.d l.schema.width (parsed l.schema)) l.schema.width (parsed l.schema) (O.DirectList l.t) (drop l.at (bits l.s)) ≡ survey_directs (survey l.d l.schema.width (parsed l.schema)) l.t (l.n - l.counter) l.a (drop l.pos (bits l.s)))

abbrev pub invariant-list-loop : goal.invariant-list-loop
invariant-list-loop l = (l.pos ≤ 8 * length l.s) × Small l.a
    × (survey_content (survey l.d l.schema.width (parsed l.schema)) l.schema.width (parsed l.schema) (O.List l.i) (drop l.at (bits l.s)) ≡ survey_elements (survey l.d l.schema.width (parsed l.schema)) l.schema.width (parsed l.schema) l.k (l.n - l.counter) l.a (drop l.pos (bits l.s)))

abbrev pub invariant-rows-loop : goal.invariant-rows-loop
invariant-rows-loop l = (l.pos ≤ 8 * length l.s) × Small l.a
    × (survey_elements (survey l.d l.schema.width (parsed l.schema)) l.schema.width (parsed l.schema) (OfObject (O.Table l.t)) l.n (opened l.n l.total) (drop l.at (bits l.s))
    ≡ survey_elements (survey l.d l.schema.width (parsed l.schema)) l.schema.width (parsed l.schema) (OfObject (O.Table l.t)) (l.n - l.counter) l.a (drop l.pos (bits l.s)))

abbrev pub invariant-table-loop-j : goal.invariant-table-loop-j
invariant-table-loop-j l = (l.j ≤ l.count) × (l.pos ≤ 8 * length l.s) × Small l.a
    × (survey_content (survey l.d l.schema.width (parsed l.schema)) l.schema.width (parsed l.schema) (O.Table l.t) (drop l.at (bits l.s)) ≡ survey_members (survey l.d l.schema.width (parsed l.schema)) l.schema.width (parsed l.schema) (drop l.j (Sc.table_of (parsed l.schema) l.t).members) l.a (drop l.pos (bits l.s)))

abbrev pub decreases-table-loop-j : goal.decreases-table-loop-j
decreases-table-loop-j l = l.count - l.j
