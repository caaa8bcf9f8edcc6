use Rattle.schema.specs.Parsed.{parsed}
use Prim.Native.Nat.{◌+◌, ◌-◌, ◌*◌, ◌^◌, ◌<◌}
use mathlib.Core.Path.{◌≡◌}
use lib.ListN.{length, drop}
use Rattle.coding.specs.Bits.{bits}
use Rattle.coding.specs.Schema as Sc
use Rattle.coding.specs.declared.Object.TheVariants as O
use Rattle.coding.specs.declared.Kind.TheVariants.{OfObject}
use Rattle.write_measure.specs.Survey.{survey}
use Rattle.write_pass.specs.EmitSheet.{emit_members, emit_elements, emit_directs, emit_content, emit}
use Rattle.write_store.specs.Storing.{state_of}
use Rattle.write_pass.proofs.EmitRoom.{Going}
use Rattle.write_pass.proofs.+walk.Given as goal

abbrev pub decreases-emit_body : goal.decreases-emit_body
decreases-emit_body l = 16 * l.d + 4

abbrev pub decreases-emit_choice : goal.decreases-emit_choice
decreases-emit_choice l = 16 * l.d + 3

abbrev pub decreases-emit_content : goal.decreases-emit_content
decreases-emit_content l = 16 * l.d + 0

abbrev pub decreases-emit_direct : goal.decreases-emit_direct
decreases-emit_direct l = 16 * l.d + 1

abbrev pub decreases-emit_direct_list : goal.decreases-emit_direct_list
decreases-emit_direct_list l = 16 * l.d + 3

abbrev pub decreases-emit_directs : goal.decreases-emit_directs
decreases-emit_directs l = 16 * l.d + 2

abbrev pub decreases-emit_element : goal.decreases-emit_element
decreases-emit_element l = 16 * l.d + 6

abbrev pub decreases-emit_elements : goal.decreases-emit_elements
decreases-emit_elements l = 16 * l.d + 7

abbrev pub decreases-emit_list : goal.decreases-emit_list
decreases-emit_list l = 16 * l.d + 8

abbrev pub decreases-emit_marked : goal.decreases-emit_marked
decreases-emit_marked l = 16 * l.d + 2

abbrev pub decreases-emit_measured : goal.decreases-emit_measured
decreases-emit_measured l = 16 * l.d + 1

abbrev pub decreases-emit_objects : goal.decreases-emit_objects
decreases-emit_objects l = 16 * l.d + 3

abbrev pub decreases-emit_part : goal.decreases-emit_part
decreases-emit_part l = 16 * l.d + 5

abbrev pub decreases-emit_refer : goal.decreases-emit_refer
decreases-emit_refer l = 16 * l.d + 2

abbrev pub decreases-emit_table : goal.decreases-emit_table
decreases-emit_table l = 16 * l.d + 8

abbrev pub invariant-emit_directs-loop-j : goal.invariant-emit_directs-loop-j
invariant-emit_directs-loop-j l = (l.n < 2 ^ 32) × (length l.out ≡ length l.initial.out)
    × Going l.s (emit_directs (emit l.d l.schema.width (parsed l.schema)) l.t l.n (state_of l.fn.from.places l.initial.out) (drop l.fn.from.next (bits l.s))) l.fn.from
    (emit_directs (emit l.d l.schema.width (parsed l.schema)) l.t (l.n - l._j)) l.at l.out

abbrev pub invariant-emit_elements-loop-j : goal.invariant-emit_elements-loop-j
invariant-emit_elements-loop-j l = (l.n < 2 ^ 32) × (length l.out ≡ length l.initial.out)
    × Going l.s (emit_elements (emit l.d l.schema.width (parsed l.schema)) (survey l.d l.schema.width (parsed l.schema)) l.schema.width (parsed l.schema) l.k l.n (state_of l.fn.from.places l.initial.out) (drop l.fn.from.next (bits l.s))) l.fn.from
    (emit_elements (emit l.d l.schema.width (parsed l.schema)) (survey l.d l.schema.width (parsed l.schema)) l.schema.width (parsed l.schema) l.k (l.n - l._j)) l.at l.out

abbrev pub invariant-emit_objects-loop-j : goal.invariant-emit_objects-loop-j
invariant-emit_objects-loop-j l = (l.n < 2 ^ 32) × (length l.out ≡ length l.initial.out)
    × Going l.s (emit_elements (emit l.d l.schema.width (parsed l.schema)) (survey l.d l.schema.width (parsed l.schema)) l.schema.width (parsed l.schema) (OfObject l.ob) l.n (state_of l.fn.from.places l.initial.out) (drop l.fn.from.next (bits l.s))) l.fn.from
    (emit_elements (emit l.d l.schema.width (parsed l.schema)) (survey l.d l.schema.width (parsed l.schema)) l.schema.width (parsed l.schema) (OfObject l.ob) (l.n - l._j)) l.at l.out

abbrev pub invariant-emit_table-loop-j : goal.invariant-emit_table-loop-j
invariant-emit_table-loop-j l = (l.n ≡ length (Sc.table_of (parsed l.schema) l.t).members) × (l.n < 256) × (length l.out ≡ length l.initial.out)
    × Going l.s (emit_content (emit l.d l.schema.width (parsed l.schema)) (survey l.d l.schema.width (parsed l.schema)) l.schema.width (parsed l.schema) (O.Table l.t) (state_of l.fn.from.places l.initial.out) (drop l.fn.from.next (bits l.s))) l.fn.from
    (emit_members (emit l.d l.schema.width (parsed l.schema)) (survey l.d l.schema.width (parsed l.schema)) l.schema.width (parsed l.schema) (drop l.j (Sc.table_of (parsed l.schema) l.t).members)) l.at l.out
