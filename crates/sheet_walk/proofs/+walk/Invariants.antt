use Rattle.schema.specs.Parsed.{parsed}
use Prim.Native.Nat.{◌+◌, ◌-◌, ◌*◌, ◌≤◌}
use mathlib.Core.Path.{◌≡◌}
use lib.ListN.{length, drop}
use Rattle.coding.specs.Packed as P
use Rattle.coding.specs.Schema as Sc
use Rattle.coding.specs.Layout as L
use Rattle.coding.specs.declared.Kind.TheVariants.{OfObject, OfUnion}
use Rattle.message_layout.specs.Bounds.{Laid}
use Rattle.bitio.specs.Puts.{Room}
use Rattle.sheet_values.proofs.Remaining.{Remaining}
use Rattle.sheet_walk.specs.MessageBits as A
use Rattle.sheet_walk.specs.Readable as D
use Rattle.sheet_walk.proofs.+walk.Given as goal

abbrev pub decreases-put_choices : goal.decreases-put_choices
decreases-put_choices l = 8 * l.d + 4

abbrev pub decreases-put_content : goal.decreases-put_content
decreases-put_content l = 8 * l.d + 6

abbrev pub decreases-put_directs : goal.decreases-put_directs
decreases-put_directs l = 8 * l.d + 5

abbrev pub decreases-put_lead : goal.decreases-put_lead
decreases-put_lead l = 8 * l.d + 3

abbrev pub decreases-put_list : goal.decreases-put_list
decreases-put_list l = 8 * l.d + 5

abbrev pub decreases-put_object : goal.decreases-put_object
decreases-put_object l = 8 * l.d + 1

abbrev pub decreases-put_present : goal.decreases-put_present
decreases-put_present l = 8 * l.d + 2

abbrev pub decreases-put_references : goal.decreases-put_references
decreases-put_references l = 8 * l.d + 4

abbrev pub decreases-put_table : goal.decreases-put_table
decreases-put_table l = 8 * l.d + 4

abbrev pub decreases-put_union : goal.decreases-put_union
decreases-put_union l = 8 * l.d + 2

abbrev pub invariant-put_choices-loop-j : goal.invariant-put_choices-loop-j
invariant-put_choices-loop-j l = Room l.out l.p
    × D.ElementsReadable l.reading.schema.width (D.ObjectReadable l.reading.schema.width l.d (parsed l.reading.schema) l.reading.message.now) (parsed l.reading.schema) l.reading.message.now (OfUnion l.u) l.part.start (l.part.length - l.j) l.j
    × Remaining l.initial.out l.pos (A.elements_at l.reading.schema.width l.d (parsed l.reading.schema) l.reading.message.now (OfUnion l.u) l.part.start l.part.length 0) l.out l.p (A.elements_at l.reading.schema.width l.d (parsed l.reading.schema) l.reading.message.now (OfUnion l.u) l.part.start (l.part.length - l.j) l.j)

abbrev pub invariant-put_directs-loop-j : goal.invariant-put_directs-loop-j
invariant-put_directs-loop-j l = Room l.out l.p
    × D.DirectsReadable (D.ObjectReadable l.reading.schema.width l.d (parsed l.reading.schema) l.reading.message.now) l.t l.w (l.part.length - l.j) (l.part.start + l.w * l.j)
    × Remaining l.initial.out l.initial.p (A.directs_at l.reading.schema.width l.d (parsed l.reading.schema) l.reading.message.now l.t l.w l.part.length l.part.start) l.out l.p (A.directs_at l.reading.schema.width l.d (parsed l.reading.schema) l.reading.message.now l.t l.w (l.part.length - l.j) (l.part.start + l.w * l.j))

abbrev pub invariant-put_references-loop-j : goal.invariant-put_references-loop-j
invariant-put_references-loop-j l = Room l.out l.p
    × D.ElementsReadable l.reading.schema.width (D.ObjectReadable l.reading.schema.width l.d (parsed l.reading.schema) l.reading.message.now) (parsed l.reading.schema) l.reading.message.now (OfObject l.ob) l.part.start (l.part.length - l.j) l.j
    × Remaining l.initial.out l.pos (A.elements_at l.reading.schema.width l.d (parsed l.reading.schema) l.reading.message.now (OfObject l.ob) l.part.start l.part.length 0) l.out l.p (A.elements_at l.reading.schema.width l.d (parsed l.reading.schema) l.reading.message.now (OfObject l.ob) l.part.start (l.part.length - l.j) l.j)

abbrev pub invariant-put_table-loop-j : goal.invariant-put_table-loop-j
invariant-put_table-loop-j l = Room l.out l.p × Laid (4097 * l.j) l.c
    × D.MembersReadable l.reading.schema.width (D.ObjectReadable l.reading.schema.width l.d (parsed l.reading.schema) l.reading.message.now) (parsed l.reading.schema) l.reading.message.now l.fn.part.start l.fn.part.length l.c (drop l.j (Sc.table_of (parsed l.reading.schema) l.t).members)
    × Remaining l.initial.out l.pos (A.members_at l.reading.schema.width l.d (parsed l.reading.schema) l.reading.message.now l.fn.part.start l.fn.part.length L.begin (Sc.table_of (parsed l.reading.schema) l.t).members) l.out l.p
    (A.members_at l.reading.schema.width l.d (parsed l.reading.schema) l.reading.message.now l.fn.part.start l.fn.part.length l.c (drop l.j (Sc.table_of (parsed l.reading.schema) l.t).members))
