use Rattle.schema.specs.Parsed.{parsed, bytes_of}
use mathlib.Core.Path.{◌≡◌}
use lib.ListN.{drop}
use Rattle.coding.specs.Packed as P
use Rattle.coding.specs.Schema as Sc
use Rattle.coding.specs.Walk as W
use Rattle.message_layout.specs.Bounds.{Laid}
use Rattle.outcome.specs.Answers as As
use Rattle.coding.specs.declared.Kind.TheVariants.{OfObject, OfUnion}
use Prim.Native.Nat.{◌+◌, ◌-◌, ◌*◌, ◌≤◌}
use Rattle.judge_walk.proofs.+walk.Given as goal

abbrev pub decreases-admit : goal.decreases-admit
decreases-admit l = 16 * l.depth + 8

abbrev pub decreases-arrive : goal.decreases-arrive
decreases-arrive l = 16 * l.depth + 4

abbrev pub decreases-choice : goal.decreases-choice
decreases-choice l = 16 * l.depth + 5

abbrev pub decreases-choices : goal.decreases-choices
decreases-choices l = 16 * l.depth + 6

abbrev pub decreases-directs : goal.decreases-directs
decreases-directs l = 16 * l.depth + 7

abbrev pub decreases-elements : goal.decreases-elements
decreases-elements l = 16 * l.depth + 6

abbrev pub decreases-follow : goal.decreases-follow
decreases-follow l = 16 * l.depth + 5

abbrev pub decreases-list : goal.decreases-list
decreases-list l = 16 * l.depth + 7

abbrev pub decreases-refer : goal.decreases-refer
decreases-refer l = 16 * l.depth + 4

abbrev pub decreases-reference : goal.decreases-reference
decreases-reference l = 16 * l.depth + 5

abbrev pub decreases-references : goal.decreases-references
decreases-references l = 16 * l.depth + 6

abbrev pub decreases-table : goal.decreases-table
decreases-table l = 16 * l.depth + 7

abbrev pub decreases-union : goal.decreases-union
decreases-union l = 16 * l.depth + 4

abbrev pub decreases-visit : goal.decreases-visit
decreases-visit l = 16 * l.depth + 0

abbrev pub invariant-choices-loop-j : goal.invariant-choices-loop-j
invariant-choices-loop-j l = (l.j ≤ l.x.length) × (l.at ≡ l.x.start + (2 + l.reading.schema.width) * l.j)
    × (As.elements_by l.reading.schema.width (bytes_of l.reading.schema) l.reading.message.now l.depth (OfUnion l.i) l.x (W.spending l.visits l.content)
    ≡ W.elements (As.visit_by l.reading.schema.width (bytes_of l.reading.schema) l.reading.message.now l.depth) l.reading.schema.width (parsed l.reading.schema) l.reading.message.now l.x.holder l.x.start (OfUnion l.i) (l.x.length - l.j) l.j (W.spending l.v l.w))

abbrev pub invariant-elements-loop-j : goal.invariant-elements-loop-j
invariant-elements-loop-j l = (l.j ≤ l.fn.x.length) × (l.at ≡ l.fn.x.start + l.w * l.j)
    × (As.directs_by l.reading.schema.width (bytes_of l.reading.schema) l.reading.message.now l.depth l.t l.w l.fn.x (W.spending l.visits l.content)
    ≡ W.directs (As.visit_by l.reading.schema.width (bytes_of l.reading.schema) l.reading.message.now l.depth) l.t l.w (l.fn.x.length - l.j) l.at (W.spending l.v l.c))

abbrev pub invariant-references-loop-j : goal.invariant-references-loop-j
invariant-references-loop-j l = (l.j ≤ l.fn.x.length) × (l.at ≡ l.fn.x.start + l.reading.schema.width * l.j)
    × (As.elements_by l.reading.schema.width (bytes_of l.reading.schema) l.reading.message.now l.depth (OfObject l.ob) l.fn.x (W.spending l.visits l.content)
    ≡ W.elements (As.visit_by l.reading.schema.width (bytes_of l.reading.schema) l.reading.message.now l.depth) l.reading.schema.width (parsed l.reading.schema) l.reading.message.now l.fn.x.holder l.fn.x.start (OfObject l.ob) (l.fn.x.length - l.j) l.j (W.spending l.v l.w))

abbrev pub invariant-table-loop-j : goal.invariant-table-loop-j
invariant-table-loop-j l = (l.j ≤ l.count) × Laid (4097 * l.j) l.c
    × (As.members_by l.reading.schema.width (bytes_of l.reading.schema) l.reading.message.now l.depth l.t l.x (W.spending l.visits l.content)
    ≡ W.members (As.visit_by l.reading.schema.width (bytes_of l.reading.schema) l.reading.message.now l.depth) l.reading.schema.width (parsed l.reading.schema) l.reading.message.now l.x.holder l.x.start l.x.length l.c l.j (drop l.j (Sc.table_of (parsed l.reading.schema) l.t).members) (W.spending l.v l.w))
