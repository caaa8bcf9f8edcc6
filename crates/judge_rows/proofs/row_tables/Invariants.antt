use Rattle.schema.specs.Parsed.{parsed, bytes_of}
use Prim.Native.Nat.{◌+◌, ◌-◌, ◌*◌, ◌≤◌}
use mathlib.Core.Path.{◌≡◌}
use Rattle.coding.specs.Packed as P
use Rattle.coding.specs.Walk as W
use Rattle.coding.specs.declared.Kind.TheVariants.{OfObject}
use Rattle.coding.specs.declared.Object.TheVariants as O
use Rattle.outcome.specs.Answers as As
use Rattle.judge_rows.proofs.row_tables.Given as goal

abbrev pub invariant-loop-j : goal.invariant-loop-j
invariant-loop-j l = (l.j ≤ l.fn.x.length) × (l.at ≡ l.fn.x.start + l.reading.schema.width * l.j)
    × (As.elements_by l.reading.schema.width (bytes_of l.reading.schema) l.reading.message.now l.depth (OfObject (O.Table l.k.table)) l.fn.x (W.spending l.visits l.content)
    ≡ W.elements (As.visit_by l.reading.schema.width (bytes_of l.reading.schema) l.reading.message.now l.depth) l.reading.schema.width (parsed l.reading.schema) l.reading.message.now l.fn.x.holder l.fn.x.start (OfObject (O.Table l.k.table)) (l.fn.x.length - l.j) l.j (W.spending l.v l.w))
