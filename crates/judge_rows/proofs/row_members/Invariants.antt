use Rattle.schema.specs.Parsed.{parsed, bytes_of}
use Prim.Native.Nat.{◌-◌, ◌*◌, ◌≤◌}
use mathlib.Core.Path.{◌≡◌}
use lib.ListN.{drop}
use Rattle.coding.specs.Packed as P
use Rattle.coding.specs.Schema as Sc
use Rattle.coding.specs.Walk as W
use Rattle.outcome.specs.Answers as As
use Rattle.judge_member.specs.Records as Rs
use Rattle.judge_rows.proofs.row_members.Given as goal

abbrev pub invariant-loop-j : goal.invariant-loop-j
invariant-loop-j l = (l.j ≤ l.k.count) × (l.end ≤ 256 * l.j)
    × (As.members_by l.reading.schema.width (bytes_of l.reading.schema) l.reading.message.now l.depth l.k.table l.fn.x (W.spending l.visits l.content)
    ≡ W.members (As.visit_by l.reading.schema.width (bytes_of l.reading.schema) l.reading.message.now l.depth) l.reading.schema.width (parsed l.reading.schema) l.reading.message.now l.fn.x.holder l.fn.x.start l.fn.x.length (Rs.no_bool l.end) l.j (drop l.j (Sc.table_of (parsed l.reading.schema) l.k.table).members) (W.spending l.v l.w))
