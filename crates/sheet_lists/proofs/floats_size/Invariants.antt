use Rattle.std.proofs.Common.{◌≡◌, ◌+◌, ◌*◌, ◌≤◌, length}
use Rattle.sheet_lists.specs.Elements as A
use Rattle.sheet_lists.proofs.floats_size.Given as goal

abbrev pub invariant-loop-i : goal.invariant-loop-i
invariant-loop-i g l = (l.values ≤ l.i) × (length (A.floats_at l.m g.row.W l.i l.at) ≡ 2 * l.i + 8 * g.row.W * l.values)
