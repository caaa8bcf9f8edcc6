use Rattle.std.proofs.Common.{◌-◌, ◌≤◌}
use Rattle.bitio.specs.Puts.{Puts}
use Rattle.sheet_lists.specs.Elements as A
use Rattle.sheet_lists.proofs.put_enums.Given as goal

abbrev pub invariant-loop-i : goal.invariant-loop-i
invariant-loop-i l = (l.i ≤ l.n) × Puts l.initial.out l.pos (A.enums_at l.m l.k l.i l.at) l.out l.p

abbrev pub decreases-loop-i : goal.decreases-loop-i
decreases-loop-i l = l.n - l.i
