use Rattle.std.proofs.Common.{◌+◌, ◌*◌}
use Rattle.bitio.specs.Puts.{Puts}
use Rattle.sheet_lists.specs.Elements as A
use Rattle.sheet_lists.proofs.store_bools.Given as goal

abbrev pub invariant-loop-i : goal.invariant-loop-i
invariant-loop-i l = Puts l.initial.out l.pos (A.bools_at l.m l.at (64 * l.i) 0) l.out (l.pos + 64 * l.i)
