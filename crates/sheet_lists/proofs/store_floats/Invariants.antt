use Rattle.bitio.specs.Puts.{Puts}
use Rattle.sheet_lists.specs.Elements as A
use Rattle.sheet_lists.proofs.store_floats.Given as goal

abbrev pub invariant-loop-i : goal.invariant-loop-i
invariant-loop-i g l = Puts l.initial.out l.pos (A.floats_at l.m g.row.W l.i l.at) l.out l.p
