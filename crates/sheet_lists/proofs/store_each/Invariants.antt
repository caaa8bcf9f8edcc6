use Rattle.bitio.specs.Puts.{Puts}
use Rattle.sheet_lists.specs.Elements as A
use Rattle.sheet_lists.proofs.store_each.Given as goal

abbrev pub invariant-loop-i : goal.invariant-loop-i
invariant-loop-i l = Puts l.initial.out l.pos (A.numbers_at l.m l.w l.i l.at) l.out l.p
