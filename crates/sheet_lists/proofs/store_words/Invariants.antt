use Rattle.std.proofs.Common.{◌+◌, ◌*◌, ◌/◌}
use Rattle.bitio.specs.Puts.{Puts}
use Rattle.sheet_lists.specs.Elements as A
use Rattle.sheet_lists.proofs.store_words.Given as goal

abbrev pub invariant-loop-i : goal.invariant-loop-i
invariant-loop-i g l = Puts l.initial.out l.pos (A.numbers_at l.m g.row.W (l.i * (8 / g.row.W)) l.at) l.out (l.pos + 64 * l.i)
