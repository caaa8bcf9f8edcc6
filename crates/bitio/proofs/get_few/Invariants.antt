-- The number of the bytes passed so far.
use Rattle.std.proofs.Common.{◌*◌}
use Rattle.bitio.specs.Taken.{Run}
use Rattle.bitio.proofs.get_few.Given as goal

abbrev pub invariant-loop-b : goal.invariant-loop-b
invariant-loop-b l = Run l.s 0 (8 * l.b-index) l.v
