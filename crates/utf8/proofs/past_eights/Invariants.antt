-- `utf8::past_eights` meets its contract: what was passed can be left out.
use Rattle.std.proofs.Common.{◌+◌, ◌*◌}
use Rattle.utf8.specs.Steps.{Skips}
use Rattle.utf8.proofs.past_eights.Given as goal

abbrev pub invariant-loop-j : goal.invariant-loop-j
invariant-loop-j l = Skips l.s l.i (l.i + 8 * l.j)
