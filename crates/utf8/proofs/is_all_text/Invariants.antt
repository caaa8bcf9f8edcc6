-- `utf8::is_all_text` meets its contract: the word and the place decide as the start did.
use Rattle.std.proofs.Common.{◌*◌}
use Rattle.utf8.specs.Steps.{Onward}
use Rattle.utf8.proofs.is_all_text.Given as goal

abbrev pub invariant-loop-j : goal.invariant-loop-j
invariant-loop-j l = Onward l.s 0 (64 * l.j) 0 l.w
