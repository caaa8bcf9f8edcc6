-- `utf8::after_bytes` meets its contract, one byte a turn.
use Rattle.std.proofs.Common.{◌+◌}
use Rattle.utf8.specs.Steps.{Onward}
use Rattle.utf8.proofs.after_bytes.Given as goal

abbrev pub invariant-loop-b : goal.invariant-loop-b
invariant-loop-b l = Onward l.s l.i (l.i + l.b-index) l.w l.x
