-- `utf8::is_ascii` meets its contract: each byte passed is at most what is joined, so all are ASCII if that is below 128.
use Rattle.utf8.proofs.StepLaws.{NoneAbove}
use Rattle.utf8.proofs.is_ascii.Given as goal

abbrev pub invariant-loop-b : goal.invariant-loop-b
invariant-loop-b l = NoneAbove l.s l.i l.b-index l.joined
