use Rattle.judge.proofs.VerdictCases.{verdict_going, verdict_refused}
use Rattle.judge.proofs.verdict_of.Goals as goal

pub returns-then-w-eq0 : goal.returns-then-w-eq0
returns-then-w-eq0 c = search verdict_going

pub returns : goal.returns
returns c = search verdict_refused
