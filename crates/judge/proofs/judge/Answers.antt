use Rattle.judge.proofs.VerdictCases.{verdict-lent, verdict-unlawful}
use Rattle.judge.proofs.judge.Goals as goal

pub returns-in-Some : goal.returns-in-Some
returns-in-Some c = search verdict-lent

pub returns-in-None : goal.returns-in-None
returns-in-None c = search verdict-unlawful
