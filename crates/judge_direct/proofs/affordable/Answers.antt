use Rattle.judge_direct.proofs.PassCases.{afforded-empty, afforded_some, afforded_all}
use Rattle.judge_direct.proofs.affordable.Goals as goal

pub returns-then-w-eq0 : goal.returns-then-w-eq0
returns-then-w-eq0 c = search afforded-empty

pub returns-then-q-n : goal.returns-then-q-n
returns-then-q-n c = search afforded_some

pub returns : goal.returns
returns c = search afforded_all
