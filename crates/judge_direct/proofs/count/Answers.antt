use Rattle.judge_direct.proofs.PassCases.{count_none, count_deep, count_settled}
use Rattle.judge_direct.proofs.count.Goals as goal

pub returns-then-x-eq0 : goal.returns-then-x-eq0
returns-then-x-eq0 c = search count_none

pub returns-then-depth-eq0 : goal.returns-then-depth-eq0
returns-then-depth-eq0 c = search count_deep

pub returns : goal.returns
returns c = search count_settled
