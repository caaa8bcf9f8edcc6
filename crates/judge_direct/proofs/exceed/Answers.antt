use Rattle.judge_direct.proofs.PassCases.{exceed_is}
use Rattle.judge_direct.proofs.exceed.Goals as goal

pub returns : goal.returns
returns c = search exceed_is
