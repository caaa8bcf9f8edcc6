use Rattle.write_pass.proofs.OpenCases.{flag_some, flag_none}
use Rattle.write_pass.proofs.flag.Goals as goal

pub returns-then-has_flag : goal.returns-then-has_flag
returns-then-has_flag c = search flag_some

pub returns : goal.returns
returns c = search flag_none
