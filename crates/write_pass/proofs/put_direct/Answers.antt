use Rattle.write_pass.proofs.OpenCases.{direct_put}
use Rattle.write_pass.proofs.put_direct.Goals as goal

pub returns : goal.returns
returns c = search direct_put
