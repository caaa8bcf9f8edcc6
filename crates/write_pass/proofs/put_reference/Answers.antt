use Rattle.write_pass.proofs.OpenCases.{referred_by}
use Rattle.write_pass.proofs.put_reference.Goals as goal

pub returns : goal.returns
returns c = search referred_by
