use Rattle.write_pass.proofs.OpenCases.{object-opened}
use Rattle.write_pass.proofs.open_object.Goals as goal

pub returns : goal.returns
returns c = search object-opened
