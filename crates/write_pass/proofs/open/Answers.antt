use Rattle.write_pass.proofs.OpenCases.{opened-content, opened-object}
use Rattle.write_pass.proofs.open.Goals as goal

pub returns-then-inplace : goal.returns-then-inplace
returns-then-inplace c = search opened-content

pub returns : goal.returns
returns c = search opened-object
