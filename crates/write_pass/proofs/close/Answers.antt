use Rattle.write_pass.proofs.OpenCases.{closed-content, closed-object}
use Rattle.write_pass.proofs.close.Goals as goal

pub returns-then-inplace : goal.returns-then-inplace
returns-then-inplace c = search closed-content

pub returns : goal.returns
returns c = search closed-object
