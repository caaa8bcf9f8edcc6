use Rattle.positions.proofs.LoopCases.{row_put}
use Rattle.positions.proofs.put_row.Goals as goal

pub returns : goal.returns
returns c = search row_put
