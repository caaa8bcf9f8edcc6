use Rattle.positions.proofs.LoopCases.{next_of}
use Rattle.positions.proofs.next_row.Goals as goal

pub returns : goal.returns
returns c = search (next_of, c.record_row.ensures)
