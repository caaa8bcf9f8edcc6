use Rattle.positions.proofs.PlaceCases.{first-before, heads-before, row_first, row_low}
use Rattle.positions.proofs.first_row.Goals as goal

pub overflow_sub-records : goal.overflow_sub-records
overflow_sub-records c = search first-before

pub overflow_sub-records-2 : goal.overflow_sub-records-2
overflow_sub-records-2 c = search heads-before

pub returns : goal.returns
returns c = (search row_first, search row_low)
