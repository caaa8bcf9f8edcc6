use Rattle.positions.proofs.RowCases.{bool-row, bytes-row}
use Rattle.positions.proofs.record_row.Goals as goal

pub returns-then-kind_at-eq-KIND_BOOL : goal.returns-then-kind_at-eq-KIND_BOOL
returns-then-kind_at-eq-KIND_BOOL c = search bool-row

pub returns : goal.returns
returns c = search bytes-row
