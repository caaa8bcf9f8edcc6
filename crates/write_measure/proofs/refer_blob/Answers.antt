use Rattle.write_measure.proofs.PartCases.{blob_deep, blob_fails, blob_surveyed}
use Rattle.write_measure.proofs.refer_blob.Goals as goal

pub returns-then-d-eq0 : goal.returns-then-d-eq0
returns-then-d-eq0 c = search blob_deep

pub returns-in_err-x : goal.returns-in_err-x
returns-in_err-x c = rw c.from_residual.ensures (search (blob_fails, c.in_err-x.ensures))

pub returns : goal.returns
returns c = search (blob_surveyed, c.in_ok-x.ensures)
