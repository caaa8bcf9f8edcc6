use Rattle.write_pass.proofs.MeasureCases.{blob_cut, blob_measured}
use Rattle.write_pass.proofs.measure_blob.Goals as goal

pub returns-in_err-x : goal.returns-in_err-x
returns-in_err-x c = search (blob_cut, c.in_err-x.ensures)

pub returns : goal.returns
returns c = search (blob_measured, c.in_ok-x.ensures)
