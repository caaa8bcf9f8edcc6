use Rattle.write_measure.proofs.ExtentCases.{blob_fits}
use Rattle.write_measure.proofs.blob_extent.Goals as goal

pub returns : goal.returns
returns c = search blob_fits
