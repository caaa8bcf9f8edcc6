use Rattle.sheet_values.proofs.Cases.{blob-marked}
use Rattle.sheet_values.proofs.put_blob.Goals as goal

pub returns : goal.returns
returns c = search blob-marked
