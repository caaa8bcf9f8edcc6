use Rattle.sheet_walk.proofs.Flats.{whole_there}
use Rattle.sheet_walk.proofs.put_whole.Goals as goal

pub returns : goal.returns
returns c = search whole_there
