use Rattle.bitio.proofs.Words.{behind-bits}
use Rattle.bitio.proofs.behind.Goals as goal

pub returns : goal.returns
returns c = search behind-bits
