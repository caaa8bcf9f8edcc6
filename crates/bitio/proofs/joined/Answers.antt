use Rattle.bitio.proofs.Words.{joined_none}
use Rattle.bitio.proofs.joined.Goals as goal

pub returns-then-a-eq0 : goal.returns-then-a-eq0
returns-then-a-eq0 c = search joined_none
