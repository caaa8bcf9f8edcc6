use Rattle.write.proofs.WriteCases.{end_long, end_short}
use Rattle.write.proofs.closed.Goals as goal

pub returns-then-left-lt8 : goal.returns-then-left-lt8
returns-then-left-lt8 c = search end_short

pub returns-else-left-lt8 : goal.returns-else-left-lt8
returns-else-left-lt8 c = search end_long
