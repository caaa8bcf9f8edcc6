use Rattle.write.proofs.WriteCases.{size_is}
use Rattle.write.proofs.message_size.Goals as goal

pub returns : goal.returns
returns c = search size_is
