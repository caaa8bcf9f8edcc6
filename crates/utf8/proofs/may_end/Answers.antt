-- `utf8::may_end` meets its contract: only the boundary has the number 0.
use Rattle.utf8.proofs.OctetLaws.{word_ends}
use Rattle.utf8.proofs.may_end.Goals as goal

pub returns : goal.returns
returns c = search word_ends
