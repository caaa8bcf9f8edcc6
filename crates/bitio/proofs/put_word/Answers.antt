-- The eight bytes of the number in place of those that stood there.
use Rattle.std.proofs.Common.{rules}
use Rattle.bitio.proofs.Words.{word_put}
use Rattle.bitio.proofs.put_word.Goals as goal

pub returns : goal.returns
returns c = word_put _ _ _ _ _ c.requires (search rules) (search rules)
