-- By one store of a word, or as `write_wide` does.
use Rattle.bitio.specs.PutsLaws.{bits_zeroed}
use native.Mathlib.Omega.{arith}
use borrow.Author.Rules.{rules}
use Rattle.bitio.proofs.write.Goals as goal

pub returns-then-w-gt0 : goal.returns-then-w-gt0
returns-then-w-gt0 c = bits_zeroed _ _ _ _ _ (search rules) (omega arith) (omega arith) (search rules) c.put_zeroed.ensures
