-- `utf8::after_block` meets its contract: ASCII leaves the boundary as it is.
use Rattle.utf8.proofs.StepLaws.{onward_skips}
use Rattle.utf8.proofs.after_block.Goals as goal

pub returns-then-is_ascii : goal.returns-then-is_ascii
returns-then-is_ascii c = onward_skips _ _ _ _ _ c.if-may_end.true c.may_end.ensures c.requires.0 (c.is_ascii.ensures c.if-is_ascii.true)
