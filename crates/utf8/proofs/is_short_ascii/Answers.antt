-- `utf8::is_short_ascii` meets its contract: ASCII is text.
use Rattle.utf8.proofs.ShortLaws.{ascii-text}
use Rattle.utf8.proofs.is_short_ascii.Goals as goal

pub returns-then-n-le16 : goal.returns-then-n-le16
returns-then-n-le16 c e = ascii-text _ _ _ c.requires (c.two_ascii.ensures e)

pub returns : goal.returns
returns c e = ascii-text _ _ _ c.requires (c.four_ascii.ensures e)
