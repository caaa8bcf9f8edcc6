-- Each way out is a law of Takes.
use Rattle.bitio.proofs.Takes.{bytes_left, bytes_short}
use Rattle.bitio.proofs.skip_bytes.Goals as goal

pub returns-then-s-pos : goal.returns-then-s-pos
returns-then-s-pos c = search bytes_short

pub returns : goal.returns
returns c = search bytes_left
