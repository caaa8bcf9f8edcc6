-- Each way out is a law of Takes.
use Rattle.bitio.proofs.Takes.{number_left, number_short}
use Rattle.bitio.proofs.take_number.Goals as goal

pub returns-then-s-pos : goal.returns-then-s-pos
returns-then-s-pos c = search number_short

pub returns : goal.returns
returns c = search number_left
