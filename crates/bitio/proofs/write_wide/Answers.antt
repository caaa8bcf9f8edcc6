-- Each way out is a law of PutsLaws.
use Rattle.bitio.specs.PutsLaws.{bits_over, bits_in, bits-not}
use Rattle.bitio.proofs.write_wide.Goals as goal

pub returns-then-end-gt-MOST : goal.returns-then-end-gt-MOST
returns-then-end-gt-MOST c = search bits_over

pub returns-then-end-out : goal.returns-then-end-out
returns-then-end-out c = search bits_in

pub returns-else-end-out : goal.returns-else-end-out
returns-else-end-out c = search bits-not
