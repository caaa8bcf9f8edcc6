-- Each way out is a law of PutsLaws.
use Rattle.bitio.specs.PutsLaws.{bytes_long, bytes_over, bytes_in_lem, bytes-not}
use Rattle.bitio.proofs.write_bytes.Goals as goal

pub returns-then-s : goal.returns-then-s
returns-then-s c = search bytes_long

pub returns-then-end-gt-MOST : goal.returns-then-end-gt-MOST
returns-then-end-gt-MOST c = search bytes_over

pub returns-then-end-out : goal.returns-then-end-out
returns-then-end-out c = search bytes_in_lem

pub returns-else-end-out : goal.returns-else-end-out
returns-else-end-out c = search bytes-not
