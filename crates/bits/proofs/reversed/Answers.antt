-- The bits one by one.
use Rattle.std.proofs.Common.{arith}
use Rattle.std.specs.Int.{reverse_bits_onto}
use Rattle.bits.specs.Reversed.{digit, reversed}
use Rattle.bits.proofs.reversed.Goals as goal

pub returns : goal.returns
unfolding reverse_bits_onto digit reversed
returns c = omega (arith, c.reverse_bits.ensures)
