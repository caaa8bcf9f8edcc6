-- `wire::bit_in` meets its contract, by that of `bit_value`.
use Rattle.wire.proofs.Bits.{bit-of}
use Rattle.wire.proofs.bit_in.Goals as goal

pub returns : goal.returns
returns c = search bit-of
