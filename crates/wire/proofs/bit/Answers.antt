-- `wire::bit` meets its contract, by that of `bit_value`.
use Rattle.wire.proofs.Bits.{bit-of}
use Rattle.wire.proofs.bit.Goals as goal

pub returns : goal.returns
returns c = search bit-of
