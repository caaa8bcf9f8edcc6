-- `wire::width_of` meets its contract, by the number.
use Rattle.std.proofs.Common.{refl}
use Rattle.coding.specs.Bytes.{width_of, u48, u32}
use Rattle.wire.proofs.Bits.{width_none}
use Rattle.wire.proofs.width_of.Goals as goal

pub returns-in-48 : goal.returns-in-48
unfolding width_of u48
returns-in-48 c = rw c.in-48.is refl

pub returns-in-32 : goal.returns-in-32
unfolding width_of u32
returns-in-32 c = rw c.in-32.is refl

pub returns-in_default : goal.returns-in_default
returns-in_default c = search width_none
