-- The bytes, with zero bytes above them, as one number.
use Rattle.std.proofs.Common.{arith}
use Rattle.wire.proofs.Bytes.{number_made}
use Rattle.wire.proofs.number_in.Goals as goal

pub returns : goal.returns
returns g c = number_made _ _ _ _ _ _ c.requires.few c.requires.inside c.type_inv.m (omega arith) c.copy_from_slice.ensures.after c.from_le_bytes.ensures
