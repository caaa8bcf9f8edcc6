-- The four bytes in place of those that stood there.
use Rattle.std.proofs.Common.{arith}
use Rattle.wire.proofs.Bytes.{four_put}
use Rattle.wire.proofs.put_u32_in.Goals as goal

pub returns : goal.returns
returns c = four_put _ _ _ _ _ _ c.requires.1 (omega arith) c.to_le_bytes-bytes.ensures c.copy_from_slice.ensures.after
