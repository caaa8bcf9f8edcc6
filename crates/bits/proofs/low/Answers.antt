-- A mask of n bits is the rest by a power of 2.
use Rattle.bits.proofs.Masks.{low_mask, mask_some}
use native.Mathlib.Omega.{arith}
use Rattle.bits.proofs.low.Goals as goal

pub overflow_sub-result : goal.overflow_sub-result
overflow_sub-result c = mask_some c.args.n (omega arith)

pub returns : goal.returns
returns c = low_mask c.args.v c.args.n (omega arith)
