-- A field replaced by shifts, ors and a mask is the field replaced by sums.
use Rattle.bits.proofs.Masks.{mask_some, merged_ops}
use Prim.Native.Nat.{◌+◌, ◌-◌}
use mathlib.Core.Path.{◌≡◌}
use native.Mathlib.Omega.{arith}
use Rattle.bits.proofs.merge.Goals as goal

pub overflow_sub-result : goal.overflow_sub-result
overflow_sub-result c = mask_some c.args.k (omega arith)

pub returns : goal.returns
returns c = let a = c.args in
    let t : 64 - a.n - a.k + a.n + a.k ≡ 64 = omega arith in
    merged_ops a.b (64 - a.n - a.k) a.n a.k a.x 64 t c.ranges.b.fits c.requires.x_bound (omega arith) (omega arith)
