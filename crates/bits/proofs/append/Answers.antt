-- A shift and an or are a sum.
use Rattle.bits.proofs.Masks.{or_more}
use Prim.Native.Nat.{ℕ, ◌*◌, ◌%◌, ◌^◌}
use mathlib.Core.Path.{ap, ◌∙◌}
use native.Mathlib.Nat.{mod-lt}
use native.Mathlib.Omega.{arith}
use lib.Pow.{pow_pos}
use lib.Bits.{bit_or}
use Rattle.bits.proofs.append.Goals as goal

pub returns : goal.returns
returns c = let a = c.args in
    ap (λ (k : ℕ). bit_or ((a.h * 2 ^ a.n) % 2 ^ 64) k) c.low.ensures
    ∙ or_more a.h 2 a.n (a.x % 2 ^ a.n) (omega arith) (omega arith) (mod-lt a.x (pow_pos a.n))
