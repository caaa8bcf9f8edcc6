-- A shift and an or are a sum.
use Rattle.std.proofs.Common.{◌≡◌, ℕ, ◌+◌, ◌*◌, ◌%◌, ◌^◌, ◌≤◌, ◌<◌, ap, ◌∙◌, arith, pow-add, shl_exact}
use Rattle.std.specs.Int.Bits.{bit_or}
use Rattle.std.proofs.lemmas.Nat.{or_shifted}
use Rattle.std.proofs.Math.Arith.{digits_lt}
use Rattle.bits.proofs.pair.Goals as goal

module _ (n hi lo : ℕ) (few : n ≤ 32) (high : hi < 2 ^ n) (low : lo < 2 ^ n) where
  pair_is : bit_or ((hi * 2 ^ n) % 2 ^ 64) lo ≡ hi * 2 ^ n + lo
  pair_is = ap (λ (k : ℕ). bit_or k lo) (shl_exact n n 64 high (omega arith)) ∙ or_shifted hi n lo low

  pair_small : bit_or ((hi * 2 ^ n) % 2 ^ 64) lo < 2 ^ (n + n)
  pair_small = rw (pair_is, pow-add 2 n n) (digits_lt high low)

pub returns : goal.returns
returns c = (search pair_is, search pair_small)
