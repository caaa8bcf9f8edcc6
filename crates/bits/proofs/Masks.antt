-- Masks, and a field replaced, by shifts, ors and masks of 64 bits.
use mathlib.Core.Path.{◌≡◌, ap, ap₂, ◌∙◌}
use Prim.Native.Nat.{ℕ, ◌+◌, ◌-◌, ◌*◌, ◌/◌, ◌%◌, ◌^◌, ◌≤◌, ◌<◌}
use native.Mathlib.Nat.{mod-lt, one-mul}
use native.Mathlib.Omega.{arith}
use lib.Pow.{pow_pos, pow-add, shr-shr, shl_exact, shr_lt}
use lib.Arith.{digits_lt}
use lib.Bits.{bit_and, bit_or, and_mask, or_shifted}
use Rattle.bits.specs.Chunk.{merged}

-- ---- masks and ors
pub low_mask : (v n : ℕ) → n < 64 → bit_and v ((1 * 2 ^ n) % 2 ^ 64 - 1) ≡ v % 2 ^ n
low_mask v n h = ap (λ (m : ℕ). bit_and v (m - 1)) (shl_exact 1 n 64 (omega arith) (omega arith) ∙ one-mul (2 ^ n)) ∙ and_mask v n

pub mask_some : (k : ℕ) → k < 64 → 1 ≤ (1 * 2 ^ k) % 2 ^ 64
mask_some k h = rw (shl_exact 1 k 64 (let o : 1 < 2 ^ 1 = omega arith in o) (let p : 1 + k ≤ 64 = omega arith in p), one-mul (2 ^ k)) (pow_pos k)

-- n bits more under v
pub or_more : (v d n g : ℕ) → v < 2 ^ d → d + n ≤ 64 → g < 2 ^ n → bit_or ((v * 2 ^ n) % 2 ^ 64) g ≡ v * 2 ^ n + g
or_more v d n g hv h hg = ap (λ (k : ℕ). bit_or k g) (shl_exact d n 64 hv h) ∙ or_shifted v n g hg

-- ---- a field of n bits in a number of w: a bits above it, k below
module _ (b a n k x w : ℕ) (e : a + n + k ≡ w) (hb : b < 2 ^ w) (hx : x < 2 ^ n) where
  top : b / 2 ^ k / 2 ^ n < 2 ^ a
  top =
      let p : a + (k + n) ≡ w = omega arith in
      rw (shr-shr b k n) (shr_lt a (k + n) (rw p hb))

  pub merged-lt : merged b n k x < 2 ^ w
  unfolding merged
  merged-lt =
      let q : b / 2 ^ k / 2 ^ n * 2 ^ n + x < 2 ^ (a + n) = rw (pow-add 2 a n) (digits_lt top hx) in
      let r : (b / 2 ^ k / 2 ^ n * 2 ^ n + x) * 2 ^ k + b % 2 ^ k < 2 ^ (a + n) * 2 ^ k = digits_lt q (mod-lt b (pow_pos k)) in
      rw (← pow-add 2 (a + n) k, e) at r

  -- by shifts, ors and a mask
  pub merged_ops :
      w ≤ 64 → k < 64
      → bit_or ((bit_or ((b / 2 ^ k / 2 ^ n * 2 ^ n) % 2 ^ 64) x * 2 ^ k) % 2 ^ 64) (bit_and b ((1 * 2 ^ k) % 2 ^ 64 - 1)) ≡ merged b n k x
  unfolding merged
  merged_ops hw hk =
      let h : ℕ = b / 2 ^ k / 2 ^ n in
      let q : h * 2 ^ n + x < 2 ^ (a + n) = rw (pow-add 2 a n) (digits_lt top hx) in
      let one : (1 * 2 ^ k) % 2 ^ 64 ≡ 2 ^ k = shl_exact 1 k 64 (omega arith) (omega arith) ∙ one-mul (2 ^ k) in
      ap (λ (t : ℕ). bit_or ((bit_or t x * 2 ^ k) % 2 ^ 64) (bit_and b ((1 * 2 ^ k) % 2 ^ 64 - 1))) (shl_exact a n 64 top (omega arith))
      ∙ ap₂ (λ (t m : ℕ). bit_or ((t * 2 ^ k) % 2 ^ 64) (bit_and b (m - 1))) (or_shifted h n x hx) one
      ∙ ap₂ bit_or (shl_exact (a + n) k 64 q (omega arith)) (and_mask b k)
      ∙ or_shifted (h * 2 ^ n + x) k (b % 2 ^ k) (mod-lt b (pow_pos k))
