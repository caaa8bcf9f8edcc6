-- Numbers of a list: how many bits they take, and one after the other.
use mathlib.Core.Path.{◌≡◌, sym, ap, ap₂, ◌∙◌}
use mathlib.Core.List.{List, ◌++◌, append_assoc, append-nil}
use Prim.Native.Nat.{ℕ, zero, suc, ◌+◌, ◌*◌, ◌^◌, ◌<◌, ◌≤◌}
use native.Mathlib.Omega.{arith}
use native.Mathlib.Nat.{zero-add, mul-zero, mul-suc, mul-le-mul, le_of_lt}
use lib.ListN.{length, length-append}
use Rattle.coding.specs.Bytes.{le}
use Rattle.coding.specs.Bits.{bits_of}
use Rattle.laws.specs.Bits.{bits_of-length}
use Rattle.bitio.specs.Puts.{Room, Puts, saturated}
use Rattle.bitio.specs.PutsLaws.{puts_none, puts-same, puts_then}
use Rattle.sheet_lists.specs.Elements as A
use Rattle.sheet_values.proofs.Cases.{counted_puts}

pub numbers_most : (w n : ℕ) → w ≤ 8 → n < 2 ^ 48 → 8 * w * n ≤ 64 * 2 ^ 48
numbers_most w n h l = mul-le-mul (let z : 8 * w ≤ 64 = omega arith in z) (le_of_lt l)

numbers-length : (m : List ℕ) (w n at : ℕ) → length (A.numbers_at m w n at) ≡ 8 * w * n
unfolding A.numbers_at
numbers-length m w zero at = sym (mul-zero (8 * w))
numbers-length m w (suc n) at =
    let e = mul-suc (8 * w) n in
    length-append (bits_of (8 * w) (le m at w)) (A.numbers_at m w n (at + w))
    ∙ omega (arith, e, bits_of-length (8 * w) (le m at w), numbers-length m w n (at + w))

pub numbers_counted : (o : List ℕ) (p : ℕ) (m : List ℕ) (w n at k q : ℕ) → Room o p → k ≡ 8 * w * n → 8 * length o < p + k → q ≡ saturated (p + k)
    → Puts o p (A.numbers_at m w n at) o q
numbers_counted o p m w n at k q g e l eq = counted_puts o p k q (A.numbers_at m w n at) g (numbers-length m w n at ∙ sym e) l eq

-- the first a numbers, and those after them
pub numbers_split : (m : List ℕ) (w a b at : ℕ) → A.numbers_at m w (a + b) at ≡ A.numbers_at m w a at ++ A.numbers_at m w b (at + w * a)
unfolding A.numbers_at
numbers_split m w zero b at =
    let z : zero + b ≡ b = zero-add b in
    let y : at ≡ at + w * 0 = omega arith in
    ap₂ (λ (k i : ℕ). A.numbers_at m w k i) z y
numbers_split m w (suc a) b at =
    let z : suc a + b ≡ suc (a + b) = omega arith in
    let y : at + w + w * a ≡ at + w * suc a = omega (arith, mul-suc w a) in
    ap (λ (k : ℕ). A.numbers_at m w k at) z
    ∙ ap (λ (l : List ℕ). bits_of (8 * w) (le m at w) ++ l) (numbers_split m w a b (at + w) ∙ ap (λ (k : ℕ). A.numbers_at m w a (at + w) ++ A.numbers_at m w b k) y)
    ∙ sym (append_assoc (bits_of (8 * w) (le m at w)) (A.numbers_at m w a (at + w)) (A.numbers_at m w b (at + w * suc a)))

pub numbers_one : (m : List ℕ) (w at : ℕ) → A.numbers_at m w 1 at ≡ bits_of (8 * w) (le m at w)
unfolding A.numbers_at
numbers_one m w at = append-nil (bits_of (8 * w) (le m at w))

-- ---- one after the other
pub numbers_start : (o : List ℕ) (p : ℕ) (m : List ℕ) (w at : ℕ) → Room o p → Puts o p (A.numbers_at m w 0 at) o p
unfolding A.numbers_at
numbers_start o p m w at g = puts_none o p g.most

pub numbers_turn : (o o₁ o₂ : List ℕ) (p q r : ℕ) (m : List ℕ) (w i at : ℕ) → Room o p → Puts o p (A.numbers_at m w i at) o₁ q
    → Puts o₁ q (bits_of (8 * w) (le m (at + w * i) w)) o₂ r → Puts o p (A.numbers_at m w (i + 1) at) o₂ r
numbers_turn o o₁ o₂ p q r m w i at g inv k =
    puts-same o o₂ p r (A.numbers_at m w i at ++ bits_of (8 * w) (le m (at + w * i) w)) (A.numbers_at m w (i + 1) at)
    (ap (λ (s : List ℕ). A.numbers_at m w i at ++ s) (sym (numbers_one m w (at + w * i))) ∙ sym (numbers_split m w i 1 at))
    (puts_then o o₁ o₂ p q r (A.numbers_at m w i at) (bits_of (8 * w) (le m (at + w * i) w)) g.short inv k)
