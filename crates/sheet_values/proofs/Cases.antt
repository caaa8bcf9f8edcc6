-- The ways out of the writers.
use mathlib.Core.Path.{◌≡◌, refl, sym, ap, ap₂, ◌∙◌, subst}
use mathlib.Core.Bool.{Bool, true, false}
use mathlib.Core.List.{List, ◌++◌, append_assoc}
use Prim.Native.Nat.{ℕ, ◌+◌, ◌-◌, ◌*◌, ◌/◌, ◌%◌, ◌^◌, ◌<◌, ◌≤◌}
use native.Mathlib.Omega.{arith}
use native.Mathlib.Nat.{mod-lt}
use lib.ListN.{length, take, drop, length-append, length-drop}
use lib.Seq.{length-take-le}
use lib.Pow.{pow_pos}
use lib.Dec.{leb}
use borrow.Author.Tests.{eq-eqb, ne_eqb, lt-ltb, le-ltb, le-leb, lt-leb, leb-true, leb-false}
use Rattle.coding.specs.Bytes.{le, is_nan}
use Rattle.coding.specs.Bits.{bits_of, bits}
use Rattle.coding.specs.Sheet as E
use Rattle.laws.specs.Bits.{bits_of-length, bits_of_split, bits_of_low, bits_of-mod, bits_of_join}
use Rattle.wire.specs.Numbers.{Number, le_join}
use Rattle.bitio.specs.Puts.{Room, Puts, saturated}
use Rattle.bitio.specs.PutsLaws.{count_in, count_over, puts_then, puts-same, run_over, run-not}
use Rattle.sheet_values.specs.Marks as A

-- ---- a mark and a number
-- as one number
pub marked-bits : (mark w x v : ℕ) → v ≡ mark * 2 ^ w + x % 2 ^ w → bits_of (2 + w) v ≡ bits_of 2 mark ++ bits_of w x
marked-bits mark w x v e =
    ap (bits_of (2 + w)) e ∙ bits_of_join 2 w mark (x % 2 ^ w) (mod-lt x (pow_pos w)) ∙ ap (λ (s : List ℕ). bits_of 2 mark ++ s) (bits_of-mod w x)

pub marked-one : (o o₁ : List ℕ) (p q mark w x v : ℕ) → v ≡ mark * 2 ^ w + x % 2 ^ w → Puts o p (bits_of (2 + w) v) o₁ q → Puts o p (A.marked mark w x) o₁ q
unfolding A.marked
marked-one o o₁ p q mark w x v e h = puts-same o o₁ p q (bits_of (2 + w) v) (bits_of 2 mark ++ bits_of w x) (marked-bits mark w x v e) h

-- as two: the mark with the high part, and the 32 low bits
pub marked-two : (o o₁ o₂ : List ℕ) (p q r mark w x v : ℕ) → Room o p → 62 < w → v ≡ mark * 2 ^ (w - 32) + x / 2 ^ 32 % 2 ^ (w - 32)
    → Puts o p (bits_of (2 + (w - 32)) v) o₁ q → Puts o₁ q (bits_of 32 x) o₂ r → Puts o p (A.marked mark w x) o₂ r
unfolding A.marked
marked-two o o₁ o₂ p q r mark w x v g l e a b =
    let z : w - 32 + 32 ≡ w = omega arith in
    let high : List ℕ = bits_of (w - 32) (x / 2 ^ 32) in
    puts-same o o₂ p r (bits_of (2 + (w - 32)) v ++ bits_of 32 x) (bits_of 2 mark ++ bits_of w x)
    (ap (λ (s : List ℕ). s ++ bits_of 32 x) (marked-bits mark (w - 32) (x / 2 ^ 32) v e)
    ∙ append_assoc (bits_of 2 mark) high (bits_of 32 x)
    ∙ ap (λ (s : List ℕ). bits_of 2 mark ++ s) (sym (bits_of_split (w - 32) 32 x) ∙ ap (λ (k : ℕ). bits_of k x) z))
    (puts_then o o₁ o₂ p q r (bits_of (2 + (w - 32)) v) (bits_of 32 x) g.short a b)

-- ---- no room: bits of a known length are counted
pub counted_puts : (o : List ℕ) (p n q : ℕ) (xs : List ℕ) → Room o p → length xs ≡ n → 8 * length o < p + n → q ≡ saturated (p + n) → Puts o p xs o q
counted_puts o p n q xs g e l eq = subst (λ (k : ℕ). Puts o p xs o k) (sym eq) (ends (leb (p + n) 134217720) refl)
  where
    ends : (b : Bool) → leb (p + n) 134217720 ≡ b → Puts o p xs o (saturated (p + n))
    ends true h = let f = leb-true (p + n) 134217720 h in subst (λ (k : ℕ). Puts o p xs o k) (count_in (p + n) f) (run-not o p n xs g e f l)
    ends false h = let f = leb-false (p + n) 134217720 h in subst (λ (k : ℕ). Puts o p xs o k) (count_over (p + n) f) (run_over o p n xs g e f)

pub marked-length : (mark w x : ℕ) → length (A.marked mark w x) ≡ 2 + w
unfolding A.marked
marked-length mark w x = length-append (bits_of 2 mark) (bits_of w x) ∙ ap₂ (λ (i j : ℕ). i + j) (bits_of-length 2 mark) (bits_of-length w x)

pub marked-counted : (o : List ℕ) (p q mark w x : ℕ) → Room o p → 8 * length o < p + (2 + w) → q ≡ saturated (p + (2 + w)) → Puts o p (A.marked mark w x) o q
marked-counted o p q mark w x g l eq = counted_puts o p (2 + w) q (A.marked mark w x) g (marked-length mark w x) l eq

-- ---- an enum
module _ (n x : ℕ) (o o₁ : List ℕ) (p q : ℕ) where
  pub enum_none : x ≡ 255 → Puts o p (bits_of 2 0) o₁ q → Puts o p (A.enum_at n x) o₁ q
  unfolding A.enum_at
  enum_none h a = simp (eq-eqb _ _ h) a

  module _ (h : x ≡ 255 → ⊥) (y : ℕ) (e : y ≡ x) where
    pub enum_known : x < n → Puts o p (A.marked 1 8 y) o₁ q → Puts o p (A.enum_at n x) o₁ q
    unfolding A.enum_at
    enum_known l a = simp (ne_eqb _ _ h, lt-ltb _ _ l) (subst (λ (z : ℕ). Puts o p (A.marked 1 8 z) o₁ q) e a)

    pub enum-unknown : n ≤ x → Puts o p (A.marked 2 8 y) o₁ q → Puts o p (A.enum_at n x) o₁ q
    unfolding A.enum_at
    enum-unknown l a = simp (ne_eqb _ _ h, le-ltb _ _ l) (subst (λ (z : ℕ). Puts o p (A.marked 2 8 z) o₁ q) e a)

pub number_puts : (m o o₁ : List ℕ) (p q w at x : ℕ) → Number m at w x → Puts o p (bits_of (8 * w) x) o₁ q → Puts o p (bits_of (8 * w) (le m at w)) o₁ q
number_puts m o o₁ p q w at x n h = puts-same o o₁ p q (bits_of (8 * w) x) (bits_of (8 * w) (le m at w)) (ap (bits_of (8 * w)) n.is) h

-- ---- floats
module _ (none : Bool) (w x : ℕ) (o o₁ : List ℕ) (p q : ℕ) where
  pub float_plain : none ≡ false → (v : ℕ) → v ≡ w → Puts o p (A.marked 1 (8 * v) x) o₁ q → Puts o p (A.float_at none w x) o₁ q
  unfolding A.float_at
  float_plain e v ev h = simp e (subst (λ (z : ℕ). Puts o p (A.marked 1 (8 * z) x) o₁ q) ev h)

  module _ (e : none ≡ true) (t : Bool) (et : t ≡ is_nan w x) where
    pub float_none : t ≡ true → Puts o p (bits_of 2 0) o₁ q → Puts o p (A.float_at none w x) o₁ q
    unfolding A.float_at
    float_none f h = simp (e, ← et, f) h

    pub float_value : t ≡ false → (v : ℕ) → v ≡ w → Puts o p (A.marked 1 (8 * v) x) o₁ q → Puts o p (A.float_at none w x) o₁ q
    unfolding A.float_at
    float_value f v ev h = simp (e, ← et, f) (subst (λ (z : ℕ). Puts o p (A.marked 1 (8 * z) x) o₁ q) ev h)

-- ---- a number that is not optional
-- the first w of eight bytes are the low bits of their number
first-bits : (m : List ℕ) (at w : ℕ) → w < 8 → bits_of (8 * w) (le m at 8) ≡ bits_of (8 * w) (le m at w)
first-bits m at w h =
    let z : 8 ≡ w + (8 - w) = omega arith in
    ap (λ (k : ℕ). bits_of (8 * w) (le m at k)) z ∙ ap (bits_of (8 * w)) (le_join m at w (8 - w)) ∙ bits_of_low (8 * w) (le m (at + w) (8 - w)) (le m at w)

pub plain-counted : (m : List ℕ) (w start n end : ℕ) (o : List ℕ) (p q : ℕ) → end + w ≤ n → Room o p → 8 * length o < p + (2 + 8 * w)
    → q ≡ saturated (p + (2 + 8 * w)) → Puts o p (A.plain_at m w start n end) o q
unfolding A.plain_at
plain-counted m w start n end o p q h g l eq = simp (le-leb _ _ h) (marked-counted o p q 1 (8 * w) (le m (start + end) w) g l eq)

module _ (m : List ℕ) (w start n end : ℕ) (o o₁ : List ℕ) (p q : ℕ) where
  pub plain_none : n < end + w → Puts o p (bits_of 2 0) o₁ q → Puts o p (A.plain_at m w start n end) o₁ q
  unfolding A.plain_at
  plain_none h l = simp (lt-leb _ _ h) l

  pub plain_there : end + w ≤ n → (x : ℕ) → Number m (start + end) w x → Puts o p (A.marked 1 (8 * w) x) o₁ q → Puts o p (A.plain_at m w start n end) o₁ q
  unfolding A.plain_at
  plain_there h x nx l = simp (le-leb _ _ h) (subst (λ (y : ℕ). Puts o p (A.marked 1 (8 * w) y) o₁ q) nx.is l)

  -- the number cut from the eight bytes at its place
  pub plain_word : end + w ≤ n → w < 8 → (x v : ℕ) → Number m (start + end) 8 x → v ≡ 1 * 2 ^ (8 * w) + x % 2 ^ (8 * w) → Puts o p (bits_of (2 + 8 * w) v) o₁ q
      → Puts o p (A.plain_at m w start n end) o₁ q
  unfolding A.plain_at A.marked
  plain_word h few x v nx e l =
      simp (le-leb _ _ h)
      (puts-same o o₁ p q (bits_of (2 + 8 * w) v) (bits_of 2 1 ++ bits_of (8 * w) (le m (start + end) w))
      (marked-bits 1 (8 * w) x v e ∙ ap (λ (s : List ℕ). bits_of 2 1 ++ s) (ap (bits_of (8 * w)) nx.is ∙ first-bits m (start + end) w few)) l)

-- ---- a text or bytes with its mark
pub blob-marked : (m o o₁ o₂ : List ℕ) (p q r at n y : ℕ) → Room o p → at + n ≤ length m → y ≡ n → Puts o p (A.marked 1 32 y) o₁ q
    → Puts o₁ q (bits (take (at + n - at) (drop at m))) o₂ r → Puts o p (A.blob_at m at n) o₂ r
unfolding A.blob_at A.marked E.blob_bits
blob-marked m o o₁ o₂ p q r at n y g fit ey a b =
    let s : List ℕ = take n (drop at m) in
    let z : at + n - at ≡ n = omega arith in
    let l : length s ≡ n = length-take-le n (drop at m) (omega (arith, length-drop at m)) in
    puts-same o o₂ p r (bits_of 2 1 ++ bits_of 32 y ++ bits (take (at + n - at) (drop at m))) (bits_of 2 1 ++ (bits_of 32 (length s) ++ bits s))
    (append_assoc (bits_of 2 1) (bits_of 32 y) (bits (take (at + n - at) (drop at m)))
    ∙ ap₂ (λ (i j : ℕ). bits_of 2 1 ++ (bits_of 32 i ++ bits (take j (drop at m)))) (ey ∙ sym l) z)
    (puts_then o o₁ o₂ p q r (bits_of 2 1 ++ bits_of 32 y) (bits (take (at + n - at) (drop at m))) g.short a b)
