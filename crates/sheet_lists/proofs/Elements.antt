-- Elements of a list that have a mark each: floats and enums.
use mathlib.Core.Path.{◌≡◌, refl, sym, ap, ap₂, ◌∙◌}
use mathlib.Core.Bool.{Bool, true, false, not}
use mathlib.Core.List.{List, ◌++◌, append_assoc, append-nil}
use mathlib.Core.Logic.{◌⊎◌, ⊎_elim}
use Prim.Native.Nat.{ℕ, zero, suc, ◌+◌, ◌-◌, ◌*◌, ◌%◌, ◌^◌, ◌≤◌, ◌<◌}
use native.Mathlib.Omega.{arith}
use native.Mathlib.Nat.{zero-add, mul-suc}
use Rattle.std.specs.Int.{from_bool}
use lib.ListN.{length, length-append}
use Rattle.coding.specs.Bytes.{le, is_nan}
use Rattle.coding.specs.Bits.{bits_of, bits}
use Rattle.laws.specs.Bits.{bits_of-length}
use Rattle.wire.specs.Numbers.{Number}
use Rattle.bitio.specs.Splice.{splice}
use Rattle.bitio.specs.Puts.{Room, Puts}
use Rattle.bitio.specs.PutsLaws.{count_in, puts_none, puts_then, puts-same, bits_in}
use Rattle.sheet_values.specs.Marks as K
use Rattle.sheet_lists.specs.Elements as A
use Rattle.sheet_values.proofs.Cases.{marked-one, marked-length}

-- ---- a test as a number
pub flag_most : (b : Bool) (r : ℕ) → r ≡ from_bool b → r ≤ 1
flag_most true r e = omega arith
flag_most false r e = omega arith

-- ---- floats
-- the first a floats, and those after them
floats_split : (m : List ℕ) (w a b at : ℕ) → A.floats_at m w (a + b) at ≡ A.floats_at m w a at ++ A.floats_at m w b (at + w * a)
unfolding A.floats_at
floats_split m w zero b at =
    let z : zero + b ≡ b = zero-add b in
    let y : at ≡ at + w * 0 = omega arith in
    ap₂ (λ (k i : ℕ). A.floats_at m w k i) z y
floats_split m w (suc a) b at =
    let z : suc a + b ≡ suc (a + b) = omega arith in
    let y : at + w + w * a ≡ at + w * suc a = omega (arith, mul-suc w a) in
    ap (λ (k : ℕ). A.floats_at m w k at) z
    ∙ ap (λ (l : List ℕ). K.float_at true w (le m at w) ++ l) (floats_split m w a b (at + w) ∙ ap (λ (k : ℕ). A.floats_at m w a (at + w) ++ A.floats_at m w b k) y)
    ∙ sym (append_assoc (K.float_at true w (le m at w)) (A.floats_at m w a (at + w)) (A.floats_at m w b (at + w * suc a)))

floats_one : (m : List ℕ) (w at : ℕ) → A.floats_at m w 1 at ≡ K.float_at true w (le m at w)
unfolding A.floats_at
floats_one m w at = append-nil (K.float_at true w (le m at w))

-- one float more, that was read as the number of v bytes
floats_more : (m : List ℕ) (w i at v x : ℕ) → v ≡ w → Number m (at + v * i) v x → A.floats_at m w (i + 1) at ≡ A.floats_at m w i at ++ K.float_at true w x
floats_more m w i at v x ev nx =
    let y : x ≡ le m (at + w * i) w = nx.is ∙ ap (λ (k : ℕ). le m (at + k * i) k) ev in
    floats_split m w i 1 at ∙ ap (λ (s : List ℕ). A.floats_at m w i at ++ s) (floats_one m w (at + w * i) ∙ ap (K.float_at true w) (sym y))

-- ---- how many bits they take
pub floats-counted : (m : List ℕ) (w at : ℕ) → length (A.floats_at m w 0 at) ≡ 2 * 0 + 8 * w * 0
unfolding A.floats_at
floats-counted m w at = omega arith

module _ (w x : ℕ) (t : Bool) (et : t ≡ is_nan w x) where
  float-size : length (K.float_at true w x) ≡ 2 + 8 * w * from_bool (not t)
  unfolding K.float_at
  float-size = by t refl
    where
      by : (b : Bool) → t ≡ b → length (K.float_at true w x) ≡ 2 + 8 * w * from_bool (not b)
      by true h = simp (← et, h) (bits_of-length 2 0 ∙ omega arith)
      by false h = simp (← et, h) (marked-length 1 (8 * w) x ∙ omega arith)

  -- v values among the i floats before
  pub floats-count : (m : List ℕ) (i at k v r : ℕ) → length (A.floats_at m w i at) ≡ 2 * i + 8 * w * v → k ≡ w → Number m (at + k * i) k x → r ≡ from_bool (not t)
      → length (A.floats_at m w (i + 1) at) ≡ 2 * (i + 1) + 8 * w * (v + r)
  floats-count m i at k v r inv ek nx er =
      let z = ap length (floats_more m w i at k x ek nx) ∙ length-append (A.floats_at m w i at) (K.float_at true w x) in
      let e = float-size ∙ ap (λ (j : ℕ). 2 + 8 * w * j) (sym er) in
      omega (arith, inv, z, e)

-- ---- floats for which there is room
-- where bits end that fit
puts-end : (o o₁ : List ℕ) (p q : ℕ) (xs : List ℕ) → Room o p → p + length xs ≤ 8 * length o → Puts o p xs o₁ q → q ≡ p + length xs
puts-end o o₁ p q xs g fit h = let a = g.short in h.end ∙ sym (count_in (p + length xs) (omega arith))

-- the widths
module _ (w : ℕ) (is : (w ≡ 4) ⊎ (w ≡ 8)) where
  pub float_most : w ≤ 8
  float_most = ⊎_elim (λ e. omega arith) (λ e. omega arith) is

  pub float-wide : (w ≡ 4 → ⊥) → w ≡ 8
  float-wide n = ⊎_elim (λ e. absurd (n e)) (λ e. e) is

-- a float that is a value
module _ (w x : ℕ) (t : Bool) (et : t ≡ is_nan w x) (f : t ≡ false) where
  float-marked : K.float_at true w x ≡ K.marked 1 (8 * w) x
  unfolding K.float_at
  float-marked = simp (← et, f)

  -- mark and value as one number
  pub float_four : w ≡ 4 → (o o₁ : List ℕ) (p q v : ℕ) → v ≡ 1 * 2 ^ 32 + x % 2 ^ 32 → Puts o p (bits_of 34 v) o₁ q → Puts o p (K.float_at true w x) o₁ q
  float_four e o o₁ p q v ev h =
      puts-same o o₁ p q (K.marked 1 32 x) (K.float_at true w x) (ap (λ (k : ℕ). K.marked 1 (8 * k) x) (sym e) ∙ sym float-marked) (marked-one o o₁ p q 1 32 x v ev h)

  -- the mark, then the value
  module _ (is : (w ≡ 4) ⊎ (w ≡ 8)) (not : w ≡ 4 → ⊥) (o o₁ : List ℕ) (p q : ℕ) (g : Room o p) (fit : p + length (K.float_at true w x) ≤ 8 * length o) (a : Puts o p (bits_of 2 1) o₁ q) where
    float_eight_is : K.float_at true w x ≡ bits_of 2 1 ++ bits_of 64 x
    unfolding K.marked
    float_eight_is = float-marked ∙ ap (λ (k : ℕ). K.marked 1 (8 * k) x) (float-wide w is not)

    pub float_eight_fits : q + 64 ≤ 8 * length o₁
    float_eight_fits =
        let z = ap length float_eight_is ∙ length-append (bits_of 2 1) (bits_of 64 x) in
        let b = bits_of-length 2 1 in
        let d = bits_of-length 64 x in
        let e = puts-end o o₁ p q (bits_of 2 1) g (omega arith) a in
        let l = a.len in
        omega arith

    pub float_eight : (o₂ : List ℕ) → length o₂ ≡ length o₁ → bits o₂ ≡ splice (bits o₁) q (bits_of 64 x) → Puts o p (K.float_at true w x) o₂ (q + 64)
    float_eight o₂ l k =
        let s = g.short in
        let y = a.len in
        let z = float_eight_fits in
        let r : Room o₁ q = record { short = omega arith; most = a.most } in
        puts-same o o₂ p (q + 64) (bits_of 2 1 ++ bits_of 64 x) (K.float_at true w x) (sym float_eight_is)
        (puts_then o o₁ o₂ p q (q + 64) (bits_of 2 1) (bits_of 64 x) s a (bits_in o₁ q 64 x r (omega arith) o₂ l k))

-- ---- the list, where there is room for it
pub floats_start : (o : List ℕ) (p : ℕ) (m : List ℕ) (w at : ℕ) → Room o p → Puts o p (A.floats_at m w 0 at) o p
unfolding A.floats_at
floats_start o p m w at g = puts_none o p g.most

module _ (o o₁ : List ℕ) (p q : ℕ) (m : List ℕ) (w i n at v x : ℕ) (g : Room o p) (fit : p + length (A.floats_at m w n at) ≤ 8 * length o) (h : i < n)
    (inv : Puts o p (A.floats_at m w i at) o₁ q) (ev : v ≡ w) (nx : Number m (at + v * i) v x) where
  -- the next float fits
  pub floats_next : q + length (K.float_at true w x) ≤ 8 * length o₁
  floats_next =
      let z : i + 1 + (n - (i + 1)) ≡ n = omega arith in
      let a = ap length (floats_more m w i at v x ev nx) ∙ length-append (A.floats_at m w i at) (K.float_at true w x) in
      let b = ap (λ (k : ℕ). length (A.floats_at m w k at)) (sym z) ∙ ap length (floats_split m w (i + 1) (n - (i + 1)) at)
      ∙ length-append (A.floats_at m w (i + 1) at) (A.floats_at m w (n - (i + 1)) (at + w * (i + 1))) in
      let e = puts-end o o₁ p q (A.floats_at m w i at) g (omega arith) inv in
      let l = inv.len in
      omega arith

  pub floats_turn : (o₂ : List ℕ) (r : ℕ) → Puts o₁ q (K.float_at true w x) o₂ r → Puts o p (A.floats_at m w (i + 1) at) o₂ r
  floats_turn o₂ r k =
      puts-same o o₂ p r (A.floats_at m w i at ++ K.float_at true w x) (A.floats_at m w (i + 1) at) (sym (floats_more m w i at v x ev nx))
      (puts_then o o₁ o₂ p q r (A.floats_at m w i at) (K.float_at true w x) g.short inv k)

-- with the width as a constant
pub floats_put : (m : List ℕ) (w n at k : ℕ) → w ≡ k → (o o₁ : List ℕ) (p q : ℕ) → Puts o p (A.floats_at m k n at) o₁ q → Puts o p (A.floats_at m w n at) o₁ q
floats_put m w n at k e o o₁ p q h = puts-same o o₁ p q (A.floats_at m k n at) (A.floats_at m w n at) (ap (λ (i : ℕ). A.floats_at m i n at) (sym e)) h
