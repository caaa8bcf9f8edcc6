-- Enums of a list: up to five are gathered into a number, and it is written at once.
use Rattle.std.proofs.Common.{min, cond, add-one}
use Rattle.std.specs.Int.{from_bool}
use Rattle.std.specs.List.{count_by}
use Rattle.std.proofs.lemmas.List.{get_or_past}
use Rattle.std.proofs.lemmas.List.Sums.{sum_by-cons}
use mathlib.Core.Path.{◌≡◌, refl, sym, ap, ap₂, ◌∙◌, subst}
use mathlib.Core.Bool.{Bool, true, false, not}
use mathlib.Core.List.{List, ◌++◌, append_assoc, append-nil}
use Prim.Native.Nat.{ℕ, zero, suc, ◌+◌, ◌-◌, ◌*◌, ◌%◌, ◌^◌, ◌<◌, ◌≤◌}
use native.Mathlib.Omega.{arith}
use native.Mathlib.Nat.{zero-add, mod-lt}
use lib.ListN.{length, get_or, take, drop, length-append, drop_of_length-le}
use lib.Seq.{drop-cons, take-nil}
use lib.Dec.{eqb, ltb, leb}
use lib.Pow.{pow_pos, shl_lt, shl_exact, pow_mono}
use lib.Bits.{bit_or, or_lt}
use borrow.Author.Tests.{leb-true, leb-false, eq-eqb, ne_eqb, lt-ltb, le-ltb}
use Rattle.coding.specs.Lists.{pick}
use Rattle.coding.specs.Bits.{bits_of}
use Rattle.laws.specs.Bits.{bits_of_join, bits_of-length}
use Rattle.bits.proofs.Masks.{or_more}
use Rattle.bitio.specs.Puts.{Room, Puts}
use Rattle.bitio.specs.PutsLaws.{part, puts_none, puts_then, puts-same}
use Rattle.sheet_values.specs.Marks as K
use Rattle.sheet_lists.specs.Elements as A
use Rattle.sheet_values.proofs.Cases.{marked-bits, marked-length}

-- ---- one enum
enum-width : (x : ℕ) → 2 + 8 * from_bool (not (eqb x 255)) ≡ A.enum_width x
unfolding A.enum_width
enum-width x = by (eqb x 255)
  where
    by : (b : Bool) → 2 + 8 * from_bool (not b) ≡ pick b 2 10
    by true = refl
    by false = refl

pub enum_value_is : (x r : ℕ) → r ≡ from_bool (not (eqb x 255)) → 2 + 8 * r ≡ A.enum_width x
enum_value_is x r e = ap (λ (k : ℕ). 2 + 8 * k) e ∙ enum-width x

width-value : (x : ℕ) → (x ≡ 255 → ⊥) → 10 ≡ A.enum_width x
unfolding A.enum_width
width-value x h = simp (ne_eqb _ _ h)

pub number_none : (k x : ℕ) → x ≡ 255 → bits_of (A.enum_width x) 0 ≡ K.enum_at k x
unfolding A.enum_width K.enum_at
number_none k x h = simp (eq-eqb _ _ h)

pub number_some : (x : ℕ) → 0 < 2 ^ A.enum_width x
number_some x = pow_pos (A.enum_width x)

module _ (k x y r : ℕ) (h : x ≡ 255 → ⊥) (e : y ≡ x) where
  module _ (l : x < k) (er : r ≡ 1 * 2 ^ 8 + y % 2 ^ 8) where
    pub number-known : bits_of (A.enum_width x) r ≡ K.enum_at k x
    unfolding A.enum_width K.enum_at K.marked
    number-known = simp (ne_eqb _ _ h, lt-ltb _ _ l) (marked-bits 1 8 y r er ∙ ap (λ (i : ℕ). bits_of 2 1 ++ bits_of 8 i) e)

    pub known_small : r < 2 ^ A.enum_width x
    known_small = subst (λ (i : ℕ). r < 2 ^ i) (width-value x h) (let z : y % 2 ^ 8 < 2 ^ 8 = mod-lt y (pow_pos 8) in omega arith)

  module _ (l : k ≤ x) (er : r ≡ 2 * 2 ^ 8 + y % 2 ^ 8) where
    pub number-unknown : bits_of (A.enum_width x) r ≡ K.enum_at k x
    unfolding A.enum_width K.enum_at K.marked
    number-unknown = simp (ne_eqb _ _ h, le-ltb _ _ l) (marked-bits 2 8 y r er ∙ ap (λ (i : ℕ). bits_of 2 2 ++ bits_of 8 i) e)

    pub unknown_small : r < 2 ^ A.enum_width x
    unknown_small = subst (λ (i : ℕ). r < 2 ^ i) (width-value x h) (let z : y % 2 ^ 8 < 2 ^ 8 = mod-lt y (pow_pos 8) in omega arith)

-- ---- gathering
-- the first a enums, and those after them
enums_split : (m : List ℕ) (k a b at : ℕ) → A.enums_at m k (a + b) at ≡ A.enums_at m k a at ++ A.enums_at m k b (at + a)
unfolding A.enums_at
enums_split m k zero b at =
    let z : zero + b ≡ b = zero-add b in
    let y : at ≡ at + 0 = omega arith in
    ap₂ (λ (i j : ℕ). A.enums_at m k i j) z y
enums_split m k (suc a) b at =
    let z : suc a + b ≡ suc (a + b) = omega arith in
    let y : at + 1 + a ≡ at + suc a = omega arith in
    ap (λ (i : ℕ). A.enums_at m k i at) z
    ∙ ap (λ (l : List ℕ). K.enum_at k (get_or m at 0) ++ l) (enums_split m k a b (at + 1) ∙ ap (λ (i : ℕ). A.enums_at m k a (at + 1) ++ A.enums_at m k b i) y)
    ∙ sym (append_assoc (K.enum_at k (get_or m at 0)) (A.enums_at m k a (at + 1)) (A.enums_at m k b (at + suc a)))

pub enums_start : (m : List ℕ) (k at : ℕ) → bits_of 0 0 ≡ A.enums_at m k 0 at
unfolding bits_of A.enums_at
enums_start m k at = refl

module _ (j v w b y x : ℕ) (few : w + b ≤ 50) (small : v < 2 ^ w) (eb : b ≡ A.enum_width x) (sy : y < 2 ^ A.enum_width x) where
  low : y < 2 ^ b
  low = subst (λ (i : ℕ). y < 2 ^ i) (sym eb) sy

  pub enums_small : bit_or ((v * 2 ^ b) % 2 ^ 64) y < 2 ^ (w + b)
  enums_small =
      or_lt (w + b) _ _ (subst (λ (i : ℕ). i < 2 ^ (w + b)) (sym (shl_exact w b 64 small (omega arith))) (shl_lt w b small))
      (lt_more b (w + b) y low (omega arith))
    where
      lt_more : (i l z : ℕ) → z < 2 ^ i → i ≤ l → z < 2 ^ l
      lt_more i l z h g = let p = pow_mono g in omega arith

  pub enums_join : (m : List ℕ) (k at : ℕ) → bits_of w v ≡ A.enums_at m k j at → x ≡ get_or m (at + j) 0 → bits_of (A.enum_width x) y ≡ K.enum_at k x
      → bits_of (w + b) (bit_or ((v * 2 ^ b) % 2 ^ 64) y) ≡ A.enums_at m k (j + 1) at
  unfolding A.enums_at
  enums_join m k at inv ex ey =
      ap (bits_of (w + b)) (or_more v w b y small (omega arith) low) ∙ bits_of_join w b v y low
      ∙ ap₂ ◌++◌ inv (ap (λ (i : ℕ). bits_of i y) eb ∙ ey ∙ ap (K.enum_at k) ex ∙ sym (append-nil (K.enum_at k (get_or m (at + j) 0))))
      ∙ sym (enums_split m k j 1 at)

-- ---- how many bits they take
enum-size : (k x : ℕ) → length (K.enum_at k x) ≡ A.enum_width x
unfolding K.enum_at A.enum_width
enum-size k x = by (eqb x 255) (ltb x k)
  where
    by : (none known : Bool) → length (pick none (bits_of 2 0) (pick known (K.marked 1 8 x) (K.marked 2 8 x))) ≡ pick none 2 10
    by true known = bits_of-length 2 0
    by false true = marked-length 1 8 x
    by false false = marked-length 2 8 x

enums_one : (m : List ℕ) (k at : ℕ) → A.enums_at m k 1 at ≡ K.enum_at k (get_or m at 0)
unfolding A.enums_at
enums_one m k at = append-nil (K.enum_at k (get_or m at 0))

-- the ones that are no value
abbrev absent : List ℕ → ℕ
absent xs = count_by (λ (x : ℕ). eqb x 255) xs

one_width : (x : ℕ) → A.enum_width x + 8 * cond (eqb x 255) 1 0 ≡ 10
unfolding A.enum_width
one_width x = by (eqb x 255)
  where
    by : (b : Bool) → pick b 2 10 + 8 * cond b 1 0 ≡ 10
    by true = refl
    by false = refl

enums-absent : (m : List ℕ) (k n at : ℕ) → length (A.enums_at m k n at) + 8 * absent (take n (drop at m)) ≡ 10 * n
unfolding A.enums_at
enums-absent m k zero at = refl
enums-absent m k (suc n) at = by (leb (length m) at) refl (enums-absent m k n (at + 1))
  where
    x : ℕ
    x = get_or m at 0

    by : (t : Bool) → leb (length m) at ≡ t → length (A.enums_at m k n (at + 1)) + 8 * absent (take n (drop (at + 1) m)) ≡ 10 * n
        → length (K.enum_at k x ++ A.enums_at m k n (at + 1)) + 8 * absent (take (suc n) (drop at m)) ≡ 10 * suc n
    by true e ih =
        let h = leb-true (length m) at e in
        let size = length-append (K.enum_at k x) (A.enums_at m k n (at + 1)) in
        let none : absent (take (suc n) (drop at m)) ≡ 0 = ap (λ (l : List ℕ). absent (take (suc n) l)) (drop_of_length-le m h) in
        let after : absent (take n (drop (at + 1) m)) ≡ 0 =
        ap (λ (l : List ℕ). absent (take n l)) (drop_of_length-le m {i = at + 1} (omega arith)) ∙ ap absent (take-nil n) in
        let wide : A.enum_width x ≡ 10 = ap A.enum_width (get_or_past m at 0 h) ∙ sym (width-value 0 (λ f. absurd (omega arith))) in
        omega (arith, ih, size, none, after, wide, enum-size k x)
    by false e ih =
        let h = leb-false (length m) at e in
        let size = length-append (K.enum_at k x) (A.enums_at m k n (at + 1)) in
        let first = ap (λ (l : List ℕ). absent (take (suc n) l)) (drop-cons m at 0 h)
        ∙ sum_by-cons (λ (y : ℕ). cond (eqb y 255) 1 0) x (take n (drop (suc at) m)) in
        let same = ap (λ (j : ℕ). absent (take n (drop j m))) (add-one at) in
        omega (arith, ih, size, first, same, one_width x, enum-size k x)

-- what of n bytes from `at` stands in m
pub enums-size : (m : List ℕ) (k n at e s r : ℕ) → e ≡ min (length m) (at + n) → s ≡ min at e → r ≡ absent (take (e - s) (drop s m))
    → length (A.enums_at m k n at) ≡ 10 * n - 8 * r
enums-size m k n at e s r ee es er =
    let z : take (e - s) (drop s m) ≡ take n (drop at m) = part m at n s (e - s) (omega arith) (omega arith) (λ h. omega arith) (omega arith) (omega arith) (λ h. omega arith) in
    omega (arith, enums-absent m k n at, er ∙ ap absent z)

-- ---- the list
pub enums_begin : (o : List ℕ) (p : ℕ) (m : List ℕ) (k at : ℕ) → Room o p → Puts o p (A.enums_at m k 0 at) o p
unfolding A.enums_at
enums_begin o p m k at g = puts_none o p g.most

pub enums_turn : (o o₁ o₂ : List ℕ) (p q r : ℕ) (m : List ℕ) (k i j n at w v : ℕ) → Room o p → i + j ≡ n
    → Puts o p (A.enums_at m k i at) o₁ q → bits_of w v ≡ A.enums_at m k j (at + i) → Puts o₁ q (bits_of w v) o₂ r → Puts o p (A.enums_at m k n at) o₂ r
enums_turn o o₁ o₂ p q r m k i j n at w v g e inv ev puts =
    puts-same o o₂ p r (A.enums_at m k i at ++ bits_of w v) (A.enums_at m k n at)
    (ap (λ (s : List ℕ). A.enums_at m k i at ++ s) ev ∙ sym (enums_split m k i j at) ∙ ap (λ (a : ℕ). A.enums_at m k a at) e)
    (puts_then o o₁ o₂ p q r (A.enums_at m k i at) (bits_of w v) g.short inv puts)
