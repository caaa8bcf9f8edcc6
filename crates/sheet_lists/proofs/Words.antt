-- Numbers of 2, 4 and 8 bytes by the word: 8 / w of them are eight bytes.
use mathlib.Core.Path.{◌≡◌, refl, sym, ap, ap₂, ◌∙◌, subst}
use mathlib.Core.List.{List, ◌++◌}
use mathlib.Core.Logic.{◌⊎◌, ⊎_elim}
use Prim.Native.Nat.{ℕ, ◌+◌, ◌*◌, ◌/◌, ◌%◌, ◌^◌, ◌<◌, ◌≤◌}
use native.Mathlib.Omega.{arith}
use native.Mathlib.Nat.{add-zero, zero-mul, div-add-mod, mul_comm, mul_left_comm, suc-mul}
use lib.ListN.{length, get_or}
use lib.Bits.{bit_or, or_shifted}
use Rattle.coding.specs.Bytes.{le}
use Rattle.coding.specs.Bits.{bits_of, bits}
use Rattle.laws.specs.Bits.{bits_of_join}
use Rattle.wire.specs.Numbers.{Number, le_small, le_join}
use Rattle.bitio.specs.Splice.{splice}
use Rattle.bitio.specs.Puts.{Room, Puts}
use Rattle.bitio.specs.PutsLaws.{puts_then, puts-same, bits_in}
use Rattle.sheet_lists.specs.Elements as A
use Rattle.sheet_lists.proofs.Numbers.{numbers_start, numbers_split, numbers_one}

-- ---- a word
numbers-one : (m : List ℕ) (w at x : ℕ) → Number m at w x → bits_of (8 * w) x ≡ A.numbers_at m w 1 at
numbers-one m w at x nx = ap (bits_of (8 * w)) nx.is ∙ sym (numbers_one m w at)

numbers_pair : (m : List ℕ) (w i j at a b h l r : ℕ) → l < 2 ^ b → r ≡ h * 2 ^ b + l → bits_of a h ≡ A.numbers_at m w i at → bits_of b l ≡ A.numbers_at m w j (at + w * i)
    → bits_of (a + b) r ≡ A.numbers_at m w (i + j) at
numbers_pair m w i j at a b h l r low er eh el = ap (bits_of (a + b)) er ∙ bits_of_join a b h l low ∙ ap₂ ◌++◌ eh el ∙ sym (numbers_split m w i j at)

turned_halves : (h l x : ℕ) → h < 2 ^ 32 → l < 2 ^ 32 → x ≡ h * 2 ^ 32 + l → bit_or ((x * 2 ^ 32) % 2 ^ 64) (x / 2 ^ 32) ≡ l * 2 ^ 32 + h
turned_halves h l x a b e =
    let p : (x * 2 ^ 32) % 2 ^ 64 ≡ l * 2 ^ 32 = omega arith in
    let q : x / 2 ^ 32 ≡ h = omega arith in
    ap₂ bit_or p q ∙ or_shifted l 32 h a

module _ (m : List ℕ) (w at : ℕ) where
  word-as : (k : ℕ) → w ≡ k → A.numbers_at m k (8 / k) at ≡ A.numbers_at m w (8 / w) at
  word-as k e = sym (ap (λ (i : ℕ). A.numbers_at m i (8 / i) at) e)

  pub word-one : (x : ℕ) → w ≡ 8 → Number m at 8 x → bits_of 64 x ≡ A.numbers_at m w (8 / w) at
  word-one x e nx = numbers-one m 8 at x nx ∙ word-as 8 e

  pub word_two : ((i : ℕ) → get_or m i 0 < 256) → (x r : ℕ) → w ≡ 4 → Number m at 8 x → r ≡ bit_or ((x * 2 ^ 32) % 2 ^ 64) (x / 2 ^ 32)
      → bits_of 64 r ≡ A.numbers_at m w (8 / w) at
  word_two bytes x r e nx er =
      let lower : le m at 4 < 2 ^ 32 = le_small m bytes at 4 in
      let upper : le m (at + 4) 4 < 2 ^ 32 = le_small m bytes (at + 4) 4 in
      let y : x ≡ le m (at + 4) 4 * 2 ^ 32 + le m at 4 = nx.is ∙ le_join m at 4 4 in
      numbers_pair m 4 1 1 at 32 32 (le m at 4) (le m (at + 4) 4) r upper (er ∙ turned_halves (le m (at + 4) 4) (le m at 4) x upper lower y)
      (numbers-one m 4 at _ (record { is = refl; small = lower }))
      (numbers-one m 4 (at + 4) _ (record { is = refl; small = upper }))
      ∙ word-as 4 e

  two : (i x y r : ℕ) → Number m i 2 x → Number m (i + 2) 2 y → r ≡ x * 2 ^ 16 + y → bits_of 32 r ≡ A.numbers_at m 2 2 i
  two i x y r nx ny er = numbers_pair m 2 1 1 i 16 16 x y r ny.small er (numbers-one m 2 i x nx) (numbers-one m 2 (i + 2) y ny)

  pub word_four : (x y u v h l r : ℕ) → (w ≡ 8 → ⊥) → (w ≡ 4 → ⊥) → (w ≡ 8) ⊎ ((w ≡ 4) ⊎ (w ≡ 2)) → Number m at 2 x → Number m (at + 2) 2 y → Number m (at + 4) 2 u → Number m (at + 6) 2 v
      → h ≡ x * 2 ^ 16 + y → l ≡ u * 2 ^ 16 + v → l < 2 ^ (16 + 16) → r ≡ h * 2 ^ 32 + l → bits_of 64 r ≡ A.numbers_at m w (8 / w) at
  word_four x y u v h l r e8 e4 is nx ny nu nv eh el small er =
      let e : w ≡ 2 = ⊎_elim (λ f. absurd (e8 f)) (⊎_elim (λ f. absurd (e4 f)) (λ f. f)) is in
      let z : at + 6 ≡ at + 4 + 2 = omega arith in
      numbers_pair m 2 2 2 at 32 32 h l r small er (two at x y h nx ny eh) (two (at + 4) u v l nu (subst (λ (k : ℕ). Number m k 2 v) z nv) el) ∙ word-as 2 e

-- ---- the widths
module _ (w : ℕ) (is : (w ≡ 8) ⊎ ((w ≡ 4) ⊎ (w ≡ 2))) where
  by_width : (P : ℕ → Type 0) → P 8 → P 4 → P 2 → P w
  by_width P a b d = ⊎_elim (λ e. subst P (sym e) a) (⊎_elim (λ e. subst P (sym e) b) (λ e. subst P (sym e) d)) is

  eight : w * (8 / w) ≡ 8
  eight = by_width (λ (i : ℕ). i * (8 / i) ≡ 8) refl refl refl

  -- k words have eight bytes each
  words_bytes : (k : ℕ) → w * (k * (8 / w)) ≡ 8 * k
  words_bytes k = mul_left_comm w k (8 / w) ∙ ap (λ (i : ℕ). k * i) eight ∙ mul_comm k 8

  -- ---- words that are put where there is room
  pub words_turn : (o o₁ o₂ : List ℕ) (p : ℕ) (m : List ℕ) (n i at x : ℕ) → Room o p → p + 64 * n ≤ 8 * length o → i < n
      → Puts o p (A.numbers_at m w (i * (8 / w)) at) o₁ (p + 64 * i) → bits_of 64 x ≡ A.numbers_at m w (8 / w) (at + 8 * i)
      → length o₂ ≡ length o₁ → bits o₂ ≡ splice (bits o₁) (p + 64 * i) (bits_of 64 x)
      → Puts o p (A.numbers_at m w ((i + 1) * (8 / w)) at) o₂ (p + 64 * (i + 1))
  words_turn o o₁ o₂ p m n i at x g fit h inv ex l k =
      let short = g.short in
      let same = inv.len in
      let room : Room o₁ (p + 64 * i) = record { short = omega arith; most = inv.most } in
      let y : p + 64 * (i + 1) ≡ p + 64 * i + 64 = omega arith in
      let z : (i + 1) * (8 / w) ≡ i * (8 / w) + 8 / w = omega (arith, suc-mul i (8 / w)) in
      let first : List ℕ = A.numbers_at m w (i * (8 / w)) at in
      subst (λ (q : ℕ). Puts o p (A.numbers_at m w ((i + 1) * (8 / w)) at) o₂ q) (sym y)
      (puts-same o o₂ p (p + 64 * i + 64) (first ++ bits_of 64 x) (A.numbers_at m w ((i + 1) * (8 / w)) at)
      (ap (λ (s : List ℕ). first ++ s) (ex ∙ ap (λ (j : ℕ). A.numbers_at m w (8 / w) (at + j)) (sym (words_bytes i)))
      ∙ sym (numbers_split m w (i * (8 / w)) (8 / w) at)
      ∙ ap (λ (j : ℕ). A.numbers_at m w j at) (sym z))
      (puts_then o o₁ o₂ p (p + 64 * i) (p + 64 * i + 64) first (bits_of 64 x) short inv (bits_in o₁ (p + 64 * i) 64 x room (omega arith) o₂ l k)))

  -- ---- the words of n numbers, and the numbers left over
  module _ (n k : ℕ) (ek : k ≡ n / (8 / w)) where
    whole : (8 / w) * k + n % (8 / w) ≡ n
    whole = ap (λ (i : ℕ). (8 / w) * i + n % (8 / w)) ek ∙ div-add-mod n (8 / w)

    pub words_join : (o o₁ o₂ : List ℕ) (p p₁ p₂ : ℕ) (m : List ℕ) (at : ℕ) → Room o p
        → Puts o p (A.numbers_at m w (k * (8 / w)) at) o₁ p₁ → Puts o₁ p₁ (A.numbers_at m w (n % (8 / w)) (at + 8 * k)) o₂ p₂ → Puts o p (A.numbers_at m w n at) o₂ p₂
    words_join o o₁ o₂ p p₁ p₂ m at g a b =
        let first : List ℕ = A.numbers_at m w (k * (8 / w)) at in
        let z : k * (8 / w) + n % (8 / w) ≡ n = omega (arith, whole) in
        puts-same o o₂ p p₂ (first ++ A.numbers_at m w (n % (8 / w)) (at + 8 * k)) (A.numbers_at m w n at)
        (ap (λ (j : ℕ). first ++ A.numbers_at m w (n % (8 / w)) (at + j)) (sym (words_bytes k))
        ∙ sym (numbers_split m w (k * (8 / w)) (n % (8 / w)) at)
        ∙ ap (λ (j : ℕ). A.numbers_at m w j at) z)
        (puts_then o o₁ o₂ p p₁ p₂ first (A.numbers_at m w (n % (8 / w)) (at + 8 * k)) g.short a b)

pub words_start : (o : List ℕ) (p : ℕ) (m : List ℕ) (w at : ℕ) → Room o p → Puts o p (A.numbers_at m w (0 * (8 / w)) at) o (p + 0)
words_start o p m w at g =
    subst (λ (n : ℕ). Puts o p (A.numbers_at m w n at) o (p + 0)) (sym (zero-mul (8 / w)))
    (subst (λ (q : ℕ). Puts o p (A.numbers_at m w 0 at) o q) (sym (add-zero p)) (numbers_start o p m w at g))
