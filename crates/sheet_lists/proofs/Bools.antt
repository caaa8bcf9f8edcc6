-- The bools of a list: eight bytes of them are a number.
use mathlib.Core.Path.{◌≡◌, refl, sym, ap, ap₂, ◌∙◌, subst}
use mathlib.Core.List.{List, [], ◌++◌, append_assoc, append-nil}
use Prim.Native.Nat.{ℕ, zero, suc, ◌+◌, ◌-◌, ◌*◌, ◌/◌, ◌%◌, ◌^◌, ◌<◌, ◌≤◌}
use native.Mathlib.Omega.{arith}
use native.Mathlib.Nat.{zero-add, add-zero}
use lib.ListN.{length, get_or, take, length-append}
use lib.Seq.{take_at}
use lib.Pow.{pow-add, shl_exact}
use lib.Bits.{bit_or, or_shifted}
use Rattle.coding.specs.Bytes.{bit_at}
use Rattle.coding.specs.Bits.{bits_of, bits}
use Rattle.laws.specs.Bits.{bits_of_join, bits_of_split, bits_of-length}
use Rattle.bits.specs.Reversed.{digit, reversed}
use Rattle.bitio.specs.Splice.{splice}
use Rattle.bitio.specs.Puts.{Room, Puts, saturated}
use Rattle.bitio.specs.PutsLaws.{bits_in, puts_none, puts-same, puts_then}
use Rattle.sheet_lists.specs.Elements as A
use Rattle.sheet_values.proofs.Cases.{counted_puts}

-- the first a bools, and those after them
bools_split : (m : List ℕ) (start a b i : ℕ) → A.bools_at m start (a + b) i ≡ A.bools_at m start a i ++ A.bools_at m start b (i + a)
unfolding A.bools_at
bools_split m start zero b i =
    let z : zero + b ≡ b = zero-add b in
    let y : i ≡ i + 0 = omega arith in
    ap₂ (λ (k j : ℕ). A.bools_at m start k j) z y
bools_split m start (suc a) b i =
    let z : suc a + b ≡ suc (a + b) = omega arith in
    let y : i + 1 + a ≡ i + suc a = omega arith in
    ap (λ (k : ℕ). A.bools_at m start k i) z
    ∙ ap (λ (l : List ℕ). bits_of 1 (A.bool_at m start i) ++ l) (bools_split m start a b (i + 1) ∙ ap (λ (k : ℕ). A.bools_at m start a (i + 1) ++ A.bools_at m start b k) y)
    ∙ sym (append_assoc (bits_of 1 (A.bool_at m start i)) (A.bools_at m start a (i + 1)) (A.bools_at m start b (i + suc a)))

bools-length : (m : List ℕ) (start n i : ℕ) → length (A.bools_at m start n i) ≡ n
unfolding A.bools_at
bools-length m start zero i = refl
bools-length m start (suc n) i =
    length-append (bits_of 1 (A.bool_at m start i)) (A.bools_at m start n (i + 1))
    ∙ ap₂ ◌+◌ (bits_of-length 1 (A.bool_at m start i)) (bools-length m start n (i + 1))
    ∙ (let z : 1 + n ≡ suc n = omega arith in z)

-- ---- the bits of a byte
-- n bits of a byte from bit k on
unfoldable bits_from : ℕ → ℕ → ℕ → List ℕ
bits_from x zero k = []
bits_from x (suc n) k = bits_of 1 (digit x k) ++ bits_from x n (k + 1)

bits_split : (x a b k : ℕ) → bits_from x (a + b) k ≡ bits_from x a k ++ bits_from x b (k + a)
unfolding bits_from
bits_split x zero b k =
    let z : zero + b ≡ b = zero-add b in
    let y : k ≡ k + 0 = omega arith in
    ap₂ (λ (i j : ℕ). bits_from x i j) z y
bits_split x (suc a) b k =
    let z : suc a + b ≡ suc (a + b) = omega arith in
    let y : k + 1 + a ≡ k + suc a = omega arith in
    ap (λ (i : ℕ). bits_from x i k) z
    ∙ ap (λ (l : List ℕ). bits_of 1 (digit x k) ++ l) (bits_split x a b (k + 1) ∙ ap (λ (i : ℕ). bits_from x a (k + 1) ++ bits_from x b i) y)
    ∙ sym (append_assoc (bits_of 1 (digit x k)) (bits_from x a (k + 1)) (bits_from x b (k + suc a)))

bits-twice : (x k n hi lo r : ℕ) → r ≡ hi * 2 ^ n + lo → lo < 2 ^ n → bits_of n hi ≡ bits_from x n k → bits_of n lo ≡ bits_from x n (k + n)
    → bits_of (n + n) r ≡ bits_from x (n + n) k
bits-twice x k n hi lo r e s h l = ap (bits_of (n + n)) e ∙ bits_of_join n n hi lo s ∙ ap₂ ◌++◌ h l ∙ sym (bits_split x n n k)

bit-one : (x k : ℕ) → bits_of 1 (digit x k) ≡ bits_from x 1 k
unfolding bits_from
bit-one x k = sym (append-nil (bits_of 1 (digit x k)))

digit_low : (x k : ℕ) → digit x k < 2
unfolding digit
digit_low x k = omega arith

bits-two : (x k : ℕ) → bits_of 2 (digit x k * 2 + digit x (k + 1)) ≡ bits_from x 2 k
bits-two x k =
    bits-twice x k 1 (digit x k) (digit x (k + 1)) (digit x k * 2 + digit x (k + 1)) refl (digit_low x (k + 1)) (bit-one x k) (bit-one x (k + 1))

bits_four : (x k : ℕ) → bits_of 4 (digit x k * 8 + digit x (k + 1) * 4 + digit x (k + 2) * 2 + digit x (k + 2 + 1)) ≡ bits_from x 4 k
bits_four x k =
    let l = digit_low x (k + 2) in
    let h = digit_low x (k + 2 + 1) in
    bits-twice x k 2 (digit x k * 2 + digit x (k + 1)) (digit x (k + 2) * 2 + digit x (k + 2 + 1))
    (digit x k * 8 + digit x (k + 1) * 4 + digit x (k + 2) * 2 + digit x (k + 2 + 1)) (omega arith) (omega arith) (bits-two x k) (bits-two x (k + 2))

bits_eight : (x : ℕ) → bits_of 8 (reversed x) ≡ bits_from x 8 0
unfolding reversed
bits_eight x =
    let h₄ = digit_low x 4 in
    let h₅ = digit_low x 5 in
    let h₆ = digit_low x 6 in
    let h₇ = digit_low x 7 in
    bits-twice x 0 4 (digit x 0 * 8 + digit x 1 * 4 + digit x 2 * 2 + digit x 3) (digit x 4 * 8 + digit x 5 * 4 + digit x 6 * 2 + digit x 7)
    (digit x 7 + digit x 6 * 2 + (digit x 5 * 4 + digit x 4 * 8) + (digit x 3 * 16 + digit x 2 * 32 + (digit x 1 * 64 + digit x 0 * 128)))
    (omega arith) (omega arith) (bits_four x 0) (bits_four x 4)

bits-bools : (m : List ℕ) (at n i : ℕ) → i + n ≤ 8 → A.bools_at m at n i ≡ bits_from (get_or m at 0) n i
unfolding A.bools_at A.bool_at bits_from digit bit_at
bits-bools m at zero i h = refl
bits-bools m at (suc n) i h =
    let e : at + i / 8 ≡ at = omega arith in
    let f : i % 8 ≡ i = omega arith in
    ap₂ (λ (s t : List ℕ). s ++ t) (ap₂ (λ (a k : ℕ). bits_of 1 (get_or m a 0 / 2 ^ k % 2)) e f) (bits-bools m at n (i + 1) (omega arith))

pub byte-bools : (m : List ℕ) (at x y r : ℕ) → x ≡ get_or m at 0 → y ≡ reversed x → r ≡ y → bits_of 8 r ≡ A.bools_at m at 8 0
byte-bools m at x y r ex ey er =
    ap (bits_of 8) (er ∙ ey) ∙ bits_eight x ∙ ap (λ (z : ℕ). bits_from z 8 0) ex ∙ sym (bits-bools m at 8 0 (omega arith))

-- ---- the bools of whole bytes
bools-from : (m : List ℕ) (start j n i : ℕ) → A.bools_at m start n (8 * j + i) ≡ A.bools_at m (start + j) n i
unfolding A.bools_at A.bool_at
bools-from m start j zero i = refl
bools-from m start j (suc n) i =
    let e : start + (8 * j + i) / 8 ≡ start + j + i / 8 = omega arith in
    let f : (8 * j + i) % 8 ≡ i % 8 = omega arith in
    let g : 8 * j + i + 1 ≡ 8 * j + (i + 1) = omega arith in
    ap₂ (λ (s t : List ℕ). s ++ t) (ap₂ (λ (a k : ℕ). bits_of 1 (bit_at m a k)) e f)
    (ap (λ (k : ℕ). A.bools_at m start n k) g ∙ bools-from m start j n (i + 1))

bools-behind : (m : List ℕ) (at n j b : ℕ) → n ≡ 8 * j → A.bools_at m at (n + b) 0 ≡ A.bools_at m at n 0 ++ A.bools_at m (at + j) b 0
bools-behind m at n j b e =
    let z : 0 + n ≡ 8 * j + 0 = omega arith in
    bools_split m at n b 0 ∙ ap (λ (s : List ℕ). A.bools_at m at n 0 ++ s) (ap (λ (k : ℕ). A.bools_at m at b k) z ∙ bools-from m at j b 0)

-- ---- a word: a byte more behind those of i bytes
module _ (i v y : ℕ) (few : i < 8) (small : v < 2 ^ (8 * i)) (byte : y < 2 ^ 8) where
  joined : bit_or ((v * 2 ^ 8) % 2 ^ 64) y ≡ v * 2 ^ 8 + y
  joined = ap (λ (k : ℕ). bit_or k y) (shl_exact (8 * i) 8 64 small (omega arith)) ∙ or_shifted v 8 y byte

  pub word_small : bit_or ((v * 2 ^ 8) % 2 ^ 64) y < 2 ^ (8 * (i + 1))
  word_small =
      let z : 8 * (i + 1) ≡ 8 * i + 8 = omega arith in
      subst (λ (k : ℕ). bit_or ((v * 2 ^ 8) % 2 ^ 64) y < 2 ^ k) (sym z) (rw joined (omega (arith, pow-add 2 (8 * i) 8)))

  pub word_turn : (m : List ℕ) (at : ℕ) → bits_of (8 * i) v ≡ A.bools_at m at (8 * i) 0 → bits_of 8 y ≡ A.bools_at m (at + i) 8 0
      → bits_of (8 * (i + 1)) (bit_or ((v * 2 ^ 8) % 2 ^ 64) y) ≡ A.bools_at m at (8 * (i + 1)) 0
  word_turn m at inv ey =
      let z : 8 * (i + 1) ≡ 8 * i + 8 = omega arith in
      ap₂ (λ (j k : ℕ). bits_of j k) z joined ∙ bits_of_join (8 * i) 8 v y byte
      ∙ ap₂ ◌++◌ inv ey ∙ sym (bools-behind m at (8 * i) i 8 refl) ∙ ap (λ (k : ℕ). A.bools_at m at k 0) (sym z)

pub word_start : (m : List ℕ) (at : ℕ) → bits_of 0 0 ≡ A.bools_at m at 0 0
unfolding bits_of A.bools_at
word_start m at = refl

-- ---- whole words that are put where there is room
pub words_start : (o : List ℕ) (p : ℕ) (m : List ℕ) (at : ℕ) → Room o p → Puts o p (A.bools_at m at 0 0) o (p + 0)
unfolding A.bools_at
words_start o p m at g = subst (λ (q : ℕ). Puts o p [] o q) (sym (add-zero p)) (puts_none o p g.most)

pub words_turn : (o o₁ o₂ : List ℕ) (p : ℕ) (m : List ℕ) (at n i x : ℕ) → Room o p → p + 64 * n ≤ 8 * length o → i < n
    → Puts o p (A.bools_at m at (64 * i) 0) o₁ (p + 64 * i) → bits_of 64 x ≡ A.bools_at m (at + 8 * i) 64 0
    → length o₂ ≡ length o₁ → bits o₂ ≡ splice (bits o₁) (p + 64 * i) (bits_of 64 x) → Puts o p (A.bools_at m at (64 * (i + 1)) 0) o₂ (p + 64 * (i + 1))
words_turn o o₁ o₂ p m at n i x g fit h inv ex l k =
    let short = g.short in
    let same = inv.len in
    let z : 64 * (i + 1) ≡ 64 * i + 64 = omega arith in
    let y : p + 64 * (i + 1) ≡ p + 64 * i + 64 = omega arith in
    let room : Room o₁ (p + 64 * i) = record { short = omega arith; most = inv.most } in
    subst (λ (q : ℕ). Puts o p (A.bools_at m at (64 * (i + 1)) 0) o₂ q) (sym y)
    (puts-same o o₂ p (p + 64 * i + 64) (A.bools_at m at (64 * i) 0 ++ bits_of 64 x) (A.bools_at m at (64 * (i + 1)) 0)
    (ap (λ (s : List ℕ). A.bools_at m at (64 * i) 0 ++ s) ex ∙ sym (bools-behind m at (64 * i) (8 * i) 64 (let e : 64 * i ≡ 8 * (8 * i) = omega arith in e)) ∙ ap (λ (j : ℕ). A.bools_at m at j 0) (sym z))
    (puts_then o o₁ o₂ p (p + 64 * i) (p + 64 * i + 64) (A.bools_at m at (64 * i) 0) (bits_of 64 x) short inv (bits_in o₁ (p + 64 * i) 64 x room (omega arith) o₂ l k)))

-- ---- the list
pub bools_counted : (o : List ℕ) (p : ℕ) (m : List ℕ) (start n q : ℕ) → Room o p → 8 * length o < p + n → q ≡ saturated (p + n) → Puts o p (A.bools_at m start n 0) o q
bools_counted o p m start n q g l e = counted_puts o p n q (A.bools_at m start n 0) g (bools-length m start n 0) l e

-- the first of the bools of a word
front : (m : List ℕ) (at r k x y : ℕ) → r + k ≡ 64 → bits_of 64 x ≡ A.bools_at m at 64 0 → y ≡ x / 2 ^ k → bits_of r y ≡ A.bools_at m at r 0
front m at r k x y e inv ey =
    let z : bits_of r (x / 2 ^ k) ++ bits_of k x ≡ A.bools_at m at r 0 ++ A.bools_at m at k (0 + r) =
    sym (bits_of_split r k x) ∙ ap (λ (j : ℕ). bits_of j x) e ∙ inv ∙ ap (λ (j : ℕ). A.bools_at m at j 0) (sym e) ∙ bools_split m at r k 0 in
    ap (bits_of r) ey
    ∙ sym (take_at (bits_of r (x / 2 ^ k)) (bits_of k x) r (bits_of-length r (x / 2 ^ k)))
    ∙ ap (take r) z
    ∙ take_at (A.bools_at m at r 0) (A.bools_at m at k (0 + r)) r (bools-length m at r 0)

module _ (o o₁ : List ℕ) (p q : ℕ) (m : List ℕ) (start n k r : ℕ) (ek : k ≡ n / 64) (er : r ≡ n % 64) (a : Puts o p (A.bools_at m start (64 * k) 0) o₁ q) where
  -- by the word alone
  pub bools_whole : r ≡ 0 → Puts o p (A.bools_at m start n 0) o₁ q
  bools_whole h = let z : 64 * k ≡ n = omega arith in subst (λ (j : ℕ). Puts o p (A.bools_at m start j 0) o₁ q) z a

  -- and what is left over
  pub bools_rest : (o₂ : List ℕ) (q₁ x y : ℕ) → Room o p → bits_of 64 x ≡ A.bools_at m (start + 8 * k) 64 0 → y ≡ x / 2 ^ (64 - r)
      → Puts o₁ q (bits_of r y) o₂ q₁ → Puts o p (A.bools_at m start n 0) o₂ q₁
  bools_rest o₂ q₁ x y g ex ey b =
      let e : 64 * k ≡ 8 * (8 * k) = omega arith in
      let f : r + (64 - r) ≡ 64 = omega arith in
      let z : n ≡ 64 * k + r = omega arith in
      puts-same o o₂ p q₁ (A.bools_at m start (64 * k) 0 ++ bits_of r y) (A.bools_at m start n 0)
      (ap (λ (s : List ℕ). A.bools_at m start (64 * k) 0 ++ s) (front m (start + 8 * k) r (64 - r) x y f ex ey)
      ∙ sym (bools-behind m start (64 * k) (8 * k) r e) ∙ ap (λ (j : ℕ). A.bools_at m start j 0) (sym z))
      (puts_then o o₁ o₂ p q q₁ (A.bools_at m start (64 * k) 0) (bits_of r y) g.short a b)
