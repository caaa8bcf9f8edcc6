-- Short texts by words: ASCII has no high bits, and it is text.
use Prim.Native.Nat.{ℕ, zero, suc, min, ◌+◌, ◌-◌, ◌*◌, ◌/◌, ◌%◌, ◌^◌, ◌≤◌, ◌<◌}
use native.Mathlib.Omega.{arith}
use native.Mathlib.Nat.{mod-eq_of_lt, mod-lt}
use mathlib.Core.Path.{◌≡◌, refl, ap, ap₂, sym, subst, ◌∙◌}
use mathlib.Core.Bool.{Bool, true, false}
use mathlib.Core.List.{List}
use lib.Dec.{ltb, eqb}
use lib.Bits.{bit_and, bit_or, and_zero_r, or_lt, or_comm, or_shr, or_mod, and_block, and_high}
use lib.ListN.{length, get_or, take, drop}
use lib.Pow.{split, shr-shr, high}
use lib.Seq.{drop-cons}
use borrow.Author.Tests.{eqb-true, ltb-true, ltb-false}
use Rattle.coding.specs.Bytes.{le}
use Rattle.coding.specs.Utf8.{TextState, Boundary, may_end, text_from, is_text}
use Rattle.wire.specs.Numbers.{Number, le_small, le_join}
use Rattle.utf8.specs.Steps.{Ascii}
use Rattle.utf8.proofs.OctetLaws.{ascii_stays}
use Rattle.utf8.proofs.StepLaws.{or_left}

-- ---- high bits
-- the high bits of k bytes
unfoldable high_bits : ℕ → ℕ
high_bits zero = 0
high_bits (suc k) = high_bits k * 256 + 128

high_bit : (x : ℕ) → bit_and x 128 ≡ x / 128 % 2 * 128
high_bit x = and_high x 1 7

no_high_bit : (x : ℕ) → x < 256 → bit_and x 128 ≡ 0 → x < 128
no_high_bit x l e =
    let a : x / 128 < 2 = omega arith in
    let b : x / 128 % 2 ≡ x / 128 = mod-eq_of_lt a in
    let d : x / 128 ≡ 0 = omega (arith, high_bit x) in
    omega arith

low_byte : (x : ℕ) → x < 128 → bit_and x 128 ≡ 0
low_byte x l =
    let a : x / 128 ≡ 0 = omega arith in
    high_bit x ∙ ap (λ (k : ℕ). k % 2 * 128) a

-- a number by its lowest byte
and_bytes : (k x : ℕ) → bit_and x (high_bits k * 256 + 128) ≡ bit_and (x / 256) (high_bits k) * 256 + bit_and (x % 256) 128
and_bytes k x =
    ap (λ (y : ℕ). bit_and y (high_bits k * 256 + 128)) (sym (split x 8))
    ∙ and_block 8 (x / 256) (high_bits k) (x % 256) 128 (mod-lt x (omega arith)) (omega arith)

-- what two numbers make together has no high bit only if neither has one
or_none : (k x y : ℕ) → bit_and (bit_or x y) (high_bits k) ≡ 0 → bit_and x (high_bits k) ≡ 0
unfolding high_bits
or_none zero x y e = and_zero_r x
or_none (suc k) x y e =
    let p : ℕ = bit_or (x / 256) (y / 256) in
    let q : ℕ = bit_or (x % 256) (y % 256) in
    let both : bit_and p (high_bits k) * 256 + bit_and q 128 ≡ 0 =
    ap₂ (λ (i j : ℕ). bit_and i (high_bits k) * 256 + bit_and j 128) (sym (or_shr x y 8)) (sym (or_mod x y 8)) ∙ sym (and_bytes k (bit_or x y)) ∙ e in
    let l : q < 128 = no_high_bit q (or_lt 8 (x % 256) (y % 256) (mod-lt x (omega arith)) (mod-lt y (omega arith))) (omega arith) in
    let a : bit_and (x / 256) (high_bits k) ≡ 0 = or_none k (x / 256) (y / 256) (omega arith) in
    let b : bit_and (x % 256) 128 ≡ 0 = low_byte (x % 256) (omega (arith, or_left (x % 256) (y % 256))) in
    and_bytes k x ∙ ap₂ (λ (i j : ℕ). i * 256 + j) a b

or_none-behind : (k x y : ℕ) → bit_and (bit_or x y) (high_bits k) ≡ 0 → bit_and y (high_bits k) ≡ 0
or_none-behind k x y e = or_none k y x (ap (λ (z : ℕ). bit_and z (high_bits k)) (or_comm y x) ∙ e)

-- the same of two words from which lower bits were shifted out
module _ (v w half : ℕ) (e : bit_and (bit_or v w / 2 ^ half / 2 ^ half) (high_bits 8) ≡ 0) where
  abbrev shifted : ℕ → ℕ
  shifted x = x / 2 ^ half / 2 ^ half

  both_shifted : bit_and (bit_or (shifted v) (shifted w)) (high_bits 8) ≡ 0
  both_shifted =
      let s : shifted (bit_or v w) ≡ bit_or (shifted v) (shifted w) =
      ap (λ (k : ℕ). k / 2 ^ half) (or_shr v w half) ∙ or_shr (v / 2 ^ half) (w / 2 ^ half) half in
      ap (λ (k : ℕ). bit_and k (high_bits 8)) (sym s) ∙ e

  first_none : bit_and (shifted v) (high_bits 8) ≡ 0
  first_none = or_none 8 (shifted v) (shifted w) both_shifted

  last_none : bit_and (shifted w) (high_bits 8) ≡ 0
  last_none = or_none-behind 8 (shifted v) (shifted w) both_shifted

-- ---- words of a message
module _ (m : List ℕ) (bytes : (i : ℕ) → get_or m i 0 < 256) where
  low_bytes : (k n at : ℕ) → n ≤ k → bit_and (le m at n) (high_bits k) ≡ 0 → (t : ℕ) → t < n → get_or m (at + t) 0 < 128
  unfolding le high_bits
  low_bytes k zero at h e t l = absurd (omega arith)
  low_bytes zero (suc n) at h e t l = absurd (omega arith)
  low_bytes (suc k) (suc n) at h e t l =
      let x : ℕ = get_or m at 0 in
      let y : ℕ = le m (at + 1) n in
      let z : x + 256 * y ≡ y * 256 + x = omega arith in
      let both : bit_and (y * 256 + x) (high_bits k * 256 + 128) ≡ bit_and y (high_bits k) * 256 + bit_and x 128 =
      and_block 8 y (high_bits k) x 128 (bytes at) (omega arith) in
      let s : bit_and y (high_bits k) * 256 + bit_and x 128 ≡ 0 =
      sym both ∙ ap (λ (q : ℕ). bit_and q (high_bits k * 256 + 128)) (sym z) ∙ e in
      by (no_high_bit x (bytes at) (omega arith)) (low_bytes k n (at + 1) (omega arith) (omega arith)) t l
    where
      by : get_or m at 0 < 128 → ((t : ℕ) → t < n → get_or m (at + 1 + t) 0 < 128) → (t : ℕ) → t < suc n → get_or m (at + t) 0 < 128
      by a b zero l = let e : at + 0 ≡ at = omega arith in rw e a
      by a b (suc t) l = let e : at + suc t ≡ at + 1 + t = omega arith in rw e (b t (omega arith))

  -- n bytes are the upper ones of the eight that end with them
  upper : (start n x half : ℕ) → n ≤ 8 → 8 ≤ start + n → half ≡ 32 - 4 * n → Number m (start + n - 8) 8 x → x / 2 ^ half / 2 ^ half ≡ le m start n
  upper start n x half h g f p =
      let at : ℕ = start + n - 8 in
      let below : ℕ = 8 - n in
      let w : 8 ≡ below + n = omega arith in
      let b : half + half ≡ 8 * below = omega arith in
      let a : at + below ≡ start = omega arith in
      let j : x ≡ le m (at + below) n * 2 ^ (8 * below) + le m at below = p.is ∙ ap (le m at) w ∙ le_join m at below n in
      shr-shr x half half
      ∙ ap (λ (k : ℕ). x / 2 ^ k) b
      ∙ ap (λ (k : ℕ). k / 2 ^ (8 * below)) j
      ∙ high (le m (at + below) n) (8 * below) (le_small m bytes at below)
      ∙ ap (λ (k : ℕ). le m k n) a

  upper_ascii : (start n x half : ℕ) → n ≤ 8 → 8 ≤ start + n → half ≡ 32 - 4 * n → Number m (start + n - 8) 8 x
      → bit_and (x / 2 ^ half / 2 ^ half) (high_bits 8) ≡ 0 → Ascii m start n
  upper_ascii start n x half h g f p e =
      record { each = low_bytes 8 n start h (ap (λ (k : ℕ). bit_and k (high_bits 8)) (sym (upper start n x half h g f p)) ∙ e) }

  word_ascii : (at x : ℕ) → Number m at 8 x → bit_and x (high_bits 8) ≡ 0 → Ascii m at 8
  word_ascii at x p e = record { each = low_bytes 8 8 at (omega arith) (ap (λ (k : ℕ). bit_and k (high_bits 8)) (sym p.is) ∙ e) }

  -- eight bytes, from which nothing was shifted out
  eight_ascii : (at x half : ℕ) → half ≡ 0 → Number m at 8 x → bit_and (x / 2 ^ half / 2 ^ half) (high_bits 8) ≡ 0 → Ascii m at 8
  eight_ascii at x half z p e =
      let i : at ≡ at + 8 - 8 = omega arith in
      upper_ascii at 8 x half (omega arith) (omega arith) z (subst (λ (k : ℕ). Number m k 8 x) i p) e

-- ---- a text of eight bytes or more by some of its eights
module _ (m : List ℕ) where
  in_eight : (at i : ℕ) → Ascii m at 8 → at ≤ i → i < at + 8 → get_or m i 0 < 128
  in_eight at i a l u =
      let e : at + (i - at) ≡ i = omega arith in
      subst (λ (k : ℕ). get_or m k 0 < 128) e (a.each (i - at) (omega arith))

  -- the first eight and the last eight
  module _ (start n : ℕ) (g : 8 ≤ n) (a : Ascii m start 8) (b : Ascii m (start + n - 8) 8) where
    of_two : n ≤ 16 → (t : ℕ) → t < n → (u : Bool) → ltb t 8 ≡ u → get_or m (start + t) 0 < 128
    of_two h t l true eu = let z : t < 8 = ltb-true t 8 eu in in_eight start (start + t) a (omega arith) (omega arith)
    of_two h t l false eu =
        let z : 8 ≤ t = ltb-false t 8 eu in
        in_eight (start + n - 8) (start + t) b (omega arith) (omega arith)

    two_cover : n ≤ 16 → Ascii m start n
    two_cover h = record { each = λ t l. of_two h t l (ltb t 8) refl }

  -- the first sixteen and the last sixteen
  module _ (start n : ℕ) (g : 16 ≤ n) (h : n ≤ 32)
      (a : Ascii m start 8) (b : Ascii m (start + 8) 8) (c : Ascii m (start + n - 16) 8) (d : Ascii m (start + n - 8) 8) where
    of_four : (t : ℕ) → t < n → (u v w : Bool) → ltb t 8 ≡ u → ltb t 16 ≡ v → ltb t (n - 8) ≡ w → get_or m (start + t) 0 < 128
    of_four t l true v w eu ev ew = let z : t < 8 = ltb-true t 8 eu in in_eight start (start + t) a (omega arith) (omega arith)
    of_four t l false true w eu ev ew =
        let y : 8 ≤ t = ltb-false t 8 eu in
        let z : t < 16 = ltb-true t 16 ev in
        in_eight (start + 8) (start + t) b (omega arith) (omega arith)
    of_four t l false false true eu ev ew =
        let y : 16 ≤ t = ltb-false t 16 ev in
        let z : t < n - 8 = ltb-true t (n - 8) ew in
        in_eight (start + n - 16) (start + t) c (omega arith) (omega arith)
    of_four t l false false false eu ev ew =
        let z : n - 8 ≤ t = ltb-false t (n - 8) ew in
        in_eight (start + n - 8) (start + t) d (omega arith) (omega arith)

    four_cover : Ascii m start n
    four_cover = record { each = λ t l. of_four t l (ltb t 8) (ltb t 16) (ltb t (n - 8)) refl refl refl }

-- ---- two words together
module _ (m : List ℕ) (bytes : (i : ℕ) → get_or m i 0 < 256) (start n last half at v w : ℕ) (few : n ≤ 16) (room : 8 ≤ start + n)
    (f : last ≡ start + n - 8) (eh : half ≡ 32 - 4 * min n 8) (ea : at ≡ min start last) (nv : Number m at 8 v) (nw : Number m last 8 w) where
  module _ (e : bit_and (bit_or v w / 2 ^ half / 2 ^ half) (high_bits 8) ≡ 0) where
    ends : Number m (start + n - 8) 8 w
    ends = subst (λ (k : ℕ). Number m k 8 w) f nw

    fewer : n < 8 → Ascii m start n
    fewer l =
        let z : half ≡ 32 - 4 * n = omega arith in
        upper_ascii m bytes start n w half (omega arith) room z ends (last_none v w half e)

    eight-or_more : 8 ≤ n → Ascii m start n
    eight-or_more l =
        let z : half ≡ 32 - 4 * 8 = omega arith in
        let s : at ≡ start = omega arith in
        two_cover m start n l
        (eight_ascii m bytes start v half z (subst (λ (k : ℕ). Number m k 8 v) s nv) (first_none v w half e))
        (eight_ascii m bytes (start + n - 8) w half z ends (last_none v w half e))
        few

    by_length : (t : Bool) → ltb n 8 ≡ t → Ascii m start n
    by_length true l = fewer (ltb-true n 8 l)
    by_length false l = eight-or_more (ltb-false n 8 l)

  pub two_ascii : eqb (bit_and (bit_or v w / 2 ^ half / 2 ^ half) 0x8080_8080_8080_8080) 0 ≡ true → Ascii m start n
  unfolding high_bits
  two_ascii e = by_length (eqb-true _ _ e) (ltb n 8) refl

-- ---- four words together
module _ (m : List ℕ) (bytes : (i : ℕ) → get_or m i 0 < 256) (start n end v₀ v₁ w₀ w₁ : ℕ) (many : 16 ≤ n) (few : n ≤ 32) (f : end ≡ start + n)
    (n₀ : Number m start 8 v₀) (n₁ : Number m (start + 8) 8 v₁) (n₂ : Number m (end - 16) 8 w₀) (n₃ : Number m (end - 8) 8 w₁) where
  module _ (e : bit_and (bit_or (bit_or v₀ v₁) (bit_or w₀ w₁)) (high_bits 8) ≡ 0) where
    v_none : bit_and (bit_or v₀ v₁) (high_bits 8) ≡ 0
    v_none = or_none 8 (bit_or v₀ v₁) (bit_or w₀ w₁) e

    w_none : bit_and (bit_or w₀ w₁) (high_bits 8) ≡ 0
    w_none = or_none-behind 8 (bit_or v₀ v₁) (bit_or w₀ w₁) e

    by_four : Ascii m start n
    by_four =
        four_cover m start n many few
        (word_ascii m bytes start v₀ n₀ (or_none 8 v₀ v₁ v_none))
        (word_ascii m bytes (start + 8) v₁ n₁ (or_none-behind 8 v₀ v₁ v_none))
        (word_ascii m bytes (start + n - 16) w₀ (subst (λ (k : ℕ). Number m (k - 16) 8 w₀) f n₂) (or_none 8 w₀ w₁ w_none))
        (word_ascii m bytes (start + n - 8) w₁ (subst (λ (k : ℕ). Number m (k - 8) 8 w₁) f n₃) (or_none-behind 8 w₀ w₁ w_none))

  pub four_ascii : eqb (bit_and (bit_or (bit_or v₀ v₁) (bit_or w₀ w₁)) 0x8080_8080_8080_8080) 0 ≡ true → Ascii m start n
  unfolding high_bits
  four_ascii e = by_four (eqb-true _ _ e)

-- ---- ASCII is text
pub ascii-text : (m : List ℕ) (n start : ℕ) → start + n ≤ length m → Ascii m start n → true ≡ is_text (take n (drop start m))
unfolding is_text text_from may_end
ascii-text m n start h a = sym (by n start h a.each)
  where
    by : (n start : ℕ) → start + n ≤ length m → ((t : ℕ) → t < n → get_or m (start + t) 0 < 128) → text_from Boundary (take n (drop start m)) ≡ true
    by zero start h f = refl
    by (suc n) start h f =
        let i : start + 0 ≡ start = omega arith in
        let x : get_or m start 0 < 128 = subst (λ (j : ℕ). get_or m j 0 < 128) i (f 0 (omega arith)) in
        ap (λ (xs : List ℕ). text_from Boundary (take (suc n) xs)) (drop-cons m start 0 (omega arith))
        ∙ ap (λ (q : TextState). text_from q (take n (drop (suc start) m))) (ascii_stays (get_or m start 0) x)
        ∙ by n (suc start) (omega arith) (λ t l. let e : start + suc t ≡ suc start + t = omega arith in subst (λ (j : ℕ). get_or m j 0 < 128) e (f (suc t) (omega arith)))
