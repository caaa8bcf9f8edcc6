-- Lists of bits by position: the bits of a list of bytes around one byte and from a byte on, bytes filled one by one, the
-- value of a run of bits that is cut in two, and a byte that lies across two.
use Rattle.std.specs.Prelude.{◌≡◌, refl, List, [], ◌∷◌, ◌++◌, ℕ, zero, suc, ◌+◌, ◌-◌, ◌*◌, ◌/◌, ◌%◌, ◌^◌, ◌≤◌, ◌<◌, length, get_or, take, drop, set}
use Rattle.std.proofs.Common.{sym, ap, ap₂, ◌∙◌, mul_assoc, add_comm, arith, length-drop, drop_at, take-add, drop-drop, length-take-le, pow-add}
use Rattle.std.proofs.Math.Seq.{split_at, drop-nil}
use Rattle.std.proofs.lemmas.List.{set_split}
use Rattle.coding.specs.Bits.{bits_of, bits, value, pack}
use Rattle.laws.specs.All.{all_drop}
use Rattle.laws.specs.Bits.{Bit, bits_of-length, bits_of_split, bits_of_low, bits_of-mod, bits_of_join, value-append, front-lt, bits-length, bits-bits, bits_cons, bits-append}

-- ---- around one byte
module _ (l : List ℕ) (i : ℕ) (h : i < length l) where
  pub bits_at : bits l ≡ bits (take i l) ++ (bits_of 8 (get_or l i 0) ++ bits (drop (suc i) l))
  bits_at =
      ap bits (split_at l i 0 h) ∙ bits-append (take i l) (get_or l i 0 ∷ drop (suc i) l)
      ∙ ap (λ (r : List ℕ). bits (take i l) ++ r) (bits_cons (get_or l i 0) (drop (suc i) l))

  pub bits-set : (b : ℕ) → bits (set l i b) ≡ bits (take i l) ++ (bits_of 8 b ++ bits (drop (suc i) l))
  bits-set b =
      ap bits (set_split l i b h) ∙ bits-append (take i l) (b ∷ drop (suc i) l)
      ∙ ap (λ (r : List ℕ). bits (take i l) ++ r) (bits_cons b (drop (suc i) l))

-- ---- from a byte on
pub bits-drop : (i : ℕ) (l : List ℕ) → bits (drop i l) ≡ drop (8 * i) (bits l)
unfolding bits
bits-drop zero l = refl
bits-drop (suc i) [] = sym (drop-nil (8 * suc i))
bits-drop (suc i) (b ∷ l) =
    let e : 8 * suc i ≡ 8 + 8 * i = omega arith in
    bits-drop i l
    ∙ ap (drop (8 * i)) (sym (drop_at (bits_of 8 b) (bits l) 8 (bits_of-length 8 b)))
    ∙ drop-drop (8 * i) 8 (bits_of 8 b ++ bits l)
    ∙ ap (λ (k : ℕ). drop k (bits_of 8 b ++ bits l)) (sym e)

-- one byte more at the end
pub pack_snoc : (n : ℕ) (xs : List ℕ) → pack (suc n) xs ≡ pack n xs ++ (value (take 8 (drop (8 * n) xs)) ∷ [])
unfolding pack
pack_snoc zero xs = refl
pack_snoc (suc n) xs =
    let e : 8 + 8 * n ≡ 8 * suc n = omega arith in
    ap (λ (s : List ℕ). value (take 8 xs) ∷ s)
    (pack_snoc n (drop 8 xs)
    ∙ ap (λ (s : List ℕ). pack n (drop 8 xs) ++ (value (take 8 s) ∷ [])) (drop-drop (8 * n) 8 xs ∙ ap (λ (k : ℕ). drop k xs) e))

-- ---- the value of a run of bits
module _ (b : List ℕ) (at n r : ℕ) (h : at + n + r ≤ length b) where
  pub value_more : value (take (n + r) (drop at b)) ≡ value (take n (drop at b)) * 2 ^ r + value (take r (drop (at + n) b))
  value_more =
      let len : length (take r (drop (at + n) b)) ≡ r = length-take-le r (drop (at + n) b) (simp length-drop (omega arith)) in
      ap value (take-add n r (drop at b) ∙ ap (λ (s : List ℕ). take n (drop at b) ++ take r s) (drop-drop n at b))
      ∙ value-append (take n (drop at b)) (take r (drop (at + n) b))
      ∙ ap (λ (k : ℕ). value (take n (drop at b)) * 2 ^ k + value (take r (drop (at + n) b))) len

-- a run of a slice's bits is below the power of its width
pub run-lt : (l : List ℕ) (pos w : ℕ) → pos + w ≤ 8 * length l → value (take w (drop pos (bits l))) < 2 ^ w
run-lt l pos w h = front-lt w (drop pos (bits l)) (all_drop Bit pos (bits l) (bits-bits l)) (omega (arith, length-drop pos (bits l), bits-length l))

-- ---- a byte that lies across two: a bits of p are in front of x, and 8 bits are taken from there
across_low : (a p x : ℕ) → a ≤ 8 → bits_of a (p * 2 ^ 8 + x) ≡ bits_of a x
across_low a p x h =
    let e : 8 ≡ 8 - a + a = omega arith in
    let f : p * 2 ^ 8 ≡ p * 2 ^ (8 - a) * 2 ^ a =
    ap (λ (k : ℕ). p * 2 ^ k) e ∙ ap (λ (k : ℕ). p * k) (pow-add 2 (8 - a) a) ∙ sym (mul_assoc p (2 ^ (8 - a)) (2 ^ a)) in
    ap (λ (k : ℕ). bits_of a (k + x)) f ∙ bits_of_low a (p * 2 ^ (8 - a)) x

pub across : (a p x : ℕ) → a ≤ 8 → x < 2 ^ 8
    → bits_of a p ++ bits_of 8 x ≡ bits_of 8 ((p * 2 ^ 8 + x) / 2 ^ a % 2 ^ 8) ++ bits_of a x
across a p x h hx =
    let w : ℕ = p * 2 ^ 8 + x in
    sym (bits_of_join a 8 p x hx)
    ∙ ap (λ (k : ℕ). bits_of k w) (add_comm a 8)
    ∙ bits_of_split 8 a w
    ∙ ap₂ (λ (s t : List ℕ). s ++ t) (sym (bits_of-mod 8 (w / 2 ^ a))) (across_low a p x h)
