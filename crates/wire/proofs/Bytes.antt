-- Numbers by their bytes, which are copied out of a slice or into it.
use Rattle.std.specs.Prelude.{◌≡◌, refl, List, [], ◌∷◌, ◌++◌, ℕ, zero, suc, ◌+◌, ◌-◌, ◌*◌, ◌/◌, ◌%◌, ◌^◌, ◌≤◌, ◌<◌, length, get_or, take, drop, set, replicate}
use Rattle.std.proofs.Common.{sym, ap, ap₂, ◌∙◌, Fits, w8, append_assoc, add-zero, zero-add, add_assoc, arith, length-drop, length-take-le, drop-drop, get_or-drop}
use Rattle.std.specs.Int.{w64, to_le_bytes, from_le_bytes}
use Rattle.std.proofs.lemmas.List.{get_or-take, get_or_append_left, get_or-append-add}
use Rattle.std.proofs.lemmas.List.Edits.{sets, sets-eq}
use borrow.Rule.Slice.PartMut.{put_mid}
use Rattle.coding.specs.Bytes.{le, le_bytes}
use Rattle.wire.specs.Numbers.{Number, le_join, le_small}
use Rattle.wire.specs.Stores.{four-stored}

-- ---- got
-- the number of eight bytes
le_eight : (l : List ℕ) → from_le_bytes w64 l ≡ le l 0 8
unfolding le
le_eight l = omega arith

-- equal bytes make equal numbers, and zero bytes 0
le_same : (l m : List ℕ) (i at w : ℕ) → ((k : ℕ) → k < w → get_or l (i + k) 0 ≡ get_or m (at + k) 0) → le l i w ≡ le m at w
unfolding le
le_same l m i at zero h = refl
le_same l m i at (suc w) h =
    let e : le l (i + 1) w ≡ le m (at + 1) w =
    le_same l m (i + 1) (at + 1) w (λ k p. ap (λ (n : ℕ). get_or l n 0) (add_assoc i 1 k) ∙ h (1 + k) (omega arith) ∙ ap (λ (n : ℕ). get_or m n 0) (sym (add_assoc at 1 k))) in
    let b = h 0 (omega arith) in
    ap₂ (λ (x y : ℕ). x + 256 * y) (ap (λ (n : ℕ). get_or l n 0) (sym (add-zero i)) ∙ b ∙ ap (λ (n : ℕ). get_or m n 0) (add-zero at)) e

le_none : (l : List ℕ) (i w : ℕ) → ((k : ℕ) → get_or l (i + k) 0 ≡ 0) → le l i w ≡ 0
unfolding le
le_none l i zero h = refl
le_none l i (suc w) h =
    let b : get_or l i 0 ≡ 0 = ap (λ (n : ℕ). get_or l n 0) (sym (add-zero i)) ∙ h 0 in
    let e : le l (i + 1) w ≡ 0 = le_none l (i + 1) w (λ k. ap (λ (n : ℕ). get_or l n 0) (add_assoc i 1 k) ∙ h (1 + k)) in
    omega arith

abbrev zeros : ℕ → List ℕ
zeros n = replicate n 0

get_or-zeros : (n k : ℕ) → get_or (zeros n) k 0 ≡ 0
get_or-zeros zero k = refl
get_or-zeros (suc n) zero = refl
get_or-zeros (suc n) (suc k) = get_or-zeros n k

zero-first : (k n : ℕ) → 0 * k + n ≡ n
zero-first k n = omega arith

-- w bytes with zero bytes above them
module _ (m ys : List ℕ) (at w n x : ℕ) (few : w ≤ 8) (fit : at + w ≤ length m) (bytes : (k : ℕ) → Fits w8 (get_or m k 0)) (en : n ≡ w) (e : ys ≡ take n (drop at m)) where
  abbrev above : List ℕ
  above = drop w (zeros 8)

  ys-length : length ys ≡ w
  ys-length = ap length e ∙ length-take-le n (drop at m) (omega (arith, length-drop at m)) ∙ en

  low : le (ys ++ above) 0 w ≡ le m at w
  low = le_same (ys ++ above) m 0 at w (λ k p.
      let q : k < length ys = omega (arith, ys-length) in
      let r : k < n = omega arith in
      ap (λ (i : ℕ). get_or (ys ++ above) i 0) (zero-add k) ∙ get_or_append_left ys above 0 k q ∙ ap (λ (l : List ℕ). get_or l k 0) e
      ∙ get_or-take n (drop at m) k 0 r ∙ get_or-drop at m k 0)

  high : le (ys ++ above) w (8 - w) ≡ 0
  high = le_none (ys ++ above) w (8 - w) (λ k.
      ap (λ (i : ℕ). get_or (ys ++ above) (i + k) 0) (sym ys-length) ∙ get_or-append-add ys above k 0 ∙ get_or-drop w (zeros 8) k 0 ∙ get_or-zeros 8 (w + k))

  pub number_made : x ≡ from_le_bytes w64 (ys ++ above) → Number m at w x
  number_made ex =
      let l : List ℕ = ys ++ above in
      let all : 8 ≡ w + (8 - w) = omega arith in
      let joined : le l 0 8 ≡ le l (0 + w) (8 - w) * 2 ^ (8 * w) + le l 0 w = ap (le l 0) all ∙ le_join l 0 w (8 - w) in
      let none : le l (0 + w) (8 - w) ≡ 0 = ap (λ (i : ℕ). le l i (8 - w)) (zero-add w) ∙ high in
      let is : x ≡ le m at w = ex ∙ le_eight l ∙ joined ∙ ap₂ (λ (h o : ℕ). h * 2 ^ (8 * w) + o) none low ∙ zero-first (2 ^ (8 * w)) (le m at w) in
      record { is = is; small = rw is (le_small m (λ k. (bytes k).fits) at w) }

-- ---- put
four_sets : (o : List ℕ) (at a b c d : ℕ) → sets o at (a ∷ b ∷ c ∷ d ∷ []) ≡ set (set (set (set o at a) (at + 1) b) (at + 2) c) (at + 3) d
four_sets o at a b c d =
    let e1 : at + 1 ≡ suc at = omega arith in
    let e2 : at + 2 ≡ suc (suc at) = omega arith in
    let e3 : at + 3 ≡ suc (suc (suc at)) = omega arith in
    rw (e1, e2, e3) refl

-- the four low bytes of a number
pub four_put : (o ys bytes : List ℕ) (at n x : ℕ) → at + 4 ≤ length o → n ≡ 4 → bytes ≡ to_le_bytes w64 x
    → ys ≡ get_or bytes 0 0 ∷ get_or bytes 1 0 ∷ get_or bytes 2 0 ∷ get_or bytes 3 0 ∷ [] → put_mid at n o ys ≡ sets o at (le_bytes 4 x)
four_put o ys bytes at n x fit en eb ey =
    let four = ey ∙ ap (λ (l : List ℕ). get_or l 0 0 ∷ get_or l 1 0 ∷ get_or l 2 0 ∷ get_or l 3 0 ∷ []) eb in
    let long : length ys ≡ 4 = ap length four in
    let end : at + n ≡ at + length ys = omega arith in
    ap (λ (l : List ℕ). take at o ++ (ys ++ l)) (drop-drop n at o ∙ ap (λ (i : ℕ). drop i o) end)
    ∙ sym (append_assoc (take at o) ys (drop (at + length ys) o))
    ∙ sym (sets-eq ys o at (omega arith))
    ∙ ap (sets o at) four
    ∙ four_sets o at (x % 256) (x / 256 % 256) (x / 65536 % 256) (x / 16777216 % 256)
    ∙ four-stored x _ _ _ _ refl refl refl refl o at
