-- Bytes stored into a buffer: those that lie in it.
use Rattle.std.proofs.Common.{min}
use Rattle.std.specs.Int.{byte_at, bytes_low_first}
use mathlib.Core.Path.{◌≡◌, refl, sym, ap, ap₂, ◌∙◌}
use mathlib.Core.Bool.{Bool, true, false}
use mathlib.Core.List.{List, [], ◌∷◌, ◌++◌, append_assoc}
use Prim.Native.Nat.{ℕ, zero, suc, ◌+◌, ◌-◌, ◌/◌, ◌%◌, ◌^◌, ◌<◌, ◌≤◌}
use native.Mathlib.Omega.{arith}
use native.Mathlib.Nat.{div-div-eq-div-mul, div-one, pow-suc}
use lib.ListN.{length, take, drop, get_or, replicate, length-replicate, take-append-drop, drop_of_length-le}
use lib.Seq.{sets, sets-eq, length-sets, set_out, take_all, length-take-le, ext_get_or}
use lib.Dec.{leb}
use borrow.Author.Tests.{leb-true, leb-false}
use borrow.Rule.Slice.PartMut.{mid_of, post_of, put_mid, mid_len, Post-is}
use Rattle.std.proofs.lemmas.List.{take-replicate, get_or-replicate}
use Rattle.coding.specs.Bytes.{le_bytes}
use Rattle.coding.specs.Bits.{value, pack}
use Rattle.laws.specs.Bits.{pack-length}
use Rattle.write_measure.specs.SlotSizes.{length-le_bytes}
use Rattle.write_store.specs.Stores.{sets-append}

-- ---- the bytes of a number
low_first : (i k x : ℕ) → bytes_low_first i k x ≡ le_bytes k (x / 256 ^ i)
unfolding le_bytes
low_first i zero x = refl
low_first i (suc k) x = ap₂ (λ (b : ℕ) (l : List ℕ). b ∷ l) (byte i) (low_first (suc i) k x ∙ ap (le_bytes k) next)
  where
    byte : (i : ℕ) → byte_at i x ≡ x / 256 ^ i % 256
    byte zero = ap (λ (y : ℕ). y % 256) (sym (div-one x))
    byte (suc i) = refl

    next : x / 256 ^ suc i ≡ x / 256 ^ i / 256
    next = ap (λ (y : ℕ). x / y) (pow-suc 256 i) ∙ sym (div-div-eq-div-mul x (256 ^ i) 256)

front : (w k x : ℕ) → w ≤ k → take w (le_bytes k x) ≡ le_bytes w x
unfolding le_bytes
front zero k x h = refl
front (suc w) zero x h = absurd (omega arith)
front (suc w) (suc k) x h = ap (λ (l : List ℕ). x % 256 ∷ l) (front w k (x / 256) (omega arith))

number-bytes : (w x : ℕ) → w ≤ 8 → take w (bytes_low_first 0 8 x) ≡ le_bytes w x
number-bytes w x h = ap (take w) (low_first 0 8 x ∙ ap (le_bytes 8) (div-one x)) ∙ front w 8 x h

-- ---- what lies in the buffer
sets_past : (o : List ℕ) (p : ℕ) (bs : List ℕ) → length o ≤ p → sets o p bs ≡ o
sets_past o p [] h = refl
sets_past o p (b ∷ bs) h = ap (λ (l : List ℕ). sets l (suc p) bs) (set_out o p b h) ∙ sets_past o (suc p) bs (omega arith)

module _ (o bs : List ℕ) (at e : ℕ) (is : e ≡ min (length o) (at + length bs)) where
  -- nothing of the bytes
  none-stored : e ≤ at → o ≡ sets o at bs
  none-stored h = sym (by (leb (length o) at) bs refl refl)
    where
      by : (t : Bool) (cs : List ℕ) → leb (length o) at ≡ t → cs ≡ bs → sets o at cs ≡ o
      by true cs e f = sets_past o at cs (leb-true (length o) at e)
      by false [] e f = refl
      by false (b ∷ cs) g f =
          let l = leb-false (length o) at g in
          let k : suc (length cs) ≡ length bs = ap length f in
          absurd (omega arith)

  module _ (h : at ≤ e) where
    abbrev part : List ℕ
    part = take (e - at) bs

    part_length : length part ≡ e - at
    part_length = length-take-le (e - at) bs (omega arith)

    -- the bytes that lie in the buffer are as good as all of them
    clipped : sets o at part ≡ sets o at bs
    clipped = sym (ap (sets o at) (sym (take-append-drop (e - at) bs)) ∙ sets-append o at part (drop (e - at) bs) ∙ by (leb (length o) e) refl)
      where
        by : (t : Bool) → leb (length o) e ≡ t → sets (sets o at part) (at + length part) (drop (e - at) bs) ≡ sets o at part
        by true g =
            let l = leb-true (length o) e g in
            let s = length-sets o at part in
            sets_past (sets o at part) (at + length part) (drop (e - at) bs) (omega (arith, part_length))
        by false g =
            let l = leb-false (length o) e g in
            let z : length bs ≤ e - at = omega arith in
            ap (sets (sets o at part) (at + length part)) (drop_of_length-le bs z)

    stored : (ys : List ℕ) → ys ≡ part → put_mid at (e - at) o ys ≡ sets o at bs
    stored ys ey =
        let i : at + length part ≤ length o = omega (arith, part_length) in
        let z : e ≡ at + length part = omega (arith, part_length) in
        ap (λ (r : List ℕ). take at o ++ (r ++ post_of at (e - at) o)) ey ∙ sym (append_assoc (take at o) part (post_of at (e - at) o))
        ∙ ap (λ (r : List ℕ). (take at o ++ part) ++ r) (Post-is at e o h ∙ ap (λ (k : ℕ). drop k o) z) ∙ sym (sets-eq part o at i)
        ∙ clipped

part-stored : (o ys bs : List ℕ) (at e : ℕ) → e ≡ min (length o) (at + length bs) → at < e → ys ≡ take (e - at) bs → put_mid at (e - at) o ys ≡ sets o at bs
part-stored o ys bs at e is h ey = stored o bs at e is (omega arith) ys ey

-- ---- the kinds of bytes
module _ (o ys bs : List ℕ) (at w x : ℕ) (few : w ≤ 8) (eb : bs ≡ bytes_low_first 0 8 x) where
  pub number-stored : at + w ≤ length o → ys ≡ take w bs → put_mid at (at + w - at) o ys ≡ sets o at (le_bytes w x)
  number-stored h ey =
      let l = length-le_bytes w x in
      let z : at + w - at ≡ w = omega arith in
      stored o (le_bytes w x) at (at + w) (omega arith) (omega arith) ys
      (ey ∙ ap (take w) eb ∙ number-bytes w x few ∙ sym (take_all (at + w - at) (le_bytes w x) (omega arith)))

  pub number-cut : (e : ℕ) → e ≡ min (length o) (at + w) → at < e → ys ≡ take (e - at) bs → put_mid at (e - at) o ys ≡ sets o at (le_bytes w x)
  number-cut e is h ey =
      let l = length-le_bytes w x in
      part-stored o ys (le_bytes w x) at e (is ∙ ap (λ (k : ℕ). min (length o) (at + k)) (sym l)) h
      (ey ∙ ap (take (e - at)) eb ∙ number-bytes (e - at) x (omega arith) ∙ sym (front (e - at) w x (omega arith)))

pub number_none : (o : List ℕ) (at w x e : ℕ) → e ≡ min (length o) (at + w) → e ≤ at → o ≡ sets o at (le_bytes w x)
number_none o at w x e is h = none-stored o (le_bytes w x) at e (is ∙ ap (λ (k : ℕ). min (length o) (at + k)) (sym (length-le_bytes w x))) h

-- fewer bytes
fewer : (k n : ℕ) (xs : List ℕ) → k ≤ n → take k (pack n xs) ≡ pack k xs
unfolding pack
fewer zero n xs h = refl
fewer (suc k) zero xs h = absurd (omega arith)
fewer (suc k) (suc n) xs h = ap (λ (l : List ℕ). value (take 8 xs) ∷ l) (fewer k n (drop 8 xs) (omega arith))

module _ (o ys : List ℕ) (at e n : ℕ) (is : e ≡ min (length o) (at + n)) where
  module _ (h : at < e) where
    mid_length : length (mid_of at (e - at) o) ≡ e - at
    mid_length = mid_len at e o (let z : e ≤ length o = omega arith in z)

    pub zeros-stored : ys ≡ replicate (length (mid_of at (e - at) o)) 0 → put_mid at (e - at) o ys ≡ sets o at (replicate n 0)
    zeros-stored ey =
        let l = length-replicate {A = ℕ} n 0 in
        part-stored o ys (replicate n 0) at e (is ∙ ap (λ (k : ℕ). min (length o) (at + k)) (sym l)) h
        (ey ∙ ap (λ (k : ℕ). replicate k 0) mid_length ∙ sym (take-replicate (e - at) n 0 (omega arith)))

    pub copy-stored : (xs : List ℕ) → ys ≡ pack (length (mid_of at (e - at) o)) xs → put_mid at (e - at) o ys ≡ sets o at (pack n xs)
    copy-stored xs ey =
        let l = pack-length n xs in
        part-stored o ys (pack n xs) at e (is ∙ ap (λ (k : ℕ). min (length o) (at + k)) (sym l)) h
        (ey ∙ ap (λ (k : ℕ). pack k xs) mid_length ∙ sym (fewer (e - at) n xs (omega arith)))

  pub zeros_none : e ≤ at → o ≡ sets o at (replicate n 0)
  zeros_none h = none-stored o (replicate n 0) at e (is ∙ ap (λ (k : ℕ). min (length o) (at + k)) (sym (length-replicate n 0))) h

  pub copy_none : (xs : List ℕ) → e ≤ at → o ≡ sets o at (pack n xs)
  copy_none xs h = none-stored o (pack n xs) at e (is ∙ ap (λ (k : ℕ). min (length o) (at + k)) (sym (pack-length n xs))) h

-- zeros throughout
pub cleared : (o d : List ℕ) (n : ℕ) → length d ≡ length o → length o ≤ n → ((k : ℕ) → k < n → get_or d k 0 ≡ 0) → d ≡ replicate (length o) 0
cleared o d n l g h =
    let e = length-replicate {A = ℕ} (length o) 0 in
    ext_get_or 0 d (replicate (length o) 0) (l ∙ sym e)
    (λ k f. h k (omega arith) ∙ sym (get_or-replicate (length o) k 0 0 (omega arith)))
