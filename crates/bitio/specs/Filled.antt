-- A buffer as long as a sheet, whose last byte was 0, after all of the sheet's bits are put into it: it is the sheet.
use Rattle.std.specs.Prelude.{◌≡◌, refl, true, take}
use Rattle.std.proofs.Math.Path.{sym, ap}
use Rattle.std.proofs.Common.{◌∙◌, zero-add, length-drop, drop_of_length-le, take-append-drop, drop-drop}
use mathlib.Core.List.{List, [], ◌∷◌, ◌++◌}
use Prim.Native.Nat.{ℕ, zero, suc, ◌+◌, ◌-◌, ◌*◌, ◌≤◌, ◌<◌}
use native.Mathlib.Omega.{arith}
use Rattle.std.proofs.Math.ListN.{length, get_or, drop}
use Rattle.std.proofs.Math.Seq.{drop-cons}
use Rattle.coding.specs.Bits.{bits_of, bits, packed, byte_count, all_zero}
use Rattle.laws.specs.Sound.{All}
use Rattle.laws.specs.Bits.{Byte, bits-length, packed-from}
use Rattle.laws.specs.BitLists.{bits-drop}
use Rattle.bitio.specs.Puts.{Stored}
use Rattle.bitio.specs.StoredLaws.{zeros-drop}

last-zeros : (b : ℕ) → b ≡ 0 → all_zero (bits (b ∷ [])) ≡ true
unfolding all_zero bits bits_of
last-zeros b e = rw e refl

module _ (o xs : List ℕ) (n : ℕ) (e : length o ≡ n) (h : 8 * n < length xs + 8) (g : length xs ≤ 8 * n) (z : get_or o (n - 1) 0 ≡ 0) where
  -- what is left of the buffer is a part of its last byte
  rest-zeros : all_zero (drop (length xs) (bits o)) ≡ true
  rest-zeros = by n refl
    where
      by : (k : ℕ) → n ≡ k → all_zero (drop (length xs) (bits o)) ≡ true
      by zero f = unfold all_zero in ap all_zero (drop_of_length-le (bits o) (let l = bits-length o in let q : length (bits o) ≤ length xs = omega arith in q))
      by (suc k) f =
          let a : length xs ≡ 8 * k + (length xs - 8 * k) = omega arith in
          let f1 : n - 1 ≡ k = omega arith in
          let b : drop k o ≡ get_or o k 0 ∷ [] = drop-cons o k 0 (omega arith) ∙ ap (λ (s : List ℕ). get_or o k 0 ∷ s) (drop_of_length-le o (let q : length o ≤ suc k = omega arith in q)) in
          ap all_zero
          (ap (λ (i : ℕ). drop i (bits o)) a ∙ sym (drop-drop (length xs - 8 * k) (8 * k) (bits o)) ∙ ap (drop (length xs - 8 * k)) (sym (bits-drop k o) ∙ ap bits b))
          ∙ zeros-drop (length xs - 8 * k) (bits (get_or o k 0 ∷ [])) (last-zeros (get_or o k 0) (ap (λ (i : ℕ). get_or o i 0) (sym f1) ∙ z))

count_bounds : (xs : List ℕ) → (8 * byte_count xs < length xs + 8) × (length xs ≤ 8 * byte_count xs)
unfolding byte_count
count_bounds xs = omega arith

pub sheet_filled : (o o' xs : List ℕ) → All Byte o' → length o ≡ byte_count xs → length o' ≡ length o → get_or o (byte_count xs - 1) 0 ≡ 0 → Stored (bits o) 0 xs (bits o') → o' ≡ packed xs
sheet_filled o o' xs h e l z f =
    let c = count_bounds xs in
    let n : 0 + length xs ≡ length xs = zero-add (length xs) in
    let rest : List ℕ = drop (length xs) (bits o') in
    let front : take (length xs) (bits o') ≡ xs = ap (λ (k : ℕ). take k (bits o')) (sym n) ∙ f.front in
    packed-from xs o' rest h (sym (take-append-drop (length xs) (bits o')) ∙ ap (λ (s : List ℕ). s ++ rest) front)
    (let m = length-drop (length xs) (bits o') in let k = bits-length o' in let q : length rest < 8 = omega arith in q)
    (f.zeros (length xs) (omega arith) (rest-zeros o xs (byte_count xs) e c.0 c.1 z))
