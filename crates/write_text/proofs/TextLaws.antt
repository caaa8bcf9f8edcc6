-- Bytes of a sheet, part by part: the state of text after them.
use Prim.Native.Nat.{ℕ, zero, suc, ◌+◌, ◌*◌}
use native.Mathlib.Omega.{arith}
use mathlib.Core.Path.{◌≡◌, refl, sym, ap, ap₂, ◌∙◌}
use mathlib.Core.Bool.{Bool}
use mathlib.Core.List.{List, ◌∷◌, ◌++◌}
use lib.Dec.{eqb}
use lib.ListN.{take, drop}
use lib.Seq.{drop-drop}
use Rattle.coding.specs.Bits.{bits, value, pack}
use Rattle.coding.specs.Utf8.{TextState, Boundary, may_end, is_text}
use Rattle.utf8.specs.Steps.{state_of, state_in, HoldsState, after_octets}
use Rattle.utf8.specs.Table.{state_number}
use Rattle.utf8.proofs.OctetLaws.{octets-append, octets-end}
use Rattle.write_text.specs.Texts.{Passes, blob_fine}

pack-add : (j k : ℕ) (xs : List ℕ) → pack (j + k) xs ≡ pack j xs ++ pack k (drop (8 * j) xs)
unfolding pack
pack-add zero k xs = let e : 0 + k ≡ k = omega arith in ap (λ (n : ℕ). pack n xs) e
pack-add (suc j) k xs =
    let e : suc j + k ≡ suc (j + k) = omega arith in
    let f : 8 + 8 * j ≡ 8 * suc j = omega arith in
    ap (λ (n : ℕ). pack n xs) e
    ∙ ap (λ (l : List ℕ). value (take 8 xs) ∷ l)
    (pack-add j k (drop 8 xs) ∙ ap (λ (l : List ℕ). pack j (drop 8 xs) ++ pack k l) (drop-drop (8 * j) 8 xs ∙ ap (λ (n : ℕ). drop n xs) f))

-- ---- part by part
pub begin_holds : HoldsState 0
unfolding HoldsState state_in state_of state_number
begin_holds = refl

pub begin-state : (xs : List ℕ) → state_in 0 ≡ after_octets Boundary (pack 0 xs)
unfolding state_in state_of after_octets pack
begin-state xs = refl

module _ (s : List ℕ) (pos j w : ℕ) (inv : state_in w ≡ after_octets Boundary (pack j (drop pos (bits s)))) (q k n : ℕ) (eq : q ≡ pos + 8 * j) (en : j + k ≡ n) where
  pub part_turn : (r : ℕ) → Passes s q k w r → state_in r ≡ after_octets Boundary (pack n (drop pos (bits s)))
  part_turn r p =
      let xs : List ℕ = drop pos (bits s) in
      let e : drop q (bits s) ≡ drop (8 * j) xs = ap (λ (i : ℕ). drop i (bits s)) eq ∙ sym (drop-drop (8 * j) pos (bits s)) in
      p.is
      ∙ ap₂ (λ (t : TextState) (l : List ℕ). after_octets t (pack k l)) inv e
      ∙ sym (ap (after_octets Boundary) (pack-add j k xs) ∙ octets-append Boundary (pack j xs) (pack k (drop (8 * j) xs)))
      ∙ ap (λ (i : ℕ). after_octets Boundary (pack i xs)) en

  pub parts_done : (r : ℕ) → Passes s q k w r → (t : Bool) → t ≡ may_end (state_in r) → t ≡ is_text (pack n (drop pos (bits s)))
  unfolding is_text
  parts_done r p t e = e ∙ ap may_end (part_turn r p) ∙ sym (octets-end Boundary (pack n (drop pos (bits s))))

-- ---- a text or bytes
pub fine_bytes : (more : ℕ) (l : List ℕ) → more ≡ 0 → eqb more 0 ≡ blob_fine more l
unfolding blob_fine
fine_bytes more l e = rw e refl

pub fine-text : (more : ℕ) (l : List ℕ) (t : Bool) → (more ≡ 0 → ⊥) → t ≡ is_text l → t ≡ blob_fine more l
unfolding blob_fine
fine-text zero l t f e = absurd (f refl)
fine-text (suc k) l t f e = e
