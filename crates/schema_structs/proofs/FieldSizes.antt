-- Struct sizes: one lemma for each way out of the code, and what is left of a struct's total.
use mathlib.Core.Path.{◌≡◌, refl, sym, ◌∙◌}
use mathlib.Core.List.{List}
use Prim.Native.Nat.{ℕ, zero, suc, ◌+◌, ◌<◌, ◌≤◌}
use native.Mathlib.Numerals.{add-one}
use native.Mathlib.Omega.{arith}
use lib.ListN.{length, get_or, drop, drop_of_length-le}
use lib.Seq.{drop-cons}
use borrow.Author.Tests.{ne_eqb}
use Rattle.coding.specs.Packed as P
use Rattle.coding.specs.Schema as Sc
use Rattle.coding.specs.Structs as S
use Rattle.coding.specs.declared.Flat.{Flat}
use Rattle.coding.specs.declared.Flat.TheVariants.{Boolean, Struct}
use Rattle.laws.specs.Structs.{lower_is}
use Rattle.schema.specs.Directory.{SmallBelow}

-- an index that is not lower counts nothing
lower_past : {A : Type 0} (z : A) (f : (ℕ → A) → ℕ → A) (n j : ℕ) → n ≤ j → S.lower z f n j ≡ z
unfolding S.lower
lower_past z f zero j l = refl
lower_past z f (suc n) j l =
    let e : j ≡ n → ⊥ = λ q. omega arith in
    simp (ne_eqb j n e) (lower_past z f n j (omega arith))

-- ---- the width of a member that is a struct
module _ (b : List ℕ) (s : ℕ) (f : Flat) (a i : ℕ) (e : f ≡ Struct a) (h : i ≡ a) where
  pub size_5 : i < s → (r : ℕ) → r ≡ S.struct_size (P.parse b) i → r ≡ S.flat_width (S.lower 0 (S.size_by (P.parse b)) s) f
  unfolding S.flat_width S.struct_size
  size_5 l r er =
      let m : a < s = omega arith in
      er ∙ rw h (simp e (sym (lower_is 0 (S.size_by (P.parse b)) s a m)))

  pub size_6 : s ≤ i → 0 ≡ S.flat_width (S.lower 0 (S.size_by (P.parse b)) s) f
  unfolding S.flat_width
  size_6 l =
      let m : s ≤ a = omega arith in
      simp e (sym (lower_past 0 (S.size_by (P.parse b)) s a m))

pub size_5_small : (b : List ℕ) (s i r : ℕ) → i < s → r ≡ S.struct_size (P.parse b) i → SmallBelow b s → r ≤ 4096
size_5_small b s i r l er g = omega (arith, g i l)

-- ---- the loop: what is left of the total
total_step : (inner : ℕ → ℕ) (ks : List Flat) (j : ℕ) → j < length ks
    → S.total inner (drop j ks) ≡ S.flat_width inner (get_or ks j Boolean) + S.total inner (drop (j + 1) ks)
unfolding S.total
total_step inner ks j m = rw (add-one, drop-cons ks j Boolean m)

unfoldable pub rest : List ℕ → ℕ → ℕ → ℕ
rest b s j = S.total (S.lower 0 (S.size_by (P.parse b)) s) (drop j (Sc.struct_of (P.parse b) s))

module _ (b : List ℕ) (s : ℕ) where
  pub rest_all : 0 + rest b s 0 ≡ S.struct_size (P.parse b) s
  unfolding rest S.struct_size S.by_index S.size_by
  rest_all = omega arith

  pub rest_more : (n size j w : ℕ) (f : Flat) → n ≡ length (Sc.struct_of (P.parse b) s) → j < n → f ≡ Sc.field_of (P.parse b) s j
      → w ≡ S.flat_width (S.lower 0 (S.size_by (P.parse b)) s) f → size + rest b s j ≡ S.struct_size (P.parse b) s
      → size + w + rest b s (j + 1) ≡ S.struct_size (P.parse b) s
  unfolding rest Sc.field_of
  rest_more n size j w f en l ef ew e =
      let inner : ℕ → ℕ = S.lower 0 (S.size_by (P.parse b)) s in
      let ks : List Flat = Sc.struct_of (P.parse b) s in
      let m : j < length ks = omega arith in
      let d : S.total inner (drop j ks) ≡ w + S.total inner (drop (j + 1) ks) = total_step inner ks j m ∙ rw (← ef, ← ew) in
      omega arith

  pub rest_done : (n size j : ℕ) → n ≡ length (Sc.struct_of (P.parse b) s) → n ≤ j → size + rest b s j ≡ S.struct_size (P.parse b) s
      → size ≡ S.struct_size (P.parse b) s
  unfolding rest S.total
  rest_done n size j en l e =
      let ks : List Flat = Sc.struct_of (P.parse b) s in
      let m : length ks ≤ j = omega arith in
      let z : S.total (S.lower 0 (S.size_by (P.parse b)) s) (drop j ks) ≡ 0 = rw (drop_of_length-le ks m) in
      omega arith
