-- The elements of a direct list, turn by turn.
use mathlib.Core.Path.{◌≡◌, refl, sym, ap, ap₂, ◌∙◌, subst}
use mathlib.Core.List.{List, [], ◌++◌}
use Prim.Native.Nat.{ℕ, suc, ◌+◌, ◌-◌, ◌*◌, ◌<◌, ◌≤◌}
use native.Mathlib.Omega.{arith}
use native.Mathlib.Nat.{mul-zero, add-zero}
use Rattle.coding.specs.Schema.{Schema}
use Rattle.coding.specs.Read as R
use Rattle.coding.specs.Bits.{bits_of}
use Rattle.coding.specs.Sheet as E
use Rattle.coding.specs.declared.Object.TheVariants as O
use Rattle.coding.specs.declared.Place.TheVariants.{InPlace}
use Rattle.bitio.specs.Puts.{Room, Puts}
use Rattle.bitio.specs.PutsLaws.{puts_then}
use Rattle.sheet_walk.specs.MessageBits as A
use Rattle.sheet_walk.specs.Readable as D
use Rattle.sheet_walk.proofs.References.{run_next}
use Rattle.sheet_values.proofs.Remaining.{Remaining, remaining_all, remaining_turn, remaining_over, remaining_done}

-- ---- the elements
directs_cons : (o d : ℕ) (S : Schema) (m : List ℕ) (t w n at : ℕ)
    → A.directs_at o d S m t w (suc n) at ≡ A.object_at o d S m (O.Table t) (InPlace at w) ++ A.directs_at o d S m t w n (at + w)
unfolding A.directs_at A.object_at E.directs_bits R.directs_read
directs_cons o d S m t w n at = refl

directs_none : (o d : ℕ) (S : Schema) (m : List ℕ) (t w at : ℕ) → A.directs_at o d S m t w 0 at ≡ []
unfolding A.directs_at E.directs_bits R.directs_read
directs_none o d S m t w at = refl

from_zero : (start w : ℕ) → start + w * 0 ≡ start
from_zero start w = ap (λ (x : ℕ). start + x) (mul-zero w) ∙ add-zero start

pub directs_start : (o d : ℕ) (S : Schema) (m : List ℕ) (t w n start : ℕ) (out : List ℕ) (p : ℕ)
    → Remaining out p (A.directs_at o d S m t w n start) out p (A.directs_at o d S m t w (n - 0) (start + w * 0))
directs_start o d S m t w n start out p =
    let z : n - 0 ≡ n = omega arith in
    remaining_all out p (A.directs_at o d S m t w n start) (A.directs_at o d S m t w (n - 0) (start + w * 0)) (ap₂ (A.directs_at o d S m t w) z (from_zero start w))

pub directs_readable : (child : D.Child) (t w n start : ℕ) → D.DirectsReadable child t w n start → D.DirectsReadable child t w (n - 0) (start + w * 0)
directs_readable child t w n start h =
    let z : n ≡ n - 0 = omega arith in
    subst (D.DirectsReadable child t w (n - 0)) (sym (from_zero start w)) (subst (λ (x : ℕ). D.DirectsReadable child t w x start) z h)

module _ (o d : ℕ) (S : Schema) (m : List ℕ) (t w n j start : ℕ) (h : j < n) (good : D.DirectsReadable (D.ObjectReadable o d S m) t w (n - j) (start + w * j)) where
  abbrev at : ℕ
  at = start + w * j

  split : D.ObjectReadable o d S m (O.Table t) (InPlace at w) × D.DirectsReadable (D.ObjectReadable o d S m) t w (n - (j + 1)) (at + w)
  unfolding D.DirectsReadable
  split = let z : n - j ≡ suc (n - (j + 1)) = omega arith in subst (λ (x : ℕ). D.DirectsReadable (D.ObjectReadable o d S m) t w x at) z good

  pub direct-first : D.ObjectReadable o d S m (O.Table t) (InPlace (start + w * j) w)
  direct-first = split.0

  pub direct-rest : D.DirectsReadable (D.ObjectReadable o d S m) t w (n - (j + 1)) (start + w * (j + 1))
  direct-rest = subst (D.DirectsReadable (D.ObjectReadable o d S m) t w (n - (j + 1))) (run_next w start j) split.1

  pub direct_turn : (whole out₀ out out₁ : List ℕ) (p₀ p p₁ : ℕ) → Remaining out₀ p₀ whole out p (A.directs_at o d S m t w (n - j) (start + w * j)) → Room out p
      → Puts out p (A.object_at o d S m (O.Table t) (InPlace (start + w * j) w)) out₁ p₁
      → Remaining out₀ p₀ whole out₁ p₁ (A.directs_at o d S m t w (n - (j + 1)) (start + w * (j + 1)))
  direct_turn whole out₀ out out₁ p₀ p p₁ inv g put =
      let z : n - j ≡ suc (n - (j + 1)) = omega arith in
      remaining_turn out₀ out out₁ p₀ p p₁ whole (A.directs_at o d S m t w (n - j) at) (A.object_at o d S m (O.Table t) (InPlace at w))
      (A.directs_at o d S m t w (n - (j + 1)) (start + w * (j + 1))) inv g.short
      (ap (λ (x : ℕ). A.directs_at o d S m t w x at) z ∙ directs_cons o d S m t w (n - (j + 1)) at
      ∙ ap (λ (x : ℕ). A.object_at o d S m (O.Table t) (InPlace at w) ++ A.directs_at o d S m t w (n - (j + 1)) x) (run_next w start j))
      put

-- behind the count
module _ (o d : ℕ) (S : Schema) (m : List ℕ) (t w n start x : ℕ) (ex : x ≡ n) (out out₁ out₂ : List ℕ) (p q r : ℕ) (g : Room out p) (h : Puts out p (bits_of 32 x) out₁ q)
    (g₂ : Room out₂ r) where
  counted : Puts out₁ q (A.directs_at o d S m t w n start) out₂ r → Puts out p (A.direct_at o d S m t w n start) out₂ r
  unfolding A.direct_at
  counted l =
      puts_then out out₁ out₂ p q r (bits_of 32 n) (A.directs_at o d S m t w n start) g.short (subst (λ (v : ℕ). Puts out p (bits_of 32 v) out₁ q) ex h) l

  pub directs_over : (rest : List ℕ) → Remaining out₁ q (A.directs_at o d S m t w n start) out₂ r rest → 134217720 < r
      → Puts out p (A.direct_at o d S m t w n start) out₂ r
  directs_over rest inv l = counted (remaining_over out₁ out₂ q r (A.directs_at o d S m t w n start) rest inv g₂ l)

  pub directs_done : (j at : ℕ) → Remaining out₁ q (A.directs_at o d S m t w n start) out₂ r (A.directs_at o d S m t w (n - j) at) → n ≤ j
      → Puts out p (A.direct_at o d S m t w n start) out₂ r
  directs_done j at inv l =
      let z : n - j ≡ 0 = omega arith in
      counted (remaining_done out₁ out₂ q r (A.directs_at o d S m t w n start) (A.directs_at o d S m t w (n - j) at) inv g₂
      (ap (λ (v : ℕ). A.directs_at o d S m t w v at) z ∙ directs_none o d S m t w at))
