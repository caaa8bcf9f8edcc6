-- Struct sizes: the size of a struct is the total of its members' widths, by the sizes themselves.
use Rattle.std.specs.Prelude.{◌≡◌, length}
use Rattle.std.proofs.Math.Path.{refl, ap₂}
use mathlib.Core.List.{List, [], ◌∷◌}
use Rattle.std.proofs.Common.{inl, inr}
use Prim.Native.Nat.{ℕ, ◌+◌, ◌<◌}
use native.Mathlib.Omega.{arith}
use Rattle.coding.specs.Schema.{Schema, struct_of}
use Rattle.coding.specs.Structs.{lower, by_index, flat_width, total, size_by, struct_size}
use Rattle.coding.specs.declared.Flat.{Flat}
use Rattle.coding.specs.declared.Flat.TheVariants.{Boolean, Integer, Float, Enumerated, Struct}
use Rattle.laws.specs.Sound.{All, FlatSound, Sound}
use Rattle.laws.specs.Structs.{lower_is, index_holds}

-- two ways to find the inner sizes that agree below i give the same total
module _ (f g : ℕ → ℕ) (i : ℕ) (same : (j : ℕ) → j < i → f j ≡ g j) where
  width_same : (k : Flat) → FlatSound i k → flat_width f k ≡ flat_width g k
  unfolding flat_width
  width_same Boolean h = refl
  width_same (Integer s w) h = refl
  width_same (Float w) h = refl
  width_same (Enumerated n) h = refl
  width_same (Struct j) h = same j h

  pub total-same : (ks : List Flat) → All (FlatSound i) ks → total f ks ≡ total g ks
  unfolding total
  total-same [] h = refl
  total-same (k ∷ ks) h = ap₂ ◌+◌ (width_same k h.0) (total-same ks h.1)

-- "an inner struct having a lower index": the recursion's own values serve
pub size_is-total : (S : Schema) (i : ℕ) → All (FlatSound i) (struct_of S i) → struct_size S i ≡ total (struct_size S) (struct_of S i)
unfolding struct_size by_index size_by
size_is-total S i h =
    total-same (lower 0 (size_by S) i) (struct_size S) i (λ j l. lower_is 0 (size_by S) i j l) (struct_of S i) h

pub struct-size_is : (S : Schema) → Sound S → (i : ℕ) → struct_size S i ≡ total (struct_size S) (struct_of S i)
struct-size_is S s i = size_is-total S i (s.structs i).members

-- ---- a struct with members has bytes
module _ (inner : ℕ → ℕ) (i : ℕ) (some : (j : ℕ) → j < i → 0 < inner j) where
  width_some : (k : Flat) → FlatSound i k → 0 < flat_width inner k
  unfolding flat_width
  width_some Boolean h = omega arith
  width_some (Integer s w) h = h.0
  width_some (Float w) (inl e) = omega arith
  width_some (Float w) (inr e) = omega arith
  width_some (Enumerated n) h = omega arith
  width_some (Struct j) h = some j h

  pub total_some : (ks : List Flat) → All (FlatSound i) ks → 0 < length ks → 0 < total inner ks
  unfolding total
  total_some [] h l = absurd (omega arith)
  total_some (k ∷ ks) h l = omega (arith, width_some k h.0)

pub sizes_some : (S : Schema) (n : ℕ) → ((i : ℕ) → i < n → (All (FlatSound i) (struct_of S i)) × (0 < length (struct_of S i)))
    → (i : ℕ) → i < n → 0 < struct_size S i
unfolding struct_size size_by
sizes_some S n good i =
    index_holds (λ (j x : ℕ). j < n → 0 < x) 0 (size_by S)
    (λ j g below l. total_some g j (λ k m. below k m (omega arith)) (struct_of S j) (good j l).0 (good j l).1) i
