-- The booleans of a struct are those of its members in turn, each inner struct by its own index.
use Rattle.std.specs.Prelude.{◌≡◌, Bool, ◌&&◌}
use Rattle.std.proofs.Math.Path.{refl, ap, ap₂}
use mathlib.Core.List.{List, [], ◌∷◌}
use Prim.Native.Nat.{ℕ, ◌+◌, ◌<◌}
use Rattle.coding.specs.Schema.{Schema, struct_of}
use Rattle.coding.specs.Structs.{lower, by_index, flat_width, struct_size, flat_ok, flats_ok, ok_by, always, struct_ok}
use Rattle.coding.specs.declared.Flat.{Flat}
use Rattle.coding.specs.declared.Flat.TheVariants.{Boolean, Integer, Float, Enumerated, Struct}
use Rattle.laws.specs.Structs.{lower_is}
use Rattle.laws.specs.Sound.{All, FlatSound, Sound}

module _ (S : Schema) (m : List ℕ) (i : ℕ) (f g : ℕ → ℕ → Bool) (same : (j : ℕ) → j < i → f j ≡ g j) where
  flat-same : (k : Flat) (at : ℕ) → FlatSound i k → flat_ok f m k at ≡ flat_ok g m k at
  unfolding flat_ok
  flat-same Boolean at h = refl
  flat-same (Integer s w) at h = refl
  flat-same (Float w) at h = refl
  flat-same (Enumerated n) at h = refl
  flat-same (Struct j) at h = ap (λ (k : ℕ → Bool). k at) (same j h)

  pub flats-same : (ks : List Flat) (at : ℕ) → All (FlatSound i) ks → flats_ok f S m ks at ≡ flats_ok g S m ks at
  unfolding flats_ok
  flats-same [] at h = refl
  flats-same (k ∷ ks) at h = ap₂ (λ (x y : Bool). x && y) (flat-same k at h.0) (flats-same ks (at + flat_width (struct_size S) k) h.1)

pub struct_ok_is : (S : Schema) → Sound S → (m : List ℕ) (i at : ℕ) → struct_ok S m i at ≡ flats_ok (struct_ok S m) S m (struct_of S i) at
unfolding struct_ok by_index ok_by
struct_ok_is S sound m i at =
    flats-same S m i (lower always (ok_by S m) i) (struct_ok S m) (λ j h. lower_is always (ok_by S m) i j h) (struct_of S i) at (sound.structs i).members
