-- The ways out of an element of a direct list, and where it stands.
use mathlib.Core.Path.{◌≡◌, ap, sym, subst}
use mathlib.Core.List.{List}
use Prim.Native.Nat.{ℕ, ◌+◌, ◌*◌, ◌^◌, ◌<◌, ◌≤◌}
use native.Mathlib.Nat.{mul_comm}
use native.Mathlib.Omega.{arith}
use lib.ListN.{length}
use borrow.Author.Tests.{lt-ltb, le-ltb}
use Rattle.coding.specs.Schema.{Schema}
use Rattle.coding.specs.Walk as W
use Rattle.coding.specs.Field as Field
use Rattle.coding.specs.declared.Object.{Object}
use Rattle.coding.specs.declared.Object.TheVariants as O
use Rattle.coding.specs.declared.Place.TheVariants.{InPlace}
use Rattle.coding.specs.declared.Found.{Found}
use Rattle.coding.specs.declared.Found.TheVariants as Fd
use Rattle.laws.specs.Sound.{ObjectSound, DirectSound}
use Rattle.wire.specs.Products.{times-within}
use Rattle.message_step.specs.Lead.{PlaceSmall}
use Rattle.field_arrival.specs.Within.{Readable}

-- ---- where element j stands
module _ (m : List ℕ) (readable : Readable m) (start n w j : ℕ) (h : start + n * w ≤ length m) (l : j < n) where
  element-inside : start + w * j + w ≤ length m
  element-inside = omega (arith, times-within w j n l, mul_comm n w, h)

  pub direct_small : PlaceSmall (InPlace (start + w * j) w)
  direct_small = let g = readable.size in (omega (arith, element-inside, g), omega (arith, element-inside, g))

module _ (o : ℕ) (m : List ℕ) (readable : Readable m) (at start n : ℕ) (h : start + n * W.element_size o m at ≤ length m) (j : ℕ) (l : j < n) (w : ℕ)
    (ew : w ≡ W.element_size o m at) where
  inside : start + w * j + w ≤ length m
  inside = element-inside m readable start n w j (subst (λ (k : ℕ). start + n * k ≤ length m) (sym ew) h) l

  pub direct_steps : w * j < 2 ^ 64
  direct_steps = let g = readable.size in omega (arith, inside, g)

  pub direct-place : start + w * j < 2 ^ 64
  direct-place = let g = readable.size in omega (arith, inside, g)

  pub direct-stands : PlaceSmall (InPlace (start + w * j) w)
  direct-stands = direct_small m readable start n w j (subst (λ (k : ℕ). start + n * k ≤ length m) (sym ew) h) l

-- ---- what it comes to
module _ (o : ℕ) (S : Schema) (m : List ℕ) (t at start n d j : ℕ) (r : Found) where
  pub direct_none : n ≤ j → r ≡ Fd.Refused (W.refusal 15 at) → r ≡ Field.object_part o S m (O.DirectList t) at start n d j
  unfolding Field.object_part Field.no_part
  direct_none h e = simp (le-ltb _ _ h) e

  pub direct_there : j < n → (w : ℕ) → w ≡ W.element_size o m at → r ≡ Field.arrived d o S m (O.Table t) (InPlace (start + w * j) w)
      → r ≡ Field.object_part o S m (O.DirectList t) at start n d j
  unfolding Field.object_part
  direct_there h w ew e = simp (lt-ltb _ _ h, ← ew) e

-- ---- the list itself
pub direct_sound : (S : Schema) (ob : Object) (t : ℕ) → ObjectSound S ob → ob ≡ O.DirectList t → ObjectSound S (O.Table t)
direct_sound S ob t h e = let k : DirectSound S t = subst (ObjectSound S) e h in k.table

pub direct-content : (o : ℕ) (S : Schema) (m : List ℕ) (ob : Object) (at start n t : ℕ) → ob ≡ O.DirectList t → start + W.content_size o S m ob at n ≤ length m
    → start + n * W.element_size o m at ≤ length m
unfolding W.content_size
direct-content o S m ob at start n t e h = subst (λ (y : Object). start + W.content_size o S m y at n ≤ length m) e h

pub part-direct : (o : ℕ) (S : Schema) (m : List ℕ) (ob : Object) (at start n d j : ℕ) (r : Found) (t : ℕ) → ob ≡ O.DirectList t
    → r ≡ Field.object_part o S m (O.DirectList t) at start n d j → r ≡ Field.object_part o S m ob at start n d j
part-direct o S m ob at start n d j r t e f = rw e f
