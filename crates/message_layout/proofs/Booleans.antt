-- The booleans of a struct, member by member.
use mathlib.Core.Path.{◌≡◌, sym, ap, ◌∙◌, subst}
use mathlib.Core.Bool.{Bool, true, false, ◌&&◌, not}
use mathlib.Core.List.{List, ◌∷◌}
use Prim.Native.Nat.{ℕ, suc, ◌+◌, ◌<◌, ◌≤◌}
use native.Mathlib.Omega.{arith}
use native.Mathlib.Numerals.{add-one}
use lib.ListN.{length, drop, drop_of_length-le}
use lib.Seq.{drop-cons}
use borrow.Author.Tests.{not-true, not-false}
use Rattle.coding.specs.Schema as Sc
use Rattle.coding.specs.Schema.{Schema}
use Rattle.coding.specs.Structs.{flat_width, total, struct_size, flat_ok, flats_ok, struct_ok}
use Rattle.coding.specs.Packed as P
use Rattle.coding.specs.declared.Flat.{Flat}
use Rattle.coding.specs.declared.Flat.TheVariants.{Boolean, Integer, Float, Enumerated, Struct}
use Rattle.laws.specs.Sound.{FlatSound}
use Rattle.laws.specs.Lists.{all-at}
use Rattle.laws.specs.Sizes.{struct-size_is}
use Rattle.laws.specs.StructBooleans.{struct_ok_is}
use Rattle.laws.specs.Parsed.{structs-length}
use Rattle.schema.specs.Directory.{Accepted, accepted_sound}
use Rattle.schema.specs.Representatives.{Represents}

-- ---- one member
pub boolean-inside : (size : ℕ → ℕ) (k : Flat) (at n : ℕ) → k ≡ Boolean → at + flat_width size k ≤ n → at < n
unfolding flat_width
boolean-inside size k at n e h = let q = subst (λ (f : Flat). at + flat_width size f ≤ n) e h in omega arith

pub struct-inside : (S : Schema) (k : Flat) (at n i j : ℕ) → k ≡ Struct i → j ≡ i → at + flat_width (struct_size S) k ≤ n → at + struct_size S j ≤ n
unfolding flat_width
struct-inside S k at n i j e ej h = rw ej (subst (λ (f : Flat). at + flat_width (struct_size S) f ≤ n) e h)

pub struct-lower : (n : ℕ) (k : Flat) (i j : ℕ) → k ≡ Struct i → j ≡ i → FlatSound n k → j < n
struct-lower n k i j e ej h = rw ej (subst (FlatSound n) e h)

-- an index below a lower one
pub flat_weaker : (b : List ℕ) (i : ℕ) (k : Flat) → i < P.struct_count b → FlatSound i k → FlatSound (length (P.parse b).structs) k
flat_weaker b i Boolean l h = tt
flat_weaker b i (Integer s w) l h = h
flat_weaker b i (Float w) l h = h
flat_weaker b i (Enumerated n) l h = h
flat_weaker b i (Struct a) l h = omega (arith, structs-length b)

-- ---- the representative
pub booleans_none : (S : Schema) (m : List ℕ) (i r : ℕ) → Represents S i r → r ≡ 65535 → (at : ℕ) → true ≡ struct_ok S m i at
booleans_none S m i r R e at = sym (R.none e m at)

pub lower_index : (S : Schema) (i r : ℕ) → Represents S i r → (r ≡ 65535 → ⊥) → r ≤ i
lower_index S i r R e = R.lower e

pub lower-count : (b : List ℕ) (i r : ℕ) → Represents (P.parse b) i r → (r ≡ 65535 → ⊥) → i < P.struct_count b → r < P.struct_count b
lower-count b i r R e l = omega (arith, R.lower e)

-- its members, all of them left
module _ (b dir m : List ℕ) (a : Accepted b dir) (i r : ℕ) (R : Represents (P.parse b) i r) (e : r ≡ 65535 → ⊥) (at : ℕ) where
  pub all_left : struct_ok (P.parse b) m i at ≡ flats_ok (struct_ok (P.parse b) m) (P.parse b) m (drop 0 (Sc.struct_of (P.parse b) r)) at
  all_left = sym (R.booleans e m at) ∙ struct_ok_is (P.parse b) (accepted_sound b dir a) m r at

  pub all-inside : at + struct_size (P.parse b) i ≤ length m → at + total (struct_size (P.parse b)) (drop 0 (Sc.struct_of (P.parse b) r)) ≤ length m
  all-inside h = omega (arith, R.size e, struct-size_is (P.parse b) (accepted_sound b dir a) r)

-- ---- the members from j on; o is the struct that i stands for
pub field_sound : (b dir : List ℕ) → Accepted b dir → (i j n : ℕ) → n ≡ length (Sc.struct_of (P.parse b) i) → (k : Flat) → k ≡ Sc.field_of (P.parse b) i j → j < n
    → FlatSound i k
unfolding Sc.field_of
field_sound b dir a i j n en k e h =
    rw e (all-at (FlatSound i) Boolean (Sc.struct_of (P.parse b) i) j ((accepted_sound b dir a).structs i).members (omega arith))

module _ (S : Schema) (i pos j n : ℕ) (en : n ≡ length (Sc.struct_of S i)) (h : j < n) (k : Flat) (e : k ≡ Sc.field_of S i j) where
  opened : drop j (Sc.struct_of S i) ≡ k ∷ drop (suc j) (Sc.struct_of S i)
  unfolding Sc.field_of
  opened = drop-cons (Sc.struct_of S i) j Boolean (omega arith) ∙ ap (λ (f : Flat). f ∷ drop (suc j) (Sc.struct_of S i)) (sym e)

  total-opened : total (struct_size S) (drop j (Sc.struct_of S i)) ≡ flat_width (struct_size S) k + total (struct_size S) (drop (suc j) (Sc.struct_of S i))
  unfolding total
  total-opened = ap (total (struct_size S)) opened

  pub field-inside : (top : ℕ) → pos + total (struct_size S) (drop j (Sc.struct_of S i)) ≤ top → pos + flat_width (struct_size S) k ≤ top
  field-inside top l = omega (arith, total-opened)

  pub next-inside : (top : ℕ) → pos + total (struct_size S) (drop j (Sc.struct_of S i)) ≤ top → (w : ℕ) → w ≡ flat_width (struct_size S) k
      → pos + w + total (struct_size S) (drop (j + 1) (Sc.struct_of S i)) ≤ top
  next-inside top l w ew = rw add-one (omega (arith, total-opened))

  module _ (m : List ℕ) (o at : ℕ) (inv : struct_ok S m o at ≡ flats_ok (struct_ok S m) S m (drop j (Sc.struct_of S i)) pos) (r : Bool) (er : r ≡ flat_ok (struct_ok S m) m k pos) where
    turned : struct_ok S m o at ≡ (r && flats_ok (struct_ok S m) S m (drop (suc j) (Sc.struct_of S i)) (pos + flat_width (struct_size S) k))
    unfolding flats_ok
    turned =
        inv ∙ ap (λ (l : List Flat). flats_ok (struct_ok S m) S m l pos) opened
        ∙ ap (λ (t : Bool). t && flats_ok (struct_ok S m) S m (drop (suc j) (Sc.struct_of S i)) (pos + flat_width (struct_size S) k)) (sym er)

    pub booleans_bad : not r ≡ true → false ≡ struct_ok S m o at
    booleans_bad f =
        sym (turned ∙ ap (λ (t : Bool). t && flats_ok (struct_ok S m) S m (drop (suc j) (Sc.struct_of S i)) (pos + flat_width (struct_size S) k)) (not-true r f))

    pub booleans_turn : not r ≡ false → (w : ℕ) → w ≡ flat_width (struct_size S) k → struct_ok S m o at ≡ flats_ok (struct_ok S m) S m (drop (j + 1) (Sc.struct_of S i)) (pos + w)
    booleans_turn f w ew =
        turned ∙ ap (λ (t : Bool). t && flats_ok (struct_ok S m) S m (drop (suc j) (Sc.struct_of S i)) (pos + flat_width (struct_size S) k)) (not-false r f)
        ∙ ap (λ (x : ℕ). flats_ok (struct_ok S m) S m (drop (suc j) (Sc.struct_of S i)) (pos + x)) (sym ew)
        ∙ ap (λ (x : ℕ). flats_ok (struct_ok S m) S m (drop x (Sc.struct_of S i)) (pos + w)) (sym (add-one j))

pub booleans_done : (S : Schema) (m : List ℕ) (i o at pos j n : ℕ) → n ≡ length (Sc.struct_of S i)
    → struct_ok S m o at ≡ flats_ok (struct_ok S m) S m (drop j (Sc.struct_of S i)) pos → n ≤ j → true ≡ struct_ok S m o at
unfolding flats_ok
booleans_done S m i o at pos j n en inv h =
    let l : length (Sc.struct_of S i) ≤ j = omega arith in
    sym (inv ∙ ap (λ (ks : List Flat). flats_ok (struct_ok S m) S m ks pos) (drop_of_length-le (Sc.struct_of S i) l))
