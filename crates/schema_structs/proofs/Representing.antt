-- Representatives of structs: one lemma for each way out of the code.
use mathlib.Core.Path.{◌≡◌, refl, sym, ap, ◌∙◌, subst}
use mathlib.Core.Bool.{Bool, true, ◌&&◌, and-true}
use mathlib.Core.List.{List, [], ◌∷◌}
use Prim.Native.Nat.{ℕ, suc, ◌+◌, ◌<◌}
use native.Mathlib.Nat.{add-zero}
use native.Mathlib.Omega.{arith}
use lib.ListN.{length, get_or}
use lib.Dec.{eqb}
use borrow.Author.Tests.{eqb-true}
use Rattle.coding.specs.Packed as P
use Rattle.coding.specs.Schema as Sc
use Rattle.coding.specs.Schema.{Schema}
use Rattle.coding.specs.Structs.{flat_width, total, struct_size, flat_ok, flats_ok, struct_ok}
use Rattle.coding.specs.declared.Flat.{Flat}
use Rattle.coding.specs.declared.Flat.TheVariants.{Boolean, Struct}
use Rattle.laws.specs.Sound.{Sound}
use Rattle.laws.specs.Sizes.{struct-size_is}
use Rattle.laws.specs.StructBooleans.{struct_ok_is}
use Rattle.schema.specs.Directory.{Directory, Sizes}
use Rattle.schema.specs.Representatives.{Represents, Representatives, FieldFree, StructFree}

-- ---- a member without a bool
pub free-struct : (b dir : List ℕ) (i : ℕ) (k : Flat) (a s x : ℕ) → Representatives b dir i → k ≡ Struct a → s ≡ a → s < i → x ≡ get_or dir (320 + s) 0
    → FieldFree (P.parse b) k (eqb x 65535)
unfolding flat_ok
free-struct b dir i k a s x g e h l ex =
    record { yes = λ q m at. rw (e, ← h) ((g s l).none (sym ex ∙ eqb-true x 65535 q) m at) }

-- ---- a struct without a bool: none of its members has one
flats_free : (S : Schema) (m : List ℕ) (inner : ℕ → ℕ → Bool) (ks : List Flat)
    → ((j : ℕ) → j < length ks → (at : ℕ) → flat_ok inner m (get_or ks j Boolean) at ≡ true) → (at : ℕ) → flats_ok inner S m ks at ≡ true
unfolding flats_ok
flats_free S m inner [] h at = refl
flats_free S m inner (k ∷ ks) h at =
    ap (λ (t : Bool). t && flats_ok inner S m ks (at + flat_width (struct_size S) k)) (h 0 (omega arith) at)
    ∙ flats_free S m inner ks (λ j l. h (suc j) (omega arith)) (at + flat_width (struct_size S) k)

pub free_all : (S : Schema) (i : ℕ) → Sound S → (r : Bool) → (r ≡ true → (k : ℕ) → k < length (Sc.struct_of S i) → FieldFree S (Sc.field_of S i k) true) → StructFree S i r
unfolding Sc.field_of
free_all S i s r h =
    record { yes = λ q m at. struct_ok_is S s m i at ∙ flats_free S m (struct_ok S m) (Sc.struct_of S i) (λ k l. (h q k l).yes refl m) at }

-- ---- the representative
one_alone : (ks : List Flat) → length ks ≡ 1 → ks ≡ get_or ks 0 Boolean ∷ []
one_alone [] e = absurd (omega arith)
one_alone (k ∷ []) e = refl
one_alone (k ∷ l ∷ ks) e = absurd (omega arith)

module _ (S : Schema) (s : Sound S) (i : ℕ) (k : Flat) (a : ℕ) (en : length (Sc.struct_of S i) ≡ 1) (ek : k ≡ Sc.field_of S i 0) (e : k ≡ Struct a) where
  members : Sc.struct_of S i ≡ Struct a ∷ []
  unfolding Sc.field_of
  members = one_alone (Sc.struct_of S i) en ∙ ap (λ (x : Flat). x ∷ []) (sym ek ∙ e)

  only_ok : (m : List ℕ) (at : ℕ) → struct_ok S m i at ≡ struct_ok S m a at
  unfolding flats_ok flat_ok
  only_ok m at =
      struct_ok_is S s m i at ∙ ap (λ (ks : List Flat). flats_ok (struct_ok S m) S m ks at) members ∙ and-true (struct_ok S m a at)

  only-size : struct_size S i ≡ struct_size S a
  unfolding total flat_width
  only-size = struct-size_is S s i ∙ ap (total (struct_size S)) members ∙ add-zero (struct_size S a)

  only_represents : (r : ℕ) → a < i → Represents S a r → Represents S i r
  only_represents r l R =
      record {
        none = λ q m at. only_ok m at ∙ R.none q m at;
        lower = λ q. omega (arith, R.lower q);
        size = λ q. R.size q ∙ sym only-size;
        booleans = λ q m at. R.booleans q m at ∙ sym (only_ok m at);
      }

pub represents_only : (b dir : List ℕ) (i : ℕ) → Representatives b dir i → Sound (P.parse b) → (k : Flat) → length (Sc.struct_of (P.parse b) i) ≡ 1
    → k ≡ Sc.field_of (P.parse b) i 0 → (a s r : ℕ) → k ≡ Struct a → s ≡ a → s < i → r ≡ get_or dir (320 + s) 0 → Represents (P.parse b) i r
represents_only b dir i g sound k en ek a s r e h l er =
    only_represents (P.parse b) sound i k s en ek (e ∙ ap Struct (sym h)) r l (subst (Represents (P.parse b) s) (sym er) (g s l))

-- ---- storing them; the loop's invariant: i representatives are stored
pub record RepresentedBelow (b d : List ℕ) (i : ℕ) : Type 0 where
  pub directory : Directory b d
  pub sizes : Sizes b d (P.struct_count b)
  pub representatives : Representatives b d i
