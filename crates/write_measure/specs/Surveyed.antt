-- What the survey's code answers, against the definitions: whether a part of the sheet is lawful, what it says, and where
-- the sheet goes on.
use Prim.Native.Nat.{ℕ, ◌*◌, ◌^◌, ◌≤◌, ◌<◌}
use Rattle.std.specs.Prelude.{◌≡◌, Bool, true, ◌&&◌, length, drop, Option, MatchOption}
use Rattle.std.proofs.Math.Path.{refl, ap}
use Rattle.std.proofs.Common.{◌∙◌}
use mathlib.Core.List.{List, [], ◌∷◌}
use Rattle.coding.specs.Bits.{bits}
use Rattle.coding.specs.Schema.{Schema, struct_of}
use Rattle.coding.specs.Structs.{lower, by_index}
use Rattle.coding.specs.Sheet.{Parsed, fail, got, bind}
use Rattle.coding.specs.declared.Flat.{Flat}
use Rattle.coding.specs.declared.Flat.TheVariants.{Boolean, Integer, Float, Enumerated, Struct}
use Rattle.laws.specs.Structs.{lower_is}
use Rattle.laws.specs.Sound.{All, FlatSound, Sound}
use Rattle.write_measure.specs.Survey.{survey_flat, survey_field, survey_fields, survey_by, survey_nothing, survey_struct}
use Rattle.write_measure.specs.Mapped.{bind-same}
use Rattle.write_measure.specs.declared.Extent.{Extent}
use Rattle.write_measure.specs.declared.Tested.{Tested}
use Rattle.write_measure.specs.declared.Surveyed.{Surveyed}

-- p got what t says, and behind it the sheet s goes on at t's `next`
pub record TestedAt (s : List ℕ) (p : Parsed Bool) (t : Tested) : Type 0 where
  pub is : p ≡ got t.fine (drop t.next (bits s))
  pub inside : t.next ≤ 8 * length s

-- the answer r to p: none where p fails
abbrev pub TestedIn : List ℕ → Parsed Bool → Option Tested → Type 0
TestedIn s p r = MatchOption r (p ≡ fail) (TestedAt s p)

-- numbers that fit
pub record Small (e : Extent) : Type 0 where
  pub length : e.length < 2 ^ 40
  pub width : e.width < 2 ^ 54
  pub chain : e.chain ≤ 16777216
  pub below : e.below ≤ 16777216

-- r is the extent x, and its numbers fit
pub record Fits (x r : Extent) : Type 0 where
  pub is : r ≡ x
  pub small : Small r

pub record SurveyedAt (s : List ℕ) (p : Parsed Extent) (x : Surveyed) : Type 0 where
  pub is : p ≡ got x.extent (drop x.next (bits s))
  pub inside : x.next ≤ 8 * length s
  pub small : Small x.extent

abbrev pub SurveyedIn : List ℕ → Parsed Extent → Option Surveyed → Type 0
SurveyedIn s p r = MatchOption r (p ≡ fail) (SurveyedAt s p)

-- ---- a struct is its members in turn, each inner struct by its own index
module _ (i : ℕ) (f g : ℕ → List ℕ → Parsed Bool) (same : (j : ℕ) → j < i → f j ≡ g j) where
  field-same : (k : Flat) → FlatSound i k → (xs : List ℕ) → survey_field f k xs ≡ survey_field g k xs
  unfolding survey_field survey_flat
  field-same Boolean h xs = refl
  field-same (Integer s w) h xs = refl
  field-same (Float w) h xs = refl
  field-same (Enumerated n) h xs = refl
  field-same (Struct j) h xs = ap (λ (k : List ℕ → Parsed Bool). k xs) (same j h)

  fields-same : (ks : List Flat) → All (FlatSound i) ks → (t : Bool) (xs : List ℕ) → survey_fields f ks t xs ≡ survey_fields g ks t xs
  unfolding survey_fields bind
  fields-same [] h t xs = refl
  fields-same (k ∷ ks) h t xs = ap (λ p. bind p (λ u ys. survey_fields f ks (t && u) ys)) (field-same k h.0 xs) ∙ bind-same (survey_field g k xs) _ _ (λ u ys. fields-same ks h.1 (t && u) ys)

pub struct_is : (S : Schema) → Sound S → (i : ℕ) (xs : List ℕ) → survey_struct S i xs ≡ survey_fields (survey_struct S) (struct_of S i) true xs
unfolding survey_struct by_index survey_by
struct_is S sound i xs =
    fields-same i (lower survey_nothing (survey_by S) i) (survey_struct S) (λ j h. lower_is survey_nothing (survey_by S) i j h) (struct_of S i)
    (sound.structs i).members true xs
