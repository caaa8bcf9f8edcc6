-- The survey of what leads to no object is what decode gives, tested.
use Rattle.std.specs.Prelude.{◌≡◌, Bool, ◌&&◌, ℕ, ◌*◌, ◌<◌}
use Rattle.std.proofs.Math.Path.{refl, ap}
use Rattle.std.proofs.Common.{sym, ◌∙◌}
use mathlib.Core.List.{List, [], ◌∷◌}
use Rattle.std.proofs.Math.Bool.{true, false, and-true, and_assoc}
use Rattle.coding.specs.Lists.{pick}
use Rattle.coding.specs.Schema.{Schema, struct_of}
use Rattle.coding.specs.Value.{Value, Values, unknown, number, row, present, known, as_number, as_row, first, others}
use Rattle.coding.specs.Sheet.{Parsed, fail, got, bind, take_number, take_value, take_if, unknown_enum, take_unknown_enum, take_enum, take_flat, take_field, take_fields, take_by, take_nothing, take_struct, take_unknown_flat}
use Rattle.coding.specs.Message.{flat_known, flats_known, known_by, all_known, struct_known, flat_writable}
use Rattle.coding.specs.declared.Flat.{Flat}
use Rattle.coding.specs.declared.Flat.TheVariants.{Boolean, Integer, Float, Enumerated, Struct}
use Rattle.laws.specs.Sound.{All, FlatSound, Sound}
use Rattle.laws.specs.Structs.{index_holds₃}
use Rattle.write_measure.specs.Survey.{test_number, test_if, any_number, float_fine, below_count, survey_flat, enum_field, survey_field, survey_fields, survey_by, survey_nothing, survey_struct, survey_unknown_flat}
use Rattle.write_measure.specs.Mapped.{mapped, Has, mapped-same, bind-mapped, bind_has, seq, mark-mapped}

-- a value that is there
abbrev pub Present : Value → Type 0
Present v = present v ≡ true

-- ---- numbers
number_tested : (f : Value → Bool) (w : ℕ) (test : ℕ → Bool) → ((x : ℕ) → test x ≡ f (number x)) → (xs : List ℕ)
    → test_number w test xs ≡ mapped f (take_value w xs)
unfolding test_number take_value
number_tested f w test h xs = bind-mapped f (take_number w xs) _ _ (λ x ys. ap (λ t. got t ys) (h x))

if_tested : (f : Value → Bool) (w : ℕ) (ok : ℕ → Bool) (make : ℕ → Value) (answer : Bool) → ((x : ℕ) → answer ≡ f (make x)) → (xs : List ℕ)
    → test_if w ok answer xs ≡ mapped f (take_if w ok make xs)
unfolding test_if take_if
if_tested f w ok make answer h xs = bind-mapped f (take_number w xs) _ _ (λ x ys. by x ys (ok x))
  where
    by : (x : ℕ) (ys : List ℕ) (t : Bool) → pick t (got answer ys) fail ≡ mapped f (pick t (got (make x) ys) fail)
    by x ys true = ap (λ a. got a ys) (h x)
    by x ys false = refl

value_there : (w : ℕ) (xs : List ℕ) → Has Present (take_value w xs)
unfolding take_value present
value_there w xs = bind_has Present (take_number w xs) _ (λ x ys. refl)

if_there : (w : ℕ) (ok : ℕ → Bool) (xs : List ℕ) → Has Present (take_if w ok number xs)
unfolding take_if present
if_there w ok xs = bind_has Present (take_number w xs) _ (λ x ys. by x ys (ok x))
  where
    by : (x : ℕ) (ys : List ℕ) (t : Bool) → Has Present (pick t (got (number x) ys) fail)
    by x ys true = refl
    by x ys false = tt

-- ---- a struct's members, given its inner structs
-- what is shown of a struct
pub record StructSurveyed (survey : List ℕ → Parsed Bool) (take : List ℕ → Parsed Value) (fine : Value → Bool) : Type 0 where
  pub is : (xs : List ℕ) → survey xs ≡ mapped fine (take xs)
  pub there : (xs : List ℕ) → Has Present (take xs)

module _ (S : Schema) (i : ℕ) (survey : ℕ → List ℕ → Parsed Bool) (take : ℕ → List ℕ → Parsed Value) (fine : ℕ → Value → Bool)
    (inner : (j : ℕ) → j < i → StructSurveyed (survey j) (take j) (fine j)) where
  field_surveyed : (k : Flat) → FlatSound i k → (xs : List ℕ) → survey_field survey k xs ≡ mapped (flat_known fine k) (take_field take k xs)
  unfolding survey_field survey_flat enum_field take_field take_flat flat_known float_fine known take_unknown_enum take_enum
  field_surveyed Boolean ok xs = number_tested _ 1 any_number (λ x. refl) xs
  field_surveyed (Integer s w) ok xs = number_tested _ (8 * w) any_number (λ x. refl) xs
  field_surveyed (Float w) ok xs = number_tested _ (8 * w) (float_fine false w) (λ x. refl) xs
  field_surveyed (Enumerated n) ok xs =
      mark-mapped known true (test_if 8 (unknown_enum n) false) (λ ys. test_if 8 (below_count n) true ys) (take_unknown_enum n) (λ ys. take_enum n ys)
      refl (λ ys. if_tested known 8 (unknown_enum n) unknown false (λ x. refl) ys)
      (λ ys. if_tested known 8 (below_count n) number true (λ x. refl) ys) xs
  field_surveyed (Struct j) ok xs = (inner j ok).is xs

  fields_surveyed : (ks : List Flat) → All (FlatSound i) ks → (t : Bool) (xs : List ℕ)
      → survey_fields survey ks t xs ≡ mapped (λ vs. t && flats_known fine ks vs) (take_fields take ks xs)
  unfolding survey_fields take_fields flats_known first others
  fields_surveyed [] ok t xs = ap (λ u. got u xs) (sym (and-true t))
  fields_surveyed (k ∷ ks) ok t xs =
      ap (λ p. bind p (λ u ys. survey_fields survey ks (t && u) ys)) (field_surveyed k ok.0 xs)
      ∙ seq (take_field take k xs) (flat_known fine k) (take_fields take ks) (λ u ys. survey_fields survey ks (t && u) ys) (λ vs. t && flats_known fine (k ∷ ks) vs)
      (λ v ys. fields_surveyed ks ok.1 (t && flat_known fine k v) ys
      ∙ mapped-same _ _ (take_fields take ks ys) (all (take_fields take ks ys) v))
    where
      all : (p : Parsed Values) (v : Value)
          → Has (λ vs. (t && flat_known fine k v) && flats_known fine ks vs ≡ t && (flat_known fine k v && flats_known fine ks vs)) p
      all fail v = tt
      all (got vs ys) v = and_assoc t (flat_known fine k v) (flats_known fine ks vs)

  next : All (FlatSound i) (struct_of S i) → StructSurveyed (survey_by S survey i) (take_by S take i) (known_by S fine i)
  unfolding survey_by take_by known_by as_row present bind
  next ok = record { is = λ xs. fields_surveyed (struct_of S i) ok true xs ∙ close (take_fields take (struct_of S i) xs); there = λ xs. bind_has Present (take_fields take (struct_of S i) xs) _ (λ vs ys. refl) }
    where
      close : (p : Parsed Values)
          → mapped (λ vs. true && flats_known fine (struct_of S i) vs) p ≡ mapped (λ v. flats_known fine (struct_of S i) (as_row v)) (bind p (λ vs ys. got (row vs) ys))
      close fail = refl
      close (got vs ys) = refl

module _ (S : Schema) (sound : Sound S) where
  struct_surveyed : (i : ℕ) → StructSurveyed (survey_struct S i) (take_struct S i) (struct_known S i)
  unfolding survey_struct take_struct struct_known
  struct_surveyed i =
      index_holds₃ (λ (j : ℕ). StructSurveyed) survey_nothing (survey_by S) take_nothing (take_by S) all_known (known_by S)
      (λ j s t k h. next S j s t k h (sound.structs j).members) i

  -- ---- what leads to no object, as a member or an element
  pub flat_surveyed : (optional : Bool) (k : Flat) (xs : List ℕ)
      → survey_flat (survey_struct S) optional k xs ≡ mapped (flat_writable S optional k) (take_flat (take_struct S) k xs)
  unfolding survey_flat take_flat flat_writable present float_fine as_number take_enum known
  flat_surveyed optional Boolean xs = number_tested _ 1 any_number (λ x. refl) xs
  flat_surveyed optional (Integer s w) xs = number_tested _ (8 * w) any_number (λ x. refl) xs
  flat_surveyed optional (Float w) xs = number_tested _ (8 * w) (float_fine optional w) (λ x. refl) xs
  flat_surveyed optional (Enumerated n) xs = if_tested _ 8 (below_count n) number true (λ x. refl) xs
  flat_surveyed optional (Struct i) xs =
      (struct_surveyed i).is xs ∙ mapped-same _ _ (take_struct S i xs) (all (take_struct S i xs) ((struct_surveyed i).there xs))
    where
      all : (p : Parsed Value) → Has Present p → Has (λ v. struct_known S i v ≡ pick (present v) (struct_known S i v) optional) p
      all fail h = tt
      all (got v ys) h = rw h

  pub flat_there : (k : Flat) (xs : List ℕ) → Has Present (take_flat (take_struct S) k xs)
  unfolding take_flat
  flat_there Boolean xs = value_there 1 xs
  flat_there (Integer s w) xs = value_there (8 * w) xs
  flat_there (Float w) xs = value_there (8 * w) xs
  flat_there (Enumerated n) xs = unfold take_enum in if_there 8 (below_count n) xs
  flat_there (Struct i) xs = (struct_surveyed i).there xs

  pub unknown_surveyed : (optional : Bool) (k : Flat) (xs : List ℕ) → survey_unknown_flat k xs ≡ mapped (flat_writable S optional k) (take_unknown_flat k xs)
  unfolding survey_unknown_flat take_unknown_flat flat_writable take_unknown_enum known
  unknown_surveyed optional Boolean xs = refl
  unknown_surveyed optional (Integer s w) xs = refl
  unknown_surveyed optional (Float w) xs = refl
  unknown_surveyed optional (Enumerated n) xs = if_tested _ 8 (unknown_enum n) unknown false (λ x. refl) xs
  unknown_surveyed optional (Struct i) xs = refl
