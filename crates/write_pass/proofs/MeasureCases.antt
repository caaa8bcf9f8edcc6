-- The ways out of what measures an object, one lemma for each.
use mathlib.Core.Path.{◌≡◌, refl, sym, ap, ◌∙◌, subst}
use mathlib.Core.Bool.{Bool, true, false, not, ◌&&◌}
use mathlib.Core.List.{List}
use Rattle.std.specs.Prelude.{Option, Some, None}
use Prim.Native.Nat.{ℕ, zero, suc, ◌+◌, ◌*◌, ◌^◌, ◌<◌, ◌≤◌}
use native.Mathlib.Omega.{arith}
use native.Mathlib.Numerals.{add-one}
use lib.ListN.{length, drop, drop_of_length-le}
use lib.Seq.{drop-cons}
use Rattle.coding.specs.Lists.{pick}
use Rattle.coding.specs.Bits.{bits}
use Rattle.coding.specs.Schema as Sc
use Rattle.coding.specs.Schema.{Schema}
use Rattle.coding.specs.Layout.{fixed_size}
use Rattle.coding.specs.Step.{elements_size}
use Rattle.coding.specs.Sheet.{Parsed, fail, take_number, take_bytes}
use Rattle.coding.specs.declared.Object.{Object}
use Rattle.coding.specs.declared.Object.TheVariants as O
use Rattle.coding.specs.declared.Kind.{Kind}
use Rattle.coding.specs.declared.Member.{Member}
use Rattle.coding.specs.Packed as P
use Rattle.laws.specs.Sound.{ObjectSound}
use Rattle.write_measure.proofs.ObjectCases.{table_counted, direct-counted}
use Rattle.bitio.specs.Taken.{NumberAt}
use Rattle.bitio.specs.declared.Number.{Number}
use Rattle.write_measure.specs.Survey.{Surveyor, opened, survey_elements, survey_directs, direct_size, blob_opened, survey_blob, survey_content, survey}
use Rattle.write_measure.specs.Mapped.{Has, bind_has}
use Rattle.write_measure.specs.Surveyed.{Fits, SurveyedAt}
use Rattle.write_measure.specs.declared.Extent.{Extent}
use Rattle.write_measure.specs.declared.Surveyed.{Surveyed}
use Rattle.write_pass.proofs.EmitRoom.{none_taken, some_taken}
use Rattle.write_pass.specs.Measure.{Sizes, Measured, MeasuredAt, MeasuredContent, Known, KnownSize, any_in_place, has_on, sizes_on, list_sizes, table_sizes, direct_sizes, measured_deep, measured-content}

-- ---- whether a table has an in-place member, from member j on
module _ (S : Schema) (t : ℕ) where
  pub place_start : any_in_place (Sc.table_of S t).members ≡ any_in_place (drop 0 (Sc.table_of S t).members)
  place_start = refl

  module _ (j : ℕ) (inv : any_in_place (Sc.table_of S t).members ≡ any_in_place (drop j (Sc.table_of S t).members)) (count : ℕ) (ec : count ≡ length (Sc.table_of S t).members) where
    pub place_none : count ≤ j → false ≡ any_in_place (Sc.table_of S t).members
    unfolding any_in_place
    place_none h =
        let m : length (Sc.table_of S t).members ≤ j = omega arith in
        sym (inv ∙ ap any_in_place (drop_of_length-le (Sc.table_of S t).members m))

    module _ (h : j < count) (r : Member) (er : r ≡ Sc.member_of S t j) where
      turned : any_in_place (Sc.table_of S t).members ≡ pick r.inplace true (any_in_place (drop (suc j) (Sc.table_of S t).members))
      unfolding any_in_place Sc.member_of
      turned =
          let l : j < length (Sc.table_of S t).members = omega arith in
          inv ∙ ap any_in_place (drop-cons (Sc.table_of S t).members j Sc.plain_bool l)
          ∙ ap (λ (m : Member). pick m.inplace true (any_in_place (drop (suc j) (Sc.table_of S t).members))) (sym er)

      pub place_found : r.inplace ≡ true → true ≡ any_in_place (Sc.table_of S t).members
      place_found f = sym (turned ∙ ap (λ (u : Bool). pick u true (any_in_place (drop (suc j) (Sc.table_of S t).members))) f)

      pub place_turn : r.inplace ≡ false → any_in_place (Sc.table_of S t).members ≡ any_in_place (drop (j + 1) (Sc.table_of S t).members)
      place_turn f =
          turned ∙ ap (λ (u : Bool). pick u true (any_in_place (drop (suc j) (Sc.table_of S t).members))) f
          ∙ ap (λ (m : ℕ). any_in_place (drop m (Sc.table_of S t).members)) (sym (add-one j))

-- ---- texts, bytes and lists
-- no count is left
module _ (s : List ℕ) (pos : ℕ) (h : take_number 32 (drop pos (bits s)) ≡ fail) (r : Option Extent) (er : r ≡ None) where
  pub blob_cut : (more : ℕ) → MeasuredAt false (survey_blob more (drop pos (bits s))) r
  unfolding survey_blob
  blob_cut more = rw er (record { is = none_taken _ 32 _ h })

  pub list-cut : (o : ℕ) (S : Schema) (i : ℕ) → MeasuredContent o S (O.List i) (drop pos (bits s)) r
  unfolding survey_content
  list-cut o S i = rw er (record { is = λ child. record { is = none_taken _ 32 _ h } })

  pub direct-cut : (d o : ℕ) (S : Schema) (inplace : Bool) (t : ℕ) → MeasuredAt inplace (survey d o S (O.DirectList t) (drop pos (bits s))) r
  direct-cut d o S inplace t = rw er (record { is = deep d })
    where
      deep : (k : ℕ) → survey k o S (O.DirectList t) (drop pos (bits s)) ≡ fail
      deep zero = unfold survey in refl
      deep (suc k) = unfold survey survey_content in none_taken _ 32 _ h

module _ (s : List ℕ) (pos : ℕ) (x : Number) (taken : NumberAt s pos 32 x) where
  pub blob_measured : (more : ℕ) (r : Extent) → Fits (opened x.value (x.value + more)) r → MeasuredAt false (survey_blob more (drop pos (bits s))) (Some r)
  unfolding survey_blob blob_opened opened
  blob_measured more r f =
      record {
        is = record {
          is = rw f.is (subst (Has (Sizes false (opened x.value (x.value + more)))) (sym (some_taken _ s pos 32 x taken))
              (bind_has (Sizes false (opened x.value (x.value + more))) (take_bytes x.value (drop x.next (bits s))) _ (λ l zs. record { length = refl; width = refl; chain = λ g. refl })));
          small = f.small;
        };
      }

  pub list_measured : (o : ℕ) (S : Schema) (i : ℕ) (k : Kind) → k ≡ Sc.element_of S i → (w : ℕ) → w ≡ elements_size o S k x.value → (r : Extent) → Fits (opened x.value w) r
      → MeasuredContent o S (O.List i) (drop pos (bits s)) (Some r)
  list_measured o S i k ek w ew r f = record { is = λ child. record { is = record { is = is child; small = f.small } } }
    where
      all : opened x.value (elements_size o S (Sc.element_of S i) x.value) ≡ r
      all = sym (f.is ∙ ap (opened x.value) (ew ∙ ap (λ (q : Kind). elements_size o S q x.value) ek))

      is : (child : Surveyor) → Has (Sizes false r) (survey_content child o S (O.List i) (drop pos (bits s)))
      is child =
          unfold survey_content in
          subst (Has (Sizes false r)) (sym (some_taken _ s pos 32 x taken))
          (subst (λ (e : Extent). Has (Sizes false e) (survey_elements child o S (Sc.element_of S i) x.value (opened x.value (elements_size o S (Sc.element_of S i) x.value)) (drop x.next (bits s)))) all
          (list_sizes child o S i x.value (drop x.next (bits s))))

  pub direct_measured : (d o : ℕ) (S : Schema) (inplace : Bool) (t : ℕ) → ObjectSound S (O.DirectList t) → (i : ℕ) → i ≡ t
      → (z : ℕ) → z ≡ fixed_size o S (Sc.table_of S i).members → (w : ℕ) → w ≡ 8 + x.value * z → (r : Extent) → Fits (opened x.value w) r
      → MeasuredAt inplace (survey d o S (O.DirectList t) (drop pos (bits s))) (Some r)
  direct_measured d o S inplace t sound i ei z ez w ew r f = record { is = record { is = deep d; small = f.small } }
    where
      all : opened x.value (direct_size o S t x.value) ≡ r
      all =
          unfold direct_size in
          sym (f.is ∙ ap (opened x.value) (ew ∙ ap (λ (k : ℕ). 8 + x.value * k) (ez ∙ ap (λ (k : ℕ). fixed_size o S (Sc.table_of S k).members) ei)))

      deep : (k : ℕ) → Has (Sizes inplace r) (survey k o S (O.DirectList t) (drop pos (bits s)))
      deep zero = unfold survey in tt
      deep (suc k) =
          unfold survey survey_content in
          subst (Has (Sizes inplace r)) (sym (some_taken _ s pos 32 x taken))
          (subst (λ (e : Extent). Has (Sizes inplace e) (survey_directs (survey k o S) t x.value (opened x.value (direct_size o S t x.value)) (drop x.next (bits s)))) all
          (has_on _ _ (survey_directs (survey k o S) t x.value (opened x.value (direct_size o S t x.value)) (drop x.next (bits s)))
          (direct_sizes k o S t x.value sound.outside (drop x.next (bits s))) (λ y q. sizes_on inplace (opened x.value (direct_size o S t x.value)) y q)))

-- ---- tables
module _ (d o : ℕ) (S : Schema) (inplace : Bool) (xs : List ℕ) (t i : ℕ) (ei : i ≡ t) (far : Bool) (ef : far ≡ (not inplace && any_in_place (Sc.table_of S i).members)) where
  pub table_measured : far ≡ false → (n : ℕ) → n ≡ fixed_size o S (Sc.table_of S i).members → (r : Extent) → Fits (opened n n) r → MeasuredAt inplace (survey d o S (O.Table t) xs) (Some r)
  table_measured h n en r f =
      record {
        is = record {
          is = rw (← ei, f.is, en) (measured_deep d o S inplace (O.Table i) xs _ (λ child. table_sizes child o S inplace i free xs));
          small = f.small;
        };
      }
    where
      free : inplace ≡ false → any_in_place (Sc.table_of S i).members ≡ false
      free e = let g : (not inplace && any_in_place (Sc.table_of S i).members) ≡ any_in_place (Sc.table_of S i).members = rw e in sym g ∙ sym ef ∙ h

pub surveyed_measured : (inplace : Bool) (s : List ℕ) (p : Parsed Extent) (x : Surveyed) → SurveyedAt s p x → MeasuredAt inplace p (Some x.extent)
surveyed_measured inplace s p x v =
    record { is = record { is = subst (Has (Sizes inplace x.extent)) (sym v.is) (record { length = refl; width = refl; chain = λ e. refl }); small = v.small } }

pub surveyed-none : (inplace : Bool) (p : Parsed Extent) → p ≡ fail → (r : Option Extent) → r ≡ None → MeasuredAt inplace p r
surveyed-none inplace p h r er = rw er (record { is = h })

-- ---- objects
module _ (d o : ℕ) (S : Schema) (ob : Object) (inplace : Bool) (xs : List ℕ) (r : Option Extent) where
  -- of what is seen without its content
  shallow : (more : ℕ) → ((child : Surveyor) → survey_content child o S ob xs ≡ survey_blob more xs) → MeasuredAt false (survey_blob more xs) r → MeasuredAt inplace (survey d o S ob xs) r
  shallow more e m = measured-content d o S inplace ob xs r (record { is = λ child. subst (λ (p : Parsed Extent). MeasuredAt false p r) (sym (e child)) m })

  pub measured-text : ob ≡ O.Text → MeasuredAt false (survey_blob 1 xs) r → MeasuredAt inplace (survey d o S ob xs) r
  unfolding survey_content
  measured-text e m = shallow 1 (λ child. rw e refl) m

  pub measured_bytes : ob ≡ O.Bytes → MeasuredAt false (survey_blob 0 xs) r → MeasuredAt inplace (survey d o S ob xs) r
  unfolding survey_content
  measured_bytes e m = shallow 0 (λ child. rw e refl) m

  pub measured_list : (i j : ℕ) → ob ≡ O.List i → j ≡ i → MeasuredContent o S (O.List j) xs r → MeasuredAt inplace (survey d o S ob xs) r
  measured_list i j e ej m = measured-content d o S inplace ob xs r (subst (λ (q : Object). MeasuredContent o S q xs r) (ap O.List ej ∙ sym e) m)

  pub measured-table : (i : ℕ) → ob ≡ O.Table i → MeasuredAt inplace (survey d o S (O.Table i) xs) r → MeasuredAt inplace (survey d o S ob xs) r
  measured-table i e m = subst (λ (q : Object). MeasuredAt inplace (survey d o S q xs) r) (sym e) m

  pub measured-direct : (i : ℕ) → ob ≡ O.DirectList i → MeasuredAt inplace (survey d o S (O.DirectList i) xs) r → MeasuredAt inplace (survey d o S ob xs) r
  measured-direct i e m = subst (λ (q : Object). MeasuredAt inplace (survey d o S q xs) r) (sym e) m

pub direct_sound : (S : Schema) (ob : Object) (i : ℕ) → ObjectSound S ob → ob ≡ O.DirectList i → ObjectSound S (O.DirectList i)
direct_sound S ob i h e = subst (ObjectSound S) e h

pub direct-known : (b : List ℕ) (i j : ℕ) → ObjectSound (P.parse b) (O.DirectList i) → j ≡ i → j < P.table_count b
direct-known b i j h e = direct-counted b (O.DirectList i) i j h refl e

pub table_sound : (S : Schema) (ob : Object) (i : ℕ) → ObjectSound S ob → ob ≡ O.Table i → ObjectSound S (O.Table i)
table_sound S ob i h e = subst (ObjectSound S) e h

pub table-known : (b : List ℕ) (i j : ℕ) → ObjectSound (P.parse b) (O.Table i) → j ≡ i → j < P.table_count b
table-known b i j h e = table_counted b (O.Table i) i j h refl e

-- ---- known sizes
pub known_none : (o : ℕ) (S : Schema) (ob : Object) → KnownSize o S ob None
known_none o S ob = record { known = tt }

pub known-fixed : (o : ℕ) (S : Schema) (t n : ℕ) → n ≡ fixed_size o S (Sc.table_of S t).members → n < 2 ^ 21 → (r : Bool) → r ≡ any_in_place (Sc.table_of S t).members → r ≡ false
    → KnownSize o S (O.Table t) (Some n)
known-fixed o S t n en l r er h =
    record { known = record { is = λ d xs. rw en (measured_deep d o S false (O.Table t) xs _ (λ child. table_sizes child o S false t (λ e. sym er ∙ h) xs)); small = l } }

pub known-table : (o : ℕ) (S : Schema) (ob : Object) (i j : ℕ) (r : Option ℕ) → ob ≡ O.Table i → j ≡ i → KnownSize o S (O.Table j) r → KnownSize o S ob r
known-table o S ob i j r e ej k = subst (λ (q : Object). KnownSize o S q r) (ap O.Table ej ∙ sym e) k

module _ (o : ℕ) (S : Schema) (ob : Object) (r : Option ℕ) (k : KnownSize o S ob r) (n : ℕ) (e : r ≡ Some n) where
  known : Known o S ob n
  known = (subst (KnownSize o S ob) e k).known

  pub known-length : n < 2 ^ 40
  known-length = let l = known.small in omega arith

  pub known-width : n < 2 ^ 54
  known-width = let l = known.small in omega arith

  pub known_measured : (d : ℕ) (xs : List ℕ) (x : Extent) → Fits (opened n n) x → MeasuredAt false (survey d o S ob xs) (Some x)
  known_measured d xs x f = record { is = record { is = subst (λ (y : Extent). Has (Sizes false y) (survey d o S ob xs)) (sym f.is) (known.is d xs); small = f.small } }
