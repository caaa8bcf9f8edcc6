-- The ways out of the survey of simple elements, one lemma for each.
use mathlib.Core.Path.{◌≡◌, refl, sym, ap, ◌∙◌, subst}
use mathlib.Core.Bool.{Bool, true, false, not}
use mathlib.Core.List.{List}
use Prim.Native.Nat.{ℕ, ◌+◌, ◌-◌, ◌*◌, ◌<◌, ◌≤◌}
use native.Mathlib.Omega.{arith}
use lib.ListN.{length, drop}
use Rattle.coding.specs.Bits.{bits}
use Rattle.coding.specs.Packed as P
use Rattle.coding.specs.Schema as Sc
use Rattle.coding.specs.Schema.{Schema}
use Rattle.coding.specs.Sheet.{Parsed, fail, got, bind, unmarked, flat_unmarked}
use Rattle.coding.specs.declared.Flat.{Flat}
use Rattle.coding.specs.declared.Flat.TheVariants.{Boolean, Integer, Float, Enumerated, Struct}
use Rattle.coding.specs.declared.Object.{Object}
use Rattle.coding.specs.declared.Object.TheVariants as O
use Rattle.coding.specs.declared.Kind.{Kind}
use Rattle.coding.specs.declared.Kind.TheVariants.{OfFlat, OfObject, OfUnion}
use Rattle.laws.specs.Lists.{never}
use Rattle.std.specs.Prelude.{Option}
use Rattle.schema.specs.Kinds.{is_blob}
use Rattle.write_measure.specs.Survey.{survey_struct, flat_may_lack, plain, plain_of, opened, joined, Surveyor, survey_body, survey_elements, survey}
use Rattle.write_measure.specs.Surveyed.{TestedAt, Small, Fits, SurveyedIn}
use Rattle.write_measure.specs.UnmarkedElements.{unmarked_bits, passed, unmarked-elements}
use Rattle.write_measure.specs.BlobReferred.{BlobEnd, blob_referred}
use Rattle.write_measure.specs.SimpleMembers.{flat_part, flat-part_is}
use Rattle.write_measure.specs.SimpleElements.{is_simple}
use Rattle.write_measure.specs.declared.Extent.{Extent}
use Rattle.write_measure.specs.declared.Tested.{Tested}
use Rattle.write_measure.specs.declared.Surveyed.{Surveyed}
use Rattle.write_measure.proofs.MarkCases.{bind_fails}
use Rattle.write_measure.proofs.PartCases.{refer-blob, body_object}
use Rattle.write_measure.proofs.ObjectCases.{elements_fail, elements_turn}

-- ---- kinds
pub simple_is : (k : Kind) (t : Bool) → t ≡ is_simple k → t ≡ true → is_simple k ≡ true
simple_is k t e h = sym e ∙ h

pub not_simple : (k : Kind) (t : Bool) → t ≡ is_simple k → t ≡ false → unmarked k ≡ false
unfolding is_simple unmarked
not_simple (OfFlat f) t e h = never (sym h ∙ e)
not_simple (OfObject ob) t e h = refl
not_simple (OfUnion u) t e h = refl

pub element-marked : (k : Kind) (f : Flat) → k ≡ OfFlat f → unmarked k ≡ false → flat_unmarked f ≡ false
unfolding unmarked
element-marked k f e h = ap unmarked (sym e) ∙ h

pub element-blob : (k : Kind) (ob : Object) → k ≡ OfObject ob → is_simple k ≡ true → is_blob ob ≡ true
unfolding is_simple
element-blob k ob e h = ap is_simple (sym e) ∙ h

-- ---- an element may lack its value
pub may-lack : (k : Flat) → true ≡ flat_may_lack true k
unfolding flat_may_lack
may-lack Boolean = refl
may-lack (Integer s w) = refl
may-lack (Float w) = refl
may-lack (Enumerated n) = refl
may-lack (Struct i) = refl

-- ---- the elements from j on
plain_small : (t : Bool) → Small (plain t)
unfolding plain
plain_small t = record { length = omega arith; width = omega arith; chain = omega arith; below = omega arith }

-- `p`: all of them
module _ (o : ℕ) (child : Surveyor) (S : Schema) (s : List ℕ) (at : ℕ) (p : Parsed Extent) (k : Flat) (n : ℕ) (a : Extent) (pos j : ℕ)
    (inv : p ≡ survey_elements child o S (OfFlat k) (n - j) a (drop pos (bits s))) (h : j < n) (marks : flat_unmarked k ≡ false) where
  marked : unmarked (OfFlat k) ≡ false
  unfolding unmarked
  marked = marks

  pub scalars_fail : flat_part (survey_struct S) true k (drop pos (bits s)) ≡ fail → p ≡ fail
  unfolding plain_of
  scalars_fail e =
      elements_fail o child S s at p (OfFlat k) n a pos j inv h marked (flat-part_is child o S k true false (drop pos (bits s)) ∙ bind_fails (flat_part (survey_struct S) true k (drop pos (bits s))) _ e)

  pub scalars_turn : (t : Tested) → TestedAt s (flat_part (survey_struct S) true k (drop pos (bits s))) t → (g : Extent) → Fits (joined a (plain t.fine)) g
      → p ≡ survey_elements child o S (OfFlat k) (n - (j + 1)) g (drop t.next (bits s))
  unfolding plain_of bind
  scalars_turn t q g f =
      elements_turn o child S s at p (OfFlat k) n a pos j inv h marked (record { extent = plain t.fine; next = t.next })
      (record { is = flat-part_is child o S k true false (drop pos (bits s)) ∙ ap plain_of q.is; inside = q.inside; small = plain_small t.fine }) g f

-- ---- a text or bytes is there, behind its mark
pub blob_present : (o d : ℕ) (S : Schema) (s : List ℕ) (ob : Object) (more pos : ℕ) → BlobEnd ob more → more < 2 → (r : Option Surveyed)
    → SurveyedIn s (blob_referred d o false false more (drop pos (bits s))) r
    → SurveyedIn s (survey_body (survey d o S) o S (OfObject ob) true false (drop pos (bits s))) r
blob_present o d S s ob more pos b l r q =
    body_object o (survey d o S) S s (OfObject ob) true false pos r ob refl (refer-blob o d S s false false ob pos more b l r q)

-- ---- by their kind; a is their first extent
module _ (o d : ℕ) (S : Schema) (s : List ℕ) (k : Kind) (n z : ℕ) (a : Extent) (fit : Fits (opened n z) a) (at : ℕ) (r : Option Surveyed) where
  begun : (j : Kind) → k ≡ j → SurveyedIn s (survey_elements (survey d o S) o S j n a (drop at (bits s))) r
      → SurveyedIn s (survey_elements (survey d o S) o S k n (opened n z) (drop at (bits s))) r
  begun j q t = rw (q, ← fit.is) t

  pub elements-passed : unmarked k ≡ true → (u : ℕ) → u ≡ unmarked_bits k → SurveyedIn s (passed (n * u) a (drop at (bits s))) r
      → SurveyedIn s (survey_elements (survey d o S) o S k n (opened n z) (drop at (bits s))) r
  elements-passed h u eu q =
      subst (λ (p : Parsed Extent). SurveyedIn s p r)
      (sym (unmarked-elements (survey d o S) o S k h n n z (drop at (bits s)) ∙ rw (← eu, ← fit.is))) q

  pub elements-flat : (f : Flat) → k ≡ OfFlat f → SurveyedIn s (survey_elements (survey d o S) o S (OfFlat f) n a (drop at (bits s))) r
      → SurveyedIn s (survey_elements (survey d o S) o S k n (opened n z) (drop at (bits s))) r
  elements-flat f = begun (OfFlat f)

  pub elements-object : (ob : Object) → k ≡ OfObject ob → SurveyedIn s (survey_elements (survey d o S) o S (OfObject ob) n a (drop at (bits s))) r
      → SurveyedIn s (survey_elements (survey d o S) o S k n (opened n z) (drop at (bits s))) r
  elements-object ob = begun (OfObject ob)

pub elements-union : (o d : ℕ) (S : Schema) (s : List ℕ) (k : Kind) (n z at u : ℕ) → k ≡ OfUnion u → is_simple k ≡ true
    → survey_elements (survey d o S) o S k n (opened n z) (drop at (bits s)) ≡ fail
unfolding is_simple
elements-union o d S s k n z at u q h = never (ap is_simple (sym q) ∙ h)
