-- What comes of a part that fails, and of each mark, in the words of the survey.
use mathlib.Core.Path.{◌≡◌, refl, sym, ap, ◌∙◌, subst}
use mathlib.Core.Bool.{Bool}
use mathlib.Core.List.{List}
use Prim.Native.Nat.{ℕ, ◌*◌, ◌≤◌}
use lib.ListN.{length, drop}
use lib.Dec.{eqb}
use borrow.Author.Tests.{eq-eqb, ne_eqb}
use Rattle.std.specs.Prelude.{Option}
use Rattle.coding.specs.Bits.{bits}
use Rattle.coding.specs.Sheet.{Parsed, fail, got, bind}
use Rattle.bitio.specs.Taken.{NumberAt}
use Rattle.bitio.specs.declared.Number.{Number}
use Rattle.write_measure.specs.Survey.{survey_mark}
use Rattle.write_measure.specs.Surveyed.{TestedAt, TestedIn, Fits, SurveyedAt, SurveyedIn}
use Rattle.write_measure.specs.Marks.{mark_of, MarkedAt, by_mark, mark-survey}
use Rattle.write_measure.specs.declared.Mark.TheVariants.{Absent, Present, Unknown}
use Rattle.write_measure.specs.declared.Marked.{Marked}
use Rattle.write_measure.specs.declared.Extent.{Extent}
use Rattle.write_measure.specs.declared.Tested.{Tested}
use Rattle.write_measure.specs.declared.Surveyed.{Surveyed}

-- what comes of a part that fails, fails
pub bind_fails : {A B : Type 0} (p : Parsed A) (f : A → List ℕ → Parsed B) → p ≡ fail → bind p f ≡ fail
unfolding bind
bind_fails p f e = rw e

-- ---- the number of a mark
module _ (s : List ℕ) (pos : ℕ) (x : Number) (taken : NumberAt s pos 2 x) where
  pub mark_absent : x.value ≡ 0 → MarkedAt s pos (record { next = x.next; mark = Absent })
  unfolding mark_of bind
  mark_absent e = record { is = rw taken.number (simp (eq-eqb x.value 0 e)); inside = taken.inside }

  pub mark_present : x.value ≡ 1 → MarkedAt s pos (record { next = x.next; mark = Present })
  unfolding mark_of bind
  mark_present e = record { is = rw (taken.number, e); inside = taken.inside }

  pub mark_unknown : x.value ≡ 2 → MarkedAt s pos (record { next = x.next; mark = Unknown })
  unfolding mark_of bind
  mark_unknown e = record { is = rw (taken.number, e); inside = taken.inside }

  pub mark_none : (x.value ≡ 0 → ⊥) → (x.value ≡ 1 → ⊥) → (x.value ≡ 2 → ⊥) → mark_of (drop pos (bits s)) ≡ fail
  unfolding mark_of bind
  mark_none h0 h1 h2 = rw taken.number (simp (ne_eqb x.value 0 h0, ne_eqb x.value 1 h1, ne_eqb x.value 2 h2))

-- ---- what comes of a mark
module _ {A : Type 0} (none : A) (unknown body : List ℕ → Parsed A) (s : List ℕ) (pos : ℕ) where
  pub mark_fails : mark_of (drop pos (bits s)) ≡ fail → survey_mark none unknown body (drop pos (bits s)) ≡ fail
  mark_fails e = mark-survey none unknown body (drop pos (bits s)) ∙ bind_fails (mark_of (drop pos (bits s))) _ e

  pub marked_is : (m : Marked) → MarkedAt s pos m
      → survey_mark none unknown body (drop pos (bits s)) ≡ by_mark m.mark (got none (drop m.next (bits s))) (unknown (drop m.next (bits s))) (body (drop m.next (bits s)))
  unfolding bind
  marked_is m h =
      mark-survey none unknown body (drop pos (bits s)) ∙ ap (λ p. bind p (λ k ys. by_mark k (got none ys) (unknown ys) (body ys))) h.is

module _ (s : List ℕ) (pos : ℕ) (m : Marked) (h : MarkedAt s pos m) where
  module _ (none : Bool) (unknown body : List ℕ → Parsed Bool) where
    pub tested_absent : m.mark ≡ Absent → (t : Bool) → t ≡ none → TestedAt s (survey_mark none unknown body (drop pos (bits s))) (record { next = m.next; fine = t })
    tested_absent e t et =
        record {
          is = marked_is none unknown body s pos m h ∙ rw e (ap (λ (q : Bool). got q (drop m.next (bits s))) (sym et));
          inside = h.inside;
        }

    pub tested_present : m.mark ≡ Present → (r : Option Tested) → TestedIn s (body (drop m.next (bits s))) r
        → TestedIn s (survey_mark none unknown body (drop pos (bits s))) r
    tested_present e r t = subst (λ (p : Parsed Bool). TestedIn s p r) (sym (marked_is none unknown body s pos m h ∙ rw e)) t

    pub tested_unknown : m.mark ≡ Unknown → (r : Option Tested) → TestedIn s (unknown (drop m.next (bits s))) r
        → TestedIn s (survey_mark none unknown body (drop pos (bits s))) r
    tested_unknown e r t = subst (λ (p : Parsed Bool). TestedIn s p r) (sym (marked_is none unknown body s pos m h ∙ rw e)) t

  module _ (none : Extent) (unknown body : List ℕ → Parsed Extent) where
    pub surveyed_absent : m.mark ≡ Absent → (y : Extent) → y ≡ none → (x : Extent) → Fits y x → SurveyedAt s (survey_mark none unknown body (drop pos (bits s))) (record { extent = x; next = m.next })
    surveyed_absent e y ey x f =
        record {
          is = marked_is none unknown body s pos m h ∙ rw e (ap (λ (q : Extent). got q (drop m.next (bits s))) (sym ey ∙ sym f.is));
          inside = h.inside;
          small = f.small;
        }

    pub surveyed_present : m.mark ≡ Present → (r : Option Surveyed) → SurveyedIn s (body (drop m.next (bits s))) r
        → SurveyedIn s (survey_mark none unknown body (drop pos (bits s))) r
    surveyed_present e r t = subst (λ (p : Parsed Extent). SurveyedIn s p r) (sym (marked_is none unknown body s pos m h ∙ rw e)) t

    pub surveyed_unknown : m.mark ≡ Unknown → (r : Option Surveyed) → SurveyedIn s (unknown (drop m.next (bits s))) r
        → SurveyedIn s (survey_mark none unknown body (drop pos (bits s))) r
    surveyed_unknown e r t = subst (λ (p : Parsed Extent). SurveyedIn s p r) (sym (marked_is none unknown body s pos m h ∙ rw e)) t

    pub unknown_fails : m.mark ≡ Unknown → unknown (drop m.next (bits s)) ≡ fail → survey_mark none unknown body (drop pos (bits s)) ≡ fail
    unknown_fails e f = marked_is none unknown body s pos m h ∙ rw e f
