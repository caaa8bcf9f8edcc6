-- What the list reader answers, by where its path leads.
use mathlib.Core.Path.{◌≡◌, refl, sym, ap, ◌∙◌}
use mathlib.Core.Bool.{Bool, true, false}
use mathlib.Core.List.{List, [], ◌∷◌, ◌++◌}
use Prim.Native.Nat.{ℕ, ◌+◌, ◌*◌, ◌/◌, ◌<◌, ◌≤◌}
use native.Mathlib.Omega.{arith}
use borrow.Author.Tests.{lt-ltb, le-ltb}
use lib.ListN.{length, take, drop}
use Rattle.coding.specs.Lists.{pick}
use Rattle.coding.specs.Schema.{Schema, element_of}
use Rattle.coding.specs.Packed.{parse}
use Rattle.coding.specs.Walk.{refusal}
use Rattle.coding.specs.Field as Field
use Rattle.coding.specs.declared.Object.{Object}
use Rattle.coding.specs.declared.Object.TheVariants as O
use Rattle.coding.specs.declared.Found.{Found}
use Rattle.coding.specs.declared.Found.TheVariants as Fd
use Rattle.coding.specs.declared.Answer.{Answer}
use Rattle.coding.specs.declared.Answer.TheVariants as A
use Rattle.coding.specs.declared.Refusal.{Refusal}
use Rattle.field_element.specs.declared.ListStep.{ListStep}
use Rattle.field_reader.specs.declared.ListReader.{ListReader}
use Rattle.field_reader.specs.Reading.{gives, after}
use Rattle.promises.specs.Reader.{at_element, Stepped}
use Rattle.promises.specs.Words.{Listed, LeadsToList, HoldsAnswers}
use Rattle.demands.specs.ListReader.{gives_path, gives-end, counts, over-gives, gives-refusal, refused_path}

-- what is found is no list that a reader goes over
abbrev NoList : Schema → Found → Type 0
NoList S f =
    (ob : Object) (at start n left : ℕ) → (f ≡ Fd.Object ob at start n left) × Listed S ob → ⊥

other_start : (S : Schema) (f : Found) → ((r : Refusal) → Field.answer_of f ≡ A.Refused r → ⊥) → NoList S f
    → Field.reader_of S f ≡ Fd.Refused (refusal 15 0)
unfolding Field.reader_of Field.list_found Field.before Field.answer_of
other_start S (Fd.Refused r) free none = absurd (free r refl)
other_start S Fd.Absent free none = refl
other_start S (Fd.Unknown x) free none = refl
other_start S (Fd.Value k x holder) free none = refl
other_start S (Fd.Struct i at holder) free none = refl
other_start S (Fd.Object O.Text at start n d) free none = refl
other_start S (Fd.Object O.Bytes at start n d) free none = refl
other_start S (Fd.Object (O.Table i) at start n d) free none = refl
other_start S (Fd.Object (O.List i) at start n d) free none = by (Field.leads (element_of S i)) refl
  where
    by : (t : Bool) → Field.leads (element_of S i) ≡ t
        → pick t (Fd.Object (O.List i) at start n d) (Fd.Refused (refusal 15 0)) ≡ Fd.Refused (refusal 15 0)
    by true e = absurd (none (O.List i) at start n d (refl, e))
    by false e = refl
other_start S (Fd.Object (O.DirectList t) at start n d) free none = absurd (none (O.DirectList t) at start n d (refl, tt))

module _ (o : ℕ) (b m path : List ℕ) where
  starts : (ob : Object) (at start n left : ℕ) → LeadsToList o b m path ob at start n left → Field.reader_start o b m path ≡ Fd.Object ob at start n left
  unfolding Field.reader_start Field.reader_of Field.list_found
  starts O.Text at start n left h = absurd h.1
  starts O.Bytes at start n left h = absurd h.1
  starts (O.List i) at start n left h = rw (h.0, h.1)
  starts (O.Table i) at start n left h = absurd h.1
  starts (O.DirectList t) at start n left h = rw h.0

  other : ((r : Refusal) → Field.field o b m path ≡ A.Refused r → ⊥) → NoList (parse b) (Field.field_found o b m path)
      → Field.reader_start o b m path ≡ Fd.Refused (refusal 15 0)
  unfolding Field.reader_start Field.field
  other free none = other_start (parse b) (Field.field_found o b m path) free none

-- ---- one step: what it answers
module _ (o : ℕ) (b m path : List ℕ) (j : ℕ) (q : Answer) (eq : q ≡ Field.reader_gives o b m path j) where
  pub steps-same : (element : List ℕ) (r : Answer) → r ≡ Field.field o b m element → (ob : Object) (at start n left : ℕ)
      → LeadsToList o b m path ob at start n left
      → element ≡ path ++ j ∷ [] → q ≡ r
  steps-same element r er ob at start n left has e =
      eq
      ∙ gives_path o b m path ob at start n left (starts o b m path ob at start n left has) j
      ∙ ap (Field.field o b m) (sym e)
      ∙ sym er

  pub steps-end : (ob : Object) (at start n left : ℕ) → LeadsToList o b m path ob at start n left → n ≤ j → q ≡ A.Refused (refusal 15 at)
  steps-end ob at start n left has l =
      eq ∙ gives-end o b m path ob at start n left (starts o b m path ob at start n left has) j l

  step_refused : (r : Refusal) → Field.reader_start o b m path ≡ Fd.Refused r → q ≡ A.Refused r
  step_refused r e = eq ∙ (gives-refusal o b m path r e).1 j

-- ---- one step: where the reader stands then
module _ (o : ℕ) (b m path : List ℕ) (j k : ℕ) (ek : k ≡ Field.reader_next (Field.reader_count o b m path) j) where
  stands : (n : ℕ) → Field.reader_count o b m path ≡ n → k ≡ Field.reader_next n j
  stands n e = ek ∙ ap (λ (c : ℕ). Field.reader_next c j) e

  pub next_moves : (ob : Object) (at start n left : ℕ) → LeadsToList o b m path ob at start n left → j < n → k ≡ j + 1
  unfolding Field.reader_next
  next_moves ob at start n left has h =
      stands n (counts o b m path ob at start n left (starts o b m path ob at start n left has)) ∙ ap (λ (t : Bool). pick t (j + 1) j) (lt-ltb j n h)

  pub next_stays : (ob : Object) (at start n left : ℕ) → LeadsToList o b m path ob at start n left → n ≤ j → k ≡ j
  unfolding Field.reader_next
  next_stays ob at start n left has h =
      stands n (counts o b m path ob at start n left (starts o b m path ob at start n left has)) ∙ ap (λ (t : Bool). pick t (j + 1) j) (le-ltb j n h)

  next_refused : (r : Refusal) → Field.reader_start o b m path ≡ Fd.Refused r → k ≡ j
  unfolding Field.reader_next
  next_refused r e =
      stands 0 (gives-refusal o b m path r e).0 ∙ ap (λ (t : Bool). pick t (j + 1) j) (le-ltb j 0 (omega arith))

-- ---- one step: both
module _ (o : ℕ) (b m path : List ℕ) (j : ℕ) (s : ListStep) (ea : s.answer ≡ Field.reader_gives o b m path j)
    (en : s.next ≡ Field.reader_next (Field.reader_count o b m path) j) where
  both : (q : Answer) (k : ℕ) → s.answer ≡ q → s.next ≡ k → s ≡ record { answer = q; next = k }
  both q k e f = λ i. record { answer = e i; next = f i }

  pub step_same : (element : List ℕ) (r : Answer) → r ≡ Field.field o b m element → (ob : Object) (at start n left : ℕ)
      → LeadsToList o b m path ob at start n left
      → (element ≡ path ++ j ∷ [] → s.answer ≡ r) × (j < n → s.next ≡ j + 1)
  step_same element r er ob at start n left has =
      (steps-same o b m path j s.answer ea element r er ob at start n left has, next_moves o b m path j s.next en ob at start n left has)

  pub step_end : (ob : Object) (at start n left : ℕ) → LeadsToList o b m path ob at start n left → n ≤ j → s ≡ record { answer = A.Refused (refusal 15 at); next = j }
  step_end ob at start n left has l =
      both _ _ (steps-end o b m path j s.answer ea ob at start n left has l) (next_stays o b m path j s.next en ob at start n left has l)

  refused : (r : Refusal) → Field.reader_start o b m path ≡ Fd.Refused r → s ≡ record { answer = A.Refused r; next = j }
  refused r e = both _ _ (step_refused o b m path j s.answer ea r e) (next_refused o b m path j s.next en r e)

  pub step_own : (r : Refusal) → Field.field o b m path ≡ A.Refused r → s ≡ record { answer = A.Refused r; next = j }
  step_own r e = refused r (refused_path o b m path r e)

  pub step_other : ((r : Refusal) → Field.field o b m path ≡ A.Refused r → ⊥) → NoList (parse b) (Field.field_found o b m path)
      → s ≡ record { answer = A.Refused (refusal 15 0); next = j }
  step_other free none = refused (refusal 15 0) (other o b m path free none)

-- ---- a step of the reader
module _ (r : ListReader) (q : Answer) (eq : q ≡ gives r) (r' : ListReader) (er : r' ≡ after r) where
  abbrev step : ListStep
  step = record { answer = q; next = (after r).element }

  whole : (k : Answer) (j : ℕ) → step ≡ record { answer = k; next = j } → (q ≡ k) × (r' ≡ at_element r j)
  whole k j e = (ap (λ (s : ListStep). s.answer) e, er ∙ ap (λ (s : ListStep). at_element r s.next) e)

  pub reader_steps : Stepped r q r'
  reader_steps = record {
    answers = eq;
    goes = er;
    moves = λ ob at start n left l.
        let e = step_same r.width _ _ r.path.now r.element step eq refl _ _ refl ob at start n left l in
        (e.0 refl, λ h. er ∙ ap (at_element r) (e.1 h));
    stays = λ ob at start n left l h. whole _ _ (step_end r.width _ _ r.path.now r.element step eq refl ob at start n left l h);
    own = λ x e. whole _ _ (step_own r.width _ _ r.path.now r.element step eq refl x e);
    other = λ free none. whole _ _ (step_other r.width _ _ r.path.now r.element step eq refl free none);
  }

-- ---- many steps
module _ (o : ℕ) (b m path : List ℕ) (from : ℕ) (out out' : List ℕ) (r : ℕ) (er : r ≡ Field.reader_count o b m path)
    (eo : out' ≡ Field.reader_over o b m path from out) where
  numbers : (k : ℕ) (q : Answer) → k < length out / 4 → Field.reader_gives o b m path (from + k) ≡ q
      → take 4 (drop (4 * k) out') ≡ Field.case_numbers (Field.answer_case q)
  numbers k q h e =
      ap (λ (l : List ℕ). take 4 (drop (4 * k) l)) eo
      ∙ over-gives o b m path from out k h
      ∙ ap (λ (q : Answer). Field.case_numbers (Field.answer_case q)) e

  pub all_each : (ob : Object) (at start n left : ℕ) → LeadsToList o b m path ob at start n left
      → (r ≡ n) × HoldsAnswers out' (length out / 4) (λ k. Field.field o b m (path ++ (from + k) ∷ []))
  all_each ob at start n left has =
      let e = starts o b m path ob at start n left has in (
        er ∙ counts o b m path ob at start n left e,
        λ k h. numbers k _ h (gives_path o b m path ob at start n left e (from + k)),
      )

  all_refused : (q : Refusal) → Field.reader_start o b m path ≡ Fd.Refused q
      → (r ≡ 0) × HoldsAnswers out' (length out / 4) (λ _. A.Refused q)
  all_refused q e =
      let y = gives-refusal o b m path q e in (er ∙ y.0, λ k h. numbers k _ h (y.1 (from + k)))

  pub all_own : (q : Refusal) → Field.field o b m path ≡ A.Refused q
      → (r ≡ 0) × HoldsAnswers out' (length out / 4) (λ _. A.Refused q)
  all_own q e = all_refused q (refused_path o b m path q e)

  pub all-other : ((q : Refusal) → Field.field o b m path ≡ A.Refused q → ⊥) → NoList (parse b) (Field.field_found o b m path)
      → (r ≡ 0) × HoldsAnswers out' (length out / 4) (λ _. A.Refused (refusal 15 0))
  all-other free none = all_refused (refusal 15 0) (other o b m path free none)
