-- What the answer of reading to a sheet says: number 0 is an accepted message whose sheet was handed out.
use mathlib.Core.Path.{◌≡◌, refl, sym, ap, ◌∙◌}
use mathlib.Core.Bool.{Bool, true, false, ◌&&◌}
use mathlib.Core.List.{List, ◌++◌}
use mathlib.Core.Logic.{◌⊎◌, inl, inr}
use Prim.Native.Nat.{ℕ, ◌<◌, ◌≤◌}
use native.Mathlib.Omega.{arith}
use lib.ListN.{length, take, drop, length-append}
use lib.Seq.{take-append_seam, length-take-le}
use lib.Dec.{leb, eqb}
use borrow.Author.Tests.{eqb-true, eqb-false, eq-eqb, ne_eqb, leb-true, le-leb, lt-leb}
use Rattle.coding.specs.Lists.{pick}
use Rattle.coding.specs.Bytes.{largest}
use Rattle.coding.specs.Walk.{at_zero, spent_of, verdict}
use Rattle.coding.specs.Message.{message_sheet, fits_room, read_answer, read_out}
use Rattle.coding.specs.declared.Budget.{Budget}
use Rattle.coding.specs.declared.ReadAnswer.{ReadAnswer}
use Rattle.coding.specs.declared.Spent.{Spent}
use Rattle.coding.specs.declared.Verdict.{Verdict}
use Rattle.promises.specs.Words.{NoRoom, HandsOut, KeepsOnRefusal}

-- the sheet of an accepted message stands in the output
pub record Handed (o : ℕ) (b m : List ℕ) (budget : Budget) (a : ReadAnswer) (out : List ℕ) : Type 0 where
  pub accepted : (verdict o b m budget).number ≡ 0
  pub sheet : take a.length out ≡ message_sheet o b m
  pub sized : length (message_sheet o b m) ≤ largest
  pub spent : spent_of a.verdict ≡ spent_of (verdict o b m budget)

fits-size : (l : List ℕ) (t : Bool) → leb (length l) largest && t ≡ true → length l ≤ largest
fits-size l t h = by (leb (length l) largest) refl h
  where
    by : (s : Bool) → leb (length l) largest ≡ s → s && t ≡ true → length l ≤ largest
    by true e h = leb-true _ _ e
    by false e h = absurd (let z : ◌≡◌ {A = ℕ} 0 1 = cc in omega arith)

fits_out : (s : Bool) (l out : List ℕ) → s && leb (length l) (length out) ≡ true → length l ≤ length out
fits_out true l out h = leb-true _ _ h
fits_out false l out h = absurd (let z : ◌≡◌ {A = ℕ} 0 1 = cc in omega arith)

not_out : (s t : Bool) → t ≡ false → s && t ≡ false
not_out true t e = e
not_out false t e = refl

not_fits : (l out : List ℕ) → (largest < length l) ⊎ (length out < length l) → fits_room l out ≡ false
unfolding fits_room
not_fits l out (inl h) = rw (lt-leb (length l) largest h)
not_fits l out (inr h) = not_out (leb (length l) largest) (leb (length l) (length out)) (lt-leb (length l) (length out) h)

module _ (o : ℕ) (b m : List ℕ) (budget : Budget) (out : List ℕ) where
  abbrev judged : Verdict
  judged = verdict o b m budget

  abbrev sheet : List ℕ
  sheet = message_sheet o b m

  abbrev answer_by : Bool → Bool → ReadAnswer
  answer_by s t =
      pick s
      (pick t
      (record { verdict = judged; length = length sheet })
      (record { verdict = at_zero 14 (spent_of judged); length = 0 }))
      (record { verdict = judged; length = 0 })

  abbrev out_by : Bool → Bool → List ℕ
  out_by s t = pick s (pick t (sheet ++ drop (length sheet) out) out) out

  handed_by : (s t : Bool) → eqb judged.number 0 ≡ s → fits_room sheet out ≡ t → (answer_by s t).verdict.number ≡ 0
      → Handed o b m budget (answer_by s t) (out_by s t)
  unfolding fits_room
  handed_by true true e f h =
      record { accepted = h; sheet = take-append_seam sheet (drop (length sheet) out); sized = fits-size sheet _ f; spent = refl }
  handed_by true false e f h = absurd (omega arith)
  handed_by false t e f h = absurd (eqb-false _ _ e h)

  pub handed : (a : ReadAnswer) (out' : List ℕ) → a ≡ read_answer o b m budget out → out' ≡ read_out o b m budget out → a.verdict.number ≡ 0
      → Handed o b m budget a out'
  unfolding read_answer read_out
  handed a out' ea eo h =
      rw (ea, eo) (handed_by _ _ refl refl (ap (λ (x : ReadAnswer). x.verdict.number) (sym ea) ∙ h))

  within_by : (s t : Bool) → (answer_by s t).length ≤ length (out_by s t)
  within_by true true = omega (arith, length-append sheet (drop (length sheet) out))
  within_by true false = omega arith
  within_by false t = omega arith

  -- what is handed out lies in the output
  pub read-within : (a : ReadAnswer) (out' : List ℕ) → a ≡ read_answer o b m budget out → out' ≡ read_out o b m budget out → a.length ≤ length out'
  unfolding read_answer read_out
  read-within a out' ea eo = rw (ea, eo) (within_by (eqb judged.number 0) (fits_room sheet out))

  pub read-part : (a : ReadAnswer) (out' : List ℕ) → a ≡ read_answer o b m budget out → out' ≡ read_out o b m budget out
      → a.length ≡ length (take a.length out')
  read-part a out' ea eo = sym (length-take-le a.length out' (read-within a out' ea eo))

  -- what is handed out is the sheet of the rules
  pub hands_out : (a : ReadAnswer) (out' : List ℕ) → a ≡ read_answer o b m budget out → out' ≡ read_out o b m budget out
      → HandsOut a out' (message_sheet o b m)
  hands_out a out' ea eo h = (handed a out' ea eo h).sheet

  read_by : (s t : Bool) → eqb judged.number 0 ≡ s → judged.number ≡ 0
      → (((answer_by s t).verdict.number ≡ 0) ⊎ ((answer_by s t).verdict.number ≡ 14)) × (spent_of (answer_by s t).verdict ≡ spent_of judged)
  read_by true true e h = (inl h, refl)
  read_by true false e h = (inr refl, refl)
  read_by false t e h = (inl h, refl)

  -- an accepted message is read, or there is no room; either way with all that was spent
  pub read-or_room : (a : ReadAnswer) → a ≡ read_answer o b m budget out → judged.number ≡ 0
      → ((a.verdict.number ≡ 0) ⊎ (a.verdict.number ≡ 14)) × (spent_of a.verdict ≡ spent_of judged)
  unfolding read_answer
  read-or_room a ea h = rw ea (read_by _ (fits_room sheet out) refl h)

  -- where its sheet fits, it is read
  pub fits_read : (a : ReadAnswer) → a ≡ read_answer o b m budget out → judged.number ≡ 0 → length sheet ≤ largest → length sheet ≤ length out
      → a.verdict.number ≡ 0
  unfolding read_answer fits_room
  fits_read a ea h l r =
      ap (λ (x : ReadAnswer). x.verdict.number) ea
      ∙ rw (eq-eqb judged.number 0 h, le-leb (length sheet) largest l, le-leb (length sheet) (length out) r) h

  fits_by : (s t : Bool) → eqb judged.number 0 ≡ s → fits_room sheet out ≡ t → (answer_by s t).verdict.number ≡ 0
      → (judged.number ≡ 0) × (length sheet ≤ largest) × (length sheet ≤ length out)
  unfolding fits_room
  fits_by true true e f h = (h, fits-size sheet _ f, fits_out (leb (length sheet) largest) sheet out f)
  fits_by true false e f h = absurd (omega arith)
  fits_by false t e f h = absurd (eqb-false _ _ e h)

  -- and only where it fits
  pub read_fits : (a : ReadAnswer) → a ≡ read_answer o b m budget out → a.verdict.number ≡ 0
      → (judged.number ≡ 0) × (length sheet ≤ largest) × (length sheet ≤ length out)
  unfolding read_answer
  read_fits a ea h = fits_by _ _ refl refl (ap (λ (x : ReadAnswer). x.verdict.number) (sym ea) ∙ h)

  -- "then 14 with the full visits", and the full content
  pub no_room : (t : Spent) (a : ReadAnswer) → a ≡ read_answer o b m budget out → judged ≡ at_zero 0 t
      → NoRoom sheet out → a ≡ record { verdict = at_zero 14 t; length = 0 }
  unfolding read_answer
  no_room t a ea h x = ea ∙ rw (h, not_fits sheet out x)

  -- "Reading to a sheet gives the verdict's refusal first"
  pub gives-refusal : (a : ReadAnswer) → a ≡ read_answer o b m budget out → (judged.number ≡ 0 → ⊥) → a ≡ record { verdict = judged; length = 0 }
  unfolding read_answer
  gives-refusal a ea h = ea ∙ rw (ne_eqb judged.number 0 h)

  pub keeps_output : (out' : List ℕ) → out' ≡ read_out o b m budget out → (judged.number ≡ 0 → ⊥) → out' ≡ out
  unfolding read_out
  keeps_output out' eo h = eo ∙ rw (ne_eqb judged.number 0 h)

  kept_by : (s t : Bool) → eqb judged.number 0 ≡ s → ((answer_by s t).verdict.number ≡ 0 → ⊥)
      → ((answer_by s t).length ≡ 0) × (out_by s t ≡ out)
  kept_by true true e h = absurd (h (eqb-true _ _ e))
  kept_by true false e h = (refl, refl)
  kept_by false t e h = (refl, refl)

  -- "on refusal the length is 0 and the output is unchanged"
  pub refused_kept : (a : ReadAnswer) (out' : List ℕ) → a ≡ read_answer o b m budget out → out' ≡ read_out o b m budget out
      → KeepsOnRefusal a.verdict.number a.length out out'
  unfolding read_answer read_out
  refused_kept a out' ea eo h =
      rw (ea, eo) (kept_by _ (fits_room sheet out) refl (λ z. h (ap (λ (x : ReadAnswer). x.verdict.number) ea ∙ z)))
