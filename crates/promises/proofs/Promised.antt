-- The demands, of what the called functions answer.
use mathlib.Core.Path.{◌≡◌, refl, sym, ap, ◌∙◌, subst}
use mathlib.Core.Bool.{true}
use mathlib.Core.List.{List}
use mathlib.Core.Logic.{◌↔◌, ◌⊎◌}
use mathlib.Core.Option.{some}
use Prim.Native.Nat.{ℕ, ◌≤◌}
use lib.ListN.{length, take}
use Rattle.coding.specs.Packed.{parse}
use Rattle.coding.specs.Walk as W
use Rattle.coding.specs.Walk.{at_zero, spent_of, verdict}
use Rattle.coding.specs.Read.{message_read}
use Rattle.coding.specs.Sheet.{sheet_tree}
use Rattle.coding.specs.Message.{message_sheet, read_answer, read_out}
use Rattle.coding.specs.Field as Field
use Rattle.coding.specs.Append.{Appends, sheet_without}
use Rattle.coding.specs.Positions.{with_table}
use Rattle.coding.specs.declared.Answer.{Answer}
use Rattle.coding.specs.declared.Answer.TheVariants as A
use Rattle.coding.specs.declared.Budget.{Budget}
use Rattle.coding.specs.declared.Refusal.{Refusal}
use Rattle.std.specs.Prelude.{Option, Some, None, IsSome}
use Rattle.coding.specs.declared.Content.{Content}
use Rattle.coding.specs.declared.Spent.{Spent}
use Rattle.coding.specs.declared.Verdict.{Verdict}
use Rattle.coding.specs.declared.ReadAnswer.{ReadAnswer}
use Rattle.demands.specs.Arrivals.{LawfulMessage}
use Rattle.demands.specs.BiggerAllowance.{Raises, Settled, Becomes, same-verdict, verdict_becomes, same-exactly, same_answer, same_out}
use Rattle.demands.specs.Spending.{Affords}
use Rattle.demands.specs.ThreeSchemas.{three_agree}
use Rattle.demands.specs.Reached.{accepted-exactly, accepted_visits, accepted-content, lawful-verdict}
use Rattle.demands.specs.Sheets.{verdict-sheet-lawful}
use Rattle.demands.specs.Appending.{AreBytes, OlderAgrees, older_accepts, older_agrees}
use Rattle.demands.specs.FieldEntries.{shown}
use Rattle.demands.specs.Fields.{sheet_entry_lem, field-refusal}
use Rattle.demands.specs.Texts.{IsText, part_answers, text-part}
use Rattle.demands.specs.SheetText.{sheet-text}
use Rattle.laws.specs.Lists.{never}
use Rattle.promises.specs.Words.{TableOf, Accepts, costs, arrivals, contents, Fits, NoRoom, HandsOut, CutDown, entry_at, text_at}
use Rattle.promises.proofs.Tables.{verdict_by, answer_by_lem, out_by_lem}
use Rattle.promises.proofs.Reading.{handed, hands_out, read-or_room, fits_read, read_fits, no_room}

-- ---- judging
module _ (o : ℕ) (b m : List ℕ) (budget : Budget) (r : Verdict) (e : r ≡ verdict o b m budget) where
  pub judges-exactly : (r.number ≡ 0) ↔ LawfulMessage o b m budget
  judges-exactly = rw e (accepted-exactly o b m budget)

  pub judges-arrivals : r.number ≡ 0 → r.visits ≡ arrivals o b m
  judges-arrivals = rw e (accepted_visits o b m budget)

  pub judges-content : r.number ≡ 0 → r.content ≡ contents o b m
  judges-content = rw e (accepted-content o b m budget)

module _ (o : ℕ) (older newer t u m : List ℕ) (budget : Budget) (older-bytes : AreBytes older) (r s : Verdict)
    (er : r ≡ verdict o (with_table o older t) m budget) (es : s ≡ verdict o (with_table o newer u) m budget) where
  pub both_judge : Appends o older newer → TableOf o older t → TableOf o newer u → s.number ≡ 0
      → (r.number ≡ 0) × (r.visits ≤ s.visits) × (r.content ≤ s.content)
  both_judge appends first second =
      rw (verdict_by o older t first appends.older-lawful m budget r er, verdict_by o newer u second appends.newer-lawful m budget s es)
      (λ h. let y = older_accepts o older newer older-bytes appends m budget h in (y.0, y.1.visits, y.1.content))

-- ---- reading to a sheet
module _ (o : ℕ) (b m : List ℕ) (budget : Budget) (out : List ℕ) (a : ReadAnswer) (ea : a ≡ read_answer o b m budget out) where
  pub reads-exactly : (a.verdict.number ≡ 0)
      ↔ (LawfulMessage o b m budget × Fits (message_sheet o b m) out)
  reads-exactly = (
    λ h. let y = read_fits o b m budget out a ea h in ((accepted-exactly o b m budget).0 y.0, (y.1, y.2)),
    λ h. fits_read o b m budget out a ea ((accepted-exactly o b m budget).1 h.0) h.1.0 h.1.1,
  )

  pub reads-arrivals : a.verdict.number ≡ 0 → a.verdict.visits ≡ arrivals o b m
  reads-arrivals h =
      let y = handed o b m budget out a _ ea refl h in
      ap (λ (x : Spent). x.visits) y.spent ∙ accepted_visits o b m budget y.accepted

  pub reads-content : a.verdict.number ≡ 0 → a.verdict.content ≡ contents o b m
  reads-content h =
      let y = handed o b m budget out a _ ea refl h in
      ap (λ (x : Spent). x.content) y.spent ∙ accepted-content o b m budget y.accepted

  pub reads_room : LawfulMessage o b m budget → NoRoom (message_sheet o b m) out
      → a ≡ record { verdict = at_zero 14 (costs o b m); length = 0 }
  reads_room h = no_room o b m budget out _ a ea (lawful-verdict o b m budget h)

module _ (o : ℕ) (b m : List ℕ) (schema_bytes : AreBytes b) (message_bytes : AreBytes m) (budget : Budget) (out : List ℕ) (a : ReadAnswer) (out' : List ℕ)
    (ea : a ≡ read_answer o b m budget out) (eo : out' ≡ read_out o b m budget out) where
  pub reads-lawful : a.verdict.number ≡ 0 → sheet_tree (parse b) (take a.length out') ≡ some (message_read o (parse b) m)
  reads-lawful h =
      let got = handed o b m budget out a out' ea eo h in
      rw got.sheet (verdict-sheet-lawful o b m schema_bytes message_bytes budget got.accepted got.sized)

-- ---- by the older schema, what the newer accepts
module _ (o : ℕ) (older newer t m : List ℕ) (older-bytes : AreBytes older) (newer-bytes : AreBytes newer) (message_bytes : AreBytes m) (budget : Budget)
    (out out' : List ℕ) (a : ReadAnswer) (ea : a ≡ read_answer o (with_table o older t) m budget out)
    (eo : out' ≡ read_out o (with_table o older t) m budget out) (appends : Appends o older newer) (table : TableOf o older t)
    (accepted : Accepts o newer m budget) where
  agrees : OlderAgrees o older newer m budget
  agrees = older_agrees o older newer m older-bytes newer-bytes message_bytes appends budget accepted

  pub older_reads : (a.verdict.number ≡ 0) ⊎ (a.verdict.number ≡ 14)
  older_reads =
      (read-or_room o older m budget out a (answer_by_lem o older t table appends.older-lawful m budget out a ea) agrees.accepts).0

  pub older_hands_out : HandsOut a out' (sheet_without older newer (message_sheet o newer m))
  older_hands_out h =
      hands_out o older m budget out a out' (answer_by_lem o older t table appends.older-lawful m budget out a ea)
      (out_by_lem o older t table appends.older-lawful m budget out out' eo) h
      ∙ agrees.sheet

-- ---- with two budgets
module _ (o : ℕ) (b m : List ℕ) (less more : Budget) where
  module _ (r s : Verdict) (er : r ≡ verdict o b m less) (es : s ≡ verdict o b m more) (raises : Raises less more) where
    pub more_same : Settled r → s ≡ r
    more_same = rw (er, es) (same-verdict o b m less more raises)

    pub more_further : Becomes less r s
    more_further = rw (er, es) (verdict_becomes o b m less more raises)

    pub more-exactly : (s ≡ r) ↔ Affords less (spent_of s)
    more-exactly = rw (er, es) (same-exactly o b m less more raises)

  module _ (out out' : List ℕ) (r s : ReadAnswer) (er : r ≡ read_answer o b m less out) (es : s ≡ read_answer o b m more out')
      (raises : Raises less more) where
    pub more_answer : Settled r.verdict → length out' ≡ length out → s ≡ r
    more_answer = rw (er, es) (λ h room. same_answer o b m less more raises out h out' room)

    pub more_out : (end end' : List ℕ) → end ≡ read_out o b m less out → end' ≡ read_out o b m more out' → Settled r.verdict → out' ≡ out
        → end' ≡ end
    more_out end end' ee ef = rw (er, ee, ef) (λ h e. ap (read_out o b m more) e ∙ same_out o b m less more raises out h)

-- ---- by three schemas, what the newest accepts
module _ (o : ℕ) (oldest middle newest m : List ℕ) (oldest-bytes : AreBytes oldest) (middle-bytes : AreBytes middle)
    (newest-bytes : AreBytes newest) (message_bytes : AreBytes m) (budget : Budget) where
  pub three-read : (t u out first : List ℕ) (a : ReadAnswer) → a ≡ read_answer o (with_table o oldest t) m budget out
      → first ≡ read_out o (with_table o oldest t) m budget out → (out' second : List ℕ) (b : ReadAnswer)
      → b ≡ read_answer o (with_table o middle u) m budget out' → second ≡ read_out o (with_table o middle u) m budget out'
      → Appends o oldest middle → Appends o middle newest → TableOf o oldest t → TableOf o middle u → Accepts o newest m budget
      → CutDown a first b second oldest middle newest (message_sheet o newest m)
  three-read t u out first a ea eo out' second b eb ep one two one_table two-table h =
      let x = three_agree o oldest middle newest m oldest-bytes middle-bytes newest-bytes message_bytes one two budget h in
      let ha = answer_by_lem o oldest t one_table one.older-lawful m budget out a ea in
      let ho = out_by_lem o oldest t one_table one.older-lawful m budget out first eo in
      let hb = answer_by_lem o middle u two-table one.newer-lawful m budget out' b eb in
      let hp = out_by_lem o middle u two-table one.newer-lawful m budget out' second ep in
      record {
        oldest_reads = (read-or_room o oldest m budget out a ha x.oldest_agrees.accepts).0;
        middle_reads = (read-or_room o middle m budget out' b hb x.middle_agrees.accepts).0;
        to-middle = λ n. hands_out o middle m budget out' b second hb hp n ∙ x.middle_agrees.sheet;
        twice = x.cut_twice;
        to_oldest = λ n. hands_out o oldest m budget out a first ha ho n ∙ x.at_once.sheet;
      }

-- ---- one field of an accepted message
module _ (o : ℕ) (b m : List ℕ) (schema_bytes : AreBytes b) (message_bytes : AreBytes m) (path : List ℕ) (budget : Budget)
    (accepted : Accepts o b m budget) (short : length path ≤ 96) where
  pub shows_entry : (q : Answer) → q ≡ Field.field o b m path → shown q ≡ entry_at b (message_sheet o b m) path
  shows_entry q eq = ap shown eq ∙ sheet_entry_lem o b m schema_bytes message_bytes budget accepted path short

  pub shows-refusal : (q : Answer) → q ≡ Field.field o b m path → (r : Refusal) → q ≡ A.Refused r → r.number ≡ 15
  shows-refusal q eq r e = field-refusal o b schema_bytes m budget accepted path short r (sym eq ∙ e)

  pub shows-text : (p : Option Content) → p ≡ Field.field_span o b m path → Field.text_of m p ≡ text_at b (message_sheet o b m) path
  unfolding Field.field_text
  shows-text p ep = ap (Field.text_of m) ep ∙ sheet-text o b m schema_bytes message_bytes budget accepted path short

-- ---- a text or bytes
module _ (o : ℕ) (b m path : List ℕ) (p : Option Content) (ep : p ≡ Field.field_span o b m path) where
  pub there_long : (k at n : ℕ) → Field.field o b m path ≡ A.Object k at n → IsText k → (start : ℕ) × (p ≡ Some (W.content_at start n))
  there_long k at n e t = let y = text-part o b m path k at n e t in (y.0, ep ∙ y.1)

  pub there-exactly : IsSome p ↔ ((k at n : ℕ) × (Field.field o b m path ≡ A.Object k at n) × IsText k)
  there-exactly = (λ h. by p refl h, λ y. let z = there_long y.0 y.1 y.2 y.3 y.4 in subst IsSome (sym z.1) refl)
    where
      by : (q : Option Content) → p ≡ q → IsSome q → (k at n : ℕ) × (Field.field o b m path ≡ A.Object k at n) × IsText k
      by None e h = never h
      by (Some c) e h = let y = part_answers o b m path c (sym ep ∙ e) in (y.0, y.1, c.length, y.2, y.3)
