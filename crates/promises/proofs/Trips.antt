-- The demands of writing, of what the writer and then the reader answer.
use mathlib.Core.Path.{◌≡◌, sym, ap, ◌∙◌, subst}
use mathlib.Core.Bool.{true}
use mathlib.Core.List.{List, ◌++◌}
use mathlib.Core.Logic.{◌⊎◌}
use Prim.Native.Nat.{ℕ, suc, ◌+◌, ◌<◌, ◌≤◌}
use native.Mathlib.Omega.{arith}
use lib.ListN.{length, take, drop}
use borrow.Author.Tests.{le-leb}
use Rattle.coding.specs.Packed.{parse}
use Rattle.coding.specs.Lawful.{lawful}
use Rattle.coding.specs.Positions.{with_table}
use Rattle.coding.specs.Walk.{refusal, spending, verdict_at, at_zero, spent_of, verdict}
use Rattle.coding.specs.Value.{Value}
use Rattle.coding.specs.Message.{message, message_of, message_sheet, written, write_room, write_over, write_answer, write_out, read_answer, read_out}
use Rattle.coding.specs.Append.{Appends, sheet_with}
use Rattle.coding.specs.declared.Budget.{Budget}
use Rattle.coding.specs.declared.Verdict.{Verdict}
use Rattle.coding.specs.declared.ReadAnswer.{ReadAnswer}
use Rattle.coding.specs.declared.WriteAnswer.{WriteAnswer}
use Rattle.demands.specs.Appending.{AreBytes}
use Rattle.demands.specs.InTurn.{total}
use Rattle.demands.specs.RoundTrip.{sheet_lengths, enough, Short, no-visit, no-content, written-layout, written-verdict, written-sheet}
use Rattle.demands.specs.RoundTrip.{written_too_little, written_few_visits, written_little-content, written_answer, written_out}
use Rattle.demands.specs.Spending.{Affords}
use Rattle.demands.specs.NewerAgrees.{newer_agrees}
use Rattle.demands.specs.WrittenSheet.{WrittenAs, written_as}
use Rattle.promises.specs.Words.{TableOf, Fits, HandsOut, Writable, layout_of}
use Rattle.promises.proofs.Tables.{verdict_by, answer_by_lem, out_by_lem}
use Rattle.promises.proofs.Reading.{hands_out, read-or_room, gives-refusal, keeps_output}
use Rattle.promises.proofs.Writing.{made}

-- ---- writing
pub lays_out : (o : ℕ) (b s out : List ℕ) (a : WriteAnswer) → a ≡ write_answer o b s out → (out' : List ℕ) → out' ≡ write_out o b s out → (v : Value)
    → Writable o b s v → Fits (layout_of o b v) out
    → (a ≡ record { number = 0; length = length (layout_of o b v) }) × (out' ≡ layout_of o b v ++ drop (length (layout_of o b v)) out)
unfolding write_answer write_out write_room write_over
lays_out o b s out a ea out' eo v w z =
    let e = (written-layout o b s v w.0 w.1 w.2).0 z.0 in
    let f = le-leb (length (message_of o (parse b) v)) (length out) z.1 in
    (ea ∙ rw (e, f), eo ∙ rw (e, f))

pub lays_out_only : (o : ℕ) (b s out : List ℕ) (a : WriteAnswer) → a ≡ write_answer o b s out → (out' : List ℕ) → out' ≡ write_out o b s out
    → a.number ≡ 0 → WrittenAs o b s (take a.length out')
lays_out_only o b s out a ea out' eo h = written_as o b s (take a.length out') (made o b s out a ea out' eo h)

-- ---- writing, then reading
-- with less of either allowance there is a refusal
short-number : (budget : Budget) (cs : List ℕ) (v : Verdict) → Short budget cs v → v.number ≡ 0 → ⊥
short-number budget cs v (no-visit at l c e) h = let z : v.number ≡ 4 = ap (λ (x : Verdict). x.number) e in omega arith
short-number budget cs v (no-content at k l n c m e) h = let z : v.number ≡ 17 = ap (λ (x : Verdict). x.number) e in omega arith

module _ (o : ℕ) (b s : List ℕ) (schema_bytes : AreBytes b) (sheet_bytes : AreBytes s) (room room' : List ℕ) (w : WriteAnswer)
    (ew : w ≡ write_answer o b s room) (er : room' ≡ write_out o b s room) (h : w.number ≡ 0) where
  is_made : written o b s ≡ message (take w.length room')
  is_made = made o b s room w ew room' er h

  -- the rules give the sheet of which the message was made
  pub trip-sheet : message_sheet o b (take w.length room') ≡ s
  trip-sheet = written-sheet o b s (take w.length room') schema_bytes sheet_bytes is_made

  good : lawful o b ≡ true
  good = (lays_out_only o b s room w ew room' er h).schema

  module _ (t : List ℕ) (budget : Budget) (out out' : List ℕ) (a : ReadAnswer) (e : a ≡ read_answer o (with_table o b t) (take w.length room') budget out)
      (f : out' ≡ read_out o (with_table o b t) (take w.length room') budget out) (table : TableOf o b t) where
    ea : a ≡ read_answer o b (take w.length room') budget out
    ea = answer_by_lem o b t table good (take w.length room') budget out a e

    eo : out' ≡ read_out o b (take w.length room') budget out
    eo = out_by_lem o b t table good (take w.length room') budget out out' f

    pub reads_back : Affords budget (enough o b s) → length s ≤ length out
        → (a ≡ record { verdict = at_zero 0 (enough o b s); length = length s }) × (out' ≡ s ++ drop (length s) out)
    reads_back l r = (
      ea ∙ written_answer o b s (take w.length room') schema_bytes sheet_bytes is_made budget out l r,
      eo ∙ written_out o b s (take w.length room') schema_bytes sheet_bytes is_made budget out l r,
    )

    pub falls_short : (budget.visits < (enough o b s).visits) ⊎ (budget.content < (enough o b s).content)
        → Short budget (sheet_lengths o b s) a.verdict × (a.length ≡ 0) × (out' ≡ out)
    falls_short l =
        let m = take w.length room' in
        let t = written_too_little o b s m schema_bytes sheet_bytes is_made budget l in
        let n = short-number budget (sheet_lengths o b s) (verdict o b m budget) t in
        let e = gives-refusal o b m budget out a ea n in (
          subst (λ (x : Verdict). Short budget (sheet_lengths o b s) x) (sym (ap (λ (x : ReadAnswer). x.verdict) e)) t,
          ap (λ (x : ReadAnswer). x.length) e,
          keeps_output o b m budget out out' eo n,
        )

    pub few_visits : budget.visits < (enough o b s).visits → (enough o b s).content ≤ budget.content
        → (at : ℕ) × (a ≡ record { verdict = verdict_at (refusal 4 at) (spending budget.visits (total (take budget.visits (sheet_lengths o b s)))); length = 0 })
        × (out' ≡ out)
    unfolding read_answer read_out
    few_visits l c =
        let t = written_few_visits o b s (take w.length room') schema_bytes sheet_bytes is_made budget l c in
        (t.0, ea ∙ rw t.1, eo ∙ rw t.1)

    pub little-content : (enough o b s).visits ≤ budget.visits → budget.content < (enough o b s).content
        → (k at : ℕ) × (total (take k (sheet_lengths o b s)) ≤ budget.content) × (budget.content < total (take (suc k) (sheet_lengths o b s)))
        × (a ≡ record { verdict = verdict_at (refusal 17 at) (spending (k + 1) (total (take k (sheet_lengths o b s)))); length = 0 })
        × (out' ≡ out)
    unfolding read_answer read_out
    little-content l c =
        let t = written_little-content o b s (take w.length room') schema_bytes sheet_bytes is_made budget l c in
        (t.0, t.3.0, t.1, t.2, ea ∙ rw t.3.1, eo ∙ rw t.3.1)

  -- ---- writing under the older schema, then reading by the newer
  module _ (newer : List ℕ) (appends : Appends o b newer) where
    pub same-verdict : (t u : List ℕ) (budget : Budget) (r q : Verdict) → r ≡ verdict o (with_table o b t) (take w.length room') budget
        → q ≡ verdict o (with_table o newer u) (take w.length room') budget → TableOf o b t → TableOf o newer u → q ≡ r
    same-verdict t u budget r q e f first second =
        verdict_by o newer u second appends.newer-lawful (take w.length room') budget q f
        ∙ (newer_agrees o b newer s (take w.length room') schema_bytes sheet_bytes appends is_made).verdicts budget
        ∙ sym (verdict_by o b t first appends.older-lawful (take w.length room') budget r e)

    pub added-sheet : message_sheet o newer (take w.length room') ≡ sheet_with o b newer s
    added-sheet = (newer_agrees o b newer s (take w.length room') schema_bytes sheet_bytes appends is_made).newer-sheet

    module _ (u : List ℕ) (budget : Budget) (out out' : List ℕ) (a : ReadAnswer)
        (e : a ≡ read_answer o (with_table o newer u) (take w.length room') budget out)
        (f : out' ≡ read_out o (with_table o newer u) (take w.length room') budget out) (table : TableOf o newer u) where
      ea' : a ≡ read_answer o newer (take w.length room') budget out
      ea' = answer_by_lem o newer u table appends.newer-lawful (take w.length room') budget out a e

      eo' : out' ≡ read_out o newer (take w.length room') budget out
      eo' = out_by_lem o newer u table appends.newer-lawful (take w.length room') budget out out' f

      pub reads_added : Affords budget (enough o b s)
          → ((a.verdict.number ≡ 0) ⊎ (a.verdict.number ≡ 14)) × (spent_of a.verdict ≡ enough o b s)
      reads_added l =
          let m = take w.length room' in
          let agrees = newer_agrees o b newer s m schema_bytes sheet_bytes appends is_made in
          let v = agrees.verdicts budget ∙ written-verdict o b s m schema_bytes sheet_bytes is_made budget l in
          let y = read-or_room o newer m budget out a ea' (ap (λ (x : Verdict). x.number) v) in
          (y.0, y.1 ∙ ap (λ (x : Verdict). spent_of x) v)

      pub hands_added : HandsOut a out' (sheet_with o b newer s)
      hands_added h = hands_out o newer (take w.length room') budget out a out' ea' eo' h ∙ added-sheet
