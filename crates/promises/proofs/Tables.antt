-- The table of member positions that is lent: what a reader answers with the one that is built from its schema, and with any other.
use mathlib.Core.Path.{◌≡◌, refl, sym, ap, ◌∙◌, subst}
use mathlib.Core.Bool.{Bool, true, false}
use mathlib.Core.List.{List, ◌++◌}
use Prim.Native.Nat.{ℕ, ◌/◌, ◌<◌, ◌≤◌}
use native.Mathlib.Omega.{arith}
use lib.ListN.{length, take, drop}
use lib.Seq.{length-take-le}
use Rattle.coding.specs.Lawful.{lawful}
use Rattle.coding.specs.Packed.{parse, table_count}
use Rattle.coding.specs.Schema.{member_of}
use Rattle.coding.specs.Walk as W
use Rattle.coding.specs.Message as M
use Rattle.coding.specs.Field as F
use Rattle.coding.specs.Positions.{positions_of, positions_answer, positions_out, table_right, with_table}
use Rattle.coding.specs.declared.Answer.{Answer}
use Rattle.coding.specs.declared.Answer.TheVariants as A
use Rattle.coding.specs.declared.Budget.{Budget}
use Rattle.coding.specs.declared.ReadAnswer.{ReadAnswer}
use Rattle.std.specs.Prelude.{Option, None}
use Rattle.coding.specs.declared.Content.{Content}
use Rattle.coding.specs.declared.Verdict.{Verdict}
use Rattle.coding.specs.declared.WriteAnswer.{WriteAnswer}
use Rattle.field_element.specs.declared.ListStep.{ListStep}
use Rattle.laws.specs.Lists.{never}
use Rattle.laws.specs.LentTables.{right-schema, wrong-schema, no-schema}
use Rattle.demands.specs.Appending.{AreBytes}
use Rattle.demands.specs.Positions.{RowSays, SchemaRefused, SameAnswers, rows_say, made-unlawful, made_no_room, made, made-right, other-table, same_answers}
use Rattle.demands.specs.Positions.{made-within, made-lawful, made-rows, made_answers}
use Rattle.promises.specs.Words.{TableOf, members_of, row_place, old_placement, HoldsAnswers}
use Rattle.demands.specs.Reached.{verdict_walks}
use Rattle.promises.proofs.Reading.{handed}
use Rattle.promises.proofs.Stepping.{step_own, all_own}

module _ (o : ℕ) (b t : List ℕ) where
  -- the bytes of the schema that a reader goes by
  pub lent_bytes : AreBytes b → AreBytes (with_table o b t)
  lent_bytes bytes = by (table_right o b t) refl
    where
      by : (r : Bool) → table_right o b t ≡ r → AreBytes (with_table o b t)
      by true e = subst AreBytes (sym (right-schema o b t e)) bytes
      by false e = subst AreBytes (sym (wrong-schema o b t e)) (λ i. omega arith)

  module _ (table : TableOf o b t) where
    -- of a lawful schema it is the schema
    pub goes_by : lawful o b ≡ true → with_table o b t ≡ b
    goes_by e = right-schema o b t (subst (λ (x : List ℕ). table_right o b x ≡ true) (sym table) (made-right o b e))

    pub verdict_by : lawful o b ≡ true → (m : List ℕ) (budget : Budget) (r : Verdict) → r ≡ W.verdict o (with_table o b t) m budget
        → r ≡ W.verdict o b m budget
    verdict_by e m budget r h = h ∙ ap (λ (s : List ℕ). W.verdict o s m budget) (goes_by e)

    pub answer_by_lem : lawful o b ≡ true → (m : List ℕ) (budget : Budget) (out : List ℕ) (r : ReadAnswer)
        → r ≡ M.read_answer o (with_table o b t) m budget out → r ≡ M.read_answer o b m budget out
    answer_by_lem e m budget out r h = h ∙ ap (λ (s : List ℕ). M.read_answer o s m budget out) (goes_by e)

    pub out_by_lem : lawful o b ≡ true → (m : List ℕ) (budget : Budget) (out out' : List ℕ)
        → out' ≡ M.read_out o (with_table o b t) m budget out → out' ≡ M.read_out o b m budget out
    out_by_lem e m budget out out' h = h ∙ ap (λ (s : List ℕ). M.read_out o s m budget out) (goes_by e)

    -- of any bytes every answer is the old one
    same : SameAnswers o (with_table o b t) b
    same = subst (λ (x : List ℕ). SameAnswers o (with_table o b x) b) (sym table) (same_answers o b)

    module _ (m : List ℕ) where
      pub old-verdict : (budget : Budget) (r : Verdict) → r ≡ W.verdict o (with_table o b t) m budget → r ≡ W.verdict o b m budget
      old-verdict budget r h = h ∙ same.verdict m budget

      pub old-read : (budget : Budget) (out out' : List ℕ) (r : ReadAnswer) → r ≡ M.read_answer o (with_table o b t) m budget out
          → out' ≡ M.read_out o (with_table o b t) m budget out
          → (r ≡ M.read_answer o b m budget out) × (out' ≡ M.read_out o b m budget out)
      old-read budget out out' r h k = (h ∙ same.read_answer m budget out, k ∙ same.read_out m budget out)

      module _ (path : List ℕ) where
        pub old-field : (r : Answer) → r ≡ F.field o (with_table o b t) m path → r ≡ F.field o b m path
        old-field r h = h ∙ same.field m path

        pub old_span : (r : Option Content) → r ≡ F.field_span o (with_table o b t) m path → r ≡ F.field_span o b m path
        old_span r h = h ∙ same.field_span m path

        pub old_step : (j : ℕ) (s : ListStep) → s.answer ≡ F.reader_gives o (with_table o b t) m path j
            → s.next ≡ F.reader_next (F.reader_count o (with_table o b t) m path) j
            → (s.answer ≡ F.reader_gives o b m path j) × (s.next ≡ F.reader_next (F.reader_count o b m path) j)
        old_step j s h k = (h ∙ same.reader_gives m path j, k ∙ ap (λ (n : ℕ). F.reader_next n j) (same.reader_count m path))

        pub old_steps : (from : ℕ) (out out' : List ℕ) (r : ℕ) → r ≡ F.reader_count o (with_table o b t) m path
            → out' ≡ F.reader_over o (with_table o b t) m path from out
            → (r ≡ F.reader_count o b m path) × (out' ≡ F.reader_over o b m path from out)
        old_steps from out out' r h k = (h ∙ same.reader_count m path, k ∙ same.reader_over m path from out)

  -- a reader that goes by a lawful schema goes by the one that it is handed
  lawful_own : lawful o (with_table o b t) ≡ true → with_table o b t ≡ b
  lawful_own l = by (table_right o b t) refl
    where
      by : (r : Bool) → table_right o b t ≡ r → with_table o b t ≡ b
      by true e = right-schema o b t e
      by false e = never (sym (no-schema o) ∙ ap (lawful o) (sym (wrong-schema o b t e)) ∙ l)

  -- a message that was read was read by the schema
  pub read_own : (m : List ℕ) (budget : Budget) (out out' : List ℕ) (r : ReadAnswer) → r ≡ M.read_answer o (with_table o b t) m budget out
      → out' ≡ M.read_out o (with_table o b t) m budget out → r.verdict.number ≡ 0
      → (r ≡ M.read_answer o b m budget out) × (out' ≡ M.read_out o b m budget out)
  read_own m budget out out' r ea eo h =
      let a = (handed o (with_table o b t) m budget out r out' ea eo h).accepted in
      let e = lawful_own (verdict_walks o (with_table o b t) m budget a).schema in (
        ea ∙ ap (λ (s : List ℕ). M.read_answer o s m budget out) e,
        eo ∙ ap (λ (s : List ℕ). M.read_out o s m budget out) e,
      )

  -- any other table
  module _ (other : TableOf o b t → ⊥) where
    refused : SchemaRefused o (with_table o b t)
    refused = other-table o b t other

    module _ (m : List ℕ) where
      pub other-verdict : (budget : Budget) (r : Verdict) → r ≡ W.verdict o (with_table o b t) m budget → r ≡ W.early 1
      other-verdict budget r h = h ∙ refused.verdict m budget

      pub other-read : (budget : Budget) (out out' : List ℕ) (r : ReadAnswer) → r ≡ M.read_answer o (with_table o b t) m budget out
          → out' ≡ M.read_out o (with_table o b t) m budget out → (r ≡ record { verdict = W.early 1; length = 0 }) × (out' ≡ out)
      other-read budget out out' r h k = (h ∙ refused.read_answer m budget out, k ∙ refused.read_out m budget out)

      module _ (path : List ℕ) where
        pub other-field : (r : Answer) → r ≡ F.field o (with_table o b t) m path → r ≡ A.Refused (W.refusal 1 0)
        other-field r h = h ∙ refused.field m path

        pub other_span : (r : Option Content) → r ≡ F.field_span o (with_table o b t) m path → r ≡ None
        other_span r h = h ∙ refused.field_span m path

        pub other_step : (j : ℕ) (s : ListStep) → s.answer ≡ F.reader_gives o (with_table o b t) m path j
            → s.next ≡ F.reader_next (F.reader_count o (with_table o b t) m path) j
            → s ≡ record { answer = A.Refused (W.refusal 1 0); next = j }
        other_step j s h k = step_own o (with_table o b t) m path j s h k (W.refusal 1 0) (refused.field m path)

        pub other_steps : (from : ℕ) (out out' : List ℕ) (r : ℕ) → r ≡ F.reader_count o (with_table o b t) m path
            → out' ≡ F.reader_over o (with_table o b t) m path from out
            → (r ≡ 0) × HoldsAnswers out' (length out / 4) (λ _. A.Refused (W.refusal 1 0))
        other_steps from out out' r h k = all_own o (with_table o b t) m path from out out' r h k (W.refusal 1 0) (refused.field m path)

-- ---- the table that was made
module _ (o : ℕ) (b out : List ℕ) (a : WriteAnswer) (ea : a ≡ positions_answer o b out) (out' : List ℕ) (eo : out' ≡ positions_out o b out) where
  pub table-length : a.length ≡ length (take a.length out')
  table-length = sym (length-take-le a.length out' (made-within o b out a ea out' eo))

  pub says-unlawful : lawful o b ≡ false → (a ≡ record { number = 1; length = 0 }) × (out' ≡ out)
  says-unlawful e = let y = made-unlawful o b out e in (ea ∙ y.0, eo ∙ y.1)

  pub says_room : lawful o b ≡ true → length out < length (positions_of o b) → (a ≡ record { number = 14; length = 0 }) × (out' ≡ out)
  says_room e l = let y = made_no_room o b out e l in (ea ∙ y.0, eo ∙ y.1)

  pub says-made : lawful o b ≡ true → length (positions_of o b) ≤ length out
      → (a ≡ record { number = 0; length = length (positions_of o b) }) × (out' ≡ positions_of o b ++ drop (length (positions_of o b)) out)
  says-made e l = let y = made o b out e l in (ea ∙ y.0, eo ∙ y.1)

  pub made-verdict : (m : List ℕ) (budget : Budget) (r : Verdict) → r ≡ W.verdict o (with_table o b (take a.length out')) m budget
      → (a.number ≡ 14 → ⊥) → r ≡ W.verdict o b m budget
  made-verdict m budget r e h = e ∙ (made_answers o b out a ea out' eo h).verdict m budget

pub says-rows : (o : ℕ) (b out : List ℕ) → AreBytes b → (a : WriteAnswer) → a ≡ positions_answer o b out → (out' : List ℕ) → out' ≡ positions_out o b out
    → a.number ≡ 0 → (i j : ℕ) → i < table_count b → j < length (members_of b i)
    → RowSays o (parse b) (take a.length out') (row_place b i j) (member_of (parse b) i j) (old_placement o b i j)
says-rows o b out bytes a ea out' eo h i j l k =
    subst (λ (t : List ℕ). RowSays o (parse b) t (row_place b i j) (member_of (parse b) i j) (old_placement o b i j))
    (sym (made-rows o b out a ea out' eo h)) (rows_say o b bytes (made-lawful o b out a ea out' eo h) i j l k)
