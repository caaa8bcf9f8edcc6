-- Answers under the width that a coding's number names.
use mathlib.Core.Path.{◌≡◌, sym, ap, ◌∙◌}
use mathlib.Core.List.{List}
use Prim.Native.Nat.{ℕ}
use Rattle.coding.specs.Walk.{verdict}
use Rattle.coding.specs.Field.{field, field_span, reader_count, reader_over}
use Rattle.coding.specs.Positions.{positions_answer, positions_out, with_table}
use Rattle.coding.specs.Message.{read_answer, read_out, write_answer, write_out}
use Rattle.coding.specs.declared.Budget.{Budget}
use Rattle.coding.specs.declared.Verdict.{Verdict}
use Rattle.coding.specs.declared.Answer.{Answer}
use Rattle.std.specs.Prelude.{Option, Some, None}
use Rattle.coding.specs.declared.Content.{Content}
use Rattle.scalgo.specs.Numbers.{there, start_of, length_of}
use Rattle.coding.specs.declared.ReadAnswer.{ReadAnswer}
use Rattle.coding.specs.declared.WriteAnswer.{WriteAnswer}

module _ (o w : ℕ) (e : o ≡ w) (b : List ℕ) where
  -- readers, of a schema b with a table t
  module _ (t m : List ℕ) where
    pub judge_by : (g : Budget) (r : Verdict) → r ≡ verdict o (with_table o b t) m g → r ≡ verdict w (with_table w b t) m g
    judge_by g r h = h ∙ ap (λ (k : ℕ). verdict k (with_table k b t) m g) e

    pub field_by : (p : List ℕ) (r : Answer) → r ≡ field o (with_table o b t) m p → r ≡ field w (with_table w b t) m p
    field_by p r h = h ∙ ap (λ (k : ℕ). field k (with_table k b t) m p) e

    module _ (p : List ℕ) (r : Option Content) (h : r ≡ field_span o (with_table o b t) m p) where
      span_by : r ≡ field_span w (with_table w b t) m p
      span_by = h ∙ ap (λ (k : ℕ). field_span k (with_table k b t) m p) e

      -- the three numbers of a part, and of none
      module _ (c : Content) (is : r ≡ Some c) where
        pub some_there : 1 ≡ there (field_span w (with_table w b t) m p)
        unfolding there
        some_there = ap there (sym is ∙ span_by)

        pub some-start : c.start ≡ start_of (field_span w (with_table w b t) m p)
        unfolding start_of
        some-start = ap start_of (sym is ∙ span_by)

        pub some-length : c.length ≡ length_of (field_span w (with_table w b t) m p)
        unfolding length_of
        some-length = ap length_of (sym is ∙ span_by)

      module _ (is : r ≡ None) where
        pub none_there : 0 ≡ there (field_span w (with_table w b t) m p)
        unfolding there
        none_there = ap there (sym is ∙ span_by)

        pub none-start : 0 ≡ start_of (field_span w (with_table w b t) m p)
        unfolding start_of
        none-start = ap start_of (sym is ∙ span_by)

        pub none-length : 0 ≡ length_of (field_span w (with_table w b t) m p)
        unfolding length_of
        none-length = ap length_of (sym is ∙ span_by)

    pub count_by : (p : List ℕ) (r : ℕ) → r ≡ reader_count o (with_table o b t) m p → r ≡ reader_count w (with_table w b t) m p
    count_by p r h = h ∙ ap (λ (k : ℕ). reader_count k (with_table k b t) m p) e

    pub over_by : (p : List ℕ) (j : ℕ) (out r : List ℕ) → r ≡ reader_over o (with_table o b t) m p j out
        → r ≡ reader_over w (with_table w b t) m p j out
    over_by p j out r h = h ∙ ap (λ (k : ℕ). reader_over k (with_table k b t) m p j out) e

    pub read_by : (g : Budget) (out : List ℕ) (r : ReadAnswer) → r ≡ read_answer o (with_table o b t) m g out
        → r ≡ read_answer w (with_table w b t) m g out
    read_by g out r h = h ∙ ap (λ (k : ℕ). read_answer k (with_table k b t) m g out) e

    pub read_out_by : (g : Budget) (out r : List ℕ) → r ≡ read_out o (with_table o b t) m g out → r ≡ read_out w (with_table w b t) m g out
    read_out_by g out r h = h ∙ ap (λ (k : ℕ). read_out k (with_table k b t) m g out) e

  -- the writer, of a sheet s
  module _ (s : List ℕ) where
    pub write_by : (out : List ℕ) (r : WriteAnswer) → r ≡ write_answer o b s out → r ≡ write_answer w b s out
    write_by out r h = h ∙ ap (λ (k : ℕ). write_answer k b s out) e

    pub write_out_by : (out r : List ℕ) → r ≡ write_out o b s out → r ≡ write_out w b s out
    write_out_by out r h = h ∙ ap (λ (k : ℕ). write_out k b s out) e

  -- the table of positions
  pub positions_by : (out : List ℕ) (r : WriteAnswer) → r ≡ positions_answer o b out → r ≡ positions_answer w b out
  positions_by out r h = h ∙ ap (λ (k : ℕ). positions_answer k b out) e

  pub positions_out_by : (out r : List ℕ) → r ≡ positions_out o b out → r ≡ positions_out w b out
  positions_out_by out r h = h ∙ ap (λ (k : ℕ). positions_out k b out) e
