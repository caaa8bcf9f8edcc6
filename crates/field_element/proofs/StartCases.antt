-- What a reader starts from gives the answers of its steps, and the number of its elements.
use Rattle.std.specs.Prelude.{Option, Some, None, Result, Ok, Err}
use mathlib.Core.Path.{◌≡◌, refl, sym, ap, ◌∙◌, subst}
use mathlib.Core.List.{List}
use Prim.Native.Nat.{ℕ}
use Rattle.coding.specs.Packed as P
use Rattle.coding.specs.Positions.{with_table}
use Rattle.coding.specs.Walk as W
use Rattle.coding.specs.Field as Field
use Rattle.coding.specs.declared.Found.{Found}
use Rattle.coding.specs.declared.Found.TheVariants as Fd
use Rattle.coding.specs.declared.Refusal.{Refusal}
use Rattle.schema.specs.Parsed.{parsed, bytes_of}
use Rattle.positions.specs.declared.indexed.Indexed.{Indexed}
use Rattle.positions.specs.Lent.{HeldWith, lent_refused}
use Rattle.field_path.proofs.PathCases.{unlawful}
use Rattle.field_element.specs.declared.list.ListAt.{ListAt}
use Rattle.field_element.specs.Elements.{object_of}
use Rattle.field_element.specs.Listed.{OfMessage, Starts, object_found, found_of, gives, count}

module _ (o : ℕ) (b m path : List ℕ) where
  pub starts-gives : (h : Result ListAt Refusal) → Starts o b m path h → (j : ℕ) → gives h j ≡ Field.reader_gives o b m path j
  unfolding Field.reader_gives Field.list_gives Field.part_of Field.answer_of
  starts-gives (Err r) s j = ap (λ (f : Found). Field.list_gives o (P.parse b) m f j) s.found
  starts-gives (Ok l) s j =
      let f = object_found (object_of l.elements) l.arrival in
      let g = s.of_message in
      ap (λ (w : ℕ). Field.list_gives w (parsed l.reading.schema) l.reading.message.now f j) g.0
      ∙ ap (λ (x : List ℕ). Field.list_gives o (P.parse x) l.reading.message.now f j) g.1
      ∙ ap (λ (x : List ℕ). Field.list_gives o (P.parse b) x f j) g.2
      ∙ ap (λ (x : Found). Field.list_gives o (P.parse b) m x j) s.found

  pub starts-count : (h : Result ListAt Refusal) → Starts o b m path h → count h ≡ Field.reader_count o b m path
  unfolding Field.reader_count Field.list_count
  starts-count (Err r) s = ap Field.list_count s.found
  starts-count (Ok l) s = ap Field.list_count s.found

  -- of a step
  pub step-gives : (h : Result ListAt Refusal) → Starts o b m path h → (j : ℕ) → Field.reader_gives o b m path j ≡ gives h j
  step-gives h s j = sym (starts-gives h s j)

-- ---- the schema, with the table that was handed in
module _ (o : ℕ) (b rows m path : List ℕ) (h : Option Indexed) (e : HeldWith o b rows h) where
  pub starts-lent : (x : Indexed) → h ≡ Some x → (r : Result ListAt Refusal) → Starts x.schema.width (bytes_of x.schema) m path r
      → Starts o (with_table o b rows) m path r
  starts-lent x is r s =
      let k : HeldWith o b rows (Some x) = subst (HeldWith o b rows) is e in
      subst (λ (y : List ℕ). Starts o y m path r) (k.0 ∙ sym k.3) (subst (λ (w : ℕ). Starts w (bytes_of x.schema) m path r) k.1 s)

  pub starts-unlawful : h ≡ None → (why : Refusal) → why ≡ W.refusal 1 0 → Starts o (with_table o b rows) m path (Err why)
  unfolding Field.reader_start Field.reader_of
  starts-unlawful is why q =
      record {
        found = ap Fd.Refused q ∙ sym (ap (Field.reader_of (P.parse (with_table o b rows))) (unlawful o (with_table o b rows) m path (lent_refused o b rows h e is)));
        of_message = tt;
      }
