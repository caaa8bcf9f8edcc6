-- What every reader goes by once `judge_schema` has answered of a schema b and of the table that it was handed.
use Rattle.std.specs.Prelude.{◌≡◌, Bool, true, false, List, ℕ, Option, Some, None}
use Rattle.std.proofs.Common.{sym, ap, ◌∙◌, subst}
use Rattle.coding.specs.Lawful.{lawful}
use Rattle.coding.specs.Positions.{positions_of, with_table}
use Rattle.wire.specs.Sizes.{Width}
use Rattle.schema.specs.Directory.{Accepted, AcceptedUnder}
use Rattle.schema.specs.Parsed.{bytes_of}
use Rattle.positions.specs.declared.indexed.Indexed.{Indexed}

-- the schema that is held with its table of positions: there is one exactly where the schema is lawful and the table is its own
abbrev pub HeldWith : ℕ → List ℕ → List ℕ → Option Indexed → Type 0
HeldWith o b rows None = lawful o (with_table o b rows) ≡ false
HeldWith o b rows (Some x) = (bytes_of x.schema ≡ b) × (x.schema.width ≡ o) × (x.rows.now ≡ rows) × (with_table o b rows ≡ b) × (lawful o b ≡ true)

module _ (o : ℕ) (b rows : List ℕ) (h : Option Indexed) (e : HeldWith o b rows h) where
  held : (x : Indexed) → h ≡ Some x → HeldWith o b rows (Some x)
  held x is = subst (HeldWith o b rows) is e

  -- the schema is lawful, its directory is whole, and the table is the right one
  pub lent_accepted : (x : Indexed) → h ≡ Some x → AcceptedUnder o b x.schema.packed.directory.now
  lent_accepted x is =
      let k = held x is in
      record {
        accepted = subst (λ (y : List ℕ). Accepted y x.schema.packed.directory.now) k.0 x.schema.accepted;
        width = subst Width k.1 x.schema.coded;
        lawful = k.4;
      }

  pub lent_rows : (x : Indexed) → h ≡ Some x → rows ≡ positions_of o b
  lent_rows x is =
      let k = held x is in
      sym k.2 ∙ x.right ∙ ap (λ (w : ℕ). positions_of w (bytes_of x.schema)) k.1 ∙ ap (positions_of o) k.0

  -- so the schema with the table is the schema
  pub lent-schema : (x : Indexed) → h ≡ Some x → with_table o b rows ≡ b
  lent-schema x is = (held x is).3

  -- an answer by the schema is the answer with the table
  pub lent_is : (x : Indexed) → h ≡ Some x → {A : Type 0} (f : ℕ → List ℕ → A) (r : A) → r ≡ f x.schema.width (bytes_of x.schema) → r ≡ f o (with_table o b rows)
  lent_is x is f r q =
      let k : HeldWith o b rows (Some x) = subst (HeldWith o b rows) is e in
      q ∙ ap (λ (w : ℕ). f w (bytes_of x.schema)) k.1 ∙ ap (f o) (k.0 ∙ sym k.3)

  -- otherwise the schema with the table is not lawful
  pub lent_refused : h ≡ None → lawful o (with_table o b rows) ≡ false
  lent_refused is = subst (HeldWith o b rows) is e
