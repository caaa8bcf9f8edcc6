-- What contracts say of a schema that is held: its bytes, what they say, and whether there is one.
use Rattle.std.specs.Prelude.{ℕ, List, ◌≡◌, true, false, Option, Some, None}
use Rattle.std.proofs.Common.{ap, ◌∙◌, subst}
use Rattle.coding.specs.Lawful.{lawful, well_formed}
use Rattle.coding.specs.Packed.{parse}
use Rattle.coding.specs.Schema as Sc
use Rattle.schema.specs.Directory.{Accepted}
use Rattle.schema.specs.declared.held.Packed.{Packed}
use Rattle.schema.specs.declared.held.Schema.{Schema}

abbrev pub bytes_of : Schema → List ℕ
bytes_of s = s.packed.bytes.now

abbrev pub parsed : Schema → Sc.Schema
parsed s = parse (bytes_of s)

-- the schema with its directory of any bytes: there is one exactly where they are well formed, whatever the coding
abbrev pub Formed : List ℕ → Option Packed → Type 0
Formed b None = well_formed b ≡ false
Formed b (Some p) = (p.bytes.now ≡ b) × Accepted p.bytes.now p.directory.now

-- the schema that is held of any bytes under a coding of width o: there is one exactly where they are lawful
abbrev pub Held : ℕ → List ℕ → Option Schema → Type 0
Held o b None = lawful o b ≡ false
Held o b (Some s) = (bytes_of s ≡ b) × (s.width ≡ o) × (lawful o b ≡ true)

module _ (o : ℕ) (b : List ℕ) (h : Option Schema) (e : Held o b h) where
  pub held_is : (s : Schema) → h ≡ Some s → {A : Type 0} (f : ℕ → List ℕ → A) (r : A) → r ≡ f s.width (bytes_of s) → r ≡ f o b
  held_is s is f r q =
      let k : Held o b (Some s) = subst (Held o b) is e in
      q ∙ ap (λ (w : ℕ). f w (bytes_of s)) k.1 ∙ ap (f o) k.0

  -- it is lawful under its coding
  pub held_lawful : (s : Schema) → h ≡ Some s → lawful s.width (bytes_of s) ≡ true
  held_lawful s is =
      let k : Held o b (Some s) = subst (Held o b) is e in
      ap (λ (w : ℕ). lawful w (bytes_of s)) k.1 ∙ ap (lawful o) k.0 ∙ k.2

  pub held_none : h ≡ None → lawful o b ≡ false
  held_none is = subst (Held o b) is e
