-- The whole answers: the table that is made, and a table that is handed in.
use mathlib.Core.Path.{◌≡◌, refl, sym, ap, ap₂, ◌∙◌, subst}
use Rattle.std.specs.Prelude.{Option, Some, None}
use mathlib.Core.Bool.{Bool, true, false, not}
use mathlib.Core.List.{List, ◌++◌}
use Prim.Native.Nat.{ℕ, ◌*◌, ◌^◌, ◌<◌, ◌≤◌}
use native.Mathlib.Omega.{arith}
use native.Mathlib.Nat.{zero-add}
use lib.ListN.{length, drop}
use lib.Seq.{sets, sets-eq}
use borrow.Author.Tests.{not-true, not-false, le-leb, lt-leb}
use Rattle.coding.specs.Lists.{same}
use Rattle.coding.specs.Packed as P
use Rattle.coding.specs.Lawful as L
use Rattle.coding.specs.Message as M
use Rattle.coding.specs.Positions as Po
use Rattle.coding.specs.declared.WriteAnswer.{WriteAnswer}
use Rattle.laws.specs.LentTables.{right-schema, wrong-schema, no-schema}
use Rattle.laws.specs.Lists.{never}
use Rattle.laws.specs.PositionRows.{member_total, table_bytes-length}
use Rattle.laws.specs.SameLists.{stands, same_is, same-longer, same-stands}
use Rattle.schema.specs.declared.held.Schema.{Schema}
use Rattle.schema.specs.Parsed.{bytes_of, Held, held_is, held_none}

-- ---- the length of the table, which was counted
module _ (o : ℕ) (b : List ℕ) (n : ℕ) (en : n ≡ 12 * member_total (P.parse b).tables) where
  long : length (Po.positions_of o b) ≡ n
  unfolding Po.positions_of Po.schema_rows
  long = table_bytes-length o (P.parse b) (P.parse b).tables ∙ sym en

  pub table-inside : (out : List ℕ) → n ≤ length out → length (Po.positions_of o b) ≤ length out
  table-inside out h = omega (arith, long)

  pub table_short : n < 2 ^ 21 → length (Po.positions_of o b) < 2 ^ 60
  table_short h = omega (arith, long)

  -- ---- making it
  module _ (out : List ℕ) (lawful : L.lawful o b ≡ true) where
    pub no_room_answer : length out < n → (r : WriteAnswer) → r.number ≡ 14 → r.length ≡ 0 → r ≡ Po.positions_answer o b out
    unfolding Po.positions_answer Po.positions_made M.write_room
    no_room_answer h r ea el =
        rw (lawful, lt-leb (length (Po.positions_of o b)) (length out) (omega (arith, long)))
        (ap₂ (λ (x y : ℕ). record { number = x; length = y }) ea el)

    pub no_room_out : length out < n → out ≡ Po.positions_out o b out
    unfolding Po.positions_out Po.positions_made M.write_over
    no_room_out h = rw (lawful, lt-leb (length (Po.positions_of o b)) (length out) (omega (arith, long))) refl

    pub made_answer : n ≤ length out → record { number = 0; length = n } ≡ Po.positions_answer o b out
    unfolding Po.positions_answer Po.positions_made M.write_room
    made_answer h =
        rw (lawful, le-leb (length (Po.positions_of o b)) (length out) (omega (arith, long)))
        (ap (λ (x : ℕ). record { number = 0; length = x }) (sym long))

    pub made_out : n ≤ length out → (out₁ : List ℕ) → out₁ ≡ sets out 0 (Po.positions_of o b) → out₁ ≡ Po.positions_out o b out
    unfolding Po.positions_out Po.positions_made M.write_over
    made_out h out₁ e =
        rw (lawful, le-leb (length (Po.positions_of o b)) (length out) (omega (arith, long)))
        (e ∙ sets-eq (Po.positions_of o b) out 0 (omega (arith, long))
        ∙ ap (λ (k : ℕ). Po.positions_of o b ++ drop k out) (zero-add (length (Po.positions_of o b))))

  -- ---- a table that is handed in
  module _ (t : List ℕ) where
    pub other_length : (length t ≡ n → ⊥) → false ≡ same t (Po.positions_of o b)
    other_length h = sym (same-longer t (Po.positions_of o b) (λ e. h (e ∙ long)))

    pub right-length : length t ≡ n → length t ≡ length (Po.positions_of o b)
    right-length e = e ∙ sym long

    pub rows_same : length t ≡ n → (r : Bool) → r ≡ stands t 0 (Po.positions_of o b) → r ≡ same t (Po.positions_of o b)
    rows_same e r er = er ∙ sym (same-stands t (Po.positions_of o b) (e ∙ sym long))

-- ---- the schema
module _ (o : ℕ) (b out : List ℕ) (h : Option Schema) (e : Held o b h) where
  pub schema_made : (s : Schema) → h ≡ Some s → (r : WriteAnswer) → r ≡ Po.positions_answer s.width (bytes_of s) out → r ≡ Po.positions_answer o b out
  schema_made s is = held_is o b h e s is (λ (w : ℕ) (x : List ℕ). Po.positions_answer w x out)

  pub schema_made-out : (s : Schema) → h ≡ Some s → (r : List ℕ) → r ≡ Po.positions_out s.width (bytes_of s) out → r ≡ Po.positions_out o b out
  schema_made-out s is = held_is o b h e s is (λ (w : ℕ) (x : List ℕ). Po.positions_out w x out)

  module _ (is : h ≡ None) where
    pub schema_answer : (r : WriteAnswer) → r.number ≡ 1 → r.length ≡ 0 → r ≡ Po.positions_answer o b out
    unfolding Po.positions_answer Po.positions_made M.write_room
    schema_answer r ea el = rw (held_none o b h e is) (ap₂ (λ (x y : ℕ). record { number = x; length = y }) ea el)

    pub schema_out : out ≡ Po.positions_out o b out
    unfolding Po.positions_out Po.positions_made M.write_over
    schema_out = rw (held_none o b h e is) refl

-- ---- the schema with a table
module _ (o : ℕ) (b t : List ℕ) (h : Option Schema) (e : Held o b h) where
  off : Po.table_right o b t ≡ false → L.lawful o (Po.with_table o b t) ≡ false
  off q = ap (L.lawful o) (wrong-schema o b t q) ∙ no-schema o

  pub schema_off : h ≡ None → L.lawful o (Po.with_table o b t) ≡ false
  unfolding Po.table_right
  schema_off is = off (rw (held_none o b h e is) refl)

  module _ (s : Schema) (is : h ≡ Some s) where
    holds : Held o b (Some s)
    holds = subst (Held o b) is e

    right_by : (r : Bool) → r ≡ same t (Po.positions_of s.width (bytes_of s)) → Po.table_right o b t ≡ r
    unfolding Po.table_right
    right_by r q = rw holds.2 (sym (q ∙ ap₂ (λ (w : ℕ) (x : List ℕ). same t (Po.positions_of w x)) holds.1 holds.0))

    pub table_off : (r : Bool) → r ≡ same t (Po.positions_of s.width (bytes_of s)) → r ≡ false → L.lawful o (Po.with_table o b t) ≡ false
    table_off r q n = off (right_by r q ∙ n)

    module _ (r : Bool) (q : r ≡ same t (Po.positions_of s.width (bytes_of s))) (n : r ≡ true) where
      pub table_is : t ≡ Po.positions_of s.width (bytes_of s)
      table_is = same_is t (Po.positions_of s.width (bytes_of s)) (sym q ∙ n)

      pub table_held : (bytes_of s ≡ b) × (s.width ≡ o) × (t ≡ t) × (Po.with_table o b t ≡ b) × (L.lawful o b ≡ true)
      table_held = (holds.0, holds.1, refl, right-schema o b t (right_by r q ∙ n), holds.2)
