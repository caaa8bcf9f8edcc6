-- The ways out of a path, number by number, and of what comes before it.
use Rattle.std.specs.Prelude.{Option, Some, None}
use mathlib.Core.Path.{◌≡◌, sym, ap, ◌∙◌, subst}
use mathlib.Core.Bool.{Bool, true, false, ◌&&◌}
use mathlib.Core.List.{List}
use Prim.Native.Nat.{ℕ, suc, ◌+◌, ◌<◌, ◌≤◌}
use native.Mathlib.Omega.{arith}
use native.Mathlib.Numerals.{add-one}
use lib.ListN.{length, get_or, drop, drop_of_length-le}
use lib.Seq.{drop-cons}
use lib.Dec.{leb}
use borrow.Author.Tests.{le-leb, lt-leb, leb-true}
use Rattle.coding.specs.Bytes.{largest, deepest}
use Rattle.coding.specs.Schema.{Schema}
use Rattle.coding.specs.Packed as P
use Rattle.coding.specs.Walk as W
use Rattle.coding.specs.Field as Field
use Rattle.coding.specs.declared.Object.{Object}
use Rattle.coding.specs.declared.Object.TheVariants as O
use Rattle.coding.specs.declared.Place.{Place}
use Rattle.coding.specs.declared.Found.{Found}
use Rattle.coding.specs.declared.Found.TheVariants as Fd
use Rattle.laws.specs.Lists.{both_left, both_right}
use Rattle.coding.specs.Lawful.{lawful}
use Rattle.coding.specs.Positions.{with_table}
use Rattle.positions.specs.declared.indexed.Indexed.{Indexed}
use Rattle.positions.specs.Lent.{HeldWith, lent_is, lent_refused}
use Rattle.schema.specs.Parsed.{bytes_of}
use Rattle.field_arrival.specs.Within.{FoundWithin}

-- ---- the numbers of a path, from number i on
module _ (o : ℕ) (S : Schema) (m : List ℕ) (from : Found) (path : List ℕ) where
  module _ (f : Found) (i : ℕ) (inv : Field.along o S m from path ≡ Field.along o S m f (drop i path)) where
    pub along_done : length path ≤ i → f ≡ Field.along o S m from path
    unfolding Field.along
    along_done h = sym (inv ∙ ap (Field.along o S m f) (drop_of_length-le path h))

    pub along_turn : i < length path → (g : Found) → g ≡ Field.part_of o S m f (get_or path i 0)
        → Field.along o S m from path ≡ Field.along o S m g (drop (i + 1) path)
    unfolding Field.along
    along_turn h g e =
        inv ∙ ap (Field.along o S m f) (drop-cons path i 0 h)
        ∙ ap (λ (q : Found). Field.along o S m q (drop (suc i) path)) (sym e)
        ∙ ap (λ (k : ℕ). Field.along o S m g (drop k path)) (sym (add-one i))

-- ---- what comes first
-- a message of a right size has its start, and is within the size
module _ (o : ℕ) (m : List ℕ) (s : Bool) (es : s ≡ W.size_ok o m) (g : s ≡ true) where
  both : (4 + o ≤ length m) × (length m ≤ 16777215)
  unfolding W.size_ok W.start_size largest
  both =
      let e : (leb (4 + o) (length m) && leb (length m) 16777215) ≡ true = sym es ∙ g in
      (leb-true _ _ (both_left (leb (4 + o) (length m)) (leb (length m) 16777215) e), leb-true _ _ (both_right (leb (4 + o) (length m)) (leb (length m) 16777215) e))

  pub size_start : 4 + o ≤ length m
  size_start = both.0

  pub size-magic : 4 ≤ length m
  size-magic = let h = both.0 in omega arith

  pub size_most : length m ≤ 16777215
  size_most = both.1

pub refused-within : (o : ℕ) (S : Schema) (m : List ℕ) (n at : ℕ) (r : Found) → r ≡ Fd.Refused (W.refusal n at) → FoundWithin o S m r
refused-within o S m n at r e = rw e tt

-- ---- the schema, with the table that was handed in
pub unlawful : (o : ℕ) (b m path : List ℕ) → lawful o b ≡ false → Field.field_found o b m path ≡ Fd.Refused (W.refusal 1 0)
unfolding Field.field_found Field.before
unlawful o b m path f = simp f

module _ (o : ℕ) (b rows m path : List ℕ) (h : Option Indexed) (e : HeldWith o b rows h) where
  pub found-unlawful : h ≡ None → (r : Found) → r ≡ Fd.Refused (W.refusal 1 0) → r ≡ Field.field_found o (with_table o b rows) m path
  found-unlawful is r q = q ∙ sym (unlawful o (with_table o b rows) m path (lent_refused o b rows h e is))

  pub found-lent : (x : Indexed) → h ≡ Some x → (r : Found) → r ≡ Field.field_found x.schema.width (bytes_of x.schema) m path
      → r ≡ Field.field_found o (with_table o b rows) m path
  found-lent x is r q = lent_is o b rows h e x is (λ (w : ℕ) (s : List ℕ). Field.field_found w s m path) r q

  pub within-lent : (x : Indexed) → h ≡ Some x → (r : Found) → FoundWithin x.schema.width (P.parse (bytes_of x.schema)) m r → FoundWithin o (P.parse b) m r
  within-lent x is r q =
      let k : HeldWith o b rows (Some x) = subst (HeldWith o b rows) is e in
      subst (λ (w : ℕ). FoundWithin w (P.parse b) m r) k.1 (subst (λ (s : List ℕ). FoundWithin x.schema.width (P.parse s) m r) k.0 q)
