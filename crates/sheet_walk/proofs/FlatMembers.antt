-- The ways out of the writers that lead to no object.
use mathlib.Core.Path.{◌≡◌, refl, sym, ap, ap₂, ◌∙◌, subst}
use mathlib.Core.Bool.{Bool, true, false}
use mathlib.Core.List.{List, ◌∷◌, ◌++◌}
use Prim.Native.Nat.{ℕ, suc, ◌+◌, ◌*◌, ◌<◌, ◌≤◌}
use native.Mathlib.Omega.{arith}
use native.Mathlib.Numerals.{add-one}
use lib.ListN.{length, get_or, drop, drop_of_length-le}
use lib.Seq.{drop-cons}
use lib.Dec.{eqb, ltb}
use Rattle.coding.specs.Lists.{pick}
use Rattle.coding.specs.Bytes.{le}
use Rattle.coding.specs.Schema as Sc
use Rattle.coding.specs.Schema.{Schema}
use Rattle.coding.specs.Packed as P
use Rattle.coding.specs.Structs.{flat_width, struct_size}
use Rattle.coding.specs.Step as T
use Rattle.coding.specs.Value.{as_number, first, others}
use Rattle.coding.specs.Read as R
use Rattle.coding.specs.Bits.{bits_of}
use Rattle.coding.specs.Sheet as E
use Rattle.coding.specs.declared.Flat.{Flat}
use Rattle.coding.specs.declared.Flat.TheVariants as F
use Rattle.coding.specs.declared.Object.{Object}
use Rattle.coding.specs.declared.Kind.{Kind}
use Rattle.coding.specs.declared.Kind.TheVariants.{OfFlat, OfObject, OfUnion}
use Rattle.coding.specs.declared.Step.TheVariants as St
use Rattle.schema.specs.Kinds.{flat_integer, integer_width}
use Rattle.schema.specs.Directory.{Accepted, accepted_sound}
use Rattle.bitio.specs.Puts.{Room, Puts}
use Rattle.bitio.specs.PutsLaws.{puts-same}
use Rattle.sheet_values.specs.Marks as K
use Rattle.sheet_walk.specs.MessageBits as A
use Rattle.sheet_walk.proofs.PartLaws.{struct_is}
use Rattle.sheet_values.proofs.Remaining.{Remaining, remaining_all, remaining_turn, remaining_done}

-- ---- widths
module _ (k : Kind) (f : Flat) (e : k ≡ OfFlat f) where
  pub integer_boolean : f ≡ F.Boolean → 0 ≡ integer_width k
  unfolding integer_width flat_integer
  integer_boolean h = rw (e, h)

  pub integer_integer : (s : Bool) (w v : ℕ) → f ≡ F.Integer s w → v ≡ w → v ≡ integer_width k
  unfolding integer_width flat_integer
  integer_integer s w v h q = rw (e, h) q

  pub integer_float : (w : ℕ) → f ≡ F.Float w → 0 ≡ integer_width k
  unfolding integer_width flat_integer
  integer_float w h = rw (e, h)

  pub integer-enum : (n : ℕ) → f ≡ F.Enumerated n → 0 ≡ integer_width k
  unfolding integer_width flat_integer
  integer-enum n h = rw (e, h)

  pub integer-struct : (i : ℕ) → f ≡ F.Struct i → 0 ≡ integer_width k
  unfolding integer_width flat_integer
  integer-struct i h = rw (e, h)

module _ (k : Kind) where
  pub integer-object : (ob : Object) → k ≡ OfObject ob → 0 ≡ integer_width k
  unfolding integer_width
  integer-object ob e = rw e

  pub integer-union : (i : ℕ) → k ≡ OfUnion i → 0 ≡ integer_width k
  unfolding integer_width
  integer-union i e = rw e

-- ---- a struct's member
enum_same : (inner : ℕ → Rattle.coding.specs.Value.Value → List ℕ) (read : ℕ → ℕ → Rattle.coding.specs.Value.Value) (n x : ℕ) (t u : Bool)
    → pick t (bits_of 2 0) (pick u (K.marked 1 8 x) (K.marked 2 8 x))
    ≡ E.mark_bits 8 (E.flat_bits inner (F.Enumerated n)) (R.step_read read R.no_object (pick t St.Absent (pick u (St.Value x) (St.Unknown x))))
unfolding E.mark_bits E.flat_bits R.step_read K.marked as_number
enum_same inner read n x true u = refl
enum_same inner read n x false true = refl
enum_same inner read n x false false = refl

module _ (S : Schema) (m : List ℕ) (k : Flat) (at : ℕ) (o o₁ : List ℕ) (p q : ℕ) where
  pub field_boolean : k ≡ F.Boolean → (x y : ℕ) → x ≡ get_or m at 0 → y ≡ x → Puts o p (bits_of 1 y) o₁ q → Puts o p (A.field_at S m k at) o₁ q
  unfolding A.field_at E.field_bits E.flat_bits R.step_read T.field_step as_number
  field_boolean e x y ex ey h = rw e (puts-same o o₁ p q (bits_of 1 y) (bits_of 1 (get_or m at 0)) (ap (bits_of 1) (ey ∙ ex)) h)

  pub field_integer : (s : Bool) (w v : ℕ) → k ≡ F.Integer s w → v ≡ w → Puts o p (bits_of (8 * v) (le m at v)) o₁ q → Puts o p (A.field_at S m k at) o₁ q
  unfolding A.field_at E.field_bits E.flat_bits R.step_read T.field_step as_number
  field_integer s w v e ev h = rw e (subst (λ (z : ℕ). Puts o p (bits_of (8 * z) (le m at z)) o₁ q) ev h)

  pub field_float : (w v : ℕ) → k ≡ F.Float w → v ≡ w → Puts o p (bits_of (8 * v) (le m at v)) o₁ q → Puts o p (A.field_at S m k at) o₁ q
  unfolding A.field_at E.field_bits E.flat_bits R.step_read T.field_step as_number
  field_float w v e ev h = rw e (subst (λ (z : ℕ). Puts o p (bits_of (8 * z) (le m at z)) o₁ q) ev h)

  pub field-enum : (n x : ℕ) → k ≡ F.Enumerated n → x ≡ get_or m at 0 → Puts o p (K.enum_at n x) o₁ q → Puts o p (A.field_at S m k at) o₁ q
  unfolding A.field_at E.field_bits T.field_step T.enum_step K.enum_at
  field-enum n x e ex h =
      rw e
      (subst (λ (l : List ℕ). Puts o p l o₁ q)
      (enum_same (E.struct_bits S) (R.struct_read S m) n (get_or m at 0) (eqb (get_or m at 0) 255) (ltb (get_or m at 0) n))
      (subst (λ (z : ℕ). Puts o p (pick (eqb z 255) (bits_of 2 0) (pick (ltb z n) (K.marked 1 8 z) (K.marked 2 8 z))) o₁ q) ex h))

  pub field-struct : (i j : ℕ) → k ≡ F.Struct i → j ≡ i → Puts o p (A.struct_at S m j at) o₁ q → Puts o p (A.field_at S m k at) o₁ q
  unfolding A.field_at E.field_bits E.flat_bits R.step_read T.field_step A.struct_at
  field-struct i j e ej h = rw e (subst (λ (z : ℕ). Puts o p (E.struct_bits S z (R.struct_read S m z at)) o₁ q) ej h)

-- ---- the members from j on
pub fields_start : (b dir m : List ℕ) → Accepted b dir → (i at : ℕ) (o : List ℕ) (p : ℕ)
    → Remaining o p (A.struct_at (P.parse b) m i at) o p (A.fields_at (P.parse b) m (drop 0 (Sc.struct_of (P.parse b) i)) at)
fields_start b dir m a i at o p =
    remaining_all o p (A.struct_at (P.parse b) m i at) (A.fields_at (P.parse b) m (Sc.struct_of (P.parse b) i) at) (sym (struct_is (P.parse b) (accepted_sound b dir a) m i at))

fields-opened : (S : Schema) (i j n : ℕ) (k : Flat) → n ≡ length (Sc.struct_of S i) → j < n → k ≡ Sc.field_of S i j
    → drop j (Sc.struct_of S i) ≡ k ∷ drop (suc j) (Sc.struct_of S i)
unfolding Sc.field_of
fields-opened S i j n k en h e = drop-cons (Sc.struct_of S i) j F.Boolean (omega arith) ∙ ap (λ (f : Flat). f ∷ drop (suc j) (Sc.struct_of S i)) (sym e)

fields_cons : (S : Schema) (m : List ℕ) (k : Flat) (ks : List Flat) (at : ℕ)
    → A.fields_at S m (k ∷ ks) at ≡ A.field_at S m k at ++ A.fields_at S m ks (at + flat_width (struct_size S) k)
unfolding A.fields_at A.field_at E.fields_bits R.fields_read first others
fields_cons S m k ks at = refl

pub fields_turn : (S : Schema) (m : List ℕ) (i at from j n w : ℕ) (k : Flat) (o₀ o o₁ : List ℕ) (p₀ p p₁ : ℕ)
    → Remaining o₀ p₀ (A.struct_at S m i at) o p (A.fields_at S m (drop j (Sc.struct_of S i)) from) → Room o p
    → n ≡ length (Sc.struct_of S i) → j < n → k ≡ Sc.field_of S i j → Puts o p (A.field_at S m k from) o₁ p₁ → w ≡ flat_width (struct_size S) k
    → Remaining o₀ p₀ (A.struct_at S m i at) o₁ p₁ (A.fields_at S m (drop (j + 1) (Sc.struct_of S i)) (from + w))
fields_turn S m i at from j n w k o₀ o o₁ p₀ p p₁ inv g en h ek put ew =
    remaining_turn o₀ o o₁ p₀ p p₁ (A.struct_at S m i at) (A.fields_at S m (drop j (Sc.struct_of S i)) from) (A.field_at S m k from)
    (A.fields_at S m (drop (j + 1) (Sc.struct_of S i)) (from + w)) inv g.short split put
  where
    opened : drop j (Sc.struct_of S i) ≡ k ∷ drop (suc j) (Sc.struct_of S i)
    opened = fields-opened S i j n k en h ek

    split : A.fields_at S m (drop j (Sc.struct_of S i)) from ≡ A.field_at S m k from ++ A.fields_at S m (drop (j + 1) (Sc.struct_of S i)) (from + w)
    split =
        ap (λ (l : List Flat). A.fields_at S m l from) opened ∙ fields_cons S m k (drop (suc j) (Sc.struct_of S i)) from
        ∙ ap₂ (λ (l : List Flat) (x : ℕ). A.field_at S m k from ++ A.fields_at S m l (from + x)) (ap (λ (x : ℕ). drop x (Sc.struct_of S i)) (sym (add-one j))) (sym ew)

pub fields_done : (S : Schema) (m : List ℕ) (i at from j n : ℕ) (o₀ o : List ℕ) (p₀ p : ℕ)
    → Remaining o₀ p₀ (A.struct_at S m i at) o p (A.fields_at S m (drop j (Sc.struct_of S i)) from) → Room o p → n ≡ length (Sc.struct_of S i) → n ≤ j
    → Puts o₀ p₀ (A.struct_at S m i at) o p
unfolding A.fields_at E.fields_bits
fields_done S m i at from j n o₀ o p₀ p inv g en h =
    let l : length (Sc.struct_of S i) ≤ j = omega arith in
    remaining_done o₀ o p₀ p (A.struct_at S m i at) (A.fields_at S m (drop j (Sc.struct_of S i)) from) inv g
    (ap (λ (ks : List Flat). A.fields_at S m ks from) (drop_of_length-le (Sc.struct_of S i) l))
