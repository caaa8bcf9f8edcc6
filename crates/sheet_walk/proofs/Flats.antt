-- The ways out of the writers of values that lead to no object, and that their bits are those of the step.
use mathlib.Core.Path.{◌≡◌, refl, sym, ap, ◌∙◌, subst}
use mathlib.Core.Bool.{Bool, true, false, ◌&&◌, not}
use mathlib.Core.List.{List, [], ◌++◌}
use mathlib.Core.Logic.{⊎_elim}
use Prim.Native.Nat.{ℕ, ◌+◌, ◌*◌, ◌/◌, ◌%◌, ◌^◌, ◌≤◌}
use native.Mathlib.Omega.{arith}
use lib.ListN.{get_or, length}
use lib.Dec.{eqb, ltb}
use Rattle.coding.specs.Lists.{pick}
use Rattle.coding.specs.Bytes.{le, bit_at, is_nan}
use Rattle.coding.specs.Schema.{Schema}
use Rattle.coding.specs.Structs.{struct_ok, struct_size, flat_width}
use Rattle.coding.specs.Step as T
use Rattle.coding.specs.Bits.{bits_of}
use Rattle.coding.specs.Sheet as E
use Rattle.coding.specs.declared.Flat.{Flat}
use Rattle.coding.specs.declared.Flat.TheVariants as F
use Rattle.coding.specs.declared.Object.{Object}
use Rattle.coding.specs.declared.Kind.{Kind}
use Rattle.coding.specs.declared.Kind.TheVariants.{OfFlat, OfObject, OfUnion}
use Rattle.coding.specs.declared.Step.TheVariants as St
use Rattle.laws.specs.Sound.{FlatSound}
use Rattle.wire.specs.Numbers.{Number}
use Rattle.bitio.specs.Puts.{Room, Puts}
use Rattle.bitio.specs.PutsLaws.{puts_none, puts_then}
use Rattle.sheet_values.specs.Marks as K
use Rattle.sheet_walk.specs.MessageBits as A
use Rattle.sheet_walk.specs.Readable as D

-- ---- structs
pub whole_there : (S : Schema) (m : List ℕ) (i at : ℕ) (out out₁ : List ℕ) (p q : ℕ) → struct_ok S m i at ≡ true → Room out p → (out₂ : List ℕ) (r : ℕ)
    → Puts out p (bits_of 2 1) out₁ q → Puts out₁ q (A.struct_at S m i at) out₂ r → Puts out p (A.whole_at S m i at) out₂ r
unfolding A.whole_at
whole_there S m i at out out₁ p q e g out₂ r a b = simp e (puts_then out out₁ out₂ p q r (bits_of 2 1) (A.struct_at S m i at) g.short a b)

-- that the booleans of a struct that was accepted are 0 or 1
pub flat-lawful : (child : D.Child) (S : Schema) (m : List ℕ) (k : Flat) (none : Bool) (at bit : ℕ) → D.StepReadable child S m (T.struct_tested S m (T.flat_step m k none at bit))
    → D.FlatReadable S m k at
unfolding D.StepReadable D.FlatReadable T.flat_step T.struct_tested
flat-lawful child S m F.Boolean none at bit h = tt
flat-lawful child S m (F.Integer s w) none at bit h = tt
flat-lawful child S m (F.Float w) none at bit h = tt
flat-lawful child S m (F.Enumerated n) none at bit h = tt
flat-lawful child S m (F.Struct i) none at bit h = by (struct_ok S m i at) refl h
  where
    by : (t : Bool) → struct_ok S m i at ≡ t → D.StepReadable child S m (pick t (St.Struct i at) (St.Refused 10)) → struct_ok S m i at ≡ true
    by true e g = e
    by false e g = absurd g

-- ---- the bits of a flat value's step
pub flat-bits : (o d : ℕ) (S : Schema) (m : List ℕ) (k : Flat) (none : Bool) (at bit : ℕ)
    → A.flat_at S m k none at bit ≡ A.step_at o d S m (OfFlat k) (T.struct_tested S m (T.flat_step m k none at bit))
unfolding A.flat_at K.float_at A.whole_at K.enum_at A.step_at A.value_width A.flat_value E.unknown_width E.flat_unknown T.flat_step T.float_step T.enum_step T.struct_tested
flat-bits o d S m F.Boolean none at bit = refl
flat-bits o d S m (F.Integer s w) none at bit = refl
flat-bits o d S m (F.Float w) none at bit = by (none && is_nan w (le m at w))
  where
    by : (t : Bool) → pick t (bits_of 2 0) (K.marked 1 (8 * w) (le m at w)) ≡ A.step_at o d S m (OfFlat (F.Float w)) (T.struct_tested S m (pick t St.Absent (St.Value (le m at w))))
    by true = refl
    by false = refl
flat-bits o d S m (F.Enumerated n) none at bit = by (eqb (get_or m at 0) 255) (ltb (get_or m at 0) n)
  where
    by : (t u : Bool) → pick t (bits_of 2 0) (pick u (K.marked 1 8 (get_or m at 0)) (K.marked 2 8 (get_or m at 0)))
        ≡ A.step_at o d S m (OfFlat (F.Enumerated n)) (T.struct_tested S m (pick t St.Absent (pick u (St.Value (get_or m at 0)) (St.Unknown (get_or m at 0)))))
    by true u = refl
    by false true = refl
    by false false = refl
flat-bits o d S m (F.Struct i) none at bit = by (struct_ok S m i at)
  where
    by : (t : Bool) → pick t (bits_of 2 1 ++ A.struct_at S m i at) (bits_of 2 0) ≡ A.step_at o d S m (OfFlat (F.Struct i)) (pick t (St.Struct i at) (St.Refused 10))
    by true = refl
    by false = refl

-- ---- a member of a kind that leads to no object
unfoldable pub is_flat : Kind → Bool
is_flat (OfFlat f) = true
is_flat (OfObject ob) = false
is_flat (OfUnion u) = false

pub is_false : (t : Bool) → not t ≡ true → t ≡ false
is_false true e = sym e
is_false false e = refl

pub is_true : (t : Bool) → not t ≡ false → t ≡ true
is_true true e = refl
is_true false e = sym e
