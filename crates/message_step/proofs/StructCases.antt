-- A struct that a step finds lies within the message, as the member or the element does that it stands in.
use mathlib.Core.Path.{◌≡◌, refl, sym, subst}
use mathlib.Core.Bool.{Bool, true, false, ◌&&◌}
use mathlib.Core.List.{List}
use Prim.Native.Nat.{ℕ, ◌+◌, ◌<◌, ◌≤◌}
use native.Mathlib.Omega.{arith}
use lib.ListN.{length, get_or}
use lib.Dec.{eqb, leb, ltb}
use Rattle.coding.specs.Lists.{pick}
use Rattle.coding.specs.Bytes.{le, is_nan}
use Rattle.coding.specs.Schema as Sc
use Rattle.coding.specs.Packed as P
use Rattle.coding.specs.Layout as L
use Rattle.coding.specs.Step as T
use Rattle.coding.specs.Structs.{flat_width, struct_size}
use Rattle.coding.specs.declared.Flat.{Flat}
use Rattle.coding.specs.declared.Flat.TheVariants as F
use Rattle.coding.specs.declared.Kind.{Kind}
use Rattle.coding.specs.declared.Kind.TheVariants.{OfFlat, OfObject, OfUnion}
use Rattle.coding.specs.declared.Member.{Member}
use Rattle.coding.specs.declared.Placement.{Placement}
use Rattle.coding.specs.declared.Step.{Step}
use Rattle.coding.specs.declared.Step.TheVariants as St
use Rattle.laws.specs.Sound.{FlatSound, KindSound, MemberSound}
use Rattle.laws.specs.SoundAt.{struct_index}
use Rattle.message_step.specs.declared.Reach.{Reach}
use Rattle.message_step.specs.declared.Reach.TheVariants.{Cut, Past, Here}
use Rattle.message_step.specs.Lead.{without_value, seen, reach_of, reached, StructInside, Sits}
use Rattle.message_step.proofs.ReachCases.{step-reached, here-inside}
use Rattle.message_step.proofs.StepCases.{element_there}

-- of two steps
one_of : (b m : List ℕ) (t : Bool) (s r : Step) → StructInside b m s → StructInside b m r → StructInside b m (pick t s r)
one_of b m true s r x y = x
one_of b m false s r x y = y

flat-inside : (b m : List ℕ) (k : Flat) (none : Bool) (at bit : ℕ) → FlatSound (length (P.parse b).structs) k
    → at + flat_width (struct_size (P.parse b)) k ≤ length m → StructInside b m (T.flat_step m k none at bit)
unfolding T.flat_step T.float_step T.enum_step flat_width
flat-inside b m F.Boolean none at bit h l = tt
flat-inside b m (F.Integer s w) none at bit h l = tt
flat-inside b m (F.Float w) none at bit h l = one_of b m (none && is_nan w (le m at w)) St.Absent (St.Value (le m at w)) tt tt
flat-inside b m (F.Enumerated n) none at bit h l =
    one_of b m (eqb (get_or m at 0) 255) St.Absent (pick (ltb (get_or m at 0) n) (St.Value (get_or m at 0)) (St.Unknown (get_or m at 0))) tt
    (one_of b m (ltb (get_or m at 0) n) (St.Value (get_or m at 0)) (St.Unknown (get_or m at 0)) tt tt)
flat-inside b m (F.Struct i) none at bit h l = (struct_index b i h, l)

value-inside_all : (o : ℕ) (b m : List ℕ) (k : Kind) (none inplace : Bool) (tail at bit : ℕ) → KindSound (P.parse b) k → at + L.width o (P.parse b) k ≤ length m
    → StructInside b m (T.value_step o (P.parse b) m k none inplace tail at bit)
unfolding T.value_step T.object_step T.union_step L.width
value-inside_all o b m (OfFlat f) none inplace tail at bit h l = flat-inside b m f none at bit h l
value-inside_all o b m (OfObject ob) none inplace tail at bit h l =
    one_of b m (eqb (le m at o) 0) St.Absent (St.Object ob (T.place_of inplace tail (le m at o))) tt tt
value-inside_all o b m (OfUnion i) none inplace tail at bit h l =
    one_of b m (eqb (le m at 2) 0) St.Absent _ tt (one_of b m (leb (le m at 2) (length (Sc.cases_of (P.parse b) i))) (St.Choice _ _ _) (St.Unknown _) tt tt)

pub found-element : (o : ℕ) (b m : List ℕ) (k : Kind) (start n i at bit : ℕ) → KindSound (P.parse b) k → at ≡ T.element_place o (P.parse b) k start i
    → start + T.elements_size o (P.parse b) k n ≤ length m → i < n → (s : Step) → s ≡ T.value_step o (P.parse b) m k true false 0 at bit → StructInside b m s
found-element o b m k start n i at bit sound ea h l s e =
    subst (StructInside b m) (sym e) (value-inside_all o b m k true false 0 at bit sound (element_there o (P.parse b) m k start n i at ea (length m) h l))

module _ (o : ℕ) (b m : List ℕ) (start n : ℕ) (p : Placement) (r : Member) (sound : MemberSound (P.parse b) r) (sits : Sits (L.width o (P.parse b) r.kind) p)
    (fits : start + n ≤ length m) where
  placed-inside : StructInside b m (T.placed_step o (P.parse b) m start n p r)
  unfolding reached
  placed-inside = subst (StructInside b m) (sym (step-reached o (P.parse b) m start n p r)) (by (reach_of m start n p (L.has_flag r)) refl)
    where
      here : Step
      here = T.value_step o (P.parse b) m r.kind r.optional r.inplace (start + n) (start + p.value.at) p.value.bit

      by : (g : Reach) → g ≡ reach_of m start n p (L.has_flag r) → StructInside b m (reached g here)
      by Cut e = tt
      by Past e = tt
      by Here e =
          value-inside_all o b m r.kind r.optional r.inplace (start + n) (start + p.value.at) p.value.bit sound.kind
          (omega (arith, sits.size, here-inside m start n p (L.has_flag r) Here e refl))

  without-inside : (s : Step) → StructInside b m s → StructInside b m (without_value s)
  unfolding without_value
  without-inside (St.Refused e) h = tt
  without-inside St.Absent h = tt
  without-inside (St.Value x) h = tt
  without-inside (St.Unknown x) h = tt
  without-inside (St.Struct i at) h = h
  without-inside (St.Object ob q) h = tt
  without-inside (St.Choice c ob q) h = tt

  pub found_step : (t : Bool) (s : Step) → s ≡ seen t (T.placed_step o (P.parse b) m start n p r) → StructInside b m s
  found_step true s e = subst (StructInside b m) (sym e) placed-inside
  found_step false s e = subst (StructInside b m) (sym e) (without-inside (T.placed_step o (P.parse b) m start n p r) placed-inside)
