-- A step as a whole or where it leads, and that what it leads to is small. `t` says which; a parameter n of the code says it by
-- whether it is 0.
use mathlib.Core.Path.{◌≡◌, refl, sym, ap, ◌∙◌, subst}
use mathlib.Core.Bool.{Bool, true, false, ◌&&◌, not}
use mathlib.Core.List.{List}
use Prim.Native.Nat.{ℕ, pred, ◌+◌, ◌^◌, ◌<◌, ◌≤◌}
use native.Mathlib.Omega.{arith}
use lib.ListN.{length, get_or}
use lib.Dec.{eqb, ltb}
use borrow.Author.Tests.{eq-eqb, ne_eqb}
use Rattle.coding.specs.Lists.{pick}
use Rattle.coding.specs.Bytes.{le, is_nan}
use Rattle.coding.specs.Schema as Sc
use Rattle.coding.specs.Schema.{Schema}
use Rattle.coding.specs.Packed as P
use Rattle.coding.specs.Step as T
use Rattle.coding.specs.declared.Flat.{Flat}
use Rattle.coding.specs.declared.Flat.TheVariants as F
use Rattle.coding.specs.declared.Object.{Object}
use Rattle.coding.specs.declared.Object.TheVariants as O
use Rattle.coding.specs.declared.Kind.{Kind}
use Rattle.coding.specs.declared.Kind.TheVariants.{OfFlat, OfObject, OfUnion}
use Rattle.coding.specs.declared.Place.{Place}
use Rattle.coding.specs.declared.Step.{Step}
use Rattle.coding.specs.declared.Step.TheVariants as St
use Rattle.laws.specs.Sound.{ObjectSound}
use Rattle.laws.specs.Lists.{all-at}
use Rattle.schema.specs.Directory.{Accepted, accepted_sound}
use Rattle.wire.specs.Numbers.{Number}
use Rattle.message_step.specs.Lead.{lead_of, without_value, seen, told, flat_lead, PlaceSmall, StepSmall}
use Rattle.message_step.proofs.StepCases.{union-known, value-flat, value-object, value-union}

-- ---- flat values
flat_led : (m : List ℕ) (k : Flat) (none : Bool) (at bit : ℕ) → without_value (T.flat_step m k none at bit) ≡ flat_lead k at
unfolding T.flat_step T.float_step T.enum_step without_value flat_lead
flat_led m F.Boolean none at bit = refl
flat_led m (F.Integer s w) none at bit = refl
flat_led m (F.Float w) none at bit = by (none && is_nan w (le m at w))
  where
    by : (t : Bool) → without_value (pick t St.Absent (St.Value (le m at w))) ≡ St.Absent
    by true = refl
    by false = refl
flat_led m (F.Enumerated n) none at bit = by (eqb (get_or m at 0) 255) (ltb (get_or m at 0) n)
  where
    by : (t u : Bool) → without_value (pick t St.Absent (pick u (St.Value (get_or m at 0)) (St.Unknown (get_or m at 0)))) ≡ St.Absent
    by true u = refl
    by false true = refl
    by false false = refl
flat_led m (F.Struct i) none at bit = refl

flat_lead_small : (S : Schema) (k : Flat) (at : ℕ) → StepSmall S (flat_lead k at)
unfolding flat_lead
flat_lead_small S F.Boolean at = tt
flat_lead_small S (F.Integer s w) at = tt
flat_lead_small S (F.Float w) at = tt
flat_lead_small S (F.Enumerated n) at = tt
flat_lead_small S (F.Struct i) at = tt

pub lead_small : (S : Schema) (k : Flat) (at : ℕ) (r : Step) → r ≡ flat_lead k at → StepSmall S r
lead_small S k at r e = subst (StepSmall S) (sym e) (flat_lead_small S k at)

flat_step_small : (S : Schema) (m : List ℕ) (k : Flat) (none : Bool) (at bit : ℕ) → StepSmall S (T.flat_step m k none at bit)
unfolding T.flat_step T.float_step T.enum_step
flat_step_small S m F.Boolean none at bit = tt
flat_step_small S m (F.Integer s w) none at bit = tt
flat_step_small S m (F.Float w) none at bit = by (none && is_nan w (le m at w))
  where
    by : (t : Bool) → StepSmall S (pick t St.Absent (St.Value (le m at w)))
    by true = tt
    by false = tt
flat_step_small S m (F.Enumerated n) none at bit = by (eqb (get_or m at 0) 255) (ltb (get_or m at 0) n)
  where
    by : (t u : Bool) → StepSmall S (pick t St.Absent (pick u (St.Value (get_or m at 0)) (St.Unknown (get_or m at 0))))
    by true u = tt
    by false true = tt
    by false false = tt
flat_step_small S m (F.Struct i) none at bit = tt

pub step_small : (S : Schema) (m : List ℕ) (k : Flat) (none : Bool) (at bit : ℕ) (r : Step) → r ≡ T.flat_step m k none at bit → StepSmall S r
step_small S m k none at bit r e = subst (StepSmall S) (sym e) (flat_step_small S m k none at bit)

-- ---- references
pub place_small : (inplace : Bool) (tail x : ℕ) → tail < 2 ^ 48 → x < 2 ^ 48 → (p : Place) → p ≡ T.place_of inplace tail x → PlaceSmall p
unfolding T.place_of
place_small true tail x h l p e = subst PlaceSmall (sym e) (h, l)
place_small false tail x h l p e = subst PlaceSmall (sym e) l

object_seen : (t : Bool) (ob : Object) (inplace : Bool) (tail x : ℕ) → T.object_step ob inplace tail x ≡ seen t (T.object_step ob inplace tail x)
unfolding T.object_step without_value
object_seen true ob inplace tail x = refl
object_seen false ob inplace tail x = by (eqb x 0)
  where
    by : (t : Bool) → pick t St.Absent (St.Object ob (T.place_of inplace tail x)) ≡ without_value (pick t St.Absent (St.Object ob (T.place_of inplace tail x)))
    by true = refl
    by false = refl

-- ---- unions
choice_seen : (t : Bool) (c : ℕ) (ob : Object) (p : Place) → St.Choice c ob p ≡ seen t (St.Choice c ob p)
unfolding without_value
choice_seen true c ob p = refl
choice_seen false c ob p = refl

-- a known choice, and its object's index in range
module _ (b dir : List ℕ) (a : Accepted b dir) (u c k n : ℕ) (h : c ≡ 0 → ⊥) (ek : k ≡ c) (en : n ≡ length (Sc.cases_of (P.parse b) u)) (l : k ≤ n) (ob : Object)
    (eo : ob ≡ Sc.case_of (Sc.cases_of (P.parse b) u) k) where
  pub case_seen : (t inplace : Bool) (tail x : ℕ) (p : Place) → p ≡ T.place_of inplace tail x
      → St.Choice c ob p ≡ seen t (T.union_step (Sc.cases_of (P.parse b) u) inplace tail c x)
  case_seen t inplace tail x p ep =
      choice_seen t c ob p ∙ ap (seen t) (union-known inplace tail x (Sc.cases_of (P.parse b) u) c h k n ek en l ob eo p ep)

  pub case_sound : ObjectSound (P.parse b) ob
  unfolding Sc.case_of
  case_sound =
      let z : (k ≡ 0 → ⊥) = λ e. h (sym ek ∙ e) in
      let q : pred k < length (Sc.cases_of (P.parse b) u) = omega arith in
      rw eo (all-at (ObjectSound (P.parse b)) O.Text (Sc.cases_of (P.parse b) u) (pred k) ((accepted_sound b dir a).unions u).cases q)

-- ---- by the kind
module _ (o : ℕ) (S : Schema) (m : List ℕ) (k : Kind) (none inplace : Bool) (tail at bit : ℕ) (r : Step) where
  pub flat_whole : (n : ℕ) → (n ≡ 0 → ⊥) → (f : Flat) → k ≡ OfFlat f → r ≡ T.flat_step m f none at bit → r ≡ seen (not (eqb n 0)) (T.value_step o S m k none inplace tail at bit)
  flat_whole n h f e q = simp (ne_eqb _ _ h) (value-flat o S m k none inplace tail at bit r f e q)

  pub flat_leads : (n : ℕ) → n ≡ 0 → (f : Flat) → k ≡ OfFlat f → r ≡ flat_lead f at → r ≡ seen (not (eqb n 0)) (T.value_step o S m k none inplace tail at bit)
  flat_leads n h f e q =
      simp (eq-eqb _ _ h)
      (q ∙ sym (flat_led m f none at bit) ∙ ap without_value (value-flat o S m k none inplace tail at bit (T.flat_step m f none at bit) f e refl))

  module _ (t : Bool) where
    pub value_object : (ob : Object) → k ≡ OfObject ob → (x : ℕ) → x ≡ le m at o → r ≡ T.object_step ob inplace tail x
        → r ≡ seen t (T.value_step o S m k none inplace tail at bit)
    value_object ob e x ex q =
        q ∙ object_seen t ob inplace tail x ∙ ap (seen t) (value-object o S m k none inplace tail at bit (T.object_step ob inplace tail x) ob e x ex refl)

    pub value_union : (u i : ℕ) → k ≡ OfUnion u → i ≡ u → (c x : ℕ) → Number m at 2 c → x ≡ le m (at + 2) o
        → r ≡ seen t (T.union_step (Sc.cases_of S i) inplace tail c x) → r ≡ seen t (T.value_step o S m k none inplace tail at bit)
    value_union u i e ei c x nc ex q =
        q ∙ ap (seen t) (value-union o S m k none inplace tail at bit (T.union_step (Sc.cases_of S i) inplace tail c x) u i e ei c x nc ex refl)

-- ---- the lead of a member, by the step before its struct is tested
lead_tested : (S : Schema) (m : List ℕ) (s : Step) → lead_of (T.struct_tested S m (without_value s)) ≡ lead_of (T.struct_tested S m s)
unfolding T.struct_tested without_value lead_of
lead_tested S m (St.Refused n) = refl
lead_tested S m St.Absent = refl
lead_tested S m (St.Value x) = refl
lead_tested S m (St.Unknown x) = refl
lead_tested S m (St.Struct i at) = refl
lead_tested S m (St.Object ob p) = refl
lead_tested S m (St.Choice c ob p) = refl

pub told_tested : (t : Bool) (S : Schema) (m : List ℕ) (s : Step) → told t (T.struct_tested S m (seen t s)) ≡ told t (T.struct_tested S m s)
told_tested true S m s = refl
told_tested false S m s = lead_tested S m s
