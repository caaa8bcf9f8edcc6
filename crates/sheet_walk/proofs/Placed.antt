-- A member that leads to no object, by its placement: what its value may rely on, and its bits.
use mathlib.Core.Path.{◌≡◌, refl, sym, ap, ◌∙◌, subst}
use mathlib.Core.Logic.{◌⊎◌, inl, inr}
use mathlib.Core.Bool.{Bool, true}
use mathlib.Core.List.{List, []}
use Prim.Native.Nat.{ℕ, ◌+◌, ◌*◌, ◌^◌, ◌<◌, ◌≤◌}
use native.Mathlib.Omega.{arith}
use lib.ListN.{length}
use Rattle.coding.specs.Schema.{Schema}
use Rattle.coding.specs.Structs.{flat_width, struct_size}
use Rattle.coding.specs.Layout as L
use Rattle.coding.specs.Step as T
use Rattle.coding.specs.declared.Flat.{Flat}
use Rattle.coding.specs.declared.Object.{Object}
use Rattle.coding.specs.declared.Kind.{Kind}
use Rattle.coding.specs.declared.Kind.TheVariants.{OfFlat, OfObject, OfUnion}
use Rattle.coding.specs.declared.Member.{Member}
use Rattle.coding.specs.declared.Cursor.{Cursor}
use Rattle.coding.specs.declared.Placement.{Placement}
use Rattle.message_step.specs.Lead.{Sits, reached, reach_of}
use Rattle.message_step.specs.declared.Reach.{Reach}
use Rattle.message_step.specs.declared.Reach.TheVariants.{Cut, Past, Here}
use Rattle.message_step.proofs.ReachCases.{step-reached, here-inside}
use Rattle.bitio.specs.Puts.{Room, Puts}
use Rattle.bitio.specs.PutsLaws.{puts_none, puts-same}
use Rattle.sheet_walk.specs.MessageBits as A
use Rattle.sheet_walk.specs.Readable as D
use Rattle.sheet_walk.specs.Stepping.{IsHere}
use Rattle.sheet_walk.proofs.Flats.{is_flat, flat-bits, flat-lawful}

-- ---- the value
value_inside : (o : ℕ) (S : Schema) (k : Kind) (at w n : ℕ) → w ≡ L.width o S k → at + w ≤ n → (f : Flat) → k ≡ OfFlat f → at + flat_width (struct_size S) f ≤ n
unfolding L.width
value_inside o S k at w n ew h f e = subst (λ (i : Kind). at + L.width o S i ≤ n) e (subst (λ (i : ℕ). at + i ≤ n) ew h)

pub placed_inside : (o : ℕ) (S : Schema) (m : List ℕ) (start n : ℕ) (p : Placement) (k : Kind) → start + n ≤ length m → length m ≤ 16777215
    → Sits (L.width o S k) p → (flag : Bool) (g : Reach) → g ≡ reach_of m start n p flag → g ≡ Here → (f : Flat) → k ≡ OfFlat f
    → (start + p.value.at + flat_width (struct_size S) f ≤ length m) × (p.value.bit < 8) × (start + p.value.at < 2 ^ 60)
placed_inside o S m start n p k fits short sits flag g eg h f e =
    let l = here-inside m start n p flag g eg h in
    let z : start + p.value.at + p.value.size ≤ length m = omega arith in
    (value_inside o S k (start + p.value.at) p.value.size (length m) sits.size z f e, sits.bit, omega arith)

value_none : (S : Schema) (m : List ℕ) (k : Kind) (none : Bool) (at bit : ℕ) → ((ob : Object) × (k ≡ OfObject ob)) ⊎ ((u : ℕ) × (k ≡ OfUnion u)) → A.value_at S m k none at bit ≡ []
unfolding A.value_at
value_none S m k none at bit (inl (ob, e)) = rw e
value_none S m k none at bit (inr (u, e)) = rw e

pub placed_none : (S : Schema) (m : List ℕ) (start n : ℕ) (p : Placement) (r : Member) → ((ob : Object) × (r.kind ≡ OfObject ob)) ⊎ ((u : ℕ) × (r.kind ≡ OfUnion u))
    → (flag : Bool) → flag ≡ L.has_flag r → (g : Reach) → g ≡ reach_of m start n p flag → g ≡ Here → (out : List ℕ) (q : ℕ) → Room out q
    → Puts out q (A.placed_at S m start n p r) out q
unfolding A.placed_at A.member_at
placed_none S m start n p r k flag ef g eg h out q room =
    puts-same out out q q [] (A.placed_at S m start n p r)
    (sym (ap (λ (i : Reach). A.member_at S m r.kind r.optional i (start + p.value.at) p.value.bit) (ap (reach_of m start n p) (sym ef) ∙ sym eg ∙ h)
    ∙ value_none S m r.kind r.optional (start + p.value.at) p.value.bit k))
    (puts_none out q room.most)

-- ---- its bits, in a table
-- a member that is cut has the bits of an absent one
reached-bits : (o d : ℕ) (S : Schema) (m : List ℕ) (k : Kind) (none inplace : Bool) (tail at bit : ℕ) (g : Reach) → is_flat k ≡ true
    → A.step_at o d S m k (T.struct_tested S m (reached g (T.value_step o S m k none inplace tail at bit))) ≡ A.member_at S m k none g at bit
unfolding A.step_at A.member_at A.value_at T.value_step T.struct_tested is_flat reached
reached-bits o d S m k none inplace tail at bit Cut e = refl
reached-bits o d S m k none inplace tail at bit Past e = refl
reached-bits o d S m (OfFlat f) none inplace tail at bit Here e = sym (flat-bits o d S m f none at bit)
reached-bits o d S m (OfObject ob) none inplace tail at bit Here e = cc
reached-bits o d S m (OfUnion u) none inplace tail at bit Here e = cc

reached_readable : (o : ℕ) (child : D.Child) (S : Schema) (m : List ℕ) (k : Kind) (none inplace : Bool) (tail at bit : ℕ) (g : Reach)
    → D.StepReadable child S m (T.struct_tested S m (reached g (T.value_step o S m k none inplace tail at bit))) → g ≡ Here → D.ValueReadable S m k at
unfolding D.ValueReadable T.value_step T.struct_tested reached
reached_readable o child S m k none inplace tail at bit Cut h e = cc
reached_readable o child S m k none inplace tail at bit Past h e = cc
reached_readable o child S m (OfFlat f) none inplace tail at bit Here h e = flat-lawful child S m f none at bit h
reached_readable o child S m (OfObject ob) none inplace tail at bit Here h e = tt
reached_readable o child S m (OfUnion u) none inplace tail at bit Here h e = tt

module _ (o d : ℕ) (S : Schema) (m : List ℕ) (start n : ℕ) (c : Cursor) (r : Member) (p : Placement) (ep : p ≡ L.placement_of o S r c) where
  step_is : T.member_step o S m start n c r
      ≡ T.struct_tested S m (reached (reach_of m start n p (L.has_flag r)) (T.value_step o S m r.kind r.optional r.inplace (start + n) (start + p.value.at) p.value.bit))
  unfolding T.member_step
  step_is = ap (λ (i : Placement). T.struct_tested S m (T.placed_step o S m start n i r)) (sym ep) ∙ ap (T.struct_tested S m) (step-reached o S m start n p r)

  pub placed_readable : D.StepReadable (D.ObjectReadable o d S m) S m (T.member_step o S m start n c r) → IsHere m start n p r → D.ValueReadable S m r.kind (start + p.value.at)
  placed_readable h e =
      reached_readable o (D.ObjectReadable o d S m) S m r.kind r.optional r.inplace (start + n) (start + p.value.at) p.value.bit (reach_of m start n p (L.has_flag r))
      (subst (D.StepReadable (D.ObjectReadable o d S m) S m) step_is h) e

  pub placed_puts : is_flat r.kind ≡ true → (out out₁ : List ℕ) (q q₁ : ℕ) → Puts out q (A.placed_at S m start n p r) out₁ q₁
      → Puts out q (A.step_at o d S m r.kind (T.member_step o S m start n c r)) out₁ q₁
  unfolding A.placed_at
  placed_puts f out out₁ q q₁ put =
      puts-same out out₁ q q₁ (A.placed_at S m start n p r) (A.step_at o d S m r.kind (T.member_step o S m start n c r))
      (sym (ap (A.step_at o d S m r.kind) step_is
      ∙ reached-bits o d S m r.kind r.optional r.inplace (start + n) (start + p.value.at) p.value.bit (reach_of m start n p (L.has_flag r)) f)) put
