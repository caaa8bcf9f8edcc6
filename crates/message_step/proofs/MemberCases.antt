-- A member's step by its reach; then its struct is tested, and the cursor stands behind it.
use mathlib.Core.Path.{◌≡◌, refl, sym, ap, ◌∙◌}
use mathlib.Core.Bool.{Bool, true, false}
use mathlib.Core.List.{List}
use Prim.Native.Nat.{ℕ, ◌+◌, ◌^◌, ◌<◌, ◌≤◌}
use native.Mathlib.Omega.{arith}
use lib.ListN.{length}
use Rattle.coding.specs.Schema.{Schema}
use Rattle.coding.specs.Layout as L
use Rattle.coding.specs.Step as T
use Rattle.coding.specs.declared.Member.{Member}
use Rattle.coding.specs.declared.Cursor.{Cursor}
use Rattle.coding.specs.declared.Placement.{Placement}
use Rattle.coding.specs.declared.Slot.{Slot}
use Rattle.coding.specs.declared.Step.{Step}
use Rattle.coding.specs.declared.Step.TheVariants as St
use Rattle.message_layout.specs.Bounds.{Laid, Stands}
use Rattle.message_step.specs.declared.Reach.{Reach}
use Rattle.message_step.specs.declared.Reach.TheVariants.{Cut, Past, Here}
use Rattle.message_step.specs.Lead.{without_value, seen, told, reach_of, reached, Sits, Stepped}
use Rattle.message_step.proofs.ReachCases.{step-reached, slot-size, here-inside}
use Rattle.message_step.proofs.LeadCases.{told_tested}

-- ---- by its placement
module _ (o : ℕ) (S : Schema) (m : List ℕ) (start n : ℕ) (p : Placement) (r : Member) (flag : Bool) (ef : flag ≡ L.has_flag r)
    (g : Reach) (eg : g ≡ reach_of m start n p flag) where
  abbrev here : Step
  here = T.value_step o S m r.kind r.optional r.inplace (start + n) (start + p.value.at) p.value.bit

  -- the definition's step by the code's reach
  reached_is : T.placed_step o S m start n p r ≡ reached g here
  reached_is = step-reached o S m start n p r ∙ sym (ap (λ (q : Reach). reached q here) (eg ∙ ap (reach_of m start n p) ef))

  seen_reached : (t : Bool) {q : Reach} → g ≡ q → reached q (seen t here) ≡ seen t (T.placed_step o S m start n p r)
  unfolding reached without_value
  seen_reached t {q} e = by t q here ∙ sym (ap (seen t) (reached_is ∙ ap (λ (y : Reach). reached y here) e))
    where
      by : (t : Bool) (q : Reach) (s : Step) → reached q (seen t s) ≡ seen t (reached q s)
      by true q s = refl
      by false Cut s = refl
      by false Past s = refl
      by false Here s = refl

  module _ (t : Bool) where
    pub step_cut : g ≡ Cut → St.Refused 8 ≡ seen t (T.placed_step o S m start n p r)
    unfolding reached
    step_cut e = seen_reached t e

    pub step_past : g ≡ Past → St.Absent ≡ seen t (T.placed_step o S m start n p r)
    unfolding reached
    step_past e = seen_reached t e

    pub step_here : g ≡ Here → (s : Step) → s ≡ seen t (T.value_step o S m r.kind r.optional r.inplace (start + n) (start + p.value.at) p.value.bit)
        → s ≡ seen t (T.placed_step o S m start n p r)
    unfolding reached
    step_here e s q = q ∙ seen_reached t e

  module _ (e : g ≡ Here) where
    -- it lies within the message
    pub value-inside : Sits (L.width o S r.kind) p → start + n ≤ length m → start + p.value.at + L.width o S r.kind ≤ length m
    value-inside sits h = omega (arith, sits.size, here-inside m start n p flag g eg e)

    pub value_low : Sits (L.width o S r.kind) p → start + n ≤ length m → length m ≤ 16777215 → start + p.value.at < 2 ^ 60
    value_low sits h l = omega (arith, value-inside sits h)

-- content in place stands within the message
pub tail_small : (m : List ℕ) (start n : ℕ) → start + n ≤ length m → length m ≤ 16777215 → start + n < 2 ^ 48
tail_small m start n h l = omega arith

-- ---- where the cursor stands
module _ (o : ℕ) (S : Schema) (m : List ℕ) (start n : ℕ) (c : Cursor) (r : Member) (q : Placement) (next : Cursor)
    (stands : Stands (L.member_slot o S r c) (L.after_member o S r c) (c.end + 1) q.value next) where
  pub sits : c.end < 2 ^ 58 → q.flag.bit < 8 → Sits (L.width o S r.kind) q
  unfolding L.member_slot
  sits h l =
      let z : q.value.size ≡ L.width o S r.kind = ap (λ (s : Slot). s.size) stands.slot_is ∙ slot-size o S r.kind (L.after_flag r c) in
      let y = stands.at in
      let x = stands.size in
      record { at = omega arith; size = z; small = omega arith; bit = stands.bit; flag = l }

  laid_more : Laid (c.end + 4097) next
  laid_more =
      let h = stands.laid in
      let l = h.end in
      record { end = omega arith; byte = h.byte; bit = h.bit }

  pub member-stepped : q ≡ L.placement_of o S r c → (t : Bool) (found s : Step) → found ≡ seen t (T.placed_step o S m start n q r) → s ≡ told t (T.struct_tested S m found)
      → Stepped (told t (T.member_step o S m start n c r)) (L.after_member o S r c) c.end s next
  unfolding T.member_step
  member-stepped eq t found s e f =
      record {
        step_is =
            f ∙ ap (λ (x : Step). told t (T.struct_tested S m x)) (e ∙ ap (λ (y : Placement). seen t (T.placed_step o S m start n y r)) eq)
            ∙ told_tested t S m (T.placed_step o S m start n (L.placement_of o S r c) r);
        next_is = stands.next_is;
        laid = laid_more;
      }
