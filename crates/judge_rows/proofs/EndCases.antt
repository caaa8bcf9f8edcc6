-- Members behind the end of the fixed part: once neither a bool nor another value can start within it, the rest is absent.
use Rattle.std.specs.Prelude.{Ok}
use mathlib.Core.Path.{◌≡◌, refl, ap, ◌∙◌}
use mathlib.Core.Bool.{Bool, true, false}
use mathlib.Core.List.{List, [], ◌∷◌}
use Prim.Native.Nat.{ℕ, ◌+◌, ◌≤◌}
use native.Mathlib.Omega.{arith}
use lib.Dec.{ltb}
use borrow.Author.Tests.{le-leb}
use Rattle.coding.specs.Lists.{pick}
use Rattle.coding.specs.Schema.{Schema}
use Rattle.coding.specs.Layout as L
use Rattle.coding.specs.Step as T
use Rattle.coding.specs.Walk as W
use Rattle.coding.specs.declared.Member.{Member}
use Rattle.coding.specs.declared.Cursor.{Cursor}
use Rattle.coding.specs.declared.Slot.{Slot}
use Rattle.coding.specs.declared.Step.{Step}
use Rattle.coding.specs.declared.Step.TheVariants as St
use Rattle.coding.specs.declared.Spent.{Spent}
use Rattle.laws.specs.Lists.{pick_holds}

-- neither a bool nor another value that comes next starts within n bytes
pub record Ended (n : ℕ) (c : Cursor) : Type 0 where
  pub end : n ≤ c.end
  pub byte : n ≤ L.bit_byte c

ended_bit : (n : ℕ) (c : Cursor) → Ended n c → Ended n (L.after_bit c)
unfolding L.after_bit L.bit_byte
ended_bit n c e = by (ltb c.bit 8) (ltb (c.bit + 1) 8) refl e.byte
  where
    by : (t u : Bool) → ltb (c.bit + 1) 8 ≡ u → n ≤ pick t c.byte c.end
        → Ended n (pick t (record { end = c.end; byte = c.byte; bit = c.bit + 1 }) (record { end = c.end + 1; byte = c.end; bit = 1 }))
    by true true q h = record { end = e.end; byte = rw q h }
    by true false q h = record { end = e.end; byte = rw q e.end }
    by false u q h = record { end = omega (arith, e.end); byte = e.end }

ended_bytes : (n w : ℕ) (c : Cursor) → Ended n c → Ended n (L.after_bytes w c)
unfolding L.after_bytes L.bit_byte
ended_bytes n w c e = record { end = omega (arith, e.end); byte = by (ltb c.bit 8) e.byte }
  where
    by : (t : Bool) → n ≤ pick t c.byte c.end → n ≤ pick t c.byte (c.end + w)
    by true h = h
    by false h = omega (arith, e.end)

module _ (o : ℕ) (S : Schema) (n : ℕ) (c : Cursor) (r : Member) (e : Ended n c) where
  ended-member : Ended n (L.after_member o S r c)
  unfolding L.after_member L.after_flag L.after_value
  ended-member =
      let f : Ended n (pick (L.has_flag r) (L.after_bit c) c) = pick_holds (Ended n) (L.has_flag r) (L.after_bit c) c (λ _. ended_bit n c e) (λ _. e) in
      pick_holds (Ended n) (L.is_bool r.kind) _ _ (λ _. ended_bit n _ f) (λ _. ended_bytes n _ _ f)

  -- without a flag, the value starts past the end
  starts_past : L.has_flag r ≡ false → n ≤ (L.member_slot o S r c).at
  unfolding L.member_slot L.after_flag L.slot_of L.bit_slot
  starts_past q = rw q (pick_holds (λ (s : Slot). n ≤ s.at) (L.is_bool r.kind) _ _ (λ _. e.byte) (λ _. e.end))

  absent : (m : List ℕ) (start : ℕ) → T.member_step o S m start n c r ≡ St.Absent
  unfolding T.member_step T.placed_step L.placement_of L.bit_slot T.struct_tested T.flagged T.inside
  absent m start = by (L.has_flag r) (L.member_slot o S r c) _ starts_past
    where
      by : (f : Bool) (slot : Slot) (here : Step) → (f ≡ false → n ≤ slot.at)
          → T.struct_tested S m (pick f (T.flagged m start n (L.bit_slot c) slot here) (T.inside n slot St.Absent here)) ≡ St.Absent
      by true slot here h = simp (le-leb _ _ e.byte)
      by false slot here h = simp (le-leb _ _ (h refl))

pub members_past : (child : W.Child) (o : ℕ) (S : Schema) (m : List ℕ) (holder start n : ℕ) (c : Cursor) (j : ℕ) (rs : List Member) (v : Spent) → Ended n c
    → W.members child o S m holder start n c j rs v ≡ Ok v
unfolding W.members W.and_then W.follow
members_past child o S m holder start n c j [] v e = refl
members_past child o S m holder start n c j (r ∷ rs) v e =
    ap (λ (q : Step). W.and_then (W.follow child holder j q v) (W.members child o S m holder start n (L.after_member o S r c) (j + 1) rs)) (absent o S n c r e m start)
    ∙ members_past child o S m holder start n (L.after_member o S r c) (j + 1) rs v (ended-member o S n c r e)
