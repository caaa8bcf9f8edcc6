-- A table's member by its row of the table of positions: it holds what the layout rule says.
use mathlib.Core.Path.{◌≡◌, sym, ap, ◌∙◌, subst}
use mathlib.Core.List.{List}
use Prim.Native.Nat.{ℕ, ◌+◌, ◌<◌, ◌≤◌}
use native.Mathlib.Omega.{arith}
use lib.ListN.{length}
use Rattle.coding.specs.Schema as Sc
use Rattle.coding.specs.Schema.{Schema}
use Rattle.coding.specs.Packed as P
use Rattle.coding.specs.Layout as L
use Rattle.coding.specs.Step as T
use Rattle.coding.specs.declared.Member.{Member}
use Rattle.coding.specs.declared.Cursor.{Cursor}
use Rattle.coding.specs.declared.Slot.{Slot}
use Rattle.coding.specs.declared.Placement.{Placement}
use Rattle.coding.specs.declared.Step.{Step}
use Rattle.laws.specs.Sound.{MemberSound}
use Rattle.message_step.specs.Lead.{Sits}
use Rattle.message_step.proofs.ReachCases.{slot-size}
use Rattle.positions.specs.Placements.{ByTable, same_step}
use Rattle.schema.specs.Directory.{Accepted, accepted_sound}
use Rattle.field_arrival.specs.Within.{Readable, StepWithin}
use Rattle.field_part.proofs.StepsWithin.{placed-within}

-- the member is there
pub row_there : (S : Schema) (t j count : ℕ) → count ≡ length (Sc.table_of S t).members → j < count → j < length (Sc.table_of S t).members
row_there S t j count e h = omega arith

-- what a member holds by a placement, its struct tested
module _ (o : ℕ) (b dir m : List ℕ) (start n : ℕ) (p : Placement) (r : Member) (found step : Step) (ef : found ≡ T.placed_step o (P.parse b) m start n p r)
    (es : step ≡ T.struct_tested (P.parse b) m found) where
  pub placed_is : step ≡ T.struct_tested (P.parse b) m (T.placed_step o (P.parse b) m start n p r)
  placed_is = es ∙ ap (T.struct_tested (P.parse b) m) ef

  pub placed-inside : o ≤ 6 → Accepted b dir → Readable m → MemberSound (P.parse b) r → Sits (L.width o (P.parse b) r.kind) p → start + n ≤ length m
      → StepWithin (P.parse b) m step
  placed-inside most a g s sits h =
      subst (StepWithin (P.parse b) m) (sym placed_is)
      (placed-within (P.parse b) (accepted_sound b dir a) m g o most r s start n p sits.size h)

-- a member that stands by its row
module _ (o : ℕ) (S : Schema) (r x : Member) (ex : x ≡ r) (c : Cursor) (p : Placement) (placed : ByTable o S r c p) where
  pub row_sits : Sits (L.width o S x.kind) p
  unfolding L.member_slot
  row_sits =
      let z : p.value.size ≡ L.width o S r.kind =
      ap (λ (s : Slot). s.size) placed.value_is ∙ slot-size o S r.kind (L.after_flag r c) in
      let q = placed.at in
      let u = placed.size in
      subst (λ (y : Member). Sits (L.width o S y.kind) p) (sym ex)
      (record { at = omega arith; size = z; small = omega arith; bit = placed.bit; flag = placed.flag })

  pub row_step : (m : List ℕ) (start n : ℕ) (step : Step) → step ≡ T.struct_tested S m (T.placed_step o S m start n p x) → step ≡ T.member_step o S m start n c x
  unfolding T.member_step
  row_step m start n step e =
      let by : ByTable o S x c p = subst (λ (y : Member). ByTable o S y c p) (sym ex) placed in
      e ∙ ap (T.struct_tested S m) (same_step o S m start n x c p by)
