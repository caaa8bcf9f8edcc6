-- Where a member stands, by its row.
use Rattle.std.specs.Prelude.{ℕ, ◌+◌, ◌/◌, ◌%◌, ◌<◌, ◌≤◌, ◌≡◌, refl, Bool, true, false, List, take}
use Rattle.std.proofs.Common.{ap, ap₂, ◌∙◌}
use Rattle.coding.specs.Bytes.{le}
use Rattle.coding.specs.Schema.{Schema, table_of}
use Rattle.coding.specs.Packed.{parse}
use Rattle.coding.specs.Layout.{has_flag, begin, bit_slot, member_slot, placement_of, after_members}
use Rattle.coding.specs.Step.{placed_step}
use Rattle.coding.specs.declared.Member.{Member}
use Rattle.coding.specs.declared.Cursor.{Cursor}
use Rattle.coding.specs.declared.Slot.{Slot}
use Rattle.coding.specs.declared.Placement.{Placement}

-- the slot of a first bit, of so many bytes
unfoldable pub slot_at : ℕ → ℕ → Slot
slot_at bit size = record { at = bit / 8; bit = bit % 8; size = size }

-- the placement that the row from byte `at` on gives; where its member has no flag, the flag's slot says nothing
unfoldable pub placement_in : List ℕ → ℕ → Placement
placement_in rows at =
    record { value = slot_at (le rows at 4) ((le rows (at + 8) 4 + 7) / 8); flag = slot_at (le rows (at + 4) 4) 1 }

-- the cursor at member j of table t
abbrev pub cursor_at : ℕ → List ℕ → ℕ → ℕ → Cursor
cursor_at o b t j = after_members o (parse b) (take j (table_of (parse b) t).members) begin

-- p is where the layout rule places the member r at the cursor c, the flag only if there is one; and p keeps to its bounds
pub record ByTable (o : ℕ) (S : Schema) (r : Member) (c : Cursor) (p : Placement) : Type 0 where
  pub value_is : p.value ≡ member_slot o S r c
  pub flag_is : has_flag r ≡ true → p.flag ≡ bit_slot c
  pub at : p.value.at ≤ 262208
  pub bit : p.value.bit < 8
  pub size : p.value.size ≤ 4096
  pub flag : p.flag.bit < 8

-- a member without a flag holds the same, wherever its flag would stand
no_flag : (o : ℕ) (S : Schema) (m : List ℕ) (start n : ℕ) (r : Member) → has_flag r ≡ false → (v f g : Slot)
    → placed_step o S m start n (record { value = v; flag = f }) r ≡ placed_step o S m start n (record { value = v; flag = g }) r
unfolding placed_step
no_flag o S m start n r e v f g = rw e refl

-- so a member holds by its row what it holds by the layout rule
pub same_step : (o : ℕ) (S : Schema) (m : List ℕ) (start n : ℕ) (r : Member) (c : Cursor) (p : Placement) → ByTable o S r c p
    → placed_step o S m start n p r ≡ placed_step o S m start n (placement_of o S r c) r
unfolding placement_of
same_step o S m start n r c p h = by (has_flag r) refl
  where
    by : (t : Bool) → has_flag r ≡ t → placed_step o S m start n p r ≡ placed_step o S m start n (placement_of o S r c) r
    by true e = ap₂ (λ (v f : Slot). placed_step o S m start n (record { value = v; flag = f }) r) h.value_is (h.flag_is e)
    by false e =
        ap (λ (v : Slot). placed_step o S m start n (record { value = v; flag = p.flag }) r) h.value_is
        ∙ no_flag o S m start n r e (member_slot o S r c) p.flag (bit_slot c)
