-- Where a value stands: the ways out.
use mathlib.Core.Path.{◌≡◌, ap, ap₂, ◌∙◌}
use mathlib.Core.Bool.{Bool}
use Prim.Native.Nat.{ℕ, ◌+◌}
use native.Mathlib.Omega.{arith}
use Rattle.coding.specs.Lists.{pick}
use Rattle.coding.specs.Schema.{Schema}
use Rattle.coding.specs.Layout as L
use Rattle.coding.specs.declared.Member.{Member}
use Rattle.coding.specs.declared.Cursor.{Cursor}
use Rattle.coding.specs.declared.Slot.{Slot}
use Rattle.message_layout.specs.Bounds.{Laid, Stands}

-- a member's value behind its flag
pub member-stands : (o : ℕ) (S : Schema) (r : Member) (c f : Cursor) (t : Bool) → t ≡ L.has_flag r → f ≡ pick t (L.after_bit c) c → Laid (c.end + 1) f → (s : Slot) (n : Cursor)
    → Stands (L.slot_of o S r.kind f) (L.after_value o S r.kind f) f.end s n
    → Stands (L.member_slot o S r c) (L.after_member o S r c) (c.end + 1) s n
unfolding L.member_slot L.after_member L.after_flag
member-stands o S r c f t et ef laid s n h =
    let e : f ≡ pick (L.has_flag r) (L.after_bit c) c = ef ∙ ap (λ (u : Bool). pick u (L.after_bit c) c) et in
    let l = laid.end in
    let g = h.at in
    let q = h.laid in
    record {
      slot_is = h.slot_is ∙ ap (L.slot_of o S r.kind) e;
      next_is = h.next_is ∙ ap (L.after_value o S r.kind) e;
      at = omega arith;
      bit = h.bit;
      some = h.some;
      size = h.size;
      laid = record { end = omega arith; byte = q.byte; bit = q.bit };
    }

-- a member's value and its flag
pub placement_is : (o : ℕ) (S : Schema) (r : Member) (c f : Cursor) (t : Bool) → t ≡ L.has_flag r → f ≡ pick t (L.after_bit c) c → (value flag : Slot) (n : Cursor)
    → Stands (L.slot_of o S r.kind f) (L.after_value o S r.kind f) f.end value n → flag ≡ L.bit_slot c
    → record { value = value; flag = flag } ≡ L.placement_of o S r c
unfolding L.placement_of L.member_slot L.after_flag
placement_is o S r c f t et ef value flag n h eg =
    let e : f ≡ pick (L.has_flag r) (L.after_bit c) c = ef ∙ ap (λ (u : Bool). pick u (L.after_bit c) c) et in
    ap₂ (λ (x y : Slot). record { value = x; flag = y }) (h.slot_is ∙ ap (L.slot_of o S r.kind) e) eg
