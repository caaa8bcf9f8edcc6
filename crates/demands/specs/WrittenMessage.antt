-- The message of a tree that can be written: it holds the tree from its root on, its start is in order, and its bytes are
-- bytes.
use Rattle.std.specs.Prelude.{◌≡◌, refl, List, ℕ, ◌+◌, ◌*◌, ◌^◌, ◌<◌, ◌≤◌, length}
use Rattle.std.proofs.Common.{subst, arith}
use Rattle.coding.specs.Bytes.{le, le_bytes, deepest}
use Rattle.coding.specs.Schema.{Schema}
use Rattle.coding.specs.Layout.{begin, after_bytes}
use Rattle.coding.specs.Walk.{start_size, root_place}
use Rattle.coding.specs.Value.{Value}
use Rattle.coding.specs.Cells.{Slots, width, pack_bits, layout}
use Rattle.coding.specs.Cells.Slots.{end, bytes, reference}
use Rattle.coding.specs.Message.{object_slots, plan, message_of}
use Rattle.coding.specs.declared.Object.TheVariants as O
use Rattle.coding.specs.declared.Place.TheVariants.{ByOffset}
use Rattle.laws.specs.Sound.{All, Sound}
use Rattle.laws.specs.Bits.{Byte}
use Rattle.demands.specs.Holds.{length-le_bytes, holds-le, le_bytes_bytes}
use Rattle.demands.specs.CellsHold.{length-layout, layout_holds, layout_bytes}
use Rattle.demands.specs.SlotsHold.{SlotsBytes, SlotsHold, pack_bytes, slots_hold}
use Rattle.demands.specs.AtCursor.{At, at_bytes, at_reference}
use Rattle.demands.specs.Writes.{Writes}
use Rattle.demands.specs.TreeHold.{HoldsTree}
use Rattle.demands.specs.WrittenBytes.{object_bytes, plan_bytes}
use Rattle.demands.specs.WrittenTree.{tree_inner}

-- the message's start: its magic and the reference to the root
abbrev start_slots : Slots → Slots
start_slots root = bytes (le_bytes 4 0xB5C0_C4B3) (reference root end)

start-width : (o : ℕ) (root : Slots) → width o (pack_bits 0 (start_slots root)) ≡ start_size o
unfolding width pack_bits start_size
start-width o root = omega (arith, length-le_bytes 4 0xB5C0_C4B3)

start-at : (o : ℕ) (root : Slots) → SlotsBytes root → length (layout o (pack_bits 0 (start_slots root))) < 256 ^ o
    → At o (layout o (pack_bits 0 (start_slots root))) 0 begin (start_size o) (start_size o) (start_slots root)
unfolding begin
start-at o root y small =
    let s = start_slots root in
    let m = layout o (pack_bits 0 s) in
    let w = start-width o root in
    let fine : SlotsBytes s = (le_bytes_bytes 4 0xB5C0_C4B3, (y, tt)) in
    let c = layout_holds o (pack_bits 0 s) (omega arith) small in
    let h = slots_hold o m (width o (pack_bits 0 s)) 0 0 0 s fine tt c in
    record {
      p = 0;
      l = 0;
      f = 0;
      place = refl;
      free = refl;
      last = λ k. absurd (omega arith);
      before = λ k. absurd (omega arith);
      ends = omega arith;
      holds = subst (λ (y : ℕ). SlotsHold o m y 0 0 0 s) w h;
    }

start_parts : (o : ℕ) (m : List ℕ) (root : Slots) → At o m 0 begin (start_size o) (start_size o) (start_slots root)
    → (le m 0 4 ≡ 0xB5C0_C4B3) × (start_size o ≤ le m 4 o)
    × At o m (le m 4 o) begin (le m 4 o + width o (pack_bits 0 root)) (le m 4 o + width o (pack_bits 0 root)) root
unfolding begin after_bytes
start_parts o m root a =
    let b = at_bytes o m 0 begin (start_size o) (start_size o) (le_bytes 4 0xB5C0_C4B3) (reference root end) a in
    let b1 = rw (length-le_bytes 4 0xB5C0_C4B3) at b.1 in
    let r = at_reference o m 0 (after_bytes 4 begin) (start_size o) (start_size o) root end b1 in
    (holds-le m 4 0 0xB5C0_C4B3 (omega arith) b.0, r.0, r.1)

module _ (o : ℕ) (S : Schema) (sound : Sound S) (d : ℕ) (v : Value) (w : Writes d o S (O.Table S.root) v) where
  abbrev root_slots : Slots
  root_slots = object_slots (plan d o S) o S (O.Table S.root) v

  root_bytes : SlotsBytes root_slots
  root_bytes = object_bytes S sound o (plan d o S) (Writes d o S) (plan_bytes S sound o d) (O.Table S.root) v w

  abbrev made : List ℕ
  made = layout o (pack_bits 0 (start_slots root_slots))

  made_bytes : All Byte made
  made_bytes = layout_bytes o (pack_bits 0 (start_slots root_slots)) (pack_bytes 0 (start_slots root_slots) (le_bytes_bytes 4 0xB5C0_C4B3, (root_bytes, tt)))

  made_long : start_size o ≤ length made
  made_long = omega (arith, length-layout o (pack_bits 0 (start_slots root_slots)), start-width o root_slots)

  made_holds : 0 < o → 8 * length made < 256 ^ o
      → (le made 0 4 ≡ 0xB5C0_C4B3) × HoldsTree d o S made (O.Table S.root) v (ByOffset (le made 4 o))
  made_holds wide small =
      let a = start_parts o made root_slots (start-at o root_slots root_bytes (omega arith)) in
      let x = le made 4 o in
      (a.0, (tree_inner o S sound wide made small d).by_offset (O.Table S.root) v x _ w a.1 a.2)

-- ---- the message
module _ (o : ℕ) (S : Schema) (sound : Sound S) (v : Value) (w : Writes deepest o S (O.Table S.root) v) where
  pub message_bytes : All Byte (message_of o S v)
  unfolding message_of
  message_bytes = made_bytes o S sound deepest v w

  pub message_long : start_size o ≤ length (message_of o S v)
  unfolding message_of
  message_long = made_long o S sound deepest v w

  pub message_holds : 0 < o → 8 * length (message_of o S v) < 256 ^ o
      → (le (message_of o S v) 0 4 ≡ 0xB5C0_C4B3)
      × HoldsTree deepest o S (message_of o S v) (O.Table S.root) v (root_place o (message_of o S v))
  unfolding message_of root_place
  message_holds wide small = made_holds o S sound deepest v w wide small
