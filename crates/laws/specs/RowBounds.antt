-- The numbers of a row of member positions (02, K10) are small, so that a U32 holds each: 64 members take at most 4,097 bytes each.
use Rattle.std.specs.Prelude.{◌≡◌, Bool, ℕ, ◌+◌, ◌<◌, ◌≤◌, ltb, length, take}
use Rattle.std.proofs.Math.Path.{refl}
use Rattle.std.proofs.Math.Bool.{true, false}
use mathlib.Core.List.{List, [], ◌∷◌}
use native.Mathlib.Omega.{arith}
use Rattle.std.proofs.Math.Seq.{length-take-le}
use Rattle.std.proofs.Common.{ltb-true}
use Rattle.coding.specs.Schema.{Schema, table_of, member_of}
use Rattle.coding.specs.Layout.{width, is_bool, has_flag, begin, bit_byte, bit_index, bit_slot, slot_of, member_slot, placement_of, after_bit, after_bytes, after_flag, after_value, after_member, after_members}
use Rattle.coding.specs.Positions.{first_bit, no_flag, flag_bit, bit_size, row_of}
use Rattle.coding.specs.declared.Kind.{Kind}
use Rattle.coding.specs.declared.Member.{Member}
use Rattle.coding.specs.declared.Cursor.{Cursor}
use Rattle.coding.specs.declared.Slot.{Slot}
use Rattle.coding.specs.declared.Placement.{Placement}
use Rattle.coding.specs.declared.Row.{Row}
use Rattle.laws.specs.All.{all_take}
use Rattle.laws.specs.Lists.{pick_holds}
use Rattle.laws.specs.Sound.{KindSound, MemberSound, Sound}
use Rattle.laws.specs.SoundAt.{member_sound-at}
use Rattle.laws.specs.FixedSizes.{after_flag_lem, kind_narrow, after-members}

-- each number of a row fits in a U32
pub record RowSmall (x : Row) : Type 0 where
  pub value : x.value < 4294967296
  pub flag : x.flag < 4294967296
  pub size : x.size < 4294967296

-- ---- the last bool byte is one of those that are laid out
abbrev Behind : Cursor → Type 0
Behind c = c.byte ≤ c.end

behind_bit : (c : Cursor) → Behind c → Behind (after_bit c)
unfolding after_bit
behind_bit c h =
    let f : c.end ≤ c.end + 1 = omega arith in
    pick_holds Behind (ltb c.bit 8) (record { end = c.end; byte = c.byte; bit = c.bit + 1 })
    (record { end = c.end + 1; byte = c.end; bit = 1 }) (λ t. h) (λ t. f)

behind_flag : (r : Member) (c : Cursor) → Behind c → Behind (after_flag r c)
unfolding after_flag
behind_flag r c h = pick_holds Behind (has_flag r) (after_bit c) c (λ t. behind_bit c h) (λ t. h)

module _ (o : ℕ) (S : Schema) where
  behind-value : (k : Kind) (c : Cursor) → Behind c → Behind (after_value o S k c)
  unfolding after_value after_bytes
  behind-value k c h =
      let f : c.byte ≤ c.end + width o S k = omega arith in
      pick_holds Behind (is_bool k) (after_bit c) (after_bytes (width o S k) c) (λ t. behind_bit c h) (λ t. f)

  behind-members : (rs : List Member) (c : Cursor) → Behind c → Behind (after_members o S rs c)
  unfolding after_members after_member
  behind-members [] c h = h
  behind-members (r ∷ rs) c h =
      behind-members rs (after_member o S r c) (behind-value r.kind (after_flag r c) (behind_flag r c h))

-- ---- slots
-- a slot of at most 4,096 bytes that starts within a full fixed part, or at its end
pub record SlotSmall (s : Slot) : Type 0 where
  pub at : s.at ≤ 262208
  pub bit : s.bit < 8
  pub size : s.size ≤ 4096

bit_small : (c : Cursor) → Behind c → c.end ≤ 262208 → SlotSmall (bit_slot c)
unfolding bit_slot bit_byte bit_index
bit_small c h low =
    record {
      at = pick_holds (λ (n : ℕ). n ≤ 262208) (ltb c.bit 8) c.byte c.end (λ t. omega arith) (λ t. low);
      bit = pick_holds (λ (n : ℕ). n < 8) (ltb c.bit 8) c.bit 0 (λ t. ltb-true c.bit 8 t) (λ t. omega arith);
      size = omega arith;
    }

-- ---- a row
module _ (s : Slot) (small : SlotSmall s) where
  first_small : first_bit s < 2097672
  unfolding first_bit
  first_small = omega (arith, small.at, small.bit)

  flag_small : (r : Member) → flag_bit r s < 4294967296
  unfolding flag_bit no_flag
  flag_small r = by (has_flag r) refl
    where
      by : (t : Bool) → has_flag r ≡ t → flag_bit r s < 4294967296
      by true h = rw h (omega (arith, first_small))
      by false h = rw h (omega (arith, first_small))

  size_small : (k : Kind) → bit_size k s < 4294967296
  unfolding bit_size
  size_small k = by (is_bool k) refl
    where
      by : (t : Bool) → is_bool k ≡ t → bit_size k s < 4294967296
      by true h = rw h (omega (arith, small.size))
      by false h = rw h (omega (arith, small.size))

-- where a member stands, its flag and its value
pub record PlacedSmall (p : Placement) : Type 0 where
  pub value : SlotSmall p.value
  pub flag : SlotSmall p.flag

pub row_small : (r : Member) (p : Placement) → PlacedSmall p → RowSmall (row_of r p)
unfolding row_of
row_small r p h =
    let f = first_small p.value h.value in
    record {
      value = omega arith;
      flag = flag_small p.flag h.flag r;
      size = size_small p.value h.value r.kind;
    }

module _ (o : ℕ) (narrow : 2 + o ≤ 4096) (S : Schema) (G : Sound S) where
  value_small : (k : Kind) → KindSound S k → (c : Cursor) → Behind c → c.end ≤ 262208 → SlotSmall (slot_of o S k c)
  unfolding slot_of
  value_small k ok c h low =
      pick_holds SlotSmall (is_bool k) (bit_slot c) (record { at = c.end; bit = 0; size = width o S k }) (λ t. bit_small c h low)
      (λ t. record { at = low; bit = omega arith; size = kind_narrow o narrow S G k ok })

  placed_small : (r : Member) → MemberSound S r → (c : Cursor) → Behind c → c.end ≤ 262207 → PlacedSmall (placement_of o S r c)
  unfolding placement_of member_slot
  placed_small r ok c h low =
      record {
        value = value_small r.kind ok.kind (after_flag r c) (behind_flag r c h) (omega (arith, after_flag_lem r c));
        flag = bit_small c h (omega arith);
      }

  -- member j of table i: 63 members at most stand before it
  pub placed_small-at : (i j : ℕ) → j < length (table_of S i).members
      → PlacedSmall (placement_of o S (member_of S i j) (after_members o S (take j (table_of S i).members) begin))
  unfolding begin
  placed_small-at i j l =
      let ms = (table_of S i).members in
      let ends = after-members o narrow S G (take j ms) (all_take (MemberSound S) j ms (G.tables i).members) begin in
      placed_small (member_of S i j) (member_sound-at S G i j l) (after_members o S (take j ms) begin) (behind-members o S (take j ms) begin (omega arith))
      (omega (arith, ends, length-take-le j ms (omega arith), (G.tables i).few))
