-- The members that a newer schema adds to a table with a full fixed part of an older one: each is absent, or a plain bool that
-- is 0, in the last bool byte.
use Rattle.std.specs.Prelude.{ℕ, ◌≤◌, ◌<◌, ◌+◌, Bool, ◌&&◌, not, ◌≡◌, eqb, Ok}
use Rattle.std.proofs.Common.{le_refl, arith, ◌∙◌}
use mathlib.Core.List.{List, [], ◌∷◌}
use Rattle.std.proofs.Math.Bool.{true, false}
use Rattle.std.proofs.Math.Path.{refl, ap, ap₂}
use Rattle.std.proofs.Math.Dec.{ltb, leb}
use borrow.Author.Tests.{ltb-true, leb-true, leb-false, le-leb, lt-ltb, le-ltb}
use Rattle.coding.specs.Lists.{pick}
use Rattle.coding.specs.Bytes.{bit_at}
use Rattle.coding.specs.Schema.{Schema}
use Rattle.coding.specs.Layout.{flat_is_bool, is_bool, flat_takes_flag, takes_flag, has_flag, bit_byte, bit_index, after_bit, after_bytes, after_flag, bit_slot, slot_of, after_value, member_slot, placement_of, after_member, width}
use Rattle.coding.specs.Step.{flat_step, value_step, struct_tested, inside, flagged, placed_step, member_step}
use Rattle.coding.specs.Walk.{and_then, follow, members}
use Rattle.coding.specs.Walk as W
use Rattle.coding.specs.Value.{Value, absent, number, ◌then◌}
use Rattle.coding.specs.Read.{Child, step_read, struct_read, members_read}
use Rattle.coding.specs.Append.{added_value, added_values}
use Rattle.coding.specs.declared.Flat.TheVariants.{Boolean, Integer, Float, Enumerated, Struct}
use Rattle.coding.specs.declared.Kind.{Kind}
use Rattle.coding.specs.declared.Kind.TheVariants.{OfFlat, OfObject, OfUnion}
use Rattle.coding.specs.declared.Member.{Member}
use Rattle.coding.specs.declared.Cursor.{Cursor}
use Rattle.coding.specs.declared.Slot.{Slot}
use Rattle.coding.specs.declared.Step.{Step}
use Rattle.coding.specs.declared.Step.TheVariants as St
use Rattle.coding.specs.declared.Spent.{Spent}
use Rattle.demands.specs.PlainMessage.{Full}

-- a cursor past a fixed part of n bytes, but for free bits, which are 0
pub record Past (m : List ℕ) (start n : ℕ) (c : Cursor) : Type 0 where
  pub end : n ≤ c.end
  pub clear : (j : ℕ) → c.bit ≤ j → j < 8 → c.byte < n → bit_at m (start + c.byte) j ≡ 0

-- an added member is a plain bool in a byte that was written; what it shows
abbrev added_bool : ℕ → Cursor → Member → Bool
added_bool n c r = is_bool r.kind && (not r.optional && ltb (bit_byte c) n)

abbrev added_step : ℕ → Cursor → Member → Step
added_step n c r = pick (added_bool n c r) (St.Value 0) St.Absent

-- the slot of what is no bool
wide_slot : (o : ℕ) (S : Schema) (k : Kind) (c : Cursor) → is_bool k ≡ false → slot_of o S k c ≡ record { at = c.end; bit = 0; size = width o S k }
unfolding slot_of
wide_slot o S k c e = rw e

module _ (m : List ℕ) (start n : ℕ) where
  pub full_past : {c : Cursor} → Full m start n c → Past m start n c
  full_past f = record { end = omega (arith, f.size); clear = λ j h l b. f.clear j h l }

  -- ---- the cursor stays past
  bit_past : (c : Cursor) → Past m start n c → Past m start n (after_bit c)
  unfolding after_bit
  bit_past c f = by (ltb c.bit 8) refl
    where
      by : (t : Bool) → ltb c.bit 8 ≡ t
          → Past m start n
          (pick t (record { end = c.end; byte = c.byte; bit = c.bit + 1 }) (record { end = c.end + 1; byte = c.end; bit = 1 }))
      by true e = record { end = f.end; clear = λ j h l b. f.clear j (omega arith) l b }
      by false e = record { end = omega (arith, f.end); clear = λ j h l b. absurd (omega (arith, f.end)) }

  flag_past : (r : Member) (c : Cursor) → Past m start n c → Past m start n (after_flag r c)
  unfolding after_flag
  flag_past r c f = by (has_flag r)
    where
      by : (t : Bool) → Past m start n (pick t (after_bit c) c)
      by true = bit_past c f
      by false = f

  value_past : (o : ℕ) (S : Schema) (k : Kind) (c : Cursor) → Past m start n c → Past m start n (after_value o S k c)
  unfolding after_value after_bytes
  value_past o S k c f = by (is_bool k)
    where
      by : (t : Bool) → Past m start n (pick t (after_bit c) (record { end = c.end + width o S k; byte = c.byte; bit = c.bit }))
      by true = bit_past c f
      by false = record { end = omega (arith, f.end); clear = f.clear }

  member_past : (o : ℕ) (S : Schema) (r : Member) (c : Cursor) → Past m start n c → Past m start n (after_member o S r c)
  unfolding after_member
  member_past o S r c f = value_past o S r.kind (after_flag r c) (flag_past r c f)

  -- ---- what is found there
  -- a free bit that was written is 0
  bit_clear : (c : Cursor) → Past m start n c → bit_byte c < n → bit_at m (start + bit_byte c) (bit_index c) ≡ 0
  unfolding bit_byte bit_index
  bit_clear c f = by (ltb c.bit 8) refl
    where
      by : (t : Bool) → ltb c.bit 8 ≡ t → pick t c.byte c.end < n
          → bit_at m (start + pick t c.byte c.end) (pick t c.bit 0) ≡ 0
      by true e h = f.clear c.bit (le_refl c.bit) (ltb-true c.bit 8 e) h
      by false e h = absurd (omega (arith, f.end))

  -- a flag that is past the end or 0, before a value that is not cut
  flag_added : (c : Cursor) → Past m start n c → (slot : Slot) (here : Step) → (slot.at < n → slot.at + slot.size ≤ n)
      → flagged m start n (bit_slot c) slot here ≡ St.Absent
  unfolding flagged inside bit_slot
  flag_added c f slot here g = by (leb n (bit_byte c)) refl
    where
      by_end : (t : Bool) → leb n slot.at ≡ t
          → pick t St.Absent (pick (leb (slot.at + slot.size) n) St.Absent (St.Refused 8)) ≡ St.Absent
      by_end true e = refl
      by_end false e = rw (le-leb (slot.at + slot.size) n (g (leb-false n slot.at e)))

      by : (t : Bool) → leb n (bit_byte c) ≡ t
          → pick t St.Absent
          (pick (eqb (bit_at m (start + bit_byte c) (bit_index c)) 1) (inside n slot (St.Refused 8) here) (inside n slot St.Absent St.Absent))
          ≡ St.Absent
      by true e = refl
      by false e = rw (bit_clear c f (leb-false n (bit_byte c) e)) (by_end (leb n slot.at) refl)

  -- a bool or no value needs no test
  tested_added : (S : Schema) (t : Bool) → struct_tested S m (pick t (St.Value 0) St.Absent) ≡ pick t (St.Value 0) St.Absent
  unfolding struct_tested
  tested_added S true = refl
  tested_added S false = refl

  -- a member that is no bool is absent
  wide_added : (o : ℕ) (S : Schema) (r : Member) (c : Cursor) → is_bool r.kind ≡ false → Past m start n c
      → member_step o S m start n c r ≡ St.Absent
  unfolding member_step placed_step placement_of member_slot
  wide_added o S r c e f =
      let g = flag_past r c f in
      ap (struct_tested S m) (rw (wide_slot o S r.kind (after_flag r c) e) (by (has_flag r) _ g.end)) ∙ tested_added S false
    where
      by : (t : Bool) (here : Step) → n ≤ (after_flag r c).end
          → pick t
          (flagged m start n (bit_slot c) (record { at = (after_flag r c).end; bit = 0; size = width o S r.kind }) here)
          (inside n (record { at = (after_flag r c).end; bit = 0; size = width o S r.kind }) St.Absent here)
          ≡ St.Absent
      by true here h = flag_added c f _ here (λ l. absurd (omega arith))
      by false here h = unfold inside in rw (le-leb n (after_flag r c).end h)

  -- a plain bool where the cursor stands
  plain_bool_lem : (c : Cursor) → Past m start n c
      → inside n (record { at = bit_byte c; bit = bit_index c; size = 1 }) St.Absent (St.Value (bit_at m (start + bit_byte c) (bit_index c)))
      ≡ pick (ltb (bit_byte c) n) (St.Value 0) St.Absent
  unfolding inside
  plain_bool_lem c f = by (leb n (bit_byte c)) refl
    where
      by : (t : Bool) → leb n (bit_byte c) ≡ t
          → pick t St.Absent (pick (leb (bit_byte c + 1) n) (St.Value (bit_at m (start + bit_byte c) (bit_index c))) (St.Refused 8))
          ≡ pick (ltb (bit_byte c) n) (St.Value 0) St.Absent
      by true q = rw (le-ltb (bit_byte c) n (leb-true n (bit_byte c) q))
      by false q =
          let l = leb-false n (bit_byte c) q in
          rw (lt-ltb (bit_byte c) n l, le-leb (bit_byte c + 1) n (omega arith), bit_clear c f l)

  -- a bool is absent, or 0 in a byte that was written
  bool_added : (o : ℕ) (S : Schema) (r : Member) (c : Cursor) → r.kind ≡ OfFlat Boolean → Past m start n c
      → member_step o S m start n c r ≡ added_step n c r
  unfolding member_step placed_step placement_of member_slot has_flag takes_flag flat_takes_flag after_flag is_bool flat_is_bool value_step flat_step slot_of bit_slot
  bool_added o S r c e f = ap (struct_tested S m) (rw e (by r.optional)) ∙ tested_added S (added_bool n c r)
    where
      slot : Cursor → Slot
      slot d = record { at = bit_byte d; bit = bit_index d; size = 1 }

      here : Cursor → Step
      here d = St.Value (bit_at m (start + bit_byte d) (bit_index d))

      by : (t : Bool)
          → pick (t && true)
          (flagged m start n (slot c) (slot (pick (t && true) (after_bit c) c)) (here (pick (t && true) (after_bit c) c)))
          (inside n (slot (pick (t && true) (after_bit c) c)) St.Absent (here (pick (t && true) (after_bit c) c)))
          ≡ pick (not t && ltb (bit_byte c) n) (St.Value 0) St.Absent
      by true = flag_added c f (slot (after_bit c)) (here (after_bit c)) (λ l. omega arith)
      by false = plain_bool_lem c f

  member_added : (o : ℕ) (S : Schema) (r : Member) (c : Cursor) → Past m start n c → member_step o S m start n c r ≡ added_step n c r
  unfolding is_bool flat_is_bool
  member_added o S r c f = by r.kind refl
    where
      wide : is_bool r.kind ≡ false → member_step o S m start n c r ≡ added_step n c r
      wide e = rw e (wide_added o S r c e f)

      by : (k : Kind) → r.kind ≡ k → member_step o S m start n c r ≡ added_step n c r
      by (OfFlat Boolean) e = bool_added o S r c e f
      by (OfFlat (Integer s w)) e = wide (rw e)
      by (OfFlat (Float w)) e = wide (rw e)
      by (OfFlat (Enumerated x)) e = wide (rw e)
      by (OfFlat (Struct i)) e = wide (rw e)
      by (OfObject ob) e = wide (rw e)
      by (OfUnion i) e = wide (rw e)

  -- ---- the added members are passed by, and read as they should
  follow_added : (child : W.Child) (holder j : ℕ) (t : Bool) (s : Spent) → follow child holder j (pick t (St.Value 0) St.Absent) s ≡ Ok s
  unfolding follow
  follow_added child holder j true s = refl
  follow_added child holder j false s = refl

  pub walk_added : (child : W.Child) (o : ℕ) (S : Schema) (holder j : ℕ) (rs : List Member) (c : Cursor) (s : Spent) → Past m start n c
      → members child o S m holder start n c j rs s ≡ Ok s
  unfolding members and_then
  walk_added child o S holder j [] c s f = refl
  walk_added child o S holder j (r ∷ rs) c s f =
      rw (member_added o S r c f, follow_added child holder j (added_bool n c r) s)
      (walk_added child o S holder (j + 1) rs (after_member o S r c) s (member_past o S r c f))

  read_step : (inner : ℕ → ℕ → Value) (child : Child) (t : Bool)
      → step_read inner child (pick t (St.Value 0) St.Absent) ≡ pick t (number 0) absent
  unfolding step_read
  read_step inner child true = refl
  read_step inner child false = refl

  pub read_added : (child : Child) (o : ℕ) (S : Schema) (rs : List Member) (c : Cursor) → Past m start n c
      → members_read child o S m start n c rs ≡ added_values o S n c rs
  unfolding members_read added_values added_value
  read_added child o S [] c f = refl
  read_added child o S (r ∷ rs) c f =
      ap₂ ◌then◌ (rw (member_added o S r c f) (read_step (struct_read S m) child (added_bool n c r)))
      (read_added child o S rs (after_member o S r c) (member_past o S r c f))
