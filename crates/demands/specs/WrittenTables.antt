-- The writer's slots of a table's members: they end where the full fixed part ends, and the message holds the members.
use Rattle.std.proofs.Math.Path.{◌≡◌, refl, sym}
use Rattle.std.proofs.Common.{◌∙◌, inl, inr, le-leb, eq-eqb, ltb-true}
use mathlib.Core.List.{List, [], ◌∷◌}
use Rattle.std.specs.Prelude.{Bool, ◌⊎◌, ℕ, ◌+◌, ◌<◌, ◌≤◌, ltb}
use Rattle.std.proofs.Math.Bool.{true, false}
use native.Mathlib.Omega.{arith}
use Rattle.std.proofs.lemmas.Bool.{lt-leb}
use Rattle.coding.specs.Lists.{pick}
use Rattle.coding.specs.Bytes.{bit_at}
use Rattle.coding.specs.Schema.{Schema}
use Rattle.coding.specs.Layout as L
use Rattle.coding.specs.Layout.{bit_slot, placement_of, bit_byte, bit_index, after_bit, after_bytes, is_bool, slot_of, after_value, flat_takes_flag, takes_flag, has_flag, after_flag, member_slot, after_member, after_members}
use Rattle.coding.specs.Step.{value_step, struct_tested, inside, flagged, placed_step, member_step}
use Rattle.coding.specs.Value.{Value, Values, absent, present, first, others}
use Rattle.coding.specs.Cells.{Slots}
use Rattle.coding.specs.Cells.Slots.{bit}
use Rattle.coding.specs.Message.{Planner, value_slots, flag_of, member_slots, members_slots}
use Rattle.coding.specs.declared.Flat.{Flat}
use Rattle.coding.specs.declared.Kind.{Kind}
use Rattle.coding.specs.declared.Member.{Member}
use Rattle.coding.specs.declared.Cursor.{Cursor}
use Rattle.coding.specs.declared.Slot.{Slot}
use Rattle.coding.specs.declared.Step.{Step}
use Rattle.coding.specs.declared.Step.TheVariants as St
use Rattle.laws.specs.Sound.{All, KindSound, MemberSound, Sound, inplace_count}
use Rattle.laws.specs.Lists.{never, both_right}
use Rattle.laws.specs.FixedSizes.{kind-wide}
use Rattle.demands.specs.AtCursor.{At, Sane, at_fits, at_sane, at_bit, at-end}
use Rattle.demands.specs.Writes.{Objects, FlatWrites, boolean, integer, PartWrites, no-flat, no_float_lem, flat, no-object, no-union, MembersWrite, no_member, members}
use Rattle.demands.specs.Writes as W
use Rattle.demands.specs.TreeHold.{Below, Shows, nothing, MembersHold}
use Rattle.demands.specs.TreeHold as T
use Rattle.demands.specs.WrittenParts.{Inner, Behind, behind-value}
use Rattle.demands.specs.WrittenSteps.{value_step_lem}

-- ---- a member with a flag or without
module _ (o : ℕ) (S : Schema) (m : List ℕ) (start n : ℕ) (c : Cursor) (r : Member) where
  abbrev here_at : Cursor → Step
  here_at d =
      value_step o S m r.kind r.optional r.inplace (start + n) (start + (slot_of o S r.kind d).at) (slot_of o S r.kind d).bit

  plain-member : has_flag r ≡ false → member_step o S m start n c r ≡ struct_tested S m (inside n (slot_of o S r.kind c) St.Absent (here_at c))
  unfolding member_step placed_step placement_of member_slot after_flag
  plain-member e = rw e

  flag-member : has_flag r ≡ true → member_step o S m start n c r ≡ struct_tested S m (flagged m start n (bit_slot c) (slot_of o S r.kind (after_bit c)) (here_at (after_bit c)))
  unfolding member_step placed_step placement_of member_slot after_flag
  flag-member e = rw e

after-plain : (o : ℕ) (S : Schema) (c : Cursor) (r : Member) → has_flag r ≡ false → after_member o S r c ≡ after_value o S r.kind c
unfolding after_member after_flag
after-plain o S c r e = rw e

after_flag_lem : (o : ℕ) (S : Schema) (c : Cursor) (r : Member) → has_flag r ≡ true → after_member o S r c ≡ after_value o S r.kind (after_bit c)
unfolding after_member after_flag
after_flag_lem o S c r e = rw e

-- ---- a slot inside the fixed part
inside_here : (n : ℕ) (slot : Slot) (past here : Step) → slot.at < n → slot.at + slot.size ≤ n → inside n slot past here ≡ here
unfolding inside
inside_here n slot past here h k = rw (lt-leb n slot.at h, le-leb (slot.at + slot.size) n k)

flagged-set : (m : List ℕ) (start n : ℕ) (c : Cursor) (slot : Slot) (here : Step) → bit_byte c < n
    → bit_at m (start + bit_byte c) (bit_index c) ≡ 1 → slot.at < n → slot.at + slot.size ≤ n → flagged m start n (bit_slot c) slot here ≡ here
unfolding flagged bit_slot
flagged-set m start n c slot here h e k l = rw (lt-leb n (bit_byte c) h, eq-eqb _ 1 e) (inside_here n slot (St.Refused 8) here k l)

flagged_clear : (m : List ℕ) (start n : ℕ) (c : Cursor) (slot : Slot) (here : Step) → bit_byte c < n
    → bit_at m (start + bit_byte c) (bit_index c) ≡ 0 → slot.at < n → slot.at + slot.size ≤ n → flagged m start n (bit_slot c) slot here ≡ St.Absent
unfolding flagged bit_slot
flagged_clear m start n c slot here h e k l = rw (lt-leb n (bit_byte c) h, e) (inside_here n slot St.Absent St.Absent k l)

-- a bool's byte lies before the cursor behind it
bit-before_by : (c : Cursor) (t : Bool) → ltb c.bit 8 ≡ t → Sane c → (bit_byte c < (after_bit c).end) × (c.end ≤ (after_bit c).end)
unfolding bit_byte after_bit
bit-before_by c true e s = let b = s.before (ltb-true c.bit 8 e) in rw e (b, omega arith)
bit-before_by c false e s = rw e (omega arith, omega arith)

bit-before : (c : Cursor) → Sane c → (bit_byte c < (after_bit c).end) × (c.end ≤ (after_bit c).end)
bit-before c s = bit-before_by c (ltb c.bit 8) refl s

module _ (o : ℕ) (S : Schema) (sound : Sound S) (wide : 0 < o) where
  -- the slot of a value lies before the cursor behind it
  slot-before_by : (k : Kind) (c : Cursor) (n : ℕ) (t : Bool) → is_bool k ≡ t → KindSound S k → Sane c → (after_value o S k c).end ≤ n
      → ((slot_of o S k c).at < n) × ((slot_of o S k c).at + (slot_of o S k c).size ≤ n)
  unfolding slot_of bit_slot after_value after_bytes
  slot-before_by k c n true e ok s h =
      let b = bit-before c s in
      let l : (after_bit c).end ≤ n = rw e at h in
      rw e (omega arith, omega arith)
  slot-before_by k c n false e ok s h =
      let w = kind-wide o S sound wide k ok in
      let l : c.end + L.width o S k ≤ n = rw e at h in
      rw e (omega arith, omega arith)

  slot-before : (k : Kind) (c : Cursor) (n : ℕ) → KindSound S k → Sane c → (after_value o S k c).end ≤ n
      → ((slot_of o S k c).at < n) × ((slot_of o S k c).at + (slot_of o S k c).size ≤ n)
  slot-before k c n ok s h = slot-before_by k c n (is_bool k) refl ok s h

-- ---- behind a member
module _ (o : ℕ) (S : Schema) (sound : Sound S) (m : List ℕ) (P : Planner) (start z : ℕ) where
  behind-member_by : (r : Member) (t : Bool) → has_flag r ≡ t → (v : Value) (c : Cursor) (e : ℕ) (rest : Slots)
      → At o m start c z e (member_slots P o S r v rest) → Behind o m start (after_member o S r c) z e r.inplace rest
  unfolding member_slots
  behind-member_by r true f v c e rest a =
      let b = (at_bit o m start c z e (flag_of v) (value_slots P o S r.kind r.inplace v rest) (rw f at a)).1 in
      rw (after_flag_lem o S c r f) (behind-value o S sound m P start z r.kind r.inplace v (after_bit c) e rest b)
  behind-member_by r false f v c e rest a =
      rw (after-plain o S c r f) (behind-value o S sound m P start z r.kind r.inplace v c e rest (rw f at a))

  behind-member : (r : Member) (v : Value) (c : Cursor) (e : ℕ) (rest : Slots)
      → At o m start c z e (member_slots P o S r v rest) → Behind o m start (after_member o S r c) z e r.inplace rest
  behind-member r v c e rest a = behind-member_by r (has_flag r) refl v c e rest a

  -- the members end where the cursor does
  pub members-end : (rs : List Member) (vs : Values) (c : Cursor) (e : ℕ) → At o m start c z e (members_slots P o S rs vs)
      → start + (after_members o S rs c).end ≡ z
  unfolding members_slots after_members
  members-end [] vs c e a = (at-end o m start c z e a).0
  members-end (r ∷ rs) vs c e a =
      let b = behind-member r (first vs) c e (members_slots P o S rs (others vs)) a in
      members-end rs (others vs) (after_member o S r c) b.0 b.2

-- ---- absent by its flag, or written as a value that is there
split-part : {G : Objects} {o : ℕ} {S : Schema} {may nan inplace : Bool} {k : Kind} {v : Value} → PartWrites G o S may nan inplace k v
    → ((v ≡ absent) × (may ≡ true) × (takes_flag k ≡ true)) ⊎ PartWrites G o S false nan inplace k v
unfolding takes_flag
split-part (no-flat e t) = inl (refl, e, t)
split-part (no_float_lem h) = inr (no_float_lem h)
split-part (flat h n) = inr (flat h n)
split-part no-object = inr no-object
split-part (W.object g p l d) = inr (W.object g p l d)
split-part no-union = inr no-union
split-part (W.choice l b g d) = inr (W.choice l b g d)

flat_there : {S : Schema} {k : Flat} {v : Value} → flat_takes_flag k ≡ true → FlatWrites S k v → present v ≡ true
unfolding flat_takes_flag present
flat_there t (boolean h) = refl
flat_there t (integer h) = refl
flat_there t (W.float h) = refl
flat_there t W.no-enum = t
flat_there t (W.enum h) = refl
flat_there t (W.struct h) = refl

there : {G : Objects} {o : ℕ} {S : Schema} {nan inplace : Bool} {k : Kind} {v : Value} → takes_flag k ≡ true
    → PartWrites G o S false nan inplace k v → present v ≡ true
unfolding takes_flag flat_takes_flag present
there t (no-flat e f) = e
there t (no_float_lem h) = t
there t (flat h n) = flat_there t h
there t no-object = t
there t (W.object g p l d) = p
there t no-union = t
there t (W.choice l b g d) = refl

flag_absent : (v : Value) → v ≡ absent → flag_of v ≡ 0
unfolding flag_of present
flag_absent v e = rw e

flag_there : (v : Value) → present v ≡ true → flag_of v ≡ 1
unfolding flag_of
flag_there v e = rw e

-- ---- a member's step, and the members
module _ (o : ℕ) (S : Schema) (sound : Sound S) (wide : 0 < o) (m : List ℕ) (P : Planner) (G : Objects) (below : Below)
    (inner : Inner o S m P G below) (start n : ℕ) where
  abbrev Part : Member → Value → Type 0
  Part r v = PartWrites G o S r.optional r.optional r.inplace r.kind v

  plain_step : (r : Member) (v : Value) (c : Cursor) (e : ℕ) (rest : Slots) → has_flag r ≡ false → MemberSound S r
      → (r.inplace ≡ true → e ≡ start + n) → PartWrites G o S false r.optional r.inplace r.kind v
      → At o m start c (start + n) e (value_slots P o S r.kind r.inplace v rest)
      → Shows below S m r.kind v (member_step o S m start n c r)
  plain_step r v c e rest f ok same p a =
      let b = behind-value o S sound m P start (start + n) r.kind r.inplace v c e rest a in
      let fit = (at_fits o m start (after_value o S r.kind c) (start + n) b.0 rest b.2).0 in
      let s = slot-before o S sound wide r.kind c n ok.kind (at_sane o m start c (start + n) e (value_slots P o S r.kind r.inplace v rest) a) (omega arith) in
      rw (plain-member o S m start n c r f, inside_here n (slot_of o S r.kind c) St.Absent (here_at o S m start n c r c) s.0 s.1)
      (value_step_lem o S sound m P G below inner start (start + n) r.optional r.inplace c e (start + n) rest ok.kind same p a)

  flag_step : (r : Member) (v : Value) (c : Cursor) (e : ℕ) (rest : Slots) → has_flag r ≡ true → MemberSound S r
      → (r.inplace ≡ true → e ≡ start + n)
      → ((v ≡ absent) × (r.optional ≡ true) × (takes_flag r.kind ≡ true)) ⊎ PartWrites G o S false r.optional r.inplace r.kind v
      → At o m start c (start + n) e (bit (flag_of v) (value_slots P o S r.kind r.inplace v rest))
      → Shows below S m r.kind v (member_step o S m start n c r)
  unfolding has_flag
  flag_step r v c e rest f ok same p a =
      let val = value_slots P o S r.kind r.inplace v rest in
      let h = at_bit o m start c (start + n) e (flag_of v) val a in
      let b = behind-value o S sound m P start (start + n) r.kind r.inplace v (after_bit c) e rest h.1 in
      let fit = (at_fits o m start (after_value o S r.kind (after_bit c)) (start + n) b.0 rest b.2).0 in
      let fit1 = (at_fits o m start (after_bit c) (start + n) e val h.1).0 in
      let s1 = bit-before c (at_sane o m start c (start + n) e (bit (flag_of v) val) a) in
      let s = slot-before o S sound wide r.kind (after_bit c) n ok.kind (at_sane o m start (after_bit c) (start + n) e val h.1) (omega arith) in
      rw (flag-member o S m start n c r f) (by p (omega arith) h.0 s.0 s.1 h.1)
    where
      slot : Slot
      slot = slot_of o S r.kind (after_bit c)

      here : Step
      here = here_at o S m start n c r (after_bit c)

      by : ((v ≡ absent) × (r.optional ≡ true) × (takes_flag r.kind ≡ true)) ⊎ PartWrites G o S false r.optional r.inplace r.kind v
          → bit_byte c < n → bit_at m (start + bit_byte c) (bit_index c) ≡ flag_of v → slot.at < n → slot.at + slot.size ≤ n
          → At o m start (after_bit c) (start + n) e (value_slots P o S r.kind r.inplace v rest)
          → Shows below S m r.kind v (struct_tested S m (flagged m start n (bit_slot c) slot here))
      by (inl q) h1 h2 h3 h4 h5 = rw (q.0, flagged_clear m start n c slot here h1 (h2 ∙ flag_absent v q.0) h3 h4) (unfold struct_tested in nothing)
      by (inr q) h1 h2 h3 h4 h5 =
          rw (flagged-set m start n c slot here h1 (h2 ∙ flag_there v (there (both_right r.optional (takes_flag r.kind) f) q)) h3 h4)
          (value_step_lem o S sound m P G below inner start (start + n) r.optional r.inplace (after_bit c) e (start + n) rest ok.kind same q h5)

  no_flag : (r : Member) (v : Value) → has_flag r ≡ false
      → ((v ≡ absent) × (r.optional ≡ true) × (takes_flag r.kind ≡ true)) ⊎ PartWrites G o S false r.optional r.inplace r.kind v
      → PartWrites G o S false r.optional r.inplace r.kind v
  unfolding has_flag
  no_flag r v f (inl q) = let y : ◌≡◌ {A = Bool} false true = sym f ∙ rw (q.1, q.2) in never y
  no_flag r v f (inr q) = q

  member_step_by : (r : Member) (t : Bool) → has_flag r ≡ t → (v : Value) (c : Cursor) (e : ℕ) (rest : Slots) → MemberSound S r
      → (r.inplace ≡ true → e ≡ start + n) → Part r v → At o m start c (start + n) e (member_slots P o S r v rest)
      → Shows below S m r.kind v (member_step o S m start n c r)
  unfolding member_slots
  member_step_by r true f v c e rest ok same p a = flag_step r v c e rest f ok same (split-part p) (rw f at a)
  member_step_by r false f v c e rest ok same p a = plain_step r v c e rest f ok same (no_flag r v f (split-part p)) (rw f at a)

  some_inplace : (t : Bool) (k : ℕ) → t ≡ true → 0 < pick t 1 0 + k
  some_inplace true k e = omega arith
  some_inplace false k e = never e

  more_inplace : (t : Bool) (k : ℕ) → 0 < k → 0 < pick t 1 0 + k
  more_inplace true k h = omega arith
  more_inplace false k h = omega arith

  less_inplace : (t : Bool) (k : ℕ) → pick t 1 0 + k ≤ 1 → k ≤ 1
  less_inplace true k h = omega arith
  less_inplace false k h = omega arith

  not_inplace : (t : Bool) (k : ℕ) → pick t 1 0 + k ≤ 1 → 0 < k → t ≡ false
  not_inplace true k h l = absurd (omega arith)
  not_inplace false k h l = refl

  pub members_hold : {rs : List Member} {vs : Values} (c : Cursor) (e : ℕ) → All (MemberSound S) rs → inplace_count rs ≤ 1
      → (0 < inplace_count rs → e ≡ start + n) → MembersWrite G o S rs vs → At o m start c (start + n) e (members_slots P o S rs vs)
      → MembersHold below o S m start n c rs vs
  unfolding members_slots inplace_count first others
  members_hold c e ok one same no_member a = let h = at-end o m start c (start + n) e a in T.no_member {c = c} (omega arith) h.1
  members_hold c e ok one same (members {r = r} {rs = rs} {v = v} {vs = vs} p ps) a =
      let rest = members_slots P o S rs vs in
      let b = behind-member o S sound m P start (start + n) r v c e rest a in
      T.members
      (member_step_by r (has_flag r) refl v c e rest ok.0 (λ t. same (some_inplace r.inplace (inplace_count rs) t)) p a)
      (members_hold (after_member o S r c) b.0 ok.1 (less_inplace r.inplace (inplace_count rs) one)
      (λ l. b.1 (not_inplace r.inplace (inplace_count rs) one l) ∙ same (more_inplace r.inplace (inplace_count rs) l)) ps b.2)
