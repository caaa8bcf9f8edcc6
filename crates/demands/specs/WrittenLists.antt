-- The writer's slots of a list's elements: element i stands where the coding says, and they end where the elements do.
use Rattle.std.specs.Prelude.{◌≡◌, List, Bool, ltb}
use Rattle.std.proofs.Math.Path.{refl, ap}
use Rattle.std.proofs.Common.{sym, ◌∙◌, subst, mul-suc, add-one, ltb-true, ltb-false}
use Rattle.std.proofs.Math.Bool.{true, false}
use Prim.Native.Nat.{ℕ, suc, ◌+◌, ◌*◌, ◌/◌, ◌%◌, ◌<◌, ◌≤◌}
use native.Mathlib.Omega.{arith}
use Rattle.coding.specs.Schema.{Schema}
use Rattle.coding.specs.Layout as L
use Rattle.coding.specs.Layout.{bit_slot, begin, bit_byte, bit_index, after_bit, after_bytes, is_bool, flat_is_bool, slot_of, after_value}
use Rattle.coding.specs.Step.{flat_step, value_step, struct_tested, element_place, element_step, elements_size}
use Rattle.coding.specs.Value.{Value, Values, none, ◌then◌, count}
use Rattle.coding.specs.Cells.{Slots}
use Rattle.coding.specs.Message.{Planner, value_slots, elements_slots}
use Rattle.coding.specs.declared.Flat.{Flat}
use Rattle.coding.specs.declared.Flat.TheVariants as F
use Rattle.coding.specs.declared.Kind.{Kind}
use Rattle.coding.specs.declared.Kind.TheVariants.{OfFlat, OfObject, OfUnion}
use Rattle.coding.specs.declared.Cursor.{Cursor}
use Rattle.laws.specs.Sound.{KindSound, Sound}
use Rattle.laws.specs.Lists.{never}
use Rattle.demands.specs.AtCursor.{At, at-end}
use Rattle.demands.specs.Writes.{Objects, PartWrites, ElementsWrite, no-element, elements}
use Rattle.demands.specs.TreeHold.{Below, Shows, ElementsHold}
use Rattle.demands.specs.TreeHold as T
use Rattle.demands.specs.WrittenParts.{Inner, behind-value}
use Rattle.demands.specs.WrittenSteps.{value_step_lem}

-- the cursor behind i bools
pub record BoolCursor (i : ℕ) (c : Cursor) : Type 0 where
  pub ends : c.end ≡ (i + 7) / 8
  pub some : 0 < c.bit
  pub most : c.bit ≤ 8
  pub byte : c.bit < 8 → c.byte ≡ i / 8
  pub bit : c.bit < 8 → c.bit ≡ i % 8
  pub full : c.bit ≡ 8 → i % 8 ≡ 0

-- the cursor behind i elements of a kind
pub record ElementCursor (o : ℕ) (S : Schema) (k : Kind) (i : ℕ) (c : Cursor) : Type 0 where
  pub bools : is_bool k ≡ true → BoolCursor i c
  pub others : is_bool k ≡ false → c.end ≡ L.width o S k * i

bool_slot_by : (i : ℕ) (c : Cursor) (t : Bool) → ltb c.bit 8 ≡ t → BoolCursor i c
    → (bit_byte c ≡ i / 8) × (bit_index c ≡ i % 8) × BoolCursor (i + 1) (after_bit c)
unfolding bit_byte bit_index after_bit
bool_slot_by i c true e h =
    let lt = ltb-true c.bit 8 e in
    let h1 = h.ends in
    let h2 = h.some in
    let h3 = h.byte lt in
    let h4 = h.bit lt in
    rw e (
      h3,
      h4,
      record {
        ends = omega arith;
        some = omega arith;
        most = omega arith;
        byte = λ k. omega arith;
        bit = λ k. omega arith;
        full = λ k. omega arith;
      },
    )
bool_slot_by i c false e h =
    let ge = ltb-false c.bit 8 e in
    let h1 = h.ends in
    let h2 = h.most in
    let h3 : i % 8 ≡ 0 = h.full (omega arith) in
    rw e (
      omega arith,
      omega arith,
      record {
        ends = omega arith;
        some = omega arith;
        most = omega arith;
        byte = λ k. omega arith;
        bit = λ k. omega arith;
        full = λ k. omega arith;
      },
    )

module _ (o : ℕ) (S : Schema) where
  pub element-begin : (k : Kind) → ElementCursor o S k 0 begin
  unfolding begin
  element-begin k =
      record {
        bools =
            λ e.
            record {
              ends = omega arith;
              some = omega arith;
              most = omega arith;
              byte = λ h. omega arith;
              bit = λ h. omega arith;
              full = λ h. omega arith;
            };
        others = λ e. omega arith;
      }

  -- element i's slot, and the cursor behind it
  element_slot_by : (k : Kind) (i start : ℕ) (c : Cursor) (t : Bool) → is_bool k ≡ t → ElementCursor o S k i c
      → (element_place o S k start i ≡ start + (slot_of o S k c).at) × ElementCursor o S k (i + 1) (after_value o S k c)
      × (is_bool k ≡ true → (slot_of o S k c).bit ≡ i % 8)
  unfolding element_place slot_of bit_slot after_value after_bytes
  element_slot_by k i start c true e h =
      let b = bool_slot_by i c (ltb c.bit 8) refl (h.bools e) in
      rw e (
        ap (λ (n : ℕ). start + n) (sym b.0),
        record { bools = λ f. b.2; others = λ f. never (sym f ∙ e) },
        λ f. b.1,
      )
  element_slot_by k i start c false e h =
      let b : c.end ≡ L.width o S k * i = h.others e in
      let q : L.width o S k * (i + 1) ≡ L.width o S k * i + L.width o S k = rw (add-one i) (mul-suc (L.width o S k) i) in
      rw e (
        omega arith,
        record { bools = λ f. never (sym e ∙ f); others = λ f. omega arith },
        λ f. never f,
      )

  element-end_by : (k : Kind) (i : ℕ) (c : Cursor) (t : Bool) → is_bool k ≡ t → ElementCursor o S k i c → c.end ≡ elements_size o S k i
  unfolding elements_size
  element-end_by k i c true e h = rw e (h.bools e).ends
  element-end_by k i c false e h = rw e (h.others e)

-- only a bool has a bit
module _ (o : ℕ) (S : Schema) (m : List ℕ) where
  any_bit-flat : (k : Flat) (nan : Bool) (at b d : ℕ) → (flat_is_bool k ≡ true → b ≡ d) → flat_step m k nan at b ≡ flat_step m k nan at d
  unfolding flat_is_bool flat_step
  any_bit-flat F.Boolean nan at b d h = rw (h refl)
  any_bit-flat (F.Integer s w) nan at b d h = refl
  any_bit-flat (F.Float w) nan at b d h = refl
  any_bit-flat (F.Enumerated n) nan at b d h = refl
  any_bit-flat (F.Struct i) nan at b d h = refl

  any_bit : (k : Kind) (nan inplace : Bool) (tail at b d : ℕ) → (is_bool k ≡ true → b ≡ d)
      → value_step o S m k nan inplace tail at b ≡ value_step o S m k nan inplace tail at d
  unfolding is_bool value_step
  any_bit (OfFlat k) nan inplace tail at b d h = any_bit-flat k nan at b d h
  any_bit (OfObject ob) nan inplace tail at b d h = refl
  any_bit (OfUnion i) nan inplace tail at b d h = refl

module _ (o : ℕ) (S : Schema) (sound : Sound S) (m : List ℕ) (P : Planner) (start z : ℕ) where
  -- the elements end where the cursor does
  pub elements-end : (k : Kind) (vs : Values) (i : ℕ) (c : Cursor) (e : ℕ) → ElementCursor o S k i c
      → At o m start c z e (elements_slots P o S k vs) → start + elements_size o S k (i + count vs) ≡ z
  unfolding elements_slots count
  elements-end k none i c e q a =
      let h = (at-end o m start c z e a).0 in
      let w = element-end_by o S k i c (is_bool k) refl q in
      let s : i + 0 ≡ i = omega arith in
      rw (s, ← w) h
  elements-end k (v then vs) i c e q a =
      let b = behind-value o S sound m P start z k false v c e (elements_slots P o S k vs) a in
      let s : i + suc (count vs) ≡ i + 1 + count vs = omega arith in
      let next = (element_slot_by o S k i start c (is_bool k) refl q).1 in
      rw s (elements-end k vs (i + 1) (after_value o S k c) b.0 next b.2)

  module _ (G : Objects) (below : Below) (inner : Inner o S m P G below) (k : Kind) (ok : KindSound S k) where
    element_step_lem : (v : Value) (i : ℕ) (c : Cursor) (e : ℕ) (rest : Slots) → ElementCursor o S k i c → PartWrites G o S false true false k v
        → At o m start c z e (value_slots P o S k false v rest) → Shows below S m k v (element_step o S m k start i)
    unfolding element_step
    element_step_lem v i c e rest q p a =
        let s = element_slot_by o S k i start c (is_bool k) refl q in
        let h = value_step_lem o S sound m P G below inner start z true false c e 0 rest ok (λ f. never f) p a in
        rw s.0
        (subst (λ (st : _). Shows below S m k v (struct_tested S m st)) (any_bit o S m k true false 0 (start + (slot_of o S k c).at) (slot_of o S k c).bit (i % 8) s.2) h)

    pub elements_hold : {vs : Values} (i : ℕ) (c : Cursor) (e : ℕ) → ElementCursor o S k i c → ElementsWrite G o S k vs
        → At o m start c z e (elements_slots P o S k vs) → ElementsHold below o S m start k i vs
    unfolding elements_slots
    elements_hold i c e q no-element a = T.no-element
    elements_hold i c e q (elements {v = v} {vs = vs} p ps) a =
        let rest = elements_slots P o S k vs in
        let b = behind-value o S sound m P start z k false v c e rest a in
        let next = (element_slot_by o S k i start c (is_bool k) refl q).1 in
        T.elements (element_step_lem v i c e rest q p a) (elements_hold (i + 1) (after_value o S k c) b.0 next ps b.2)
