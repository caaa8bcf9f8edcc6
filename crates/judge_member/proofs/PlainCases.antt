-- Members that are numbers, floats or enums, neither optional nor in place, by the first byte of their record.
use mathlib.Core.Path.{◌≡◌, refl, sym, ap, ◌∙◌, subst}
use mathlib.Core.Bool.{Bool, true, false}
use mathlib.Core.List.{List}
use Prim.Native.Nat.{ℕ, ◌+◌, ◌*◌, ◌/◌, ◌%◌, ◌<◌, ◌≤◌}
use native.Mathlib.Omega.{arith}
use lib.ListN.{length, get_or}
use lib.Dec.{ltb, eqb}
use borrow.Author.Tests.{ne_eqb, eq-eqb, eqb-true, eqb-false, lt-ltb, le-leb, lt-leb}
use Rattle.coding.specs.Lists.{pick}
use Rattle.coding.specs.Schema as Sc
use Rattle.coding.specs.Schema.{Schema}
use Rattle.coding.specs.Packed as P
use Rattle.coding.specs.Layout as L
use Rattle.coding.specs.Structs.{struct_size, flat_width}
use Rattle.coding.specs.Step as T
use Rattle.coding.specs.declared.Flat.{Flat}
use Rattle.coding.specs.declared.Flat.TheVariants as F
use Rattle.coding.specs.declared.Kind.{Kind}
use Rattle.coding.specs.declared.Kind.TheVariants.{OfFlat}
use Rattle.coding.specs.declared.Member.{Member}
use Rattle.coding.specs.declared.Cursor.{Cursor}
use Rattle.coding.specs.declared.Slot.{Slot}
use Rattle.coding.specs.declared.Step.{Step}
use Rattle.coding.specs.declared.Step.TheVariants as St
use Rattle.laws.specs.Sound.{FlatScalar}
use Rattle.schema.specs.Records.{record-member}
use Rattle.message_layout.specs.Bounds.{Laid}
use Rattle.message_step.specs.Lead.{lead_of, StepSmall, Stepped}
use Rattle.outcome.specs.declared.Content.{Content}
use Rattle.judge_member.specs.Records.{Plain, plain_width, LedAt, Led}
use Rattle.message_header.proofs.SizeCases.{element-flat}

-- ---- the width by the kind
pub width-enum : (k : ℕ) → k ≡ 11 → 1 ≡ plain_width k
unfolding plain_width
width-enum k h = simp (eq-eqb _ _ h)

pub width-number : (k : ℕ) → (k ≡ 11 → ⊥) → (v w : ℕ) → v ≡ P.width_of k → w ≡ v → w ≡ plain_width k
unfolding plain_width
width-number k h v w e f = simp (ne_eqb _ _ h) (f ∙ e)

-- ---- the member of such a record
-- a flat value that is no bool and no struct, with its bytes
record Number (S : Schema) (w : ℕ) (f : Flat) : Type 0 where
  no_bool : L.flat_is_bool f ≡ false
  wide : w ≡ flat_width (struct_size S) f
  scalar : FlatScalar f

number_among : (S : Schema) (w : ℕ) (t u : Bool) → Number S w (pick t (F.Integer false w) (pick u (F.Integer true w) (F.Float w)))
unfolding L.flat_is_bool flat_width
number_among S w true u = record { no_bool = refl; wide = refl; scalar = tt }
number_among S w false true = record { no_bool = refl; wide = refl; scalar = tt }
number_among S w false false = record { no_bool = refl; wide = refl; scalar = tt }

enum-number : (S : Schema) (a : ℕ) → Number S 1 (F.Enumerated a)
unfolding L.flat_is_bool flat_width
enum-number S a = record { no_bool = refl; wide = refl; scalar = tt }

number_is : (S : Schema) (k a : ℕ) → 0 < k → k < 12 → Number S (plain_width k) (P.flat_of k a)
unfolding plain_width P.flat_of
number_is S k a l h = by (eqb k 11) refl
  where
    by : (t : Bool) → eqb k 11 ≡ t → Number S (plain_width k) (P.flat_of k a)
    by true e = subst (λ (q : ℕ). Number S (plain_width q) (P.flat_of q a)) (sym (eqb-true k 11 e)) (enum-number S a)
    by false e =
        let z = eqb-false k 11 e in
        let g : k < 11 = omega arith in
        let y : (k ≡ 0 → ⊥) = λ q. absurd (omega arith) in
        simp (e, ne_eqb k 0 y, lt-ltb _ _ g) (number_among S (P.width_of k) (ltb k 5) (ltb k 9))

abbrev plain-member : Flat → Member
plain-member f = record { kind = OfFlat f; optional = false; inplace = false }

member_is : (b : List ℕ) (at h : ℕ) → h ≡ get_or b at 0 → Plain h → P.member_at b at ≡ plain-member (P.flat_of (h / 8) (P.argument_at b at))
unfolding P.member_at P.optional_at P.inplace_at P.kind_at
member_is b at h e p =
    let g = p.high in
    let f = p.flags in
    let k : h / 8 < 13 = omega arith in
    let o : eqb (get_or b at 0 / 4 % 2) 1 ≡ false = ap (λ (q : ℕ). eqb (q / 4 % 2) 1) (sym e) ∙ ne_eqb (h / 4 % 2) 1 (λ (z : h / 4 % 2 ≡ 1). absurd (omega arith)) in
    let i : eqb (get_or b at 0 / 2 % 2) 1 ≡ false = ap (λ (q : ℕ). eqb (q / 2 % 2) 1) (sym e) ∙ ne_eqb (h / 2 % 2) 1 (λ (z : h / 2 % 2 ≡ 1). absurd (omega arith)) in
    let q : P.element_at b at ≡ OfFlat (P.flat_of (h / 8) (P.argument_at b at)) = element-flat b at (h / 8) (ap (λ (x : ℕ). x / 8) e) k in
    ap (λ (x : Kind). record { kind = x; optional = eqb (get_or b at 0 / 4 % 2) 1; inplace = eqb (get_or b at 0 / 2 % 2) 1 }) q
    ∙ ap (λ (x : Bool). record { kind = OfFlat (P.flat_of (h / 8) (P.argument_at b at)); optional = x; inplace = eqb (get_or b at 0 / 2 % 2) 1 }) o
    ∙ ap (λ (x : Bool). record { kind = OfFlat (P.flat_of (h / 8) (P.argument_at b at)); optional = false; inplace = x }) i

-- ---- its step and the cursor behind it
nowhere : (S : Schema) (m : List ℕ) (f : Flat) (at bit : ℕ) → FlatScalar f → lead_of (T.struct_tested S m (T.flat_step m f false at bit)) ≡ St.Absent
unfolding T.flat_step T.float_step T.enum_step T.struct_tested lead_of
nowhere S m F.Boolean at bit h = refl
nowhere S m (F.Integer s w) at bit h = refl
nowhere S m (F.Float w) at bit h = refl
nowhere S m (F.Enumerated n) at bit h = by (eqb (get_or m at 0) 255) (ltb (get_or m at 0) n)
  where
    by : (t u : Bool) → lead_of (T.struct_tested S m (pick t St.Absent (pick u (St.Value (get_or m at 0)) (St.Unknown (get_or m at 0))))) ≡ St.Absent
    by true u = refl
    by false true = refl
    by false false = refl
nowhere S m (F.Struct i) at bit h = absurd h

module _ (o : ℕ) (S : Schema) (m : List ℕ) (start n : ℕ) (c : Cursor) (w : ℕ) (f : Flat) (num : Number S w f) where
  slot : Slot
  slot = record { at = c.end; bit = 0; size = w }

  slot_is : L.member_slot o S (plain-member f) c ≡ slot
  unfolding slot L.member_slot L.slot_of L.after_flag L.has_flag L.is_bool L.width
  slot_is = simp (num.no_bool, ← num.wide)

  behind : L.after_bytes w c ≡ L.after_member o S (plain-member f) c
  unfolding L.after_member L.after_value L.after_flag L.has_flag L.is_bool L.width L.after_bytes
  behind = simp (num.no_bool, ← num.wide)

  step_is : T.member_step o S m start n c (plain-member f) ≡ T.struct_tested S m (T.inside n slot St.Absent (T.flat_step m f false (start + c.end) 0))
  unfolding T.member_step T.placed_step L.placement_of L.has_flag T.value_step slot
  step_is = ap (λ (s : Slot). T.struct_tested S m (T.inside n s St.Absent (T.flat_step m f false (start + s.at) s.bit))) slot_is

  past : n ≤ c.end → lead_of (T.member_step o S m start n c (plain-member f)) ≡ St.Absent
  unfolding T.inside T.struct_tested slot lead_of
  past h = ap lead_of step_is ∙ simp (le-leb _ _ h)

  here : c.end < n → c.end + w ≤ n → lead_of (T.member_step o S m start n c (plain-member f)) ≡ St.Absent
  unfolding T.inside slot
  here h l = ap lead_of step_is ∙ simp (lt-leb _ _ h, le-leb _ _ l) (nowhere S m f (start + c.end) 0 num.scalar)

  cut : c.end < n → n < c.end + w → lead_of (T.member_step o S m start n c (plain-member f)) ≡ St.Refused 8
  unfolding T.inside T.struct_tested slot lead_of
  cut h l = ap lead_of step_is ∙ simp (lt-leb _ _ h, lt-leb _ _ l)

module _ (o : ℕ) (b m : List ℕ) (at : ℕ) (x : Content) (c : Cursor) (h : ℕ) (eh : h ≡ get_or b at 0) (p : Plain h) (k : ℕ) (ek : k ≡ h / 8) (w : ℕ) (ew : w ≡ plain_width k)
    (lw : w < 256) (next : Cursor) (en : next ≡ L.after_bytes w c) (laid : Laid (c.end + w) next) where
  abbrev value : Flat
  value = P.flat_of (h / 8) (P.argument_at b at)

  num : Number (P.parse b) w value
  num = subst (λ (q : ℕ). Number (P.parse b) q value) (sym (ew ∙ ap plain_width ek)) (number_is (P.parse b) (h / 8) (P.argument_at b at) p.low p.high)

  led-at : (s : Step) → lead_of (T.member_step o (P.parse b) m x.start x.length c (plain-member value)) ≡ s → StepSmall (P.parse b) s → LedAt o b m at x c s next
  led-at s e small =
      let l = laid.end in
      record {
        stepped =
            record {
              step_is = sym e ∙ ap (λ (r : Member). lead_of (T.member_step o (P.parse b) m x.start x.length c r)) (sym (member_is b at h eh p));
              next_is = en ∙ behind o (P.parse b) m x.start x.length c w value num ∙ ap (λ (r : Member). L.after_member o (P.parse b) r c) (sym (member_is b at h eh p));
              laid = record { end = omega arith; byte = laid.byte; bit = laid.bit };
            };
        small = small;
      }

  pub number_past : x.length ≤ c.end → LedAt o b m at x c St.Absent next
  number_past l = led-at St.Absent (past o (P.parse b) m x.start x.length c w value num l) tt

  module _ (l : c.end < x.length) where
    next-end : next.end ≡ c.end + w
    unfolding L.after_bytes
    next-end = ap (λ (q : Cursor). q.end) en

    pub number_here : next.end ≤ x.length → LedAt o b m at x c St.Absent next
    number_here g = let e = next-end in led-at St.Absent (here o (P.parse b) m x.start x.length c w value num l (omega arith)) tt

    pub number_cut : x.length < next.end → LedAt o b m at x c (St.Refused 8) next
    number_cut g = let e = next-end in led-at (St.Refused 8) (cut o (P.parse b) m x.start x.length c w value num l (omega arith)) tt

-- ---- member j of a table, from its record
pub led_is : (o : ℕ) (S : Schema) (m : List ℕ) (t j : ℕ) (x : Content) (c : Cursor) (r : Member) → r ≡ Sc.member_of S t j → Laid (4097 * j) c → (step : Step) (next : Cursor)
    → Stepped (lead_of (T.member_step o S m x.start x.length c r)) (L.after_member o S r c) c.end step next → StepSmall S step → Led o S m t j x c step next
led_is o S m t j x c r e laid step next h small =
    let p = laid.end in
    let q = h.laid in
    let l = q.end in
    record {
      step_is = h.step_is ∙ ap (λ (k : Member). lead_of (T.member_step o S m x.start x.length c k)) e;
      next_is = h.next_is ∙ ap (λ (k : Member). L.after_member o S k c) e;
      laid = record { end = omega arith; byte = q.byte; bit = q.bit };
      small = small;
    }

module _ (o : ℕ) (b : List ℕ) (t j p : ℕ) (l : t < P.table_count b) (h : j < length (Sc.table_of (P.parse b) t).members) (ep : p ≡ P.table_place b t) where
  pub number_led : (m : List ℕ) (x : Content) (c : Cursor) → Laid (4097 * j) c → (at : ℕ) → at ≡ P.record_place 4 p j → (step : Step) (next : Cursor)
      → ((o' : ℕ) → LedAt o' b m at x c step next) → Led o (P.parse b) m t j x c step next
  number_led m x c laid at e step next g =
      led_is o (P.parse b) m t j x c (P.member_at b at) (record-member b t j p l h ep at e) laid step next (g o).stepped (g o).small
