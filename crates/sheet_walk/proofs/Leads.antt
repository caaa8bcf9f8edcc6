-- Members that lead to an object, by their records: their bits, what their parts may rely on, and the cursor behind them.
use mathlib.Core.Path.{◌≡◌, refl, sym, ap, ap₂, ◌∙◌, subst}
use mathlib.Core.Bool.{Bool, true, false, ◌&&◌, not}
use mathlib.Core.List.{List, ◌∷◌, ◌++◌}
use Prim.Native.Nat.{ℕ, ◌+◌, ◌*◌, ◌<◌, ◌≤◌}
use native.Mathlib.Omega.{arith}
use lib.ListN.{length, drop}
use lib.Dec.{leb, ltb, eqb}
use borrow.Author.Tests.{le-leb, lt-leb, lt-ltb, le-ltb, ltb-true, ltb-false, eqb-true, eqb-false, eq-eqb, ne_eqb}
use Rattle.coding.specs.Lists.{pick}
use Rattle.coding.specs.Bytes.{le}
use Rattle.coding.specs.Schema as Sc
use Rattle.coding.specs.Schema.{Schema}
use Rattle.coding.specs.Packed as P
use Rattle.coding.specs.Layout as L
use Rattle.coding.specs.Step as T
use Rattle.coding.specs.Bits.{bits_of}
use Rattle.coding.specs.declared.Object.{Object}
use Rattle.coding.specs.declared.Kind.{Kind}
use Rattle.coding.specs.declared.Kind.TheVariants.{OfObject, OfUnion}
use Rattle.coding.specs.declared.Member.{Member}
use Rattle.coding.specs.declared.Cursor.{Cursor}
use Rattle.coding.specs.declared.Place.{Place}
use Rattle.coding.specs.declared.Step.{Step}
use Rattle.coding.specs.declared.Step.TheVariants as St
use Rattle.laws.specs.Sound.{KindSound}
use Rattle.message_layout.specs.Bounds.{Laid}
use Rattle.wire.specs.Numbers.{Number}
use Rattle.message_step.proofs.Inside.{union-counted}
use Rattle.bitio.specs.Puts.{Room, Puts}
use Rattle.bitio.specs.PutsLaws.{puts-same}
use Rattle.sheet_values.proofs.Remaining.{Remaining, remaining_turn}
use Rattle.sheet_walk.specs.MessageBits as A
use Rattle.sheet_walk.specs.Readable as D
use Rattle.sheet_walk.proofs.Flats.{is_flat, is_true, is_false}
use Rattle.sheet_walk.proofs.Objects.{step_absent, object_readable}
use Rattle.sheet_walk.proofs.Values.{object_none, object_there, tested-object, tested-union, value-object, value-union}

-- ---- the kind by its number
module _ (b : List ℕ) (at : ℕ) where
  object_kind : 12 < P.kind_at b at → (P.kind_at b at ≡ 17 → ⊥) → (P.member_at b at).kind ≡ OfObject (P.object_at b at)
  unfolding P.member_at P.element_at P.kind_of P.object_at
  object_kind h l = let g : 13 ≤ P.kind_at b at = omega arith in simp (le-ltb _ _ g, ne_eqb _ _ l)

  union_kind : P.kind_at b at ≡ 17 → (P.member_at b at).kind ≡ OfUnion (P.argument_at b at)
  unfolding P.member_at P.element_at P.kind_of
  union_kind h = let g : 13 ≤ P.kind_at b at = omega arith in simp (le-ltb _ _ g, eq-eqb _ _ h)

  inplace_is : (P.member_at b at).inplace ≡ P.inplace_at b at
  unfolding P.member_at
  inplace_is = refl

-- a member whose kind is not above 12 leads to no object
flat_kind : (b : List ℕ) (at : ℕ) → P.kind_at b at ≤ 12 → is_flat (P.member_at b at).kind ≡ true
unfolding P.member_at P.element_at P.kind_of is_flat
flat_kind b at h = let g : P.kind_at b at < 13 = omega arith in simp (lt-ltb _ _ g)

pub flat-member : (b : List ℕ) (at k : ℕ) → k ≡ P.kind_at b at → (t : Bool) → t ≡ ltb k 13 → not t ≡ false → (r : Member) → r ≡ P.member_at b at → is_flat r.kind ≡ true
flat-member b at k ek t et h r er =
    let l = ltb-true k 13 (sym et ∙ is_true t h) in
    let g : P.kind_at b at ≤ 12 = omega arith in
    subst (λ (i : Member). is_flat i.kind ≡ true) (sym er) (flat_kind b at g)

-- ---- where such a member stands
-- a kind that is no bool and takes no flag, and its bytes
record Leads (o : ℕ) (S : Schema) (k : Kind) (w : ℕ) : Type 0 where
  no_bool : L.is_bool k ≡ false
  no_flag : L.takes_flag k ≡ false
  wide : L.width o S k ≡ w

object-leads : (o : ℕ) (S : Schema) (k : Kind) (ob : Object) → k ≡ OfObject ob → Leads o S k o
unfolding L.is_bool L.takes_flag L.width
object-leads o S k ob e = record { no_bool = rw e; no_flag = rw e; wide = rw e }

union-leads : (o : ℕ) (S : Schema) (k : Kind) (u : ℕ) → k ≡ OfUnion u → Leads o S k (2 + o)
unfolding L.is_bool L.takes_flag L.width
union-leads o S k u e = record { no_bool = rw e; no_flag = rw e; wide = rw e }

module _ (o : ℕ) (S : Schema) (r : Member) (w : ℕ) (h : Leads o S r.kind w) (c : Cursor) where
  unflagged : L.has_flag r ≡ false
  unfolding L.has_flag
  unflagged = by r.optional (L.takes_flag r.kind) h.no_flag
    where
      by : (t u : Bool) → u ≡ false → (t && u) ≡ false
      by true u e = e
      by false u e = refl

  lead_after : L.after_member o S r c ≡ L.after_bytes w c
  unfolding L.after_member L.after_value L.after_flag
  lead_after = simp (unflagged, h.no_bool, h.wide)

  lead_slot : L.member_slot o S r c ≡ record { at = c.end; bit = 0; size = w }
  unfolding L.member_slot L.slot_of L.after_flag
  lead_slot = simp (unflagged, h.no_bool, h.wide)

  lead_step : (m : List ℕ) (start n : ℕ)
      → T.member_step o S m start n c r
      ≡ T.struct_tested S m
      (T.inside n (record { at = c.end; bit = 0; size = w }) St.Absent (T.value_step o S m r.kind r.optional r.inplace (start + n) (start + c.end) 0))
  unfolding T.member_step T.placed_step L.placement_of
  lead_step m start n = simp (unflagged, lead_slot)

  lead_there : (m : List ℕ) (start n : ℕ) → 0 < w → c.end + w ≤ n
      → T.struct_tested S m (T.value_step o S m r.kind r.optional r.inplace (start + n) (start + c.end) 0) ≡ T.member_step o S m start n c r
  unfolding T.inside
  lead_there m start n some l = let g : c.end < n = omega arith in sym (lead_step m start n ∙ simp (lt-leb _ _ g, le-leb _ _ l))

  lead_none : (d : ℕ) (m : List ℕ) (start n : ℕ) → n < c.end + w → bits_of 2 0 ≡ A.step_at o d S m r.kind (T.member_step o S m start n c r)
  unfolding T.inside T.struct_tested A.step_at
  lead_none d m start n l = sym (ap (A.step_at o d S m r.kind) (lead_step m start n ∙ ap (T.struct_tested S m) cut) ∙ by (leb n c.end))
    where
      cut : T.inside n (record { at = c.end; bit = 0; size = w }) St.Absent (T.value_step o S m r.kind r.optional r.inplace (start + n) (start + c.end) 0)
          ≡ pick (leb n c.end) St.Absent (St.Refused 8)
      cut = simp (lt-leb _ _ l)

      by : (t : Bool) → A.step_at o d S m r.kind (T.struct_tested S m (pick t St.Absent (St.Refused 8))) ≡ bits_of 2 0
      by true = refl
      by false = refl

-- ---- by the record
module _ (o k : ℕ) (t : Bool) (et : t ≡ eqb k 17) where
  pub width-union : t ≡ true → (w : ℕ) → w ≡ 2 + o → w ≡ A.lead_width o k
  unfolding A.lead_width
  width-union h w e = simp (← et, h) e

  pub width-object : t ≡ false → o ≡ A.lead_width o k
  unfolding A.lead_width
  width-object h = simp (← et, h)

  -- the bytes of such a member that lies within a part
  module _ (w : ℕ) (ew : w ≡ A.lead_width o k) (start n c end : ℕ) (fits : start + n ≤ c) (l : end + w ≤ n) where
    pub union-inside : t ≡ true → start + end + (2 + o) ≤ c
    union-inside h = omega (arith, ew, width-union h (2 + o) refl, fits, l)

    pub object-inside : t ≡ false → start + end + o ≤ c
    object-inside h = omega (arith, ew, width-object h, fits, l)

module _ (o : ℕ) (b : List ℕ) (at k : ℕ) (ek : k ≡ P.kind_at b at) (low : 12 < P.kind_at b at) where
  of-object : (k ≡ 17 → ⊥) → (P.member_at b at).kind ≡ OfObject (P.object_at b at)
  of-object h = object_kind b at low (λ e. h (ek ∙ e))

  of-union : k ≡ 17 → (P.member_at b at).kind ≡ OfUnion (P.argument_at b at)
  of-union h = union_kind b at (sym ek ∙ h)

  leads : Leads o (P.parse b) (P.member_at b at).kind (A.lead_width o k)
  unfolding A.lead_width
  leads = by (eqb k 17) refl
    where
      by : (t : Bool) → eqb k 17 ≡ t → Leads o (P.parse b) (P.member_at b at).kind (pick t (2 + o) o)
      by true e = union-leads o (P.parse b) (P.member_at b at).kind (P.argument_at b at) (of-union (eqb-true _ _ e))
      by false e = object-leads o (P.parse b) (P.member_at b at).kind (P.object_at b at) (of-object (eqb-false _ _ e))

  module _ (w : ℕ) (ew : w ≡ A.lead_width o k) where
    leads_so : Leads o (P.parse b) (P.member_at b at).kind w
    leads_so = subst (Leads o (P.parse b) (P.member_at b at).kind) (sym ew) leads

    pub lead_next : (c next : Cursor) → next ≡ L.after_bytes w c → next ≡ L.after_member o (P.parse b) (P.member_at b at) c
    lead_next c next e = e ∙ sym (lead_after o (P.parse b) (P.member_at b at) w leads_so c)

    pub lead_past : (d : ℕ) (m : List ℕ) (start n : ℕ) (c : Cursor) (out out₁ : List ℕ) (p q : ℕ) → n < c.end + w → Puts out p (bits_of 2 0) out₁ q
        → Puts out p (A.step_at o d (P.parse b) m (P.member_at b at).kind (T.member_step o (P.parse b) m start n c (P.member_at b at))) out₁ q
    lead_past d m start n c out out₁ p q l h =
        puts-same out out₁ p q (bits_of 2 0) (A.step_at o d (P.parse b) m (P.member_at b at).kind (T.member_step o (P.parse b) m start n c (P.member_at b at)))
        (lead_none o (P.parse b) (P.member_at b at) w leads_so c d m start n l) h

    module _ (d : ℕ) (m : List ℕ) (start n : ℕ) (c : Cursor) (l : c.end + w ≤ n) (some : 0 < w) (inplace : Bool) (ei : inplace ≡ P.inplace_at b at) where
      abbrev step : Step
      step = T.member_step o (P.parse b) m start n c (P.member_at b at)

      value_so : (s : Step) → s ≡ T.struct_tested (P.parse b) m (T.value_step o (P.parse b) m (P.member_at b at).kind (P.member_at b at).optional inplace (start + n) (start + c.end) 0) → s ≡ step
      value_so s e =
          e
          ∙ ap (λ (i : Bool). T.struct_tested (P.parse b) m (T.value_step o (P.parse b) m (P.member_at b at).kind (P.member_at b at).optional i (start + n) (start + c.end) 0)) (ei ∙ sym (inplace_is b at))
          ∙ lead_there o (P.parse b) (P.member_at b at) w leads_so c m start n some l

      -- a union's choice and its reference
      module _ (t : Bool) (et : t ≡ eqb k 17) (h : t ≡ true) (a u : ℕ) (ea : a ≡ P.argument_at b at) (eu : u ≡ a) (i x : ℕ) (ni : Number m (start + c.end) 2 i)
          (ex : x ≡ le m (start + c.end + 2) o) (place : Place) (ep : place ≡ T.place_of inplace (start + n) x) where
        chosen : A.choice_step (Sc.cases_of (P.parse b) u) i place ≡ step
        unfolding A.choice_step T.union_step
        chosen =
            ap (A.choice_step (Sc.cases_of (P.parse b) u) i) ep
            ∙ value_so (T.union_step (Sc.cases_of (P.parse b) u) inplace (start + n) i x)
            (tested-union (P.parse b) m (Sc.cases_of (P.parse b) u) inplace (start + n) i x
            ∙ ap (T.struct_tested (P.parse b) m) (value-union o (P.parse b) m (P.member_at b at).kind (P.member_at b at).optional inplace (start + n) (start + c.end) 0
            (P.argument_at b at) u (of-union (eqb-true k 17 (sym et ∙ h))) (eu ∙ ea) i x ni.is ex))

        pub chosen-given : D.StepReadable (D.ObjectReadable o d (P.parse b) m) (P.parse b) m (T.member_step o (P.parse b) m start n c (P.member_at b at))
            → D.StepReadable (D.ObjectReadable o d (P.parse b) m) (P.parse b) m (A.choice_step (Sc.cases_of (P.parse b) u) i place)
        chosen-given g = subst (D.StepReadable (D.ObjectReadable o d (P.parse b) m) (P.parse b) m) (sym chosen) g

        pub lead-chosen : (out out₁ : List ℕ) (p q : ℕ) → Puts out p (A.choice_at o d (P.parse b) m u i place) out₁ q
            → Puts out p (A.step_at o d (P.parse b) m (P.member_at b at).kind (T.member_step o (P.parse b) m start n c (P.member_at b at))) out₁ q
        unfolding A.choice_at
        lead-chosen out out₁ p q g =
            puts-same out out₁ p q (A.choice_at o d (P.parse b) m u i place) (A.step_at o d (P.parse b) m (P.member_at b at).kind step)
            (ap₂ (A.step_at o d (P.parse b) m) (sym (of-union (eqb-true k 17 (sym et ∙ h)) ∙ ap OfUnion (sym (eu ∙ ea)))) chosen) g

      -- another object's reference
      module _ (t : Bool) (et : t ≡ eqb k 17) (h : t ≡ false) (x : ℕ) (ex : x ≡ le m (start + c.end) o) where
        referred : (ob : Object) → ob ≡ P.object_at b at → T.object_step ob inplace (start + n) x ≡ step
        referred ob eo =
            value_so (T.object_step ob inplace (start + n) x)
            (tested-object (P.parse b) m ob inplace (start + n) x
            ∙ ap (T.struct_tested (P.parse b) m) (value-object o (P.parse b) m (P.member_at b at).kind (P.member_at b at).optional inplace (start + n) (start + c.end) 0
            ob (of-object (eqb-false k 17 (sym et ∙ h)) ∙ ap OfObject (sym eo)) x ex))

        pub lead-absent : x ≡ 0 → (out out₁ : List ℕ) (p q : ℕ) → Puts out p (bits_of 2 0) out₁ q
            → Puts out p (A.step_at o d (P.parse b) m (P.member_at b at).kind (T.member_step o (P.parse b) m start n c (P.member_at b at))) out₁ q
        lead-absent e out out₁ p q g =
            step_absent o d (P.parse b) m (P.member_at b at).kind out out₁ p q step
            (sym (referred (P.object_at b at) refl) ∙ sym (object_none inplace (start + n) x (P.object_at b at) e)) g

        -- the object that it leads to
        module _ (leads : x ≡ 0 → ⊥) (ob : Object) (eo : ob ≡ P.object_at b at) (place : Place) (ep : place ≡ T.place_of inplace (start + n) x) where
          leads_to : St.Object ob place ≡ step
          leads_to = object_there inplace (start + n) x ob leads place ep ∙ referred ob eo

          pub lead-given : D.StepReadable (D.ObjectReadable o d (P.parse b) m) (P.parse b) m (T.member_step o (P.parse b) m start n c (P.member_at b at))
              → D.ObjectReadable o d (P.parse b) m ob place
          lead-given g = object_readable o d (P.parse b) m step g ob place (sym leads_to)

          pub lead-present : (out out₁ : List ℕ) (p q : ℕ) → Puts out p (A.present_at o d (P.parse b) m ob place) out₁ q
              → Puts out p (A.step_at o d (P.parse b) m (P.member_at b at).kind (T.member_step o (P.parse b) m start n c (P.member_at b at))) out₁ q
          unfolding A.present_at A.step_at
          lead-present out out₁ p q g =
              puts-same out out₁ p q (A.present_at o d (P.parse b) m ob place) (A.step_at o d (P.parse b) m (P.member_at b at).kind step)
              (ap (A.step_at o d (P.parse b) m (P.member_at b at).kind) leads_to) g

module _ (b : List ℕ) (at k : ℕ) (ek : k ≡ P.kind_at b at) where
  pub lead-counted : (t : Bool) → t ≡ eqb k 17 → t ≡ true → KindSound (P.parse b) (P.member_at b at).kind → (a u : ℕ) → a ≡ P.argument_at b at → u ≡ a
      → u < P.union_count b
  lead-counted t et h sound a u ea eu =
      let e = eqb-true k 17 (sym et ∙ h) in
      union-counted b (P.member_at b at).kind (P.argument_at b at) u sound (union_kind b at (sym ek ∙ e)) (eu ∙ ea)

  -- a kind that is not flat
  pub lead_above : (t : Bool) → t ≡ ltb k 13 → not t ≡ true → 12 < P.kind_at b at
  lead_above t et h = let e = ltb-false k 13 (sym et ∙ is_false t h) in omega arith

-- ---- in their table
pub lead_laid : (j w : ℕ) (c next : Cursor) → Laid (4097 * j) c → w ≤ 8 → next ≡ L.after_bytes w c → Laid (4097 * (j + 1)) next
unfolding L.after_bytes
lead_laid j w c next p h e =
    let x = p.end in
    let y = p.byte in
    subst (Laid (4097 * (j + 1))) (sym e) (record { end = omega arith; byte = omega arith; bit = p.bit })
