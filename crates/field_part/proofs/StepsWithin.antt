-- What a member's, an element's and a struct member's step leads to lies within the message.
use mathlib.Core.Path.{◌≡◌, ap}
use mathlib.Core.Bool.{Bool, true, false, ◌&&◌}
use mathlib.Core.List.{List, [], ◌∷◌, ◌++◌}
use Prim.Native.Nat.{ℕ, suc, ◌+◌, ◌*◌, ◌%◌, ◌^◌, ◌<◌, ◌≤◌}
use native.Mathlib.Omega.{arith}
use lib.ListN.{length, get_or, take, drop, take-append-drop}
use lib.Seq.{drop-cons}
use lib.Pow.{pow_mono}
use lib.Dec.{leb, eqb, ltb}
use borrow.Author.Tests.{leb-true, eqb-false}
use Rattle.coding.specs.Lists.{pick}
use Rattle.coding.specs.Bytes.{le, bit_at, is_nan}
use Rattle.coding.specs.Schema as Sc
use Rattle.coding.specs.Schema.{Schema}
use Rattle.coding.specs.Layout as L
use Rattle.coding.specs.Step as T
use Rattle.coding.specs.Structs.{flat_width, total, struct_size, struct_ok}
use Rattle.coding.specs.declared.Flat.{Flat}
use Rattle.coding.specs.declared.Flat.TheVariants as F
use Rattle.coding.specs.declared.Object.{Object}
use Rattle.coding.specs.declared.Kind.{Kind}
use Rattle.coding.specs.declared.Kind.TheVariants.{OfFlat, OfObject, OfUnion}
use Rattle.coding.specs.declared.Member.{Member}
use Rattle.coding.specs.declared.Cursor.{Cursor}
use Rattle.coding.specs.declared.Slot.{Slot}
use Rattle.coding.specs.declared.Placement.{Placement}
use Rattle.coding.specs.declared.Place.TheVariants.{ByOffset, InPlace}
use Rattle.coding.specs.declared.Step.{Step}
use Rattle.coding.specs.declared.Step.TheVariants as St
use Rattle.laws.specs.Sound.{Sound, FlatSound, ObjectSound, KindSound, MemberSound}
use Rattle.laws.specs.SoundAt.{field_sound-at, case_sound-at}
use Rattle.laws.specs.Lists.{pick_holds}
use Rattle.laws.specs.Sizes.{struct-size_is}
use Rattle.wire.specs.Numbers.{le_small}
use Rattle.message_step.specs.Lead.{PlaceSmall}
use Rattle.message_step.proofs.ReachCases.{slot-size}
use Rattle.message_step.proofs.StepCases.{element-inside}
use Rattle.field_arrival.specs.Within.{Readable, StepWithin}

-- the bytes of joined members
pub total-append : (S : Schema) (ks ls : List Flat) → total (struct_size S) (ks ++ ls) ≡ total (struct_size S) ks + total (struct_size S) ls
unfolding total
total-append S [] ls = omega arith
total-append S (k ∷ ks) ls = omega (arith, total-append S ks ls)

place_small : (inplace : Bool) (tail x : ℕ) → tail < 2 ^ 48 → x < 2 ^ 48 → PlaceSmall (T.place_of inplace tail x)
unfolding T.place_of
place_small inplace tail x h l = pick_holds PlaceSmall inplace (InPlace tail x) (ByOffset x) (λ e. (h, l)) (λ e. l)

module _ (S : Schema) (sound : Sound S) (m : List ℕ) (readable : Readable m) where
  flat-within : (k : Flat) → FlatSound (length S.structs) k → (none : Bool) (at bit : ℕ) → at + flat_width (struct_size S) k ≤ length m
      → StepWithin S m (T.flat_step m k none at bit)
  unfolding T.flat_step T.float_step T.enum_step flat_width
  flat-within F.Boolean s none at bit h = tt
  flat-within (F.Integer g w) s none at bit h = tt
  flat-within (F.Float w) s none at bit h = pick_holds (StepWithin S m) (none && is_nan w (le m at w)) St.Absent (St.Value (le m at w)) (λ e. tt) (λ e. tt)
  flat-within (F.Enumerated n) s none at bit h =
      pick_holds (StepWithin S m) (eqb (get_or m at 0) 255) St.Absent (pick (ltb (get_or m at 0) n) (St.Value (get_or m at 0)) (St.Unknown (get_or m at 0))) (λ e. tt)
      (λ e. pick_holds (StepWithin S m) (ltb (get_or m at 0) n) (St.Value (get_or m at 0)) (St.Unknown (get_or m at 0)) (λ e. tt) (λ e. tt))
  flat-within (F.Struct i) s none at bit h = (s, h)

  tested-within : (step : Step) → StepWithin S m step → StepWithin S m (T.struct_tested S m step)
  unfolding T.struct_tested
  tested-within (St.Refused n) h = tt
  tested-within St.Absent h = tt
  tested-within (St.Value x) h = tt
  tested-within (St.Unknown x) h = tt
  tested-within (St.Struct i at) h =
      pick_holds (StepWithin S m) (struct_ok S m i at) (St.Struct i at) (St.Refused 10) (λ e. h) (λ e. tt)
  tested-within (St.Object ob p) h = h
  tested-within (St.Choice c ob p) h = h

  object-within : (ob : Object) → ObjectSound S ob → (inplace : Bool) (tail x : ℕ) → tail < 2 ^ 48 → x < 2 ^ 48
      → StepWithin S m (T.object_step ob inplace tail x)
  unfolding T.object_step
  object-within ob s inplace tail x h l =
      pick_holds (StepWithin S m) (eqb x 0) St.Absent (St.Object ob (T.place_of inplace tail x)) (λ e. tt) (λ e. (s, place_small inplace tail x h l))

  union-within : (u : ℕ) (inplace : Bool) (tail c x : ℕ) → tail < 2 ^ 48 → x < 2 ^ 48 → StepWithin S m (T.union_step (Sc.cases_of S u) inplace tail c x)
  unfolding T.union_step
  union-within u inplace tail c x h l =
      pick_holds (StepWithin S m) (eqb c 0) St.Absent
      (pick (leb c (length (Sc.cases_of S u))) (St.Choice c (Sc.case_of (Sc.cases_of S u) c) (T.place_of inplace tail x)) (St.Unknown c)) (λ e. tt)
      (λ e. pick_holds (StepWithin S m) (leb c (length (Sc.cases_of S u))) (St.Choice c (Sc.case_of (Sc.cases_of S u) c) (T.place_of inplace tail x)) (St.Unknown c)
      (λ f. (case_sound-at S sound u c (let z = eqb-false c 0 e in omega arith) (leb-true c (length (Sc.cases_of S u)) f), place_small inplace tail x h l))
      (λ f. tt))

  inside-within : (n : ℕ) (slot : Slot) (past here : Step) → StepWithin S m past → (slot.at + slot.size ≤ n → StepWithin S m here)
      → StepWithin S m (T.inside n slot past here)
  unfolding T.inside
  inside-within n slot past here p h =
      pick_holds (StepWithin S m) (leb n slot.at) past (pick (leb (slot.at + slot.size) n) here (St.Refused 8)) (λ e. p)
      (λ e. pick_holds (StepWithin S m) (leb (slot.at + slot.size) n) here (St.Refused 8) (λ f. h (leb-true (slot.at + slot.size) n f)) (λ f. tt))

  -- ---- a table's member and a list's element, over the width
  module _ (o : ℕ) (most : o ≤ 6) where
    offset_small : (at : ℕ) → le m at o < 2 ^ 48
    offset_small at =
        let h : 8 * o ≤ 48 = omega arith in
        let p : 2 ^ (8 * o) ≤ 2 ^ 48 = pow_mono h in
        omega (arith, le_small m readable.bytes at o, p)

    value-within : (k : Kind) → KindSound S k → (none inplace : Bool) (tail at bit : ℕ) → tail < 2 ^ 48 → at + L.width o S k ≤ length m
        → StepWithin S m (T.value_step o S m k none inplace tail at bit)
    unfolding T.value_step L.width
    value-within (OfFlat k) s none inplace tail at bit h l = flat-within k s none at bit l
    value-within (OfObject ob) s none inplace tail at bit h l = object-within ob s inplace tail (le m at o) h (offset_small at)
    value-within (OfUnion u) s none inplace tail at bit h l =
        union-within u inplace tail (le m at 2) (le m (at + 2) o) h (offset_small (at + 2))

    -- a member by a placement of as many bytes as it takes
    pub placed-within : (r : Member) → MemberSound S r → (start n : ℕ) (p : Placement) → p.value.size ≡ L.width o S r.kind → start + n ≤ length m
        → StepWithin S m (T.struct_tested S m (T.placed_step o S m start n p r))
    unfolding T.placed_step T.flagged
    placed-within r s start n p z h =
        tested-within (T.placed_step o S m start n p r)
        (pick_holds (StepWithin S m) (L.has_flag r) (T.flagged m start n flag slot here) (T.inside n slot St.Absent here)
        (λ e. pick_holds (StepWithin S m) (leb n flag.at) St.Absent
        (pick (eqb (bit_at m (start + flag.at) flag.bit) 1) (T.inside n slot (St.Refused 8) here) (T.inside n slot St.Absent St.Absent)) (λ f. tt)
        (λ f. pick_holds (StepWithin S m) (eqb (bit_at m (start + flag.at) flag.bit) 1) (T.inside n slot (St.Refused 8) here) (T.inside n slot St.Absent St.Absent)
        (λ g. inside-within n slot (St.Refused 8) here tt there) (λ g. inside-within n slot St.Absent St.Absent tt (λ l. tt))))
        (λ e. inside-within n slot St.Absent here tt there))
      where
        slot : Slot
        slot = p.value

        flag : Slot
        flag = p.flag

        here : Step
        here = T.value_step o S m r.kind r.optional r.inplace (start + n) (start + slot.at) slot.bit

        there : slot.at + slot.size ≤ n → StepWithin S m here
        there l =
            let g = readable.size in
            value-within r.kind s.kind r.optional r.inplace (start + n) (start + slot.at) slot.bit (omega arith) (omega arith)

    pub member-within : (r : Member) → MemberSound S r → (start n : ℕ) (c : Cursor) → start + n ≤ length m
        → StepWithin S m (T.member_step o S m start n c r)
    unfolding T.member_step L.placement_of L.member_slot
    member-within r s start n c h = placed-within r s start n (L.placement_of o S r c) (slot-size o S r.kind (L.after_flag r c)) h

    pub element-within : (k : Kind) → KindSound S k → (start n i : ℕ) → start + T.elements_size o S k n ≤ length m → i < n
        → StepWithin S m (T.element_step o S m k start i)
    unfolding T.element_step
    element-within k s start n i h l =
        tested-within (T.value_step o S m k true false 0 (T.element_place o S k start i) (i % 8))
        (value-within k s true false 0 (T.element_place o S k start i) (i % 8) (omega arith) (omega (arith, element-inside o S k start n i l)))

  -- ---- a struct's member
  before-and_here : (i j : ℕ) → j < length (Sc.struct_of S i)
      → total (struct_size S) (take j (Sc.struct_of S i)) + flat_width (struct_size S) (Sc.field_of S i j) ≤ struct_size S i
  unfolding total Sc.field_of
  before-and_here i j l =
      let ks = Sc.struct_of S i in
      let p : total (struct_size S) (take j ks ++ drop j ks) ≡ total (struct_size S) ks = ap (total (struct_size S)) (take-append-drop j ks) in
      let q : total (struct_size S) (drop j ks) ≡ total (struct_size S) (Sc.field_of S i j ∷ drop (suc j) ks) = ap (total (struct_size S)) (drop-cons ks j F.Boolean l) in
      omega (arith, p, q, total-append S (take j ks) (drop j ks), struct-size_is S sound i)

  weaker : (i : ℕ) → i < length S.structs → (k : Flat) → FlatSound i k → FlatSound (length S.structs) k
  weaker i l F.Boolean h = tt
  weaker i l (F.Integer s w) h = h
  weaker i l (F.Float w) h = h
  weaker i l (F.Enumerated n) h = h
  weaker i l (F.Struct a) h = omega arith

  pub field_sound : (i j : ℕ) → i < length S.structs → j < length (Sc.struct_of S i) → FlatSound (length S.structs) (Sc.field_of S i j)
  field_sound i j l h = weaker i l (Sc.field_of S i j) (field_sound-at S sound i j h)

  field_steps : (k : Flat) (at : ℕ) → FlatSound (length S.structs) k → at + flat_width (struct_size S) k ≤ length m → StepWithin S m (T.field_step m k at)
  unfolding T.field_step T.enum_step flat_width
  field_steps F.Boolean at s h = tt
  field_steps (F.Integer g w) at s h = tt
  field_steps (F.Float w) at s h = tt
  field_steps (F.Enumerated n) at s h =
      pick_holds (StepWithin S m) (eqb (get_or m at 0) 255) St.Absent (pick (ltb (get_or m at 0) n) (St.Value (get_or m at 0)) (St.Unknown (get_or m at 0))) (λ e. tt)
      (λ e. pick_holds (StepWithin S m) (ltb (get_or m at 0) n) (St.Value (get_or m at 0)) (St.Unknown (get_or m at 0)) (λ e. tt) (λ e. tt))
  field_steps (F.Struct i) at s h = (s, h)

  pub field-within : (i at j : ℕ) → i < length S.structs → at + struct_size S i ≤ length m → j < length (Sc.struct_of S i)
      → StepWithin S m (T.field_step m (Sc.field_of S i j) (at + total (struct_size S) (take j (Sc.struct_of S i))))
  field-within i at j l h g =
      field_steps (Sc.field_of S i j) (at + total (struct_size S) (take j (Sc.struct_of S i))) (field_sound i j l g) (omega (arith, before-and_here i j g))
