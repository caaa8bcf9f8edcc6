-- What a member or an element of a message shows, if it is not refused and leads to what can be shown, is a value that the schema can show.
use Rattle.std.specs.Prelude.{◌≡◌, Bool, ◌&&◌, length, ltb, leb, eqb}
use Rattle.std.proofs.Math.Path.{refl}
use mathlib.Core.List.{List, [], ◌∷◌}
use Rattle.std.proofs.Math.Bool.{true, false}
use Rattle.std.proofs.lemmas.Bool.{false≢true}
use Prim.Native.Nat.{ℕ, zero, suc, ◌+◌, ◌*◌, ◌%◌, ◌^◌, ◌<◌, ◌≤◌}
use native.Mathlib.Omega.{arith}
use Rattle.std.proofs.Math.ListN.{get_or}
use Rattle.std.proofs.Math.Pow.{pow-add}
use borrow.Author.Tests.{ltb-true, ltb-false, leb-true, leb-false, eqb-false}
use Rattle.coding.specs.Lists.{pick}
use Rattle.coding.specs.Bytes.{le, bit_at, is_nan}
use Rattle.coding.specs.Schema.{Schema, struct_of, cases_of, case_of}
use Rattle.coding.specs.Structs.{flat_width, struct_size, flat_ok, flats_ok, ok_by, always, struct_ok}
use Rattle.coding.specs.Layout.{has_flag, placement_of}
use Rattle.coding.specs.Step.{enum_step, float_step, place_of, object_step, union_step, flat_step, field_step, value_step, struct_tested, inside, flagged, placed_step, member_step, element_place, element_step}
use Rattle.coding.specs.Value.{Value, unknown, number, present}
use Rattle.coding.specs.Read as R
use Rattle.coding.specs.Read.{step_read, no_object, fields_read, read_by, no_struct, struct_read}
use Rattle.coding.specs.Sheet.{flat_unmarked, unmarked}
use Rattle.coding.specs.declared.Flat.{Flat}
use Rattle.coding.specs.declared.Flat.TheVariants.{Boolean, Integer, Float, Enumerated, Struct}
use Rattle.coding.specs.declared.Object.{Object}
use Rattle.coding.specs.declared.Kind.{Kind}
use Rattle.coding.specs.declared.Kind.TheVariants.{OfFlat, OfObject, OfUnion}
use Rattle.coding.specs.declared.Member.{Member}
use Rattle.coding.specs.declared.Cursor.{Cursor}
use Rattle.coding.specs.declared.Slot.{Slot}
use Rattle.coding.specs.declared.Place.{Place}
use Rattle.coding.specs.declared.Step.{Step}
use Rattle.coding.specs.declared.Step.TheVariants as St
use Rattle.laws.specs.Sound.{All, FlatSound, Sound}
use Rattle.laws.specs.Lists.{both_left, both_right, pick_holds}
use Rattle.laws.specs.Structs.{index_holds₂}
use Rattle.demands.specs.Shown.{FlatShown, boolean, integer, float, no-enum, enum, unknown-enum, struct, FlatsShown, no-flat, flats}

-- what a step of a kind may be; a refusal has a number
pub data StepShown (S : Schema) (m : List ℕ) : Kind → Step → Type 0 where
  step_refused : {k : Kind} {n : ℕ} → 0 < n → StepShown S m k (St.Refused n)
  step_absent : {k : Kind} → StepShown S m k St.Absent
  step_value : {k : Flat} {x : ℕ} → FlatShown S k (number x) → StepShown S m (OfFlat k) (St.Value x)
  step-unknown : {k : Flat} {x : ℕ} → FlatShown S k (unknown x) → StepShown S m (OfFlat k) (St.Unknown x)
  step-struct : {i at : ℕ} → FlatShown S (Struct i) (struct_read S m i at) → StepShown S m (OfFlat (Struct i)) (St.Struct i at)
  step-object : {ob : Object} {p : Place} → StepShown S m (OfObject ob) (St.Object ob p)
  step-choice : {i c : ℕ} {p : Place} → 1 ≤ c → c ≤ length (cases_of S i) → StepShown S m (OfUnion i) (St.Choice c (case_of (cases_of S i) c) p)
  step-unknown-choice : {i c : ℕ} → length (cases_of S i) < c → c < 2 ^ 16 → StepShown S m (OfUnion i) (St.Unknown c)

-- what a step that was found may be: its struct was not tested yet
abbrev FoundShown : Schema → List ℕ → Kind → Step → Type 0
FoundShown S m k s = StepShown S m k (struct_tested S m s)

pick-shown : (S : Schema) (m : List ℕ) (k : Kind) (t : Bool) (a b : Step) → FoundShown S m k a → FoundShown S m k b → FoundShown S m k (pick t a b)
pick-shown S m k t a b p q = pick_holds (FoundShown S m k) t a b (λ e. p) (λ e. q)

-- an enum byte: no value, known, or unknown
enum_holds : (P : Step → Type 0) (n x : ℕ) → x < 256 → P St.Absent → (x < n → P (St.Value x)) → (n ≤ x → x < 255 → P (St.Unknown x)) → P (enum_step n x)
unfolding enum_step
enum_holds P n x h none-ok known-ok lost-ok =
    pick_holds P (eqb x 255) St.Absent (pick (ltb x n) (St.Value x) (St.Unknown x)) (λ e. none-ok)
    (λ e.
    let ne = eqb-false x 255 e in
    pick_holds P (ltb x n) (St.Value x) (St.Unknown x) (λ t. known-ok (ltb-true x n t)) (λ t. lost-ok (ltb-false x n t) (omega arith)))

module _ (S : Schema) (m : List ℕ) (small : (i : ℕ) → get_or m i 0 < 256) where
  pub le-lt : (w at : ℕ) → le m at w < 2 ^ (8 * w)
  unfolding le
  le-lt zero at = omega arith
  le-lt (suc w) at =
      let h = le-lt w (at + 1) in
      let b = small at in
      let e : 8 * suc w ≡ 8 + 8 * w = omega arith in
      let z : 2 ^ (8 * suc w) ≡ 256 * 2 ^ (8 * w) = rw (e, pow-add 2 8 (8 * w)) in
      omega arith

  pub bit-lt : (at k : ℕ) → bit_at m at k < 2
  unfolding bit_at
  bit-lt at k = omega arith

  -- structs whose booleans are 0 or 1
  module _ (n : ℕ) (ok : ℕ → ℕ → Bool) (inner : ℕ → ℕ → Value)
      (below : (j : ℕ) → j < n → (at : ℕ) → ok j at ≡ true → FlatShown S (Struct j) (inner j at)) where
    field-shown : (k : Flat) → FlatSound n k → (at : ℕ) → flat_ok ok m k at ≡ true → FlatShown S k (step_read inner no_object (field_step m k at))
    unfolding flat_ok field_step step_read
    field-shown Boolean s at e = boolean {x = get_or m at 0} (omega (arith, leb-true (get_or m at 0) 1 e))
    field-shown (Integer g w) s at e = integer (le-lt w at)
    field-shown (Float w) s at e = float (le-lt w at)
    field-shown (Enumerated c) s at e =
        enum_holds (λ st. FlatShown S (Enumerated c) (step_read inner no_object st)) c (get_or m at 0) (small at) no-enum enum unknown-enum
    field-shown (Struct j) s at e = below j s at e

    fields-shown : (ks : List Flat) → All (FlatSound n) ks → (at : ℕ) → flats_ok ok S m ks at ≡ true → FlatsShown S ks (fields_read inner S m ks at)
    unfolding flats_ok fields_read
    fields-shown [] s at e = no-flat
    fields-shown (k ∷ ks) s at e =
        let next = at + flat_width (struct_size S) k in
        flats (field-shown k s.0 at (both_left (flat_ok ok m k at) (flats_ok ok S m ks next) e))
        (fields-shown ks s.1 next (both_right (flat_ok ok m k at) (flats_ok ok S m ks next) e))

  module _ (G : Sound S) where
    StructRead : ℕ → (ℕ → Bool) → (ℕ → Value) → Type 0
    StructRead i ok inner = (at : ℕ) → ok at ≡ true → FlatShown S (Struct i) (inner at)

    struct_next : (i : ℕ) (ok : ℕ → ℕ → Bool) (inner : ℕ → ℕ → Value) → ((j : ℕ) → j < i → StructRead j (ok j) (inner j))
        → StructRead i (ok_by S m ok i) (read_by S m inner i)
    unfolding StructRead ok_by read_by
    struct_next i ok inner below at e = struct (fields-shown i ok inner below (struct_of S i) (G.structs i).members at e)

    struct-shown : (i at : ℕ) → struct_ok S m i at ≡ true → FlatShown S (Struct i) (struct_read S m i at)
    unfolding StructRead struct_ok struct_read
    struct-shown i = index_holds₂ StructRead always (ok_by S m) no_struct (read_by S m) struct_next i

    struct_step : (i at : ℕ) → FoundShown S m (OfFlat (Struct i)) (St.Struct i at)
    unfolding struct_tested
    struct_step i at =
        pick_holds (StepShown S m (OfFlat (Struct i))) (struct_ok S m i at) (St.Struct i at) (St.Refused 10)
        (λ e. step-struct (struct-shown i at e)) (λ e. step_refused (omega arith))

    -- ---- a value at a place
    flat_step_lem : (k : Flat) (no_nan : Bool) (at bit : ℕ) → FoundShown S m (OfFlat k) (flat_step m k no_nan at bit)
    unfolding flat_step float_step struct_tested
    flat_step_lem Boolean no_nan at bit = step_value (boolean {x = bit_at m at bit} (bit-lt at bit))
    flat_step_lem (Integer g w) no_nan at bit = step_value (integer (le-lt w at))
    flat_step_lem (Float w) no_nan at bit =
        pick-shown S m (OfFlat (Float w)) (no_nan && is_nan w (le m at w)) St.Absent (St.Value (le m at w)) step_absent (step_value (float (le-lt w at)))
    flat_step_lem (Enumerated n) no_nan at bit =
        enum_holds (FoundShown S m (OfFlat (Enumerated n))) n (get_or m at 0) (small at) step_absent (λ l. step_value (enum l))
        (λ l u. step-unknown (unknown-enum l u))
    flat_step_lem (Struct i) no_nan at bit = struct_step i at

    union_step_lem : (i : ℕ) (inplace : Bool) (tail c x : ℕ) → c < 2 ^ 16 → FoundShown S m (OfUnion i) (union_step (cases_of S i) inplace tail c x)
    unfolding union_step struct_tested
    union_step_lem i inplace tail c x h =
        let P = FoundShown S m (OfUnion i) in
        let chosen-step = St.Choice c (case_of (cases_of S i) c) (place_of inplace tail x) in
        pick_holds P (eqb c 0) St.Absent (pick (leb c (length (cases_of S i))) chosen-step (St.Unknown c)) (λ e. step_absent)
        (λ e.
        let ne = eqb-false c 0 e in
        pick_holds P (leb c (length (cases_of S i))) chosen-step (St.Unknown c)
        (λ t. step-choice {c = c} (omega arith) (leb-true c (length (cases_of S i)) t))
        (λ t. step-unknown-choice (leb-false c (length (cases_of S i)) t) h))

    value_step_lem : (o : ℕ) (k : Kind) (no_nan inplace : Bool) (tail at bit : ℕ) → FoundShown S m k (value_step o S m k no_nan inplace tail at bit)
    unfolding value_step object_step struct_tested
    value_step_lem o (OfFlat k) no_nan inplace tail at bit = flat_step_lem k no_nan at bit
    value_step_lem o (OfObject ob) no_nan inplace tail at bit =
        pick-shown S m (OfObject ob) (eqb (le m at o) 0) St.Absent (St.Object ob (place_of inplace tail (le m at o))) step_absent step-object
    value_step_lem o (OfUnion i) no_nan inplace tail at bit = union_step_lem i inplace tail (le m at 2) (le m (at + 2) o) (le-lt 2 at)

    -- ---- members and elements
    inside-shown : (k : Kind) (n : ℕ) (slot : Slot) (a b : Step) → FoundShown S m k a → FoundShown S m k b → FoundShown S m k (inside n slot a b)
    unfolding inside struct_tested
    inside-shown k n slot a b p q =
        pick-shown S m k (leb n slot.at) a (pick (leb (slot.at + slot.size) n) b (St.Refused 8)) p
        (pick-shown S m k (leb (slot.at + slot.size) n) b (St.Refused 8) q (step_refused (omega arith)))

    flagged-shown : (k : Kind) (start n : ℕ) (flag slot : Slot) (here : Step) → FoundShown S m k here → FoundShown S m k (flagged m start n flag slot here)
    unfolding flagged struct_tested
    flagged-shown k start n flag slot here h =
        pick-shown S m k (leb n flag.at) St.Absent _ step_absent
        (pick-shown S m k (eqb (bit_at m (start + flag.at) flag.bit) 1) (inside n slot (St.Refused 8) here) (inside n slot St.Absent St.Absent)
        (inside-shown k n slot (St.Refused 8) here (step_refused (omega arith)) h)
        (inside-shown k n slot St.Absent St.Absent step_absent step_absent))

    pub member_step_lem : (o start n : ℕ) (c : Cursor) (r : Member) → StepShown S m r.kind (member_step o S m start n c r)
    unfolding member_step placed_step struct_tested
    member_step_lem o start n c r =
        let p = placement_of o S r c in
        let slot = p.value in
        let here = value_step o S m r.kind r.optional r.inplace (start + n) (start + slot.at) slot.bit in
        let h = value_step_lem o r.kind r.optional r.inplace (start + n) (start + slot.at) slot.bit in
        pick-shown S m r.kind (has_flag r) (flagged m start n p.flag slot here) (inside n slot St.Absent here)
        (flagged-shown r.kind start n p.flag slot here h) (inside-shown r.kind n slot St.Absent here step_absent h)

    pub element_step_lem : (o : ℕ) (k : Kind) (start i : ℕ) → StepShown S m k (element_step o S m k start i)
    unfolding element_step
    element_step_lem o k start i = value_step_lem o k true false 0 (element_place o S k start i) (i % 8)

    -- an element that has no mark is there
    pub element-present : (o : ℕ) (child : R.Child) (k : Kind) (start i : ℕ) → unmarked k ≡ true
        → present (step_read (struct_read S m) child (element_step o S m k start i)) ≡ true
    unfolding element_step value_step flat_step struct_tested step_read present unmarked flat_unmarked
    element-present o child (OfFlat Boolean) start i e = refl
    element-present o child (OfFlat (Integer g w)) start i e = refl
    element-present o child (OfFlat (Float w)) start i e = absurd (false≢true e)
    element-present o child (OfFlat (Enumerated n)) start i e = absurd (false≢true e)
    element-present o child (OfFlat (Struct j)) start i e = absurd (false≢true e)
    element-present o child (OfObject ob) start i e = absurd (false≢true e)
    element-present o child (OfUnion j) start i e = absurd (false≢true e)
