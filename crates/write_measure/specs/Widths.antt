-- The bytes of an object's content, as the writer lays it out, are those of its length: a full fixed part, or the bytes of
-- so many elements.
use Rattle.std.proofs.Math.Path.{◌≡◌, refl, ap, ap₂}
use Rattle.std.proofs.Common.{◌∙◌, ltb-true, ltb-false}
use mathlib.Core.List.{List, [], ◌∷◌}
use Rattle.std.specs.Prelude.{Bool, ltb}
use Rattle.std.proofs.Math.Bool.{true, false}
use Prim.Native.Nat.{ℕ, zero, suc, ◌+◌, ◌*◌, ◌-◌, ◌/◌, ◌<◌, ◌≤◌}
use native.Mathlib.Omega.{arith}
use Rattle.std.proofs.Math.Nat.{mul-suc}
use Rattle.std.proofs.Math.ListN.{length, length-append}
use Rattle.std.proofs.lemmas.List.{length-replicate}
use Rattle.coding.specs.Lists.{pick}
use Rattle.coding.specs.Bytes.{le_bytes, no_float}
use Rattle.coding.specs.Schema.{Schema, struct_of, cases_of, case_of}
use Rattle.coding.specs.Structs.{flat_width, total, size_by, struct_size}
use Rattle.coding.specs.Layout as L
use Rattle.coding.specs.Layout.{flat_is_bool, is_bool, has_flag, begin, after_bit, after_bytes, after_flag, after_value, after_member, after_members, fixed_size}
use Rattle.coding.specs.Step.{elements_size}
use Rattle.coding.specs.Value.{Value, Values, none, ◌then◌, present, as_number, as_row, as_object, first, others, count}
use Rattle.coding.specs.Cells.{width, Slots, pack_bits}
use Rattle.coding.specs.Cells.Slots.{bytes, bit}
use Rattle.coding.specs.Message.{length_of, number_or, flat_bytes, flats_bytes, bytes_by, no_bytes, struct_bytes, zeros, flat_slots, Planner, refer_slots, value_slots, flag_of, member_slots, members_slots, elements_slots}
use Rattle.coding.specs.declared.Flat.{Flat}
use Rattle.coding.specs.declared.Flat.TheVariants as F
use Rattle.coding.specs.declared.Object.{Object}
use Rattle.coding.specs.declared.Kind.{Kind}
use Rattle.coding.specs.declared.Kind.TheVariants.{OfFlat, OfObject, OfUnion}
use Rattle.coding.specs.declared.Member.{Member}
use Rattle.coding.specs.declared.Cursor.{Cursor}
use Rattle.laws.specs.Structs.{index_holds₂}
use Rattle.laws.specs.Sound.{All, FlatSound, Sound}
use Rattle.write_measure.specs.SlotSizes.{length-le_bytes}

-- ---- structs
module _ (S : Schema) (sound : Sound S) where
  abbrev StructLong : ℕ → (Value → List ℕ) → ℕ → Type 0
  StructLong i bytes_of n = (v : Value) → length (bytes_of v) ≡ n

  module _ (i : ℕ) (bytes_of : ℕ → Value → List ℕ) (size : ℕ → ℕ) (inner : (j : ℕ) → j < i → StructLong j (bytes_of j) (size j)) where
    flat_long : (k : Flat) → FlatSound i k → (v : Value) → length (flat_bytes bytes_of k v) ≡ flat_width size k
    unfolding flat_bytes flat_width
    flat_long F.Boolean ok v = refl
    flat_long (F.Integer s w) ok v = length-le_bytes w (as_number v)
    flat_long (F.Float w) ok v = length-le_bytes w (as_number v)
    flat_long (F.Enumerated n) ok v = refl
    flat_long (F.Struct j) ok v = inner j ok v

    flats_long : (ks : List Flat) → All (FlatSound i) ks → (vs : Values) → length (flats_bytes bytes_of ks vs) ≡ total size ks
    unfolding flats_bytes total
    flats_long [] ok vs = refl
    flats_long (k ∷ ks) ok vs =
        length-append (flat_bytes bytes_of k (first vs)) (flats_bytes bytes_of ks (others vs))
        ∙ ap₂ ◌+◌ (flat_long k ok.0 (first vs)) (flats_long ks ok.1 (others vs))

    struct_next : StructLong i (bytes_by S bytes_of i) (size_by S size i)
    unfolding bytes_by size_by
    struct_next v = flats_long (struct_of S i) (sound.structs i).members (as_row v)

  pub struct_long : (i : ℕ) (v : Value) → length (struct_bytes S i v) ≡ struct_size S i
  unfolding struct_bytes struct_size
  struct_long i = index_holds₂ StructLong no_bytes (bytes_by S) 0 (size_by S) (λ j b s h. struct_next j b s h) i

-- ---- parts that are no bool
module _ (o : ℕ) (S : Schema) (sound : Sound S) (P : Planner) where
  flat-wide : (f : ℕ) (k : Flat) (v : Value) (rest : Slots) → flat_is_bool k ≡ false
      → width o (pack_bits f (flat_slots S k v rest)) ≡ flat_width (struct_size S) k + width o (pack_bits f rest)
  unfolding flat_is_bool flat_slots flat_width width pack_bits
  flat-wide f F.Boolean v rest e = absurd (let z : ◌≡◌ {A = Bool} true false = e in let y : ◌≡◌ {A = ℕ} 1 0 = ap (λ t. pick t 1 0) z in omega arith)
  flat-wide f (F.Integer s w) v rest e = omega (arith, length-le_bytes w (as_number v))
  flat-wide f (F.Float w) v rest e = omega (arith, length-le_bytes w (number_or v (no_float w)))
  flat-wide f (F.Enumerated n) v rest e = refl
  flat-wide f (F.Struct i) v rest e = by (present v)
    where
      by : (t : Bool)
          → length (pick t (struct_bytes S i v) (zeros (struct_size S i))) + width o (pack_bits f rest) ≡ struct_size S i + width o (pack_bits f rest)
      by true = ap (λ (k : ℕ). k + width o (pack_bits f rest)) (struct_long S sound i v)
      by false = ap (λ (k : ℕ). k + width o (pack_bits f rest)) (length-replicate (struct_size S i) 0)

  refer-wide : (f : ℕ) (inplace : Bool) (ob : Object) (v : Value) (rest : Slots)
      → width o (pack_bits f (refer_slots P o S inplace ob v rest)) ≡ o + width o (pack_bits f rest)
  unfolding refer_slots width pack_bits
  refer-wide f true ob v rest = omega (arith, length-le_bytes o (length_of o S ob v))
  refer-wide f false ob v rest = refl

  value-wide : (f : ℕ) (k : Kind) (inplace : Bool) (v : Value) (rest : Slots) → is_bool k ≡ false
      → width o (pack_bits f (value_slots P o S k inplace v rest)) ≡ L.width o S k + width o (pack_bits f rest)
  unfolding is_bool value_slots L.width width pack_bits
  value-wide f (OfFlat k) inplace v rest e = flat-wide f k v rest e
  value-wide f (OfObject ob) inplace v rest e = by (present v)
    where
      by : (t : Bool) → width o (pack_bits f (pick t (refer_slots P o S inplace ob v rest) (bytes (zeros o) rest))) ≡ o + width o (pack_bits f rest)
      by true = refer-wide f inplace ob v rest
      by false = ap (λ (k : ℕ). k + width o (pack_bits f rest)) (length-replicate o 0)
  value-wide f (OfUnion i) inplace v rest e = by (present v) (case_of (cases_of S i) (as_number v))
    where
      by : (t : Bool) (ob : Object)
          → width o (pack_bits f (pick t (bytes (le_bytes 2 (as_number v)) (refer_slots P o S inplace ob (as_object v) rest)) (bytes (zeros (2 + o)) rest)))
          ≡ 2 + o + width o (pack_bits f rest)
      by true ob = omega (arith, length-le_bytes 2 (as_number v), refer-wide f inplace ob (as_object v) rest)
      by false ob = ap (λ (k : ℕ). k + width o (pack_bits f rest)) (length-replicate (2 + o) 0)

  -- a bool is a bit
  bool-flat : (k : Flat) (v : Value) (rest : Slots) → flat_is_bool k ≡ true → flat_slots S k v rest ≡ bit (as_number v) rest
  unfolding flat_is_bool flat_slots
  bool-flat F.Boolean v rest e = refl
  bool-flat (F.Integer s w) v rest e = absurd (let y : ◌≡◌ {A = ℕ} 0 1 = ap (λ t. pick t 1 0) e in omega arith)
  bool-flat (F.Float w) v rest e = absurd (let y : ◌≡◌ {A = ℕ} 0 1 = ap (λ t. pick t 1 0) e in omega arith)
  bool-flat (F.Enumerated n) v rest e = absurd (let y : ◌≡◌ {A = ℕ} 0 1 = ap (λ t. pick t 1 0) e in omega arith)
  bool-flat (F.Struct i) v rest e = absurd (let y : ◌≡◌ {A = ℕ} 0 1 = ap (λ t. pick t 1 0) e in omega arith)

  bool_slot : (k : Kind) (inplace : Bool) (v : Value) (rest : Slots) → is_bool k ≡ true → value_slots P o S k inplace v rest ≡ bit (as_number v) rest
  unfolding is_bool value_slots
  bool_slot (OfFlat k) inplace v rest e = bool-flat k v rest e
  bool_slot (OfObject ob) inplace v rest e = absurd (let y : ◌≡◌ {A = ℕ} 0 1 = ap (λ t. pick t 1 0) e in omega arith)
  bool_slot (OfUnion i) inplace v rest e = absurd (let y : ◌≡◌ {A = ℕ} 0 1 = ap (λ t. pick t 1 0) e in omega arith)

  -- ---- a list's elements
  bools-wide : (k : Kind) (vs : Values) (f g : ℕ) → is_bool k ≡ true → f + g ≡ 7
      → width o (pack_bits f (elements_slots P o S k vs)) ≡ (count vs + g) / 8
  unfolding elements_slots count width pack_bits
  bools-wide k none f g e h = omega arith
  bools-wide k (v then vs) zero g e h =
      ap (λ s. width o (pack_bits zero s)) (bool_slot k false v (elements_slots P o S k vs) e) ∙ omega (arith, bools-wide k vs 7 0 e refl)
  bools-wide k (v then vs) (suc f) g e h =
      ap (λ s. width o (pack_bits (suc f) s)) (bool_slot k false v (elements_slots P o S k vs) e)
      ∙ bools-wide k vs f (suc g) e (omega arith)
      ∙ ap (λ (n : ℕ). n / 8) (let z : count vs + suc g ≡ suc (count vs) + g = omega arith in z)

  others-wide : (k : Kind) (vs : Values) → is_bool k ≡ false → width o (pack_bits 0 (elements_slots P o S k vs)) ≡ L.width o S k * count vs
  unfolding elements_slots count width pack_bits
  others-wide k none e = omega arith
  others-wide k (v then vs) e =
      value-wide 0 k false v (elements_slots P o S k vs) e ∙ omega (arith, others-wide k vs e, mul-suc (L.width o S k) (count vs))

  pub elements-wide : (k : Kind) (vs : Values) → width o (pack_bits 0 (elements_slots P o S k vs)) ≡ elements_size o S k (count vs)
  unfolding elements_size
  elements-wide k vs = by (is_bool k) refl
    where
      by : (t : Bool) → is_bool k ≡ t → width o (pack_bits 0 (elements_slots P o S k vs)) ≡ pick t ((count vs + 7) / 8) (L.width o S k * count vs)
      by true e = bools-wide k vs 0 7 e refl
      by false e = others-wide k vs e

  -- ---- a table's members
  -- the slots from a cursor on take up what the cursor behind them says
  abbrev Takes : Cursor → Slots → Cursor → Slots → Type 0
  Takes c s c' s' =
      (c.end + width o (pack_bits (8 - c.bit) s) ≡ c'.end + width o (pack_bits (8 - c'.bit) s')) × (c'.bit ≤ 8)

  bit_takes : (c : Cursor) (x : ℕ) (s : Slots) → c.bit ≤ 8 → Takes c (bit x s) (after_bit c) s
  unfolding after_bit
  bit_takes c x s h = by (ltb c.bit 8) refl
    where
      old : (b : ℕ) → b < 8 → width o (pack_bits (8 - b) (bit x s)) ≡ width o (pack_bits (8 - (b + 1)) s)
      old b l = unfold pack_bits in
          let z : 8 - b ≡ suc (8 - (b + 1)) = omega arith in
          ap (λ (f : ℕ). width o (pack_bits f (bit x s))) z

      new : (b : ℕ) → b ≡ 8 → width o (pack_bits (8 - b) (bit x s)) ≡ 1 + width o (pack_bits (8 - 1) s)
      new b e = unfold pack_bits width in ap (λ (f : ℕ). width o (pack_bits (8 - f) (bit x s))) e

      by : (t : Bool) → ltb c.bit 8 ≡ t
          → Takes c (bit x s) (pick t (record { end = c.end; byte = c.byte; bit = c.bit + 1 }) (record { end = c.end + 1; byte = c.end; bit = 1 })) s
      by true e = let l = ltb-true c.bit 8 e in (ap (λ (n : ℕ). c.end + n) (old c.bit l), omega arith)
      by false e =
          let l = ltb-false c.bit 8 e in
          let z : c.bit ≡ 8 = omega arith in
          (omega (arith, new c.bit z), omega arith)

  value_takes : (k : Kind) (inplace : Bool) (v : Value) (c : Cursor) (rest : Slots) → c.bit ≤ 8
      → Takes c (value_slots P o S k inplace v rest) (after_value o S k c) rest
  unfolding after_value
  value_takes k inplace v c rest h = by (is_bool k) refl
    where
      by : (t : Bool) → is_bool k ≡ t → Takes c (value_slots P o S k inplace v rest) (pick t (after_bit c) (after_bytes (L.width o S k) c)) rest
      by true e =
          let b = bit_takes c (as_number v) rest h in
          (ap (λ s. c.end + width o (pack_bits (8 - c.bit) s)) (bool_slot k inplace v rest e) ∙ b.0, b.1)
      by false e =
          unfold after_bytes in
          (omega (arith, value-wide (8 - c.bit) k inplace v rest e), h)

  member_takes : (r : Member) (v : Value) (c : Cursor) (rest : Slots) → c.bit ≤ 8
      → Takes c (member_slots P o S r v rest) (after_member o S r c) rest
  unfolding member_slots after_member after_flag
  member_takes r v c rest h = by (has_flag r)
    where
      by : (t : Bool)
          → Takes c (pick t (bit (flag_of v) (value_slots P o S r.kind r.inplace v rest)) (value_slots P o S r.kind r.inplace v rest))
          (after_value o S r.kind (pick t (after_bit c) c)) rest
      by true =
          let a = bit_takes c (flag_of v) (value_slots P o S r.kind r.inplace v rest) h in
          let b = value_takes r.kind r.inplace v (after_bit c) rest a.1 in
          (a.0 ∙ b.0, b.1)
      by false = value_takes r.kind r.inplace v c rest h

  members-take : (rs : List Member) (vs : Values) (c : Cursor) → c.bit ≤ 8
      → c.end + width o (pack_bits (8 - c.bit) (members_slots P o S rs vs)) ≡ (after_members o S rs c).end
  unfolding members_slots after_members width pack_bits
  members-take [] vs c h = omega arith
  members-take (r ∷ rs) vs c h =
      let a = member_takes r (first vs) c (members_slots P o S rs (others vs)) h in
      a.0 ∙ members-take rs (others vs) (after_member o S r c) a.1

  pub members-wide : (rs : List Member) (vs : Values) → width o (pack_bits 0 (members_slots P o S rs vs)) ≡ fixed_size o S rs
  unfolding fixed_size begin
  members-wide rs vs = omega (arith, members-take rs vs begin (omega arith))
