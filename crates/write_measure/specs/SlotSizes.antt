-- How many bytes stand in place behind a sequence of slots, and below it, part by part. Bits make no difference there.
use Rattle.std.specs.Prelude.{◌≡◌, Bool, length}
use Rattle.std.proofs.Math.Path.{refl, sym}
use Rattle.std.proofs.Common.{ap, ◌∙◌, arith}
use Rattle.std.proofs.Math.Bool.{true, false}
use Prim.Native.Nat.{ℕ, zero, suc, ◌+◌, ◌/◌}
use Rattle.coding.specs.Lists.{pick}
use Rattle.coding.specs.Bytes.{le_bytes}
use Rattle.coding.specs.Schema.{Schema, cases_of, case_of}
use Rattle.coding.specs.Layout.{has_flag}
use Rattle.coding.specs.Walk.{magic}
use Rattle.coding.specs.Value.{Value, present, as_number, as_object}
use Rattle.coding.specs.Cells.{width, chain, below, Slots, pack_bits}
use Rattle.coding.specs.Cells.Slots.{end, bytes, bit, reference, in_place, part}
use Rattle.coding.specs.Message.{length_of, zeros, flat_slots, Planner, object_slots, refer_slots, value_slots, flag_of, member_slots}
use Rattle.coding.specs.declared.Flat.{Flat}
use Rattle.coding.specs.declared.Flat.TheVariants as F
use Rattle.coding.specs.declared.Object.{Object}
use Rattle.coding.specs.declared.Kind.{Kind}
use Rattle.coding.specs.declared.Kind.TheVariants.{OfFlat, OfObject, OfUnion}
use Rattle.coding.specs.declared.Member.{Member}
use Rattle.write_measure.specs.Survey.{head_size}
use Rattle.write_measure.specs.Summed.{refer_chain, refer_below}

pub length-le_bytes : (w x : ℕ) → length (le_bytes w x) ≡ w
unfolding le_bytes
length-le_bytes zero x = refl
length-le_bytes (suc w) x = ap suc (length-le_bytes w (x / 256))

module _ (o : ℕ) where
  -- ---- the free bits of the last bool byte make no difference
  pub pack-chain : (f : ℕ) (s : Slots) → chain o (pack_bits f s) ≡ chain o (pack_bits 0 s)
  unfolding chain pack_bits
  pack-chain f end = refl
  pack-chain f (bytes bs s) = pack-chain f s
  pack-chain zero (bit x s) = refl
  pack-chain (suc f) (bit x s) = pack-chain f s ∙ sym (pack-chain 7 s)
  pack-chain f (reference k s) = pack-chain f s
  pack-chain f (in_place k s) = omega (arith, pack-chain f s)
  pack-chain f (part k s) = omega (arith, pack-chain f s)

  pub pack-below : (f : ℕ) (s : Slots) → below o (pack_bits f s) ≡ below o (pack_bits 0 s)
  unfolding below pack_bits
  pack-below f end = refl
  pack-below f (bytes bs s) = pack-below f s
  pack-below zero (bit x s) = refl
  pack-below (suc f) (bit x s) = pack-below f s ∙ sym (pack-below 7 s)
  pack-below f (reference k s) = omega (arith, pack-below f s)
  pack-below f (in_place k s) = omega (arith, pack-below f s)
  pack-below f (part k s) = omega (arith, pack-below f s)

  bit-chain : (f x : ℕ) (s : Slots) → chain o (pack_bits f (bit x s)) ≡ chain o (pack_bits 0 s)
  unfolding chain pack_bits
  bit-chain zero x s = pack-chain 7 s
  bit-chain (suc f) x s = pack-chain f s

  bit_below : (f x : ℕ) (s : Slots) → below o (pack_bits f (bit x s)) ≡ below o (pack_bits 0 s)
  unfolding below pack_bits
  bit_below zero x s = pack-below 7 s
  bit_below (suc f) x s = pack-below f s

  -- ---- what a part adds
  module _ (P : Planner) (S : Schema) where
    abbrev pub object_chain : Bool → Object → Value → ℕ
    object_chain inplace ob v = refer_chain inplace (width o (pack_bits 0 (P ob v))) (chain o (pack_bits 0 (P ob v)))

    abbrev pub object_below : Bool → Object → Value → ℕ
    object_below inplace ob v =
        refer_below o inplace (width o (pack_bits 0 (P ob v))) (chain o (pack_bits 0 (P ob v))) (below o (pack_bits 0 (P ob v)))

    abbrev pub value_chain : Kind → Bool → Value → ℕ
    value_chain (OfFlat k) inplace v = 0
    value_chain (OfObject ob) inplace v = pick (present v) (object_chain inplace ob v) 0
    value_chain (OfUnion i) inplace v = pick (present v) (object_chain inplace (case_of (cases_of S i) (as_number v)) (as_object v)) 0

    abbrev pub value_below : Kind → Bool → Value → ℕ
    value_below (OfFlat k) inplace v = 0
    value_below (OfObject ob) inplace v = pick (present v) (object_below inplace ob v) 0
    value_below (OfUnion i) inplace v = pick (present v) (object_below inplace (case_of (cases_of S i) (as_number v)) (as_object v)) 0

    flat-chain : (f : ℕ) (k : Flat) (v : Value) (rest : Slots) → chain o (pack_bits f (flat_slots S k v rest)) ≡ 0 + chain o (pack_bits 0 rest)
    unfolding flat_slots chain pack_bits
    flat-chain f F.Boolean v rest = omega (arith, bit-chain f (as_number v) rest)
    flat-chain f (F.Integer s w) v rest = omega (arith, pack-chain f rest)
    flat-chain f (F.Float w) v rest = omega (arith, pack-chain f rest)
    flat-chain f (F.Enumerated n) v rest = omega (arith, pack-chain f rest)
    flat-chain f (F.Struct i) v rest = omega (arith, pack-chain f rest)

    flat-below : (f : ℕ) (k : Flat) (v : Value) (rest : Slots) → below o (pack_bits f (flat_slots S k v rest)) ≡ 0 + below o (pack_bits 0 rest)
    unfolding flat_slots below pack_bits
    flat-below f F.Boolean v rest = omega (arith, bit_below f (as_number v) rest)
    flat-below f (F.Integer s w) v rest = omega (arith, pack-below f rest)
    flat-below f (F.Float w) v rest = omega (arith, pack-below f rest)
    flat-below f (F.Enumerated n) v rest = omega (arith, pack-below f rest)
    flat-below f (F.Struct i) v rest = omega (arith, pack-below f rest)

    refer-chain : (f : ℕ) (inplace : Bool) (ob : Object) (v : Value) (rest : Slots)
        → chain o (pack_bits f (refer_slots P o S inplace ob v rest)) ≡ object_chain inplace ob v + chain o (pack_bits 0 rest)
    unfolding refer_slots chain pack_bits
    refer-chain f true ob v rest = omega (arith, pack-chain f rest)
    refer-chain f false ob v rest = omega (arith, pack-chain f rest)

    refer-below : (f : ℕ) (inplace : Bool) (ob : Object) (v : Value) (rest : Slots)
        → below o (pack_bits f (refer_slots P o S inplace ob v rest)) ≡ object_below inplace ob v + below o (pack_bits 0 rest)
    unfolding refer_slots object_slots width chain below pack_bits head_size
    refer-below f true ob v rest = omega (arith, pack-below f rest)
    refer-below f false ob v rest =
        omega (arith, pack-below f rest, length-le_bytes 4 (magic S ob), length-le_bytes o (length_of o S ob v))

    pub value-chain : (f : ℕ) (k : Kind) (inplace : Bool) (v : Value) (rest : Slots)
        → chain o (pack_bits f (value_slots P o S k inplace v rest)) ≡ value_chain k inplace v + chain o (pack_bits 0 rest)
    unfolding value_slots chain pack_bits
    value-chain f (OfFlat k) inplace v rest = flat-chain f k v rest
    value-chain f (OfObject ob) inplace v rest = by (present v)
      where
        by : (t : Bool) → chain o (pack_bits f (pick t (refer_slots P o S inplace ob v rest) (bytes (zeros o) rest)))
            ≡ pick t (object_chain inplace ob v) 0 + chain o (pack_bits 0 rest)
        by true = refer-chain f inplace ob v rest
        by false = omega (arith, pack-chain f rest)
    value-chain f (OfUnion i) inplace v rest = by (present v) (case_of (cases_of S i) (as_number v))
      where
        by : (t : Bool) (ob : Object)
            → chain o (pack_bits f (pick t (bytes (le_bytes 2 (as_number v)) (refer_slots P o S inplace ob (as_object v) rest)) (bytes (zeros (2 + o)) rest)))
            ≡ pick t (object_chain inplace ob (as_object v)) 0 + chain o (pack_bits 0 rest)
        by true ob = refer-chain f inplace ob (as_object v) rest
        by false ob = omega (arith, pack-chain f rest)

    pub value-below : (f : ℕ) (k : Kind) (inplace : Bool) (v : Value) (rest : Slots)
        → below o (pack_bits f (value_slots P o S k inplace v rest)) ≡ value_below k inplace v + below o (pack_bits 0 rest)
    unfolding value_slots below pack_bits
    value-below f (OfFlat k) inplace v rest = flat-below f k v rest
    value-below f (OfObject ob) inplace v rest = by (present v)
      where
        by : (t : Bool) → below o (pack_bits f (pick t (refer_slots P o S inplace ob v rest) (bytes (zeros o) rest)))
            ≡ pick t (object_below inplace ob v) 0 + below o (pack_bits 0 rest)
        by true = refer-below f inplace ob v rest
        by false = omega (arith, pack-below f rest)
    value-below f (OfUnion i) inplace v rest = by (present v) (case_of (cases_of S i) (as_number v))
      where
        by : (t : Bool) (ob : Object)
            → below o (pack_bits f (pick t (bytes (le_bytes 2 (as_number v)) (refer_slots P o S inplace ob (as_object v) rest)) (bytes (zeros (2 + o)) rest)))
            ≡ pick t (object_below inplace ob (as_object v)) 0 + below o (pack_bits 0 rest)
        by true ob = refer-below f inplace ob (as_object v) rest
        by false ob = omega (arith, pack-below f rest)

    -- a member with its flag, if it has one
    pub member-chain : (r : Member) (v : Value) (rest : Slots)
        → chain o (pack_bits 0 (member_slots P o S r v rest)) ≡ value_chain r.kind r.inplace v + chain o (pack_bits 0 rest)
    unfolding member_slots
    member-chain r v rest = by (has_flag r)
      where
        by : (t : Bool)
            → chain o (pack_bits 0 (pick t (bit (flag_of v) (value_slots P o S r.kind r.inplace v rest)) (value_slots P o S r.kind r.inplace v rest)))
            ≡ value_chain r.kind r.inplace v + chain o (pack_bits 0 rest)
        by true = bit-chain 0 (flag_of v) (value_slots P o S r.kind r.inplace v rest) ∙ value-chain 0 r.kind r.inplace v rest
        by false = value-chain 0 r.kind r.inplace v rest

    pub member_below : (r : Member) (v : Value) (rest : Slots)
        → below o (pack_bits 0 (member_slots P o S r v rest)) ≡ value_below r.kind r.inplace v + below o (pack_bits 0 rest)
    unfolding member_slots
    member_below r v rest = by (has_flag r)
      where
        by : (t : Bool)
            → below o (pack_bits 0 (pick t (bit (flag_of v) (value_slots P o S r.kind r.inplace v rest)) (value_slots P o S r.kind r.inplace v rest)))
            ≡ value_below r.kind r.inplace v + below o (pack_bits 0 rest)
        by true = bit_below 0 (flag_of v) (value_slots P o S r.kind r.inplace v rest) ∙ value-below 0 r.kind r.inplace v rest
        by false = value-below 0 r.kind r.inplace v rest
