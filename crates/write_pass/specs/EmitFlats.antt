-- What is stored of what leads to no object is what its slots hold.
use Rattle.std.specs.Prelude.{◌≡◌, Bool, true, false, ℕ, ◌+◌, ◌*◌, ◌<◌, length}
use Rattle.std.proofs.Math.Path.{refl, ap}
use Rattle.std.proofs.Common.{sym, ap₂, ◌∙◌, add-zero, arith, length-append}
use mathlib.Core.List.{List, [], ◌∷◌, ◌++◌}
use Rattle.coding.specs.Lists.{pick}
use Rattle.coding.specs.Schema.{Schema, struct_of}
use Rattle.coding.specs.Structs.{struct_size}
use Rattle.coding.specs.Value.{Value, Values, absent, unknown, number, row, present, as_number, as_row, first, others}
use Rattle.coding.specs.Cells.Slots.{end}
use Rattle.coding.specs.Sheet.{Parsed, fail, got, bind, take_number, take_value, take_if, unknown_enum, take_unknown_enum, take_enum, take_flat, take_field, take_fields, take_by, take_nothing, take_struct, take_unknown_flat}
use Rattle.coding.specs.Message.{number_or, flat_bytes, flats_bytes, bytes_by, no_bytes, struct_bytes, zeros, flat_slots}
use Rattle.coding.specs.declared.Flat.{Flat}
use Rattle.coding.specs.declared.Flat.TheVariants.{Boolean, Integer, Float, Enumerated, Struct}
use Rattle.laws.specs.Sound.{All, FlatSound, Sound}
use Rattle.laws.specs.Structs.{index_holds₃}
use Rattle.write_measure.specs.Survey.{below_count}
use Rattle.write_measure.specs.Mapped.{mapped, Has, mapped-same, bind-mapped, seq, mark-mapped}
use Rattle.write_measure.specs.SurveyFlats.{Present, flat_there}
use Rattle.write_store.specs.State.{State, put_bytes, put_bit, put_byte, put_number}
use Rattle.write_store.specs.Stores.{sets-append}
use Rattle.write_pass.specs.Emit.{emit_slots}
use Rattle.write_pass.specs.EmitSheet.{emit_number, emit_if, put_nothing, emit_field, emit_fields, emit_by, emit_nothing, emit_struct, emit_flat, lack_flat, pass_flat}

-- ---- runs of bytes
pub put_none : (st : State) → put_bytes [] st ≡ st
unfolding put_bytes
put_none st = ap (λ (n : ℕ). record { at = n; last = st.last; free = st.free; held = st.held; tail = st.tail; next = st.next; out = st.out }) (add-zero st.at)

pub put-append : (a b : List ℕ) (st : State) → put_bytes b (put_bytes a st) ≡ put_bytes (a ++ b) st
unfolding put_bytes
put-append a b st =
    let e : st.at + length a + length b ≡ st.at + length (a ++ b) = omega (arith, length-append a b) in
    ap₂ (λ (n : ℕ) (m : List ℕ). record { at = n; last = st.last; free = st.free; held = st.held; tail = st.tail; next = st.next; out = m }) e
    (sym (sets-append st.out st.at a b))

-- ---- numbers
number_emitted : (f : Value → State) (w : ℕ) (put : ℕ → State → State) (st : State) → ((x : ℕ) → put x st ≡ f (number x)) → (xs : List ℕ)
    → emit_number w put st xs ≡ mapped f (take_value w xs)
unfolding emit_number take_value
number_emitted f w put st h xs = bind-mapped f (take_number w xs) _ _ (λ x ys. ap (λ t. got t ys) (h x))

pub if_emitted : (f : Value → State) (w : ℕ) (ok : ℕ → Bool) (make : ℕ → Value) (put : ℕ → State → State) (st : State) → ((x : ℕ) → put x st ≡ f (make x)) → (xs : List ℕ)
    → emit_if w ok put st xs ≡ mapped f (take_if w ok make xs)
unfolding emit_if take_if
if_emitted f w ok make put st h xs = bind-mapped f (take_number w xs) _ _ (λ x ys. by x ys (ok x))
  where
    by : (x : ℕ) (ys : List ℕ) (t : Bool) → pick t (got (put x st) ys) fail ≡ mapped f (pick t (got (make x) ys) fail)
    by x ys true = ap (λ a. got a ys) (h x)
    by x ys false = refl

-- ---- a struct's members, given its inner structs
pub record StructEmitted (emitter : State → List ℕ → Parsed State) (take : List ℕ → Parsed Value) (bytes_of : Value → List ℕ) : Type 0 where
  pub is : (st : State) (xs : List ℕ) → emitter st xs ≡ mapped (λ v. put_bytes (bytes_of v) st) (take xs)

module _ (S : Schema) (i : ℕ) (emitter : ℕ → State → List ℕ → Parsed State) (take : ℕ → List ℕ → Parsed Value) (bytes_of : ℕ → Value → List ℕ)
    (inner : (j : ℕ) → j < i → StructEmitted (emitter j) (take j) (bytes_of j)) where
  field_emitted : (k : Flat) → FlatSound i k → (st : State) (xs : List ℕ)
      → emit_field emitter k st xs ≡ mapped (λ v. put_bytes (flat_bytes bytes_of k v) st) (take_field take k xs)
  unfolding emit_field take_field take_flat flat_bytes put_byte put_number as_number number_or present take_unknown_enum take_enum
  field_emitted Boolean ok st xs = number_emitted _ 1 put_byte st (λ x. refl) xs
  field_emitted (Integer s w) ok st xs = number_emitted _ (8 * w) (put_number w) st (λ x. refl) xs
  field_emitted (Float w) ok st xs = number_emitted _ (8 * w) (put_number w) st (λ x. refl) xs
  field_emitted (Enumerated n) ok st xs =
      mark-mapped (λ v. put_bytes (number_or v 255 ∷ []) st) (put_byte 255 st) (emit_if 8 (unknown_enum n) put_nothing (put_byte 255 st)) (emit_if 8 (below_count n) put_byte st)
      (take_unknown_enum n) (take_enum n) refl
      (λ ys. if_emitted (λ v. put_bytes (number_or v 255 ∷ []) st) 8 (unknown_enum n) unknown put_nothing (put_byte 255 st) (λ x. refl) ys)
      (λ ys. if_emitted (λ v. put_bytes (number_or v 255 ∷ []) st) 8 (below_count n) number put_byte st (λ x. refl) ys) xs
  field_emitted (Struct j) ok st xs = (inner j ok).is st xs

  fields_emitted : (ks : List Flat) → All (FlatSound i) ks → (st : State) (xs : List ℕ)
      → emit_fields emitter ks st xs ≡ mapped (λ vs. put_bytes (flats_bytes bytes_of ks vs) st) (take_fields take ks xs)
  unfolding emit_fields take_fields flats_bytes first others
  fields_emitted [] ok st xs = ap (λ u. got u xs) (sym (put_none st))
  fields_emitted (k ∷ ks) ok st xs =
      ap (λ p. bind p (λ next ys. emit_fields emitter ks next ys)) (field_emitted k ok.0 st xs)
      ∙ seq (take_field take k xs) (λ v. put_bytes (flat_bytes bytes_of k v) st) (take_fields take ks) (λ next ys. emit_fields emitter ks next ys)
      (λ vs. put_bytes (flats_bytes bytes_of (k ∷ ks) vs) st)
      (λ v ys. fields_emitted ks ok.1 (put_bytes (flat_bytes bytes_of k v) st) ys ∙ mapped-same _ _ (take_fields take ks ys) (all (take_fields take ks ys) v))
    where
      all : (p : Parsed Values) (v : Value)
          → Has (λ vs. put_bytes (flats_bytes bytes_of ks vs) (put_bytes (flat_bytes bytes_of k v) st) ≡ put_bytes (flat_bytes bytes_of k v ++ flats_bytes bytes_of ks vs) st) p
      all fail v = tt
      all (got vs ys) v = put-append (flat_bytes bytes_of k v) (flats_bytes bytes_of ks vs) st

  next : All (FlatSound i) (struct_of S i) → StructEmitted (emit_by S emitter i) (take_by S take i) (bytes_by S bytes_of i)
  unfolding emit_by take_by bytes_by as_row bind
  next ok = record { is = λ st xs. fields_emitted (struct_of S i) ok st xs ∙ close st (take_fields take (struct_of S i) xs) }
    where
      close : (st : State) (p : Parsed Values)
          → mapped (λ vs. put_bytes (flats_bytes bytes_of (struct_of S i) vs) st) p
          ≡ mapped (λ v. put_bytes (flats_bytes bytes_of (struct_of S i) (as_row v)) st) (bind p (λ vs ys. got (row vs) ys))
      close st fail = refl
      close st (got vs ys) = refl

module _ (S : Schema) (sound : Sound S) (o : ℕ) where
  struct_emitted : (i : ℕ) → StructEmitted (emit_struct S i) (take_struct S i) (struct_bytes S i)
  unfolding emit_struct take_struct struct_bytes
  struct_emitted i =
      index_holds₃ (λ (j : ℕ). StructEmitted) emit_nothing (emit_by S) take_nothing (take_by S) no_bytes (bytes_by S)
      (λ j e t k h. next S j e t k h (sound.structs j).members) i

  pub flat_emitted : (k : Flat) (st : State) (xs : List ℕ) → emit_flat S k st xs ≡ mapped (λ v. emit_slots o st (flat_slots S k v end)) (take_flat (take_struct S) k xs)
  unfolding emit_flat take_flat flat_slots emit_slots put_byte put_number as_number number_or present take_enum
  flat_emitted Boolean st xs = number_emitted _ 1 put_bit st (λ x. refl) xs
  flat_emitted (Integer s w) st xs = number_emitted _ (8 * w) (put_number w) st (λ x. refl) xs
  flat_emitted (Float w) st xs = number_emitted _ (8 * w) (put_number w) st (λ x. refl) xs
  flat_emitted (Enumerated n) st xs = if_emitted _ 8 (below_count n) number put_byte st (λ x. refl) xs
  flat_emitted (Struct i) st xs =
      (struct_emitted i).is st xs ∙ mapped-same _ _ (take_struct S i xs) (all (take_struct S i xs) (flat_there S sound (Struct i) xs))
    where
      all : (p : Parsed Value) → Has Present p
          → Has (λ v. put_bytes (struct_bytes S i v) st ≡ put_bytes (pick (present v) (struct_bytes S i v) (zeros (struct_size S i))) st) p
      all fail h = tt
      all (got v ys) h = rw h

  pub lack_emitted : (k : Flat) (st : State) → lack_flat S k st ≡ emit_slots o st (flat_slots S k absent end)
  unfolding lack_flat flat_slots emit_slots put_byte put_number as_number number_or present
  lack_emitted Boolean st = refl
  lack_emitted (Integer s w) st = refl
  lack_emitted (Float w) st = refl
  lack_emitted (Enumerated n) st = refl
  lack_emitted (Struct i) st = refl

  pub pass_emitted : (k : Flat) (st : State) (xs : List ℕ)
      → pass_flat k (lack_flat S k st) xs ≡ mapped (λ v. emit_slots o st (flat_slots S k v end)) (take_unknown_flat k xs)
  unfolding pass_flat take_unknown_flat lack_flat flat_slots emit_slots put_byte put_number as_number number_or present take_unknown_enum
  pass_emitted Boolean st xs = refl
  pass_emitted (Integer s w) st xs = refl
  pass_emitted (Float w) st xs = refl
  pass_emitted (Enumerated n) st xs = if_emitted _ 8 (unknown_enum n) unknown put_nothing (put_byte 255 st) (λ x. refl) xs
  pass_emitted (Struct i) st xs = refl
