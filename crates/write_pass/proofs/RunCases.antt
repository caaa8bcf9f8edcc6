-- The ways out of the pass over a run of numbers, one lemma for each.
use mathlib.Core.Path.{◌≡◌, refl, sym, ap, ◌∙◌, subst}
use mathlib.Core.Bool.{Bool, true, false}
use mathlib.Core.List.{List, []}
use Rattle.std.specs.Prelude.{Option, Some, None}
use Prim.Native.Nat.{ℕ, suc, ◌+◌, ◌-◌, ◌*◌, ◌^◌, ◌<◌, ◌≤◌}
use native.Mathlib.Omega.{arith}
use lib.ListN.{drop}
use lib.Seq.{sets}
use borrow.Author.Tests.{eq-eqb, ne_eqb}
use Rattle.coding.specs.Bytes.{le_bytes}
use Rattle.coding.specs.Bits.{bits}
use Rattle.coding.specs.Schema as Sc
use Rattle.coding.specs.Schema.{Schema}
use Rattle.coding.specs.Sheet.{Parsed, fail, got, bind, take_number, unmarked}
use Rattle.coding.specs.declared.Flat.{Flat}
use Rattle.coding.specs.declared.Flat.TheVariants.{Boolean, Integer, Float, Enumerated, Struct}
use Rattle.coding.specs.declared.Object.TheVariants as O
use Rattle.coding.specs.declared.Kind.{Kind}
use Rattle.coding.specs.declared.Kind.TheVariants.{OfFlat, OfObject, OfUnion}
use Rattle.coding.specs.Packed.{parse}
use Rattle.laws.specs.All.{all_drop}
use Rattle.laws.specs.Bits.{Bit, bits-bits}
use Rattle.laws.specs.Sound.{KindSound}
use Rattle.schema.specs.Directory.{Accepted}
use Rattle.write_measure.proofs.ObjectCases.{element_sound}
use Rattle.bitio.specs.Taken.{NumberAt}
use Rattle.bitio.specs.declared.Number.{Number}
use Rattle.write_measure.specs.Survey.{Surveyor}
use Rattle.bits.specs.Reversed.{reversed}
use Rattle.schema.specs.Kinds.{flat_integer, integer_width}
use Rattle.write_store.specs.State.{State, put_bit, put_number, put_octet}
use Rattle.write_pass.specs.EmitSheet.{Emitter, emit_number, emit_elements, emit_blob, emit_content}
use Rattle.write_pass.specs.EmitRun.{emit_run, emit_unmarked, unmarked-run, octet-run, octets-blob, emit_flats}
use Rattle.write_store.specs.Storing.{state_of, forward, Stood, BitPut}
use Rattle.write_pass.specs.Emitting.{Room, EmittedAt, emit_marked_flat}
use Rattle.write_store.specs.declared.Places.{Places}
use Rattle.write_pass.specs.declared.Emitted.{Emitted}
use Rattle.write_pass.proofs.EmitRoom.{taken_at, none_taken, some_taken, room_stood, room_bit, room-below, refused, same, later, Going, begun, ended, stopped, turned}
use Rattle.write_pass.proofs.EmitCases.{number_cut, number_there, bit_there}
use Rattle.write_store.proofs.PutCases.{number_put}

-- ---- a run, and what is left of it
module _ (w : ℕ) (put : ℕ → State → State) (k : ℕ) (st : State) (xs : List ℕ) where
  run_next : (m : ℕ) → k ≡ suc m → emit_run w put k st xs ≡ bind (emit_number w put st xs) (emit_run w put m)
  unfolding emit_run
  run_next m e = ap (λ (n : ℕ). emit_run w put n st xs) e

  run_end : k ≡ 0 → emit_run w put k st xs ≡ got st xs
  unfolding emit_run
  run_end e = ap (λ (n : ℕ). emit_run w put n st xs) e

-- ---- numbers; at the start nothing is put yet
module _ (s : List ℕ) (w n : ℕ) (from : Emitted) (o : List ℕ) where
  pub run_begun : Room s from → Going s (emit_run (8 * w) (put_number w) n (state_of from.places o) (drop from.next (bits s))) from
      (emit_run (8 * w) (put_number w) (n - 0)) (record { places = forward 0 from.places; next = from.next }) o
  unfolding forward
  run_begun room =
      let c = from.places in
      let e : c.at ≡ c.at + 0 = omega arith in
      let f : n ≡ n - 0 = omega arith in
      let a = room.at in
      let b = room.bool in
      record {
        is = ap (λ (k : ℕ). emit_run (8 * w) (put_number w) k (state_of c o) (drop from.next (bits s))) f
            ∙ ap (λ (k : ℕ). emit_run (8 * w) (put_number w) (n - 0) (record { at = k; last = c.last; free = c.free; held = c.held; tail = c.tail; next = c.next; out = o }) (drop from.next (bits s))) e;
        paid = omega arith;
        room = record { short = room.short; here = room.here; at = omega arith; bool = record { free = b.free; held = b.held }; tail = room.tail; next = room.next };
      }

module _ (s : List ℕ) (D : Parsed State) (from : Emitted) (w n done next j : ℕ) (o : List ℕ)
    (go : Going s D from (emit_run (8 * w) (put_number w) (n - j)) (record { places = forward done from.places; next = next }) o) where
  pub run_done : n ≤ j → (p : Places) → p ≡ forward done from.places → (y : Emitted) → y ≡ record { places = p; next = next } → EmittedAt s D from 0 (Some y) o
  run_done h p ep y ey =
      ended s D from _ _ o go (λ st xs. run_end (8 * w) (put_number w) (n - j) st xs (omega arith)) y (ey ∙ ap (λ (q : Places). record { places = q; next = next }) ep)

  module _ (h : j < n) where
    on : (st : State) (xs : List ℕ) → emit_run (8 * w) (put_number w) (n - j) st xs
        ≡ bind (emit_number (8 * w) (put_number w) st xs) (emit_run (8 * w) (put_number w) (n - (j + 1)))
    on st xs = run_next (8 * w) (put_number w) (n - j) st xs (n - (j + 1)) (omega arith)

    pub run-cut : take_number (8 * w) (drop next (bits s)) ≡ fail → (r : Option Emitted) → r ≡ None → EmittedAt s D from 0 r o
    run-cut f r er = stopped s D from _ _ o go _ _ on o (number_cut s _ (8 * w) f None refl _ o (put_number w)) r er

    module _ (x : Number) (taken : NumberAt s next (8 * w) x) where
      further : forward (done + w) from.places ≡ forward w (forward done from.places)
      unfolding forward
      further =
          let c = from.places in
          let e : c.at + (done + w) ≡ c.at + done + w = omega arith in
          ap (λ (k : ℕ). record { at = k; last = c.last; free = c.free; held = c.held; tail = c.tail; next = c.next }) e

      module _ (out : List ℕ) (eo : out ≡ sets o (from.places.at + done) (le_bytes w x.value)) where
        put : Stood w (put_number w x.value (state_of (forward done from.places) o)) (state_of (forward (done + w) from.places) out) (forward done from.places) (forward (done + w) from.places)
        put = number_put (forward done from.places) (forward (done + w) from.places) o out w x.value (unfold forward in eo) further

        pub run_turn : Going s D from (emit_run (8 * w) (put_number w) (n - (j + 1))) (record { places = forward (done + w) from.places; next = x.next }) out
        run_turn =
            turned s D from _ _ o go _ _ on out _
            (number_there s _ go.room x (forward (done + w) from.places) o out (record { places = forward (done + w) from.places; next = x.next }) refl w taken put) _ refl

      pub run-below : from.places.at + (done + w) < 2 ^ 61
      run-below =
          let e = taken_at s next (8 * w) x taken go.room.here in
          let a = go.room.at in
          let b = taken.inside in
          let d = go.room.short in
          let f : (forward done from.places).at ≡ from.places.at + done = unfold forward in refl in
          omega arith

-- ---- bools
pub bits_begun : (s : List ℕ) (n : ℕ) (from : Emitted) (o : List ℕ) → Room s from
    → Going s (emit_run 1 put_bit n (state_of from.places o) (drop from.next (bits s))) from (emit_run 1 put_bit n) from o
bits_begun s n from o room = begun s _ from _ o room refl

module _ (s : List ℕ) (D : Parsed State) (from : Emitted) (left : ℕ) (at : Emitted) (o : List ℕ)
    (go : Going s D from (emit_run 1 put_bit left) at o) where
  pub bits_done : left ≤ 0 → (y : Emitted) → y ≡ at → EmittedAt s D from 0 (Some y) o
  bits_done h y ey = ended s D from _ at o go (λ st xs. run_end 1 put_bit left st xs (omega arith)) y ey

  module _ (h : 0 < left) where
    bit_on : (st : State) (xs : List ℕ) → emit_run 1 put_bit left st xs ≡ bind (emit_number 1 put_bit st xs) (emit_run 1 put_bit (left - 1))
    bit_on st xs = run_next 1 put_bit left st xs (left - 1) (omega arith)

    pub bits-cut : take_number 1 (drop at.next (bits s)) ≡ fail → (r : Option Emitted) → r ≡ None → EmittedAt s D from 0 r o
    bits-cut f r er = stopped s D from _ at o go _ _ bit_on o (number_cut s at 1 f None refl _ o put_bit) r er

    pub bits_turn : (x : Number) → NumberAt s at.next 1 x → (q : Places) (out : List ℕ) → BitPut (put_bit x.value (state_of at.places o)) (state_of q out) at.places q
        → (y : Emitted) → y ≡ record { places = q; next = x.next } → Going s D from (emit_run 1 put_bit (left - 1)) y out
    bits_turn x taken q out t y ey = turned s D from _ at o go _ _ bit_on out y (bit_there s at go.room x q o out y ey taken t) y refl

  -- eight at once
  module _ (h : 8 ≤ left) (free : at.places.free ≡ 0) where
    eight : D ≡ bind (take_number 8 (drop at.next (bits s))) (λ x ys. emit_run 1 put_bit (left - 8) (put_octet (reversed x) (state_of at.places o)) ys)
    eight =
        let z : left ≡ 8 + (left - 8) = omega arith in
        go.is ∙ ap (λ (k : ℕ). emit_run 1 put_bit k (state_of at.places o) (drop at.next (bits s))) z
        ∙ octet-run (left - 8) (state_of at.places o) (drop at.next (bits s)) free (all_drop Bit at.next (bits s) (bits-bits s))

    pub octet-cut : take_number 8 (drop at.next (bits s)) ≡ fail → (r : Option Emitted) → r ≡ None → EmittedAt s D from 0 r o
    octet-cut f r er = refused s D from 0 (eight ∙ none_taken _ 8 _ f) r er o

    pub bits_octet : (x : Number) → NumberAt s at.next 8 x → (y : ℕ) → y ≡ reversed x.value → (q : Places) (out : List ℕ)
        → BitPut (put_octet y (state_of at.places o)) (state_of q out) at.places q
        → (z : Emitted) → z ≡ record { places = q; next = x.next } → Going s D from (emit_run 1 put_bit (left - 8)) z out
    bits_octet x taken y ey q out t z ez =
        let e = taken_at s at.next 8 x taken go.room.here in
        let a = t.at in
        let b = go.paid in
        rw ez (record {
          is = eight ∙ some_taken _ s at.next 8 x taken
              ∙ ap (λ (u : ℕ). emit_run 1 put_bit (left - 8) (put_octet u (state_of at.places o)) (drop x.next (bits s))) (sym ey)
              ∙ ap (λ (st : State). emit_run 1 put_bit (left - 8) st (drop x.next (bits s))) (sym t.is);
          paid = omega arith;
          room = room_bit s at go.room 8 x taken (omega arith) _ _ q t _ refl;
        })

-- ---- floats or enums, with their marks
module _ (S : Schema) (k : Flat) where
  pub flats_start : (s : List ℕ) (n : ℕ) (from : Emitted) (o : List ℕ) → Room s from
      → Going s (emit_flats S k n (state_of from.places o) (drop from.next (bits s))) from (emit_flats S k (n - 0)) from o
  flats_start s n from o room =
      let e : n ≡ n - 0 = omega arith in
      begun s _ from _ o room (ap (λ (m : ℕ). emit_flats S k m (state_of from.places o) (drop from.next (bits s))) e)

  module _ (s : List ℕ) (D : Parsed State) (from : Emitted) (n j : ℕ) (at : Emitted) (o : List ℕ) (go : Going s D from (emit_flats S k (n - j)) at o) where
    pub flats_done : n ≤ j → (y : Emitted) → y ≡ at → EmittedAt s D from 0 (Some y) o
    unfolding emit_flats
    flats_done h y ey = let z : n - j ≡ 0 = omega arith in ended s D from _ at o go (λ st xs. ap (λ (m : ℕ). emit_flats S k m st xs) z) y ey

    module _ (h : j < n) (out : List ℕ) where
      flat : (st : State) (xs : List ℕ) → emit_flats S k (n - j) st xs ≡ bind (emit_marked_flat S k st xs) (emit_flats S k (n - (j + 1)))
      unfolding emit_flats
      flat st xs = let z : n - j ≡ suc (n - (j + 1)) = omega arith in ap (λ (m : ℕ). emit_flats S k m st xs) z

      pub flats-cut : EmittedAt s (emit_marked_flat S k (state_of at.places o) (drop at.next (bits s))) at 0 None out → (r : Option Emitted) → r ≡ None → EmittedAt s D from 0 r out
      flats-cut u r er = stopped s D from _ at o go (emit_marked_flat S k) _ flat out u r er

      pub flats_turn : (x : Emitted) → EmittedAt s (emit_marked_flat S k (state_of at.places o) (drop at.next (bits s))) at 0 (Some x) out → (y : Emitted) → y ≡ x
          → Going s D from (emit_flats S k (n - (j + 1))) y out
      flats_turn x u y ey = turned s D from _ at o go (emit_marked_flat S k) _ flat out x u y ey

-- ---- a list of elements without a mark
module _ (s : List ℕ) (w n : ℕ) (from : Emitted) (o : List ℕ) (r : Option Emitted) (o₁ : List ℕ) where
  pub unmarked-bools : w ≡ 0 → EmittedAt s (emit_run 1 put_bit n (state_of from.places o) (drop from.next (bits s))) from 0 r o₁
      → EmittedAt s (emit_unmarked w n (state_of from.places o) (drop from.next (bits s))) from 0 r o₁
  unfolding emit_unmarked
  unmarked-bools e em = rw (eq-eqb w 0 e) em

  pub unmarked_integers : (w ≡ 0 → ⊥) → EmittedAt s (emit_run (8 * w) (put_number w) n (state_of from.places o) (drop from.next (bits s))) from 0 r o₁
      → EmittedAt s (emit_unmarked w n (state_of from.places o) (drop from.next (bits s))) from 0 r o₁
  unfolding emit_unmarked
  unmarked_integers e em = rw (ne_eqb w 0 e) em

  -- by a width that is named
  pub unmarked-named : (v : ℕ) → w ≡ v → 0 < v → EmittedAt s (emit_run (8 * v) (put_number v) n (state_of from.places o) (drop from.next (bits s))) from 0 r o₁
      → EmittedAt s (emit_unmarked w n (state_of from.places o) (drop from.next (bits s))) from 0 r o₁
  unmarked-named v e l em =
      unmarked_integers (λ z. (let y : ⊥ = omega arith in y)) (subst (λ (y : ℕ). EmittedAt s (emit_run (8 * y) (put_number y) n (state_of from.places o) (drop from.next (bits s))) from 0 r o₁) (sym e) em)

module _ (k : Kind) (w : ℕ) (ew : w ≡ integer_width k) where
  pub integer-wide : (b dir : List ℕ) → Accepted b dir → (i : ℕ) → k ≡ Sc.element_of (parse b) i → w ≤ 8
  integer-wide b dir a i e = rw ew (by (parse b) k (element_sound b dir a i k e))
    where
      by : (S : Schema) (j : Kind) → KindSound S j → integer_width j ≤ 8
      by S (OfFlat Boolean) g = unfold integer_width flat_integer in omega arith
      by S (OfFlat (Integer s v)) g = unfold integer_width flat_integer in let l = g.1 in omega arith
      by S (OfFlat (Float v)) g = unfold integer_width flat_integer in omega arith
      by S (OfFlat (Enumerated n)) g = unfold integer_width flat_integer in omega arith
      by S (OfFlat (Struct a)) g = unfold integer_width flat_integer in omega arith
      by S (OfObject ob) g = unfold integer_width in omega arith
      by S (OfUnion u) g = unfold integer_width in omega arith

  pub list_octets : w ≡ 1 → (o : ℕ) (child : Emitter) (measure : Surveyor) (S : Schema) (s : List ℕ) (i : ℕ) → k ≡ Sc.element_of S i → (from : Emitted) (out : List ℕ)
      → (r : Option Emitted) (out₁ : List ℕ) → EmittedAt s (emit_blob [] (state_of from.places out) (drop from.next (bits s))) from 0 r out₁
      → EmittedAt s (emit_content child measure o S (O.List i) (state_of from.places out) (drop from.next (bits s))) from 0 r out₁
  list_octets h o child measure S s i ek from out r out₁ em =
      same s _ from 0 _ (octets-blob child measure o S i (ap integer_width (sym ek) ∙ sym ew ∙ h) (state_of from.places out) (drop from.next (bits s)) (all_drop Bit from.next (bits s) (bits-bits s)))
      r out₁ em

  pub list-run : (b dir : List ℕ) → Accepted b dir → (t₀ : Bool) → t₀ ≡ unmarked k → t₀ ≡ true → (o : ℕ) (child : Emitter) (measure : Surveyor) (s : List ℕ) (i : ℕ) → k ≡ Sc.element_of (parse b) i
      → (from : Emitted) (out : List ℕ) → Room s from → (x : Number) → NumberAt s from.next 32 x → (g : Emitted) → g ≡ record { places = from.places; next = x.next } → (n : ℕ) → n ≡ x.value
      → (r : Option Emitted) (out₁ : List ℕ) → EmittedAt s (emit_unmarked w n (state_of g.places out) (drop g.next (bits s))) g 0 r out₁
      → EmittedAt s (emit_content child measure o (parse b) (O.List i) (state_of from.places out) (drop from.next (bits s))) from 0 r out₁
  list-run b dir acc t₀ e₀ h o child measure s i ek from out room x taken g eg n en r out₁ em =
      let e = taken_at s from.next 32 x taken room.here in
      let l : from.places.at + 0 + 8192 * from.next ≤ from.places.at + 0 + 8192 * x.next = omega arith in
      later s _ from 0 _ first_is (record { places = from.places; next = x.next }) 0 l r out₁
      (subst (λ (z : Emitted). EmittedAt s (emit_unmarked (integer_width k) x.value (state_of z.places out) (drop z.next (bits s))) z 0 r out₁) eg
      (subst (λ (v : ℕ). EmittedAt s (emit_unmarked v x.value (state_of g.places out) (drop g.next (bits s))) g 0 r out₁) ew
      (subst (λ (m : ℕ). EmittedAt s (emit_unmarked w m (state_of g.places out) (drop g.next (bits s))) g 0 r out₁) en em)))
    where
      first_is : emit_content child measure o (parse b) (O.List i) (state_of from.places out) (drop from.next (bits s)) ≡ emit_unmarked (integer_width k) x.value (state_of from.places out) (drop x.next (bits s))
      first_is =
          unfold emit_content in
          some_taken _ s from.next 32 x taken
          ∙ ap (λ (j : Kind). emit_elements child measure o (parse b) j x.value (state_of from.places out) (drop x.next (bits s))) (sym ek)
          ∙ unmarked-run child measure o (parse b) k (element_sound b dir acc i k ek) (sym e₀ ∙ h) x.value (state_of from.places out) (drop x.next (bits s))
