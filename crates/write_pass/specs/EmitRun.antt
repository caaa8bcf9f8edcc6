-- Elements that lead to no object: without a mark a run of numbers, of which those of one byte are stored as bytes are; with a
-- mark one after another.
use Prim.Native.Nat.{ℕ, zero, suc, ◌+◌, ◌*◌, ◌/◌, ◌%◌, ◌^◌, ◌<◌, ◌≤◌}
use Rattle.std.specs.Prelude.{◌≡◌, Bool, true, false, length, take, drop, eqb, leb}
use Rattle.std.proofs.Math.Path.{refl, ap}
use Rattle.std.proofs.Common.{sym, ap₂, ◌∙◌, mod-eq_of_lt, length-drop, drop-drop, ne_eqb, le-leb, leb-true, leb-false}
use mathlib.Core.List.{List, [], ◌∷◌}
use native.Mathlib.Omega.{arith}
use Rattle.std.proofs.Math.Pow.{high}
use Rattle.std.proofs.lemmas.Bool.{lt-leb}
use Rattle.coding.specs.Lists.{pick}
use Rattle.coding.specs.Bytes.{le_bytes}
use Rattle.coding.specs.Bits.{value, pack}
use Rattle.coding.specs.Schema.{Schema, element_of}
use Rattle.coding.specs.Sheet.{Parsed, fail, got, bind, take_number, take_bytes, unmarked, flat_unmarked}
use Rattle.coding.specs.declared.Flat.{Flat}
use Rattle.coding.specs.declared.Flat.TheVariants.{Boolean, Integer, Float, Enumerated, Struct}
use Rattle.coding.specs.declared.Kind.{Kind}
use Rattle.coding.specs.declared.Kind.TheVariants.{OfFlat, OfObject, OfUnion}
use Rattle.coding.specs.declared.Object.TheVariants as O
use Rattle.laws.specs.Lists.{never}
use Rattle.laws.specs.Sound.{All, KindSound}
use Rattle.laws.specs.All.{all_drop}
use Rattle.laws.specs.Bits.{Bit, front-lt}
use Rattle.write_measure.specs.Survey.{Surveyor, survey_mark}
use Rattle.write_measure.specs.Mapped.{bind-same}
use Rattle.bits.specs.Reversed.{digit, reversed}
use Rattle.schema.specs.Kinds.{flat_integer, integer_width}
use Rattle.write_store.specs.State.{State, put_bytes, put_bit, put_number, put_octet}
use Rattle.write_store.specs.Octets.{octet-bits}
use Rattle.write_pass.specs.EmitSheet.{Emitter, emit_number, emit_flat, lack, pass, emit_body, emit_part, emit_element, emit_elements, emit_blob, emit_content}
use Rattle.write_pass.specs.EmitFlats.{put_none, put-append}
use Rattle.write_pass.specs.Emitting.{emit_marked_flat}

-- n numbers of w bits each
unfoldable pub emit_run : ℕ → (ℕ → State → State) → ℕ → State → List ℕ → Parsed State
emit_run w put zero st xs = got st xs
emit_run w put (suc n) st xs = bind (emit_number w put st xs) (λ next ys. emit_run w put n next ys)

-- n elements without a mark: integers of w bytes, or bools where w is 0
unfoldable pub emit_unmarked : ℕ → ℕ → State → List ℕ → Parsed State
emit_unmarked w n st xs = pick (eqb w 0) (emit_run 1 put_bit n st xs) (emit_run (8 * w) (put_number w) n st xs)

module _ (child : Emitter) (measure : Surveyor) (o : ℕ) (S : Schema) where
  bools-run : (n : ℕ) (st : State) (xs : List ℕ) → emit_elements child measure o S (OfFlat Boolean) n st xs ≡ emit_run 1 put_bit n st xs
  unfolding emit_elements emit_element emit_body emit_flat emit_run unmarked flat_unmarked
  bools-run zero st xs = refl
  bools-run (suc n) st xs = bind-same (emit_number 1 put_bit st xs) _ _ (λ next ys. bools-run n next ys)

  integers-run : (s : Bool) (w n : ℕ) (st : State) (xs : List ℕ) → emit_elements child measure o S (OfFlat (Integer s w)) n st xs ≡ emit_run (8 * w) (put_number w) n st xs
  unfolding emit_elements emit_element emit_body emit_flat emit_run unmarked flat_unmarked
  integers-run s w zero st xs = refl
  integers-run s w (suc n) st xs =
      bind-same (emit_number (8 * w) (put_number w) st xs) _ _ (λ next ys. integers-run s w n next ys)

  pub unmarked-run : (k : Kind) → KindSound S k → unmarked k ≡ true → (n : ℕ) (st : State) (xs : List ℕ)
      → emit_elements child measure o S k n st xs ≡ emit_unmarked (integer_width k) n st xs
  unfolding integer_width flat_integer unmarked flat_unmarked emit_unmarked
  unmarked-run (OfFlat Boolean) g h n st xs = bools-run n st xs
  unmarked-run (OfFlat (Integer s w)) g h n st xs =
      let z : w ≡ 0 → ⊥ = λ e. (let l = g.0 in let y : ⊥ = omega arith in y) in
      rw (ne_eqb w 0 z) (integers-run s w n st xs)
  unmarked-run (OfFlat (Float w)) g h n st xs = never h
  unmarked-run (OfFlat (Enumerated m)) g h n st xs = never h
  unmarked-run (OfFlat (Struct i)) g h n st xs = never h
  unmarked-run (OfObject ob) g h n st xs = never h
  unmarked-run (OfUnion i) g h n st xs = never h

-- ---- bools
bit-run : (n : ℕ) (st : State) (b : ℕ) (ys : List ℕ) → emit_run 1 put_bit (suc n) st (b ∷ ys) ≡ emit_run 1 put_bit n (put_bit b st) ys
unfolding emit_run emit_number take_number bind value
bit-run n st b ys =
    let z : b * 1 + 0 ≡ b = omega arith in
    ap (λ (u : Bool). bind (bind (pick u (got (b * 1 + 0) ys) fail) (λ x zs. got (put_bit x st) zs)) (λ next zs. emit_run 1 put_bit n next zs))
    (le-leb 1 (length (b ∷ ys)) (omega arith))
    ∙ ap (λ (x : ℕ). emit_run 1 put_bit n (put_bit x st) ys) z

-- a run of bools that has too few bits fails
run_short : (m : ℕ) (st : State) (xs : List ℕ) → length xs < m → emit_run 1 put_bit m st xs ≡ fail
unfolding emit_run emit_number take_number bind
run_short zero st xs h = absurd (let z : ⊥ = omega arith in z)
run_short (suc m) st [] h = refl
run_short (suc m) st (b ∷ ys) h = bit-run m st b ys ∙ run_short m (put_bit b st) ys (omega arith)

-- eight bits as a number, and the number reversed
digit_is : (k x n b r : ℕ) → x ≡ (n * 2 + b) * 2 ^ k + r → r < 2 ^ k → b < 2 → b ≡ x / 2 ^ k % 2
digit_is k x n b r e h l =
    let z : (n * 2 + b) % 2 ≡ b = omega arith in
    sym (ap (λ (y : ℕ). y / 2 ^ k % 2) e ∙ ap (λ (y : ℕ). y % 2) (high (n * 2 + b) k h) ∙ z)

grouped : (a b c d e f g h a₁ b₁ c₁ d₁ e₁ f₁ g₁ h₁ : ℕ) → a ≡ a₁ → b ≡ b₁ → c ≡ c₁ → d ≡ d₁ → e ≡ e₁ → f ≡ f₁ → g ≡ g₁ → h ≡ h₁
    → a + b * 2 + c * 4 + d * 8 + e * 16 + f * 32 + g * 64 + h * 128 ≡ a₁ + b₁ * 2 + (c₁ * 4 + d₁ * 8) + (e₁ * 16 + f₁ * 32 + (g₁ * 64 + h₁ * 128))
grouped a b c d e f g h a₁ b₁ c₁ d₁ e₁ f₁ g₁ h₁ ea eb ec ed ee ef eg eh = omega arith

module _ (a b c d e f g h : ℕ) (ha : a < 2) (hb : b < 2) (hc : c < 2) (hd : d < 2) (he : e < 2) (hf : f < 2) (hg : g < 2) (hh : h < 2) where
  abbrev number : ℕ
  number = value (a ∷ b ∷ c ∷ d ∷ e ∷ f ∷ g ∷ h ∷ [])

  number_is : number ≡ a * 128 + b * 64 + c * 32 + d * 16 + e * 8 + f * 4 + g * 2 + h
  unfolding value
  number_is = omega arith

  digits : a + b * 2 + c * 4 + d * 8 + e * 16 + f * 32 + g * 64 + h * 128 ≡ reversed number
  unfolding reversed digit
  digits =
      grouped a b c d e f g h _ _ _ _ _ _ _ _
      (digit_is 7 number 0 a (b * 64 + c * 32 + d * 16 + e * 8 + f * 4 + g * 2 + h) (omega (arith, number_is)) (omega arith) ha)
      (digit_is 6 number a b (c * 32 + d * 16 + e * 8 + f * 4 + g * 2 + h) (omega (arith, number_is)) (omega arith) hb)
      (digit_is 5 number (a * 2 + b) c (d * 16 + e * 8 + f * 4 + g * 2 + h) (omega (arith, number_is)) (omega arith) hc)
      (digit_is 4 number (a * 4 + b * 2 + c) d (e * 8 + f * 4 + g * 2 + h) (omega (arith, number_is)) (omega arith) hd)
      (digit_is 3 number (a * 8 + b * 4 + c * 2 + d) e (f * 4 + g * 2 + h) (omega (arith, number_is)) (omega arith) he)
      (digit_is 2 number (a * 16 + b * 8 + c * 4 + d * 2 + e) f (g * 2 + h) (omega (arith, number_is)) (omega arith) hf)
      (digit_is 1 number (a * 32 + b * 16 + c * 8 + d * 4 + e * 2 + f) g h (omega (arith, number_is)) (omega arith) hg)
      (digit_is 0 number (a * 64 + b * 32 + c * 16 + d * 8 + e * 4 + f * 2 + g) h 0 (omega (arith, number_is)) (omega arith) hh)

-- eight bools that fill a byte of their own
octet_long : (n : ℕ) (st : State) (xs : List ℕ) → st.free ≡ 0 → All Bit xs → 8 ≤ length xs
    → emit_run 1 put_bit (8 + n) st xs ≡ emit_run 1 put_bit n (put_octet (reversed (value (take 8 xs))) st) (drop 8 xs)
octet_long n st [] e h l = absurd (let z : ⊥ = omega arith in z)
octet_long n st (a ∷ []) e h l = absurd (let z : ⊥ = omega arith in z)
octet_long n st (a ∷ b ∷ []) e h l = absurd (let z : ⊥ = omega arith in z)
octet_long n st (a ∷ b ∷ c ∷ []) e h l = absurd (let z : ⊥ = omega arith in z)
octet_long n st (a ∷ b ∷ c ∷ d ∷ []) e h l = absurd (let z : ⊥ = omega arith in z)
octet_long n st (a ∷ b ∷ c ∷ d ∷ i ∷ []) e h l = absurd (let z : ⊥ = omega arith in z)
octet_long n st (a ∷ b ∷ c ∷ d ∷ i ∷ j ∷ []) e h l = absurd (let z : ⊥ = omega arith in z)
octet_long n st (a ∷ b ∷ c ∷ d ∷ i ∷ j ∷ k ∷ []) e h l = absurd (let z : ⊥ = omega arith in z)
octet_long n st (a ∷ b ∷ c ∷ d ∷ i ∷ j ∷ k ∷ m ∷ ys) e h l =
    let z : 8 + n ≡ suc (suc (suc (suc (suc (suc (suc (suc n))))))) = omega arith in
    ap (λ (q : ℕ). emit_run 1 put_bit q st (a ∷ b ∷ c ∷ d ∷ i ∷ j ∷ k ∷ m ∷ ys)) z
    ∙ bit-run _ _ a _ ∙ bit-run _ _ b _ ∙ bit-run _ _ c _ ∙ bit-run _ _ d _ ∙ bit-run _ _ i _ ∙ bit-run _ _ j _ ∙ bit-run _ _ k _ ∙ bit-run _ _ m _
    ∙ ap (λ (u : State). emit_run 1 put_bit n u ys)
    (octet-bits st a b c d i j k m e
    ∙ ap (λ (y : ℕ). put_octet y st) (digits a b c d i j k m h.0 h.1.0 h.1.1.0 h.1.1.1.0 h.1.1.1.1.0 h.1.1.1.1.1.0 h.1.1.1.1.1.1.0 h.1.1.1.1.1.1.1.0))

pub octet-run : (n : ℕ) (st : State) (xs : List ℕ) → st.free ≡ 0 → All Bit xs
    → emit_run 1 put_bit (8 + n) st xs ≡ bind (take_number 8 xs) (λ x ys. emit_run 1 put_bit n (put_octet (reversed x) st) ys)
unfolding take_number bind
octet-run n st xs e h = by (leb 8 (length xs)) refl
  where
    by : (u : Bool) → leb 8 (length xs) ≡ u
        → emit_run 1 put_bit (8 + n) st xs ≡ bind (pick u (got (value (take 8 xs)) (drop 8 xs)) fail) (λ x ys. emit_run 1 put_bit n (put_octet (reversed x) st) ys)
    by true f = octet_long n st xs e h (leb-true 8 (length xs) f)
    by false f = run_short (8 + n) st xs (let g = leb-false 8 (length xs) f in omega arith)

-- ---- integers of one byte
put_one : (x : ℕ) (st : State) → x < 256 → put_number 1 x st ≡ put_bytes (x ∷ []) st
unfolding put_number le_bytes
put_one x st l = ap (λ (y : ℕ). put_bytes (y ∷ []) st) (mod-eq_of_lt l)

-- one after another they are stored as they are all at once
bytes_run : (n : ℕ) (st : State) (xs : List ℕ) → All Bit xs → emit_run 8 (put_number 1) n st xs ≡ bind (take_bytes n xs) (λ l ys. got (put_bytes l st) ys)
unfolding emit_run emit_number take_number take_bytes pack bind
bytes_run zero st xs h =
    ap (λ (u : State). got u xs) (sym (put_none st))
    ∙ ap (λ (v : Bool). bind (pick v (got [] xs) fail) (λ l ys. got (put_bytes l st) ys)) (sym (le-leb 0 (length xs) (omega arith)))
bytes_run (suc n) st xs h =
    by (leb 8 (length xs)) refl (bytes_run n (put_bytes (value (take 8 xs) ∷ []) st) (drop 8 xs) (all_drop Bit 8 xs h))
  where
    all : (v : Bool)
        → bind (pick v (got (pack n (drop 8 xs)) (drop (8 * n) (drop 8 xs))) fail) (λ l ys. got (put_bytes l (put_bytes (value (take 8 xs) ∷ []) st)) ys)
        ≡ bind (pick v (got (value (take 8 xs) ∷ pack n (drop 8 xs)) (drop (8 * suc n) xs)) fail) (λ l ys. got (put_bytes l st) ys)
    all false = refl
    all true =
        let e : 8 + 8 * n ≡ 8 * suc n = omega arith in
        ap₂ (λ (u : State) (ys : List ℕ). got u ys) (put-append (value (take 8 xs) ∷ []) (pack n (drop 8 xs)) st)
        (drop-drop (8 * n) 8 xs ∙ ap (λ (k : ℕ). drop k xs) e)

    same : 8 ≤ length xs → (v : Bool) → leb (8 * suc n) (length xs) ≡ v → leb (8 * n) (length (drop 8 xs)) ≡ leb (8 * suc n) (length xs)
    same l false e = lt-leb (8 * n) (length (drop 8 xs)) (let g = leb-false (8 * suc n) (length xs) e in let k = length-drop 8 xs in omega arith) ∙ sym e
    same l true e = le-leb (8 * n) (length (drop 8 xs)) (let g = leb-true (8 * suc n) (length xs) e in let k = length-drop 8 xs in omega arith) ∙ sym e

    by : (u : Bool) → leb 8 (length xs) ≡ u
        → emit_run 8 (put_number 1) n (put_bytes (value (take 8 xs) ∷ []) st) (drop 8 xs)
        ≡ bind (take_bytes n (drop 8 xs)) (λ l ys. got (put_bytes l (put_bytes (value (take 8 xs) ∷ []) st)) ys)
        → bind (bind (pick u (got (value (take 8 xs)) (drop 8 xs)) fail) (λ x ys. got (put_number 1 x st) ys)) (λ next ys. emit_run 8 (put_number 1) n next ys)
        ≡ bind (take_bytes (suc n) xs) (λ l ys. got (put_bytes l st) ys)
    by false e rest = rw (lt-leb (8 * suc n) (length xs) (let g = leb-false 8 (length xs) e in omega arith)) refl
    by true e rest =
        let l = leb-true 8 (length xs) e in
        ap (λ (u : State). emit_run 8 (put_number 1) n u (drop 8 xs)) (put_one (value (take 8 xs)) st (front-lt 8 xs h l))
        ∙ rest
        ∙ ap (λ (v : Bool). bind (pick v (got (pack n (drop 8 xs)) (drop (8 * n) (drop 8 xs))) fail) (λ l ys. got (put_bytes l (put_bytes (value (take 8 xs) ∷ []) st)) ys))
        (same l (leb (8 * suc n) (length xs)) refl)
        ∙ all (leb (8 * suc n) (length xs))

module _ (child : Emitter) (measure : Surveyor) (o : ℕ) (S : Schema) where
  octets-run : (k : Kind) → integer_width k ≡ 1 → (n : ℕ) (st : State) (xs : List ℕ) → emit_elements child measure o S k n st xs ≡ emit_run 8 (put_number 1) n st xs
  unfolding integer_width flat_integer
  octets-run (OfFlat Boolean) e n st xs = absurd (let y : ⊥ = omega arith in y)
  octets-run (OfFlat (Integer s w)) e n st xs = integers-run child measure o S s w n st xs ∙ ap (λ (v : ℕ). emit_run (8 * v) (put_number v) n st xs) e
  octets-run (OfFlat (Float w)) e n st xs = absurd (let y : ⊥ = omega arith in y)
  octets-run (OfFlat (Enumerated m)) e n st xs = absurd (let y : ⊥ = omega arith in y)
  octets-run (OfFlat (Struct i)) e n st xs = absurd (let y : ⊥ = omega arith in y)
  octets-run (OfObject ob) e n st xs = absurd (let y : ⊥ = omega arith in y)
  octets-run (OfUnion i) e n st xs = absurd (let y : ⊥ = omega arith in y)

  -- a list of integers of one byte is stored as bytes are
  pub octets-blob : (i : ℕ) → integer_width (element_of S i) ≡ 1 → (st : State) (xs : List ℕ) → All Bit xs → emit_content child measure o S (O.List i) st xs ≡ emit_blob [] st xs
  unfolding emit_content emit_blob take_number bind
  octets-blob i w st xs h = by (leb 32 (length xs))
    where
      run : (n : ℕ) (ys : List ℕ) → All Bit ys
          → emit_elements child measure o S (element_of S i) n st ys ≡ bind (take_bytes n ys) (λ l zs. got (put_bytes [] (put_bytes l st)) zs)
      run n ys b =
          octets-run (element_of S i) w n st ys ∙ bytes_run n st ys b
          ∙ bind-same (take_bytes n ys) _ _ (λ l zs. ap (λ (u : State). got u zs) (sym (put_none (put_bytes l st))))

      by : (u : Bool)
          → bind (pick u (got (value (take 32 xs)) (drop 32 xs)) fail) (λ n ys. emit_elements child measure o S (element_of S i) n st ys)
          ≡ bind (pick u (got (value (take 32 xs)) (drop 32 xs)) fail) (λ n ys. bind (take_bytes n ys) (λ l zs. got (put_bytes [] (put_bytes l st)) zs))
      by false = refl
      by true = run (value (take 32 xs)) (drop 32 xs) (all_drop Bit 32 xs h)

-- ---- elements with a mark
-- n floats or enums, each with its mark
unfoldable pub emit_flats : Schema → Flat → ℕ → State → List ℕ → Parsed State
emit_flats S f zero st xs = got st xs
emit_flats S f (suc n) st xs = bind (emit_marked_flat S f st xs) (λ next ys. emit_flats S f n next ys)

module _ (child : Emitter) (measure : Surveyor) (o : ℕ) (S : Schema) (f : Flat) (h : flat_unmarked f ≡ false) where
  one-flat : (st : State) (xs : List ℕ) → emit_element child measure o S (OfFlat f) st xs ≡ emit_marked_flat S f st xs
  unfolding emit_element emit_part emit_marked_flat survey_mark lack pass emit_body unmarked
  one-flat st xs = rw h refl

  pub flats-run : (n : ℕ) (st : State) (xs : List ℕ) → emit_elements child measure o S (OfFlat f) n st xs ≡ emit_flats S f n st xs
  unfolding emit_elements emit_flats
  flats-run zero st xs = refl
  flats-run (suc n) st xs =
      ap (λ (p : Parsed State). bind p (λ next ys. emit_elements child measure o S (OfFlat f) n next ys)) (one-flat st xs)
      ∙ bind-same (emit_marked_flat S f st xs) _ _ (λ next ys. flats-run n next ys)
