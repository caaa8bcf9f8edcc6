-- The ways out of the writer, one lemma for each: what it answers, and what the output holds.
use mathlib.Core.Path.{◌≡◌, refl, sym, ap, ap₂, ◌∙◌, subst}
use mathlib.Core.Bool.{Bool, true, false, ◌&&◌, not}
use mathlib.Core.List.{List, [], ◌∷◌, ◌++◌}
use Rattle.std.specs.Prelude.{Option, Some, None}
use Prim.Native.Nat.{ℕ, zero, suc, ◌+◌, ◌-◌, ◌*◌, ◌^◌, ◌<◌, ◌≤◌}
use native.Mathlib.Omega.{arith}
use lib.Pow.{pow_pos}
use lib.ListN.{length, take, drop, length-drop}
use lib.Seq.{length-take-le, take_all}
use lib.Dec.{ltb, eqb}
use borrow.Author.Tests.{le-leb, lt-leb, lt-ltb, le-ltb, eq-eqb, ne_eqb, eqb-true, not-true, not-false}
use Rattle.coding.specs.Bytes.{largest, deepest}
use Rattle.coding.specs.Bits.{bits, value, all_zero}
use Rattle.coding.specs.Packed.{parse}
use Rattle.coding.specs.Walk.{start_size}
use Rattle.coding.specs.Lawful.{lawful}
use Rattle.coding.specs.Sheet.{Parsed, fail, got}
use Rattle.coding.specs.Message as M
use Rattle.coding.specs.declared.Object.{Object}
use Rattle.coding.specs.declared.Object.TheVariants as O
use Rattle.coding.specs.declared.WriteAnswer.{WriteAnswer}
use Rattle.laws.specs.Lists.{never}
use Rattle.laws.specs.Bits.{bits-length}
use Rattle.schema.specs.Directory.{Accepted, accepted_sound}
use Rattle.schema.specs.Parsed.{bytes_of, Held, held_is, held_none}
use Rattle.schema.specs.declared.held.Schema as Held
use Rattle.bitio.specs.Taken.{Run}
use Rattle.write_measure.specs.Survey.{head_size, survey}
use Rattle.write_measure.specs.Surveyed.{SurveyedAt, SurveyedIn}
use Rattle.write_measure.specs.declared.Extent.{Extent}
use Rattle.write_measure.specs.declared.Surveyed.{Surveyed}
use Rattle.write_store.specs.State.{State}
use Rattle.write_pass.specs.EmitSheet.{emit_message}
use Rattle.write_store.specs.Storing.{state_of}
use Rattle.write_pass.specs.Measure.{Measured}
use Rattle.write_pass.specs.Emitting.{given, MessageAt}
use Rattle.write_pass.specs.declared.Emitted.{Emitted}
use Rattle.write.specs.Writing.{LawfulSheet, only_end, message_size}
use Rattle.write_pass.specs.EmitObjects.{is_got}
use Rattle.write.specs.WriteLaws as Wl

-- ---- refusals
module _ (o : ℕ) (b s out : List ℕ) (n : ℕ) (e : M.written o b s ≡ M.refused n) where
  answered : (r : WriteAnswer) → r.number ≡ n → r.length ≡ 0 → r ≡ M.write_answer o b s out
  unfolding M.write_answer M.write_room
  answered r en el = ap₂ (λ (i j : ℕ). record { number = i; length = j }) en el ∙ sym (ap (λ w. M.write_room w (length out)) e)

  unchanged : out ≡ M.write_out o b s out
  unfolding M.write_out M.write_over
  unchanged = sym (ap (λ w. M.write_over w out) e)

-- ---- the schema
module _ (o : ℕ) (b s out : List ℕ) (h : Option Held.Schema) (e : Held o b h) where
  pub schema_written : (v : Held.Schema) → h ≡ Some v → (r : WriteAnswer) → r ≡ M.write_answer v.width (bytes_of v) s out → r ≡ M.write_answer o b s out
  schema_written v is = held_is o b h e v is (λ (w : ℕ) (x : List ℕ). M.write_answer w x s out)

  pub schema_written-out : (v : Held.Schema) → h ≡ Some v → (r : List ℕ) → r ≡ M.write_out v.width (bytes_of v) s out → r ≡ M.write_out o b s out
  schema_written-out v is = held_is o b h e v is (λ (w : ℕ) (x : List ℕ). M.write_out w x s out)

  module _ (is : h ≡ None) where
    schema_refused : M.written o b s ≡ M.refused 1
    unfolding M.written
    schema_refused = rw (held_none o b h e is) refl

    pub schema_answer : (r : WriteAnswer) → r.number ≡ 1 → r.length ≡ 0 → r ≡ M.write_answer o b s out
    schema_answer r en el = answered o b s out 1 schema_refused r en el

    pub schema_out : out ≡ M.write_out o b s out
    schema_out = unchanged o b s out 1 schema_refused

-- ---- the end of the sheet
value-zero : (xs : List ℕ) → value xs ≡ 0 → all_zero xs ≡ true
unfolding value all_zero
value-zero [] e = refl
value-zero (x ∷ xs) e =
    let p = pow_pos (length xs) in
    let z : x ≡ 0 = by x e in
    simp (eq-eqb x 0 z) (value-zero xs (omega arith))
  where
    by : (y : ℕ) → y * 2 ^ length xs + value xs ≡ 0 → y ≡ 0
    by zero q = refl
    by (suc y) q = let p : 0 < 2 ^ length xs = pow_pos (length xs) in absurd (omega arith)

zero-value : (xs : List ℕ) → all_zero xs ≡ true → value xs ≡ 0
unfolding value all_zero
zero-value [] e = refl
zero-value (x ∷ xs) e = by (λ f. zero-value xs f) (eqb x 0) refl e
  where
    by : (all_zero xs ≡ true → value xs ≡ 0) → (t : Bool) → eqb x 0 ≡ t → (t && all_zero xs) ≡ true → x * 2 ^ length xs + value xs ≡ 0
    by k true q f = omega (arith, k f, ap (λ (n : ℕ). n * 2 ^ length xs) (eqb-true x 0 q))
    by k false q f = never f

zero_is : (xs : List ℕ) → eqb (value xs) 0 ≡ all_zero xs
zero_is xs = by (all_zero xs) refl
  where
    by : (t : Bool) → all_zero xs ≡ t → eqb (value xs) 0 ≡ t
    by true e = eq-eqb (value xs) 0 (zero-value xs e)
    by false e = ne_eqb (value xs) 0 (λ q. never (sym e ∙ value-zero xs q))

module _ (s : List ℕ) (pos left : ℕ) (el : left ≡ 8 * length s - pos) where
  rest-length : length (drop pos (bits s)) ≡ left
  rest-length = length-drop pos (bits s) ∙ ap (λ (n : ℕ). n - pos) (bits-length s) ∙ sym el

  pub end_long : 8 ≤ left → ltb left 8 ≡ only_end (drop pos (bits s))
  unfolding only_end
  end_long h =
      let l = rest-length in
      let q : 8 ≤ length (drop pos (bits s)) = omega arith in
      le-ltb left 8 h ∙ sym (simp (le-ltb (length (drop pos (bits s))) 8 q))

  pub end_short : left < 8 → (x : ℕ) → Run s pos left x → (r : Bool) → r ≡ eqb x 0 → r ≡ only_end (drop pos (bits s))
  unfolding only_end
  end_short h x run r er =
      let l = rest-length in
      let q : length (drop pos (bits s)) < 8 = omega arith in
      let whole : take left (drop pos (bits s)) ≡ drop pos (bits s) = take_all left (drop pos (bits s)) (omega arith) in
      er ∙ ap (λ (n : ℕ). eqb n 0) (run.number ∙ ap value whole) ∙ zero_is (drop pos (bits s))
      ∙ sym (simp (lt-ltb (length (drop pos (bits s))) 8 q))

pub size_is : (o : ℕ) (x : Extent) (n h : ℕ) → n ≡ 4 + o → h ≡ 4 + o → n + h + (x.width + x.chain) + x.below ≡ message_size o x
unfolding message_size start_size head_size
size_is o x n h en eh = omega arith

pub sheet_short : (o : ℕ) (b s : List ℕ) (x : Extent) → LawfulSheet o b s x → length s ≤ 16777215
unfolding largest
sheet_short o b s x k = k.short

-- the sizes of the root table are those of the survey
pub sheet_measured : (o : ℕ) (b s : List ℕ) (x : Extent) → LawfulSheet o b s x → Measured false (survey deepest o (parse b) (O.Table (parse b).root) (bits s)) x
sheet_measured o b s x k = record { is = rw k.sheet (record { length = refl; width = refl; chain = λ e. refl }); small = k.small }

-- ---- the sheet is too long
module _ (o : ℕ) (b dir s out : List ℕ) (right : lawful o b ≡ true) (acc : Accepted b dir) (h : 16777215 < length s) where
  long_refused : M.written o b s ≡ M.refused 11
  unfolding largest
  long_refused = Wl.written_long o b s right (accepted_sound b dir acc) h

  pub long_answer : (r : WriteAnswer) → r.number ≡ 11 → r.length ≡ 0 → r ≡ M.write_answer o b s out
  long_answer r en el = answered o b s out 11 long_refused r en el

  pub long_out : out ≡ M.write_out o b s out
  long_out = unchanged o b s out 11 long_refused

-- ---- the sheet is not lawful
module _ (o : ℕ) (b dir s out : List ℕ) (right : lawful o b ≡ true) (acc : Accepted b dir) (short : length s ≤ 16777215) (ob : Object) (eo : ob ≡ O.Table (parse b).root) where
  surveyed : (p : Parsed Extent) → survey 32 o (parse b) ob (drop 0 (bits s)) ≡ p → survey deepest o (parse b) (O.Table (parse b).root) (bits s) ≡ p
  unfolding deepest
  surveyed p e = ap (λ (y : Object). survey 32 o (parse b) y (bits s)) (sym eo) ∙ e

  module _ (q : Option Surveyed) (u : SurveyedIn s (survey 32 o (parse b) ob (drop 0 (bits s))) q) (is : q ≡ None) where
    e : survey 32 o (parse b) ob (drop 0 (bits s)) ≡ fail
    e = subst (SurveyedIn s (survey 32 o (parse b) ob (drop 0 (bits s)))) is u

    cut_refused : M.written o b s ≡ M.refused 11
    unfolding largest
    cut_refused = Wl.written-cut o b s right (accepted_sound b dir acc) short (surveyed fail e)

    pub cut_answer : (r : WriteAnswer) → r.number ≡ 11 → r.length ≡ 0 → r ≡ M.write_answer o b s out
    cut_answer r en el = answered o b s out 11 cut_refused r en el

    pub cut_out : out ≡ M.write_out o b s out
    cut_out = unchanged o b s out 11 cut_refused

  module _ (q : Option Surveyed) (u : SurveyedIn s (survey 32 o (parse b) ob (drop 0 (bits s))) q) (x : Surveyed) (is : q ≡ Some x) (t : Bool)
      (et : t ≡ only_end (drop x.next (bits s))) where
    v : SurveyedAt s (survey 32 o (parse b) ob (drop 0 (bits s))) x
    v = subst (SurveyedIn s (survey 32 o (parse b) ob (drop 0 (bits s)))) is u

    sheet_got : survey deepest o (parse b) (O.Table (parse b).root) (bits s) ≡ got x.extent (drop x.next (bits s))
    sheet_got = surveyed (got x.extent (drop x.next (bits s))) v.is

    module _ (f : t ≡ false) where
      open_refused : M.written o b s ≡ M.refused 11
      unfolding largest only_end
      open_refused = Wl.written_open o b s right (accepted_sound b dir acc) short x.extent (drop x.next (bits s)) sheet_got (sym et ∙ f)

      pub open_answer : (r : WriteAnswer) → r.number ≡ 11 → r.length ≡ 0 → r ≡ M.write_answer o b s out
      open_answer r en el = answered o b s out 11 open_refused r en el

      pub open_out : out ≡ M.write_out o b s out
      open_out = unchanged o b s out 11 open_refused

    pub sheet-lawful : t ≡ true → LawfulSheet o b s x.extent
    unfolding largest
    sheet-lawful f = record { short = short; rest = drop x.next (bits s); sheet = sheet_got; end = sym et ∙ f; small = v.small }

-- ---- a lawful sheet
module _ (o : ℕ) (b dir s out : List ℕ) (right : lawful o b ≡ true) (acc : Accepted b dir) (x : Extent) (k : LawfulSheet o b s x) where
  ended : (ltb (length k.rest) 8 && all_zero k.rest) ≡ true
  unfolding only_end
  ended = k.end

  module _ (h : not x.writable ≡ true) where
    not_refused : M.written o b s ≡ M.refused 12
    not_refused = Wl.written-not o b s right (accepted_sound b dir acc) k.short x k.rest k.sheet ended (not-true x.writable h)

    pub not_answer : (r : WriteAnswer) → r.number ≡ 12 → r.length ≡ 0 → r ≡ M.write_answer o b s out
    not_answer r en el = answered o b s out 12 not_refused r en el

    pub not_out : out ≡ M.write_out o b s out
    not_out = unchanged o b s out 12 not_refused

  module _ (h : not x.writable ≡ false) (n : ℕ) (en : n ≡ message_size o x) where
    module _ (l : 16777215 < n) where
      over_refused : M.written o b s ≡ M.refused 13
      over_refused =
          Wl.written_over o b s right (accepted_sound b dir acc) k.short x k.rest k.sheet ended (not-false x.writable h)
          (unfold largest in omega arith)

      pub over_answer : (r : WriteAnswer) → r.number ≡ 13 → r.length ≡ 0 → r ≡ M.write_answer o b s out
      over_answer r er el = answered o b s out 13 over_refused r er el

      pub over_out : out ≡ M.write_out o b s out
      over_out = unchanged o b s out 13 over_refused

    module _ (l : n ≤ 16777215) where
      small : message_size o x ≤ largest
      unfolding largest
      small = omega arith

      whole : (m : List ℕ) × (M.written o b s ≡ M.message m) × (length m ≡ message_size o x)
          × ((buf : List ℕ) (st : State) (zs : List ℕ) → length buf ≡ message_size o x → emit_message o (parse b) buf (bits s) ≡ got st zs → st.out ≡ m)
      whole = Wl.written-message o b s right (accepted_sound b dir acc) k.short x k.rest k.sheet ended (not-false x.writable h) small

      m-length : length whole.0 ≡ n
      m-length = whole.2 ∙ sym en

      module _ (f : length out < n) where
        pub full_answer : (r : WriteAnswer) → r.number ≡ 14 → r.length ≡ 0 → r ≡ M.write_answer o b s out
        unfolding M.write_answer M.write_room
        full_answer r er el =
            let q : length out < length whole.0 = omega (arith, m-length) in
            ap₂ (λ (i j : ℕ). record { number = i; length = j }) er el
            ∙ sym (ap (λ w. M.write_room w (length out)) whole.1 ∙ simp (lt-leb (length whole.0) (length out) q))

        pub full_out : out ≡ M.write_out o b s out
        unfolding M.write_out M.write_over
        full_out =
            let q : length out < length whole.0 = omega (arith, m-length) in
            sym (ap (λ w. M.write_over w out) whole.1 ∙ simp (lt-leb (length whole.0) (length out) q))

      module _ (f : n ≤ length out) where
        pub done_answer : record { number = 0; length = n } ≡ M.write_answer o b s out
        unfolding M.write_answer M.write_room
        done_answer = sym (ap (λ w. M.write_room w (length out)) whole.1 ∙ simp (m-length, le-leb n (length out) f))

        module _ (r : Option Emitted) (out₁ : List ℕ) (p : MessageAt s (emit_message o (parse b) (take n out) (bits s)) r out₁) where
          stored : out₁ ≡ whole.0
          stored = by r (sym (Wl.message_got o b s right (accepted_sound b dir acc) k.short x k.rest k.sheet (take n out)).1 ∙ p.is) p.is
            where
              by : (u : Option Emitted) → got (Wl.message_got o b s right (accepted_sound b dir acc) k.short x k.rest k.sheet (take n out)).0 k.rest ≡ given s out₁ u
                  → emit_message o (parse b) (take n out) (bits s) ≡ given s out₁ u → out₁ ≡ whole.0
              by (Some y) e g = whole.3 (take n out) (state_of y.places out₁) (drop y.next (bits s)) (length-take-le n out f ∙ en) g
              by None e g = never (sym (ap is_got e))

          pub done_out : (w : List ℕ) → w ≡ out₁ ++ drop n out → w ≡ M.write_out o b s out
          unfolding M.write_out M.write_over
          done_out w ew =
              let q : length whole.0 ≤ length out = omega (arith, m-length) in
              ew ∙ ap₂ (λ (l : List ℕ) (i : ℕ). l ++ drop i out) stored (sym m-length)
              ∙ sym (ap (λ w. M.write_over w out) whole.1 ∙ simp (le-leb (length whole.0) (length out) q))

pub taken : (k : ℕ) (l : List ℕ) → k ≤ length l → k ≡ length (take k l)
taken k l h = sym (length-take-le k l h)
