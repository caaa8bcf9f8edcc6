-- The whole sheet: an accepted message is readable; counting the bits, filling the buffer, and the answers. `w` is the width of an
-- offset in bytes.
use Rattle.std.specs.Prelude.{Ok, Err, Option, Some, None}
use mathlib.Core.Path.{◌≡◌, refl, sym, ap, ap₂, ◌∙◌, subst}
use mathlib.Core.Bool.{Bool, true, false}
use mathlib.Core.List.{List, [], ◌∷◌, ◌++◌}
use Prim.Native.Nat.{ℕ, suc, ◌+◌, ◌-◌, ◌/◌, ◌^◌, ◌<◌, ◌≤◌}
use native.Mathlib.Nat.{zero-add}
use native.Mathlib.Omega.{arith}
use lib.Dec.{leb}
use lib.ListN.{length, get_or, take, drop, set, length-set}
use lib.Seq.{length-take-le, get_or-set_same}
use borrow.Author.Tests.{le-leb, lt-leb, leb-true, leb-false, eq-eqb, ne_eqb}
use Rattle.coding.specs.Lists.{pick}
use Rattle.coding.specs.Bytes.{deepest, largest}
use Rattle.coding.specs.Packed as P
use Rattle.coding.specs.Lawful.{lawful}
use Rattle.coding.specs.Positions.{with_table}
use Rattle.coding.specs.Walk as W
use Rattle.coding.specs.Walk.{Walked}
use Rattle.coding.specs.Bits.{bits, packed, byte_count}
use Rattle.coding.specs.Sheet as E
use Rattle.coding.specs.Message as M
use Rattle.coding.specs.declared.Object.TheVariants as O
use Rattle.coding.specs.declared.Budget.{Budget}
use Rattle.coding.specs.declared.Verdict.{Verdict}
use Rattle.coding.specs.declared.ReadAnswer.{ReadAnswer}
use Rattle.laws.specs.All.{all_index}
use Rattle.laws.specs.Lists.{both_left, both_right}
use Rattle.laws.specs.Bits.{Byte, packed-length}
use Rattle.schema.specs.Directory.{Accepted, accepted_sound}
use Rattle.schema.specs.Parsed.{bytes_of}
use Rattle.positions.specs.declared.indexed.Indexed.{Indexed}
use Rattle.positions.specs.Lent.{HeldWith, lent_is, lent_refused}
use Rattle.bitio.specs.Puts.{Room, Puts, saturated}
use Rattle.bitio.specs.Filled.{sheet_filled}
use Rattle.sheet_walk.specs.MessageBits as A
use Rattle.sheet_walk.specs.Readable as D
use Rattle.sheet.specs.Answers.{no_room, sheet_answer, sheet_over}
use Rattle.sheet.proofs.Walked.{Says, visit_says}

-- ---- acceptance
says-number : (Q : Type 0) (w : Walked) → Says Q w → (W.verdict_of w).number ≡ 0 → Q
unfolding W.verdict_of
says-number Q (Ok s) h e = h
says-number Q (Err (r, s)) h e = absurd (h e)

sizes : (w : ℕ) (m : List ℕ) → W.size_ok w m ≡ true → (W.start_size w ≤ length m) × (length m ≤ 16777215)
unfolding W.size_ok largest
sizes w m e = (
  leb-true (W.start_size w) (length m) (both_left (leb (W.start_size w) (length m)) (leb (length m) 16777215) e),
  leb-true (length m) 16777215 (both_right (leb (W.start_size w) (length m)) (leb (length m) 16777215) e),
)

rooted : (w : ℕ) (b dir m : List ℕ) → Accepted b dir → (budget : Budget) → (W.verdict_of (W.walk w (P.parse b) m budget)).number ≡ 0
    → D.ObjectReadable w deepest (P.parse b) m (O.Table (P.parse b).root) (W.root_place w m)
unfolding W.walk
rooted w b dir m a budget q =
    says-number (D.ObjectReadable w deepest (P.parse b) m (O.Table (P.parse b).root) (W.root_place w m))
    (W.visit deepest w (P.parse b) m budget (O.Table (P.parse b).root) (W.root_place w m) W.nothing)
    (visit_says w (P.parse b) (accepted_sound b dir a) m budget deepest (O.Table (P.parse b).root) (W.root_place w m) W.nothing (accepted_sound b dir a).root)
    q

pub message_readable : (w : ℕ) (b dir m : List ℕ) → Accepted b dir → lawful w b ≡ true → (budget : Budget) (v : Verdict) → v ≡ W.verdict w b m budget → v.number ≡ 0 → D.MessageReadable w (P.parse b) m
unfolding W.verdict W.early W.nothing
message_readable w b dir m a law budget v ev h =
    by (W.size_ok w m) (W.start_ok m) refl
    (subst (λ (x : Verdict). x.number ≡ 0)
    (ev ∙ ap (λ (t : Bool). pick t (pick (W.size_ok w m) (pick (W.start_ok m) (W.verdict_of (W.walk w (P.parse b) m budget)) (W.early 3)) (W.early 2)) (W.early 1)) law) h)
  where
    sized : W.size_ok w m ≡ true → (W.start_size w ≤ length m) × (length m ≤ 16777215)
    sized e = sizes w m e

    by : (t u : Bool) → W.size_ok w m ≡ t → (pick t (pick u (W.verdict_of (W.walk w (P.parse b) m budget)) (W.early 3)) (W.early 2)).number ≡ 0 → D.MessageReadable w (P.parse b) m
    by true true e q = record { long = (sized e).0; short = (sized e).1; root = rooted w b dir m a budget q }
    by true false e q = absurd (let z : 3 ≡ 0 = q in omega arith)
    by false u e q = absurd (let z : 2 ≡ 0 = q in omega arith)

-- ---- counting
pub count_is : (xs o o₁ : List ℕ) (r : ℕ) → Puts o 0 xs o₁ r → r ≡ saturated (length xs)
count_is xs o o₁ r h = h.end ∙ ap saturated (zero-add (length xs))

pub none_front : (l o : List ℕ) → length l ≡ 0 → l ++ o ≡ o
none_front [] o e = refl
none_front (x ∷ l) o e = absurd (let z : suc (length l) ≡ 0 = e in let n : ⊥ = omega arith in n)

opened : (n : ℕ) → saturated n ≡ pick (leb n 134217720) n 134217721
unfolding saturated
opened n = refl

case_in : (n k : ℕ) (b : Bool) → n ≡ pick b k 134217721 → n ≤ 134217720 → n ≡ k
case_in n k true f h = f
case_in n k false f h = absurd (let z : ⊥ = omega arith in z)

case_over : (n k : ℕ) (b : Bool) → leb k 134217720 ≡ b → n ≡ pick b k 134217721 → 134217720 < n → 134217720 < k
case_over n k true e f h = omega arith
case_over n k false e f h = leb-false k 134217720 e

counted : (n k : ℕ) → n ≡ saturated k → n ≤ 134217720 → n ≡ k
counted n k e h = case_in n k (leb k 134217720) (e ∙ opened k) h

over : (n k : ℕ) → n ≡ saturated k → 134217720 < n → 134217720 < k
over n k e h = case_over n k (leb k 134217720) refl (e ∙ opened k) h

-- ---- filling
last-zero : (l : List ℕ) → get_or (set l (length l - 1) 0) (length l - 1) 0 ≡ 0
last-zero [] = refl
last-zero (x ∷ l) = get_or-set_same (x ∷ l) (length (x ∷ l) - 1) 0 0 (let z : length (x ∷ l) ≡ suc (length l) = refl in omega arith)

pub fill_done : (xs o o₁ o₂ : List ℕ) (q : ℕ) → length o ≡ byte_count xs → length o ≤ 16777215 → o₁ ≡ set o (length o - 1) 0 → Puts o₁ 0 xs o₂ q
    → ((i : ℕ) → get_or o₂ i 0 < 2 ^ 8) → o₂ ≡ packed xs
unfolding byte_count
fill_done xs o o₁ o₂ q e h f put k =
    let l : length o₁ ≡ length o = ap length f ∙ length-set o (length o - 1) 0 in
    let z : get_or o₁ (byte_count xs - 1) 0 ≡ 0 = ap₂ (λ (s : List ℕ) (i : ℕ). get_or s (i - 1) 0) f (sym e) ∙ last-zero o in
    let g : length o ≡ (length xs + 7) / 8 = e in
    sheet_filled o₁ o₂ xs (all_index Byte 0 o₂ (λ i. k i)) (l ∙ e) put.len z (put.put (omega arith))

pub fill_room : (o o₁ : List ℕ) → length o ≤ 16777215 → o₁ ≡ set o (length o - 1) 0 → Room o₁ 0
fill_room o o₁ h f = let l : length o₁ ≡ length o = ap length f ∙ length-set o (length o - 1) 0 in record { short = omega arith; most = omega arith }

-- ---- the answers of an accepted message: o₁ is the buffer after the count
pub taken : (k : ℕ) (l : List ℕ) → k ≤ length l → k ≡ length (take k l)
taken k l h = sym (length-take-le k l h)

module _ (xs : List ℕ) (v : Verdict) (o o₁ : List ℕ) (n : ℕ) (e : n ≡ saturated (length xs)) (f : o₁ ≡ o) where
  module _ (h : 134217720 < n) where
    long : 16777215 < length (packed xs)
    unfolding byte_count
    long = let k = over n (length xs) e h in let l = packed-length xs in omega arith

    pub long_answer : (r : ReadAnswer) → r ≡ no_room v → r ≡ sheet_answer xs v o
    unfolding sheet_answer M.fits_room largest
    long_answer r er = simp (lt-leb (length (packed xs)) 16777215 long) er

    pub long_over : o₁ ≡ sheet_over xs o
    unfolding sheet_over M.fits_room largest
    long_over = simp (lt-leb (length (packed xs)) 16777215 long) f

  module _ (h : n ≤ 134217720) where
    sized : (n + 7) / 8 ≡ length (packed xs)
    unfolding byte_count
    sized = ap (λ (k : ℕ). (k + 7) / 8) (counted n (length xs) e h) ∙ sym (packed-length xs)

    few : length (packed xs) ≤ 16777215
    few = let z = sized in omega arith

    same : length o₁ ≡ length o
    same = ap length f

    module _ (l : length o₁ < (n + 7) / 8) where
      short : length o < length (packed xs)
      short = let z = sized in let y = same in omega arith

      pub short_answer : (r : ReadAnswer) → r ≡ no_room v → r ≡ sheet_answer xs v o
      unfolding sheet_answer M.fits_room largest
      short_answer r er = simp (le-leb (length (packed xs)) 16777215 few, lt-leb (length (packed xs)) (length o) short) er

      pub short_over : o₁ ≡ sheet_over xs o
      unfolding sheet_over M.fits_room largest
      short_over = simp (le-leb (length (packed xs)) 16777215 few, lt-leb (length (packed xs)) (length o) short) f

    module _ (l : (n + 7) / 8 ≤ length o₁) where
      fits : length (packed xs) ≤ length o
      fits = let z = sized in let y = same in omega arith

      pub part-size : length (take ((n + 7) / 8) o₁) ≡ byte_count xs
      part-size = length-take-le ((n + 7) / 8) o₁ l ∙ sized ∙ packed-length xs

      pub part_few : length (take ((n + 7) / 8) o₁) ≤ 16777215
      part_few = let z = length-take-le ((n + 7) / 8) o₁ l in let y = few in let x = sized in omega arith

      pub whole_answer : record { verdict = v; length = (n + 7) / 8 } ≡ sheet_answer xs v o
      unfolding sheet_answer M.fits_room largest
      whole_answer =
          simp (le-leb (length (packed xs)) 16777215 few, le-leb (length (packed xs)) (length o) fits)
          (ap (λ (k : ℕ). record { verdict = v; length = k }) sized)

      pub whole_over : (s : List ℕ) → s ≡ packed xs → s ++ drop ((n + 7) / 8) o₁ ≡ sheet_over xs o
      unfolding sheet_over M.fits_room largest
      whole_over s g =
          simp (le-leb (length (packed xs)) 16777215 few, le-leb (length (packed xs)) (length o) fits)
          (ap₂ (λ (a c : List ℕ). a ++ c) g (ap₂ (λ (k : ℕ) (c : List ℕ). drop k c) sized f))

-- ---- the answers of the reader
module _ (w : ℕ) (b m o : List ℕ) (budget : Budget) (v : Verdict) (ev : v ≡ W.verdict w b m budget) where
  module _ (h : v.number ≡ 0) where
    pub read_answer : (r : ReadAnswer) → r ≡ sheet_answer (A.root_at w (P.parse b) m) v o → r ≡ M.read_answer w b m budget o
    unfolding M.read_answer M.message_sheet E.sheet_of sheet_answer no_room A.root_at
    read_answer r er = er ∙ simp (← ev, eq-eqb _ _ h)

    pub read_over : (o₁ : List ℕ) → o₁ ≡ sheet_over (A.root_at w (P.parse b) m) o → o₁ ≡ M.read_out w b m budget o
    unfolding M.read_out M.message_sheet E.sheet_of sheet_over A.root_at
    read_over o₁ er = er ∙ simp (← ev, eq-eqb _ _ h)

  module _ (h : v.number ≡ 0 → ⊥) where
    pub refused_answer : record { verdict = v; length = 0 } ≡ M.read_answer w b m budget o
    unfolding M.read_answer
    refused_answer = simp (← ev, ne_eqb _ _ h)

    pub refused_over : o ≡ M.read_out w b m budget o
    unfolding M.read_out
    refused_over = simp (← ev, ne_eqb _ _ h)

-- ---- a schema with a table
module _ (w : ℕ) (b rows m o : List ℕ) (budget : Budget) (h : Option Indexed) (e : HeldWith w b rows h) where
  pub lent_answer : (x : Indexed) → h ≡ Some x → (r : ReadAnswer) → r ≡ M.read_answer x.schema.width (bytes_of x.schema) m budget o
      → r ≡ M.read_answer w (with_table w b rows) m budget o
  lent_answer x is r q = lent_is w b rows h e x is (λ (i : ℕ) (s : List ℕ). M.read_answer i s m budget o) r q

  pub lent_over : (x : Indexed) → h ≡ Some x → (o₁ : List ℕ) → o₁ ≡ M.read_out x.schema.width (bytes_of x.schema) m budget o
      → o₁ ≡ M.read_out w (with_table w b rows) m budget o
  lent_over x is o₁ q = lent_is w b rows h e x is (λ (i : ℕ) (s : List ℕ). M.read_out i s m budget o) o₁ q

  -- a schema that is not lawful, or another table
  module _ (is : h ≡ None) (v : Verdict) (ev : v ≡ W.early 1) where
    refused : v ≡ W.verdict w (with_table w b rows) m budget
    unfolding W.verdict
    refused = simp (lent_refused w b rows h e is) ev

    some : v.number ≡ 0 → ⊥
    unfolding W.early
    some z = let n : ◌≡◌ {A = ℕ} 1 0 = sym (ap (λ (x : Verdict). x.number) ev) ∙ z in omega arith

    pub unlawful_answer : record { verdict = v; length = 0 } ≡ M.read_answer w (with_table w b rows) m budget o
    unlawful_answer = refused_answer w (with_table w b rows) m o budget v refused some

    pub unlawful_over : o ≡ M.read_out w (with_table w b rows) m budget o
    unlawful_over = refused_over w (with_table w b rows) m o budget v refused some
