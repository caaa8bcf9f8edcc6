-- Elements without a mark hold any number, so that of n of them nothing but their bits is asked for.
use Rattle.std.specs.Prelude.{◌≡◌, Bool, true, false, List, ℕ, zero, suc, ◌+◌, ◌-◌, ◌*◌, ◌≤◌, ◌<◌, leb}
use Rattle.std.proofs.Math.Path.{refl, ap}
use Rattle.std.proofs.Common.{sym, ◌∙◌, add_comm, suc-mul, arith, drop-drop, le-leb, leb-true, leb-false}
use lib.ListN.{length, drop, length-drop}
use Rattle.std.proofs.lemmas.Bool.{lt-leb}
use Rattle.coding.specs.Lists.{pick}
use Rattle.coding.specs.Bytes.{largest}
use Rattle.coding.specs.Schema.{Schema}
use Rattle.coding.specs.Sheet.{Parsed, fail, got, bind, take_number, unmarked, flat_unmarked}
use Rattle.coding.specs.declared.Flat.{Flat}
use Rattle.coding.specs.declared.Flat.TheVariants.{Boolean, Integer, Float, Enumerated, Struct}
use Rattle.coding.specs.declared.Kind.{Kind}
use Rattle.coding.specs.declared.Kind.TheVariants.{OfFlat, OfObject, OfUnion}
use Rattle.write_measure.specs.Survey.{capped, test_number, any_number, survey_flat, plain, opened, joined, Surveyor, plain_of, survey_body, survey_element, survey_elements}
use Rattle.write_measure.specs.Summed.{capped_in}
use Rattle.write_measure.specs.declared.Extent.{Extent}

-- the bits of an element without a mark
unfoldable pub flat_unmarked_bits : Flat → ℕ
flat_unmarked_bits Boolean = 1
flat_unmarked_bits (Integer s w) = 8 * w
flat_unmarked_bits (Float w) = 0
flat_unmarked_bits (Enumerated n) = 0
flat_unmarked_bits (Struct i) = 0

unfoldable pub unmarked_bits : Kind → ℕ
unmarked_bits (OfFlat k) = flat_unmarked_bits k
unmarked_bits (OfObject ob) = 0
unmarked_bits (OfUnion i) = 0

-- m bits passed over; the answer is a
unfoldable pub passed : ℕ → Extent → List ℕ → Parsed Extent
passed m a xs = pick (leb m (length xs)) (got a (drop m xs)) fail

module _ (child : Surveyor) (o : ℕ) (S : Schema) where
  false_true : false ≡ true → ⊥
  false_true e = let z : ◌≡◌ {A = ℕ} 0 1 = cc in absurd (omega arith)

  -- one element without a mark is its number, whatever it is
  unmarked-element : (k : Kind) → unmarked k ≡ true → (xs : List ℕ) → survey_element child o S k xs ≡ plain_of (test_number (unmarked_bits k) any_number xs)
  unfolding survey_element survey_body survey_flat unmarked flat_unmarked unmarked_bits flat_unmarked_bits
  unmarked-element (OfFlat Boolean) e xs = refl
  unmarked-element (OfFlat (Integer s w)) e xs = refl
  unmarked-element (OfFlat (Float w)) e xs = absurd (false_true e)
  unmarked-element (OfFlat (Enumerated n)) e xs = absurd (false_true e)
  unmarked-element (OfFlat (Struct i)) e xs = absurd (false_true e)
  unmarked-element (OfObject ob) e xs = absurd (false_true e)
  unmarked-element (OfUnion i) e xs = absurd (false_true e)

any-number : (w : ℕ) (xs : List ℕ) → plain_of (test_number w any_number xs) ≡ passed w (plain true) xs
unfolding plain_of test_number take_number bind passed
any-number w xs = by (leb w (length xs))
  where
    by : (t : Bool) → bind (bind (pick t (got (Rattle.coding.specs.Bits.value (lib.ListN.take w xs)) (drop w xs)) fail) (λ x ys. got true ys)) (λ u ys. got (plain u) ys)
        ≡ pick t (got (plain true) (drop w xs)) fail
    by true = refl
    by false = refl

-- an element without a mark adds nothing to its list's extent
joined-plain : (n z : ℕ) → joined (opened n z) (plain true) ≡ opened n z
unfolding joined opened plain
joined-plain n z =
    let c : capped 0 ≡ 0 = capped_in 0 (unfold largest in omega arith) in
    ap (λ (x : ℕ). record { writable = true; length = n; width = z; chain = x; below = x }) c

-- no bits passed over
passed_none : (a : Extent) (xs : List ℕ) (m : ℕ) → m ≡ 0 → passed m a xs ≡ got a xs
unfolding passed
passed_none a xs m e = rw e (simp (le-leb 0 (length xs) (omega arith)))

passed_then : (w : ℕ) (f g : Extent → List ℕ → Parsed Extent) (xs : List ℕ) → ((ys : List ℕ) → f (plain true) ys ≡ g (plain true) ys)
    → bind (passed w (plain true) xs) f ≡ bind (passed w (plain true) xs) g
unfolding passed bind
passed_then w f g xs h = by (leb w (length xs))
  where
    by : (t : Bool) → bind (pick t (got (plain true) (drop w xs)) fail) f ≡ bind (pick t (got (plain true) (drop w xs)) fail) g
    by true = h (drop w xs)
    by false = refl

-- w bits and m bits after them
passed_more : (w m : ℕ) (a e : Extent) (xs : List ℕ) → bind (passed w e xs) (λ x ys. passed m a ys) ≡ passed (w + m) a xs
unfolding passed bind
passed_more w m a e xs = by (leb w (length xs)) refl
  where
    by : (t : Bool) → leb w (length xs) ≡ t
        → bind (pick t (got e (drop w xs)) fail) (λ x ys. pick (leb m (length ys)) (got a (drop m ys)) fail)
        ≡ pick (leb (w + m) (length xs)) (got a (drop (w + m) xs)) fail
    by true h = tail (leb m (length (drop w xs))) refl
      where
        l : length (drop w xs) ≡ length xs - w
        l = length-drop w xs

        tail : (u : Bool) → leb m (length (drop w xs)) ≡ u
            → pick (leb m (length (drop w xs))) (got a (drop m (drop w xs))) fail ≡ pick (leb (w + m) (length xs)) (got a (drop (w + m) xs)) fail
        tail true g =
            let p = leb-true w (length xs) h in
            let q = leb-true m (length (drop w xs)) g in
            let z : w + m ≤ length xs = omega (arith, l) in
            simp (g, le-leb (w + m) (length xs) z) (ap (λ (ys : List ℕ). got a ys) (drop-drop m w xs))
        tail false g =
            let p = leb-true w (length xs) h in
            let q = leb-false m (length (drop w xs)) g in
            let z : length xs < w + m = omega (arith, l) in
            simp (g, lt-leb (w + m) (length xs) z)
    by false h =
        let p = leb-false w (length xs) h in
        let z : length xs < w + m = omega arith in
        simp (lt-leb (w + m) (length xs) z)

-- n elements without a mark are their bits passed over
pub unmarked-elements : (child : Surveyor) (o : ℕ) (S : Schema) (k : Kind) → unmarked k ≡ true → (n l z : ℕ) (xs : List ℕ)
    → survey_elements child o S k n (opened l z) xs ≡ passed (n * unmarked_bits k) (opened l z) xs
unfolding survey_elements
unmarked-elements child o S k e zero l z xs = sym (passed_none (opened l z) xs (0 * unmarked_bits k) (omega arith))
unmarked-elements child o S k e (suc n) l z xs =
    ap (λ p. bind p (λ x ys. survey_elements child o S k n (joined (opened l z) x) ys)) (unmarked-element child o S k e xs ∙ any-number (unmarked_bits k) xs)
    ∙ passed_then (unmarked_bits k) (λ x ys. survey_elements child o S k n (joined (opened l z) x) ys) (λ x ys. passed (n * unmarked_bits k) (opened l z) ys) xs
    (λ ys. ap (λ (a : Extent). survey_elements child o S k n a ys) (joined-plain l z) ∙ unmarked-elements child o S k e n l z ys)
    ∙ passed_more (unmarked_bits k) (n * unmarked_bits k) (opened l z) (plain true) xs
    ∙ ap (λ (m : ℕ). passed m (opened l z) xs) (add_comm (unmarked_bits k) (n * unmarked_bits k) ∙ sym (suc-mul n (unmarked_bits k)))
