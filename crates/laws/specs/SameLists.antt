-- Whether two lists are the same, as a test: of the lists, and of bytes that stand at a place of one.
use Rattle.std.specs.Prelude.{◌≡◌, refl, Bool, true, false, ◌&&◌, List, [], ◌∷◌, ◌++◌, ℕ, zero, suc, ◌+◌, ◌*◌, ◌/◌, ◌%◌, ◌^◌, ◌<◌, eqb, length, get_or}
use Rattle.std.proofs.Common.{sym, ap, ap₂, ◌∙◌, add-zero, arith, eqb-true, eq-eqb, ne_eqb}
use Rattle.std.proofs.Math.Bool.{and-false, and_assoc}
use Rattle.std.proofs.lemmas.Bool.{eqb-false}
use Rattle.coding.specs.Lists.{same}
use Rattle.coding.specs.Bytes.{le, le_bytes}
use Rattle.laws.specs.Lists.{both_left, both_right, never}

-- ---- the test
pub same_is : (xs ys : List ℕ) → same xs ys ≡ true → xs ≡ ys
unfolding same
same_is [] [] e = refl
same_is [] (y ∷ ys) e = never e
same_is (x ∷ xs) [] e = never e
same_is (x ∷ xs) (y ∷ ys) e =
    ap₂ (λ (z : ℕ) (zs : List ℕ). z ∷ zs) (eqb-true x y (both_left (eqb x y) (same xs ys) e)) (same_is xs ys (both_right (eqb x y) (same xs ys) e))

pub same_self : (xs : List ℕ) → same xs xs ≡ true
unfolding same
same_self [] = refl
same_self (x ∷ xs) = rw (eq-eqb x x refl, same_self xs)

-- lists of other lengths are not the same
pub same-longer : (xs ys : List ℕ) → (length xs ≡ length ys → ⊥) → same xs ys ≡ false
unfolding same
same-longer [] [] h = absurd (h refl)
same-longer [] (y ∷ ys) h = refl
same-longer (x ∷ xs) [] h = refl
same-longer (x ∷ xs) (y ∷ ys) h = rw (same-longer xs ys (λ e. h (ap suc e))) (and-false (eqb x y))

-- ---- bytes that stand in m from a place on
unfoldable pub stands : List ℕ → ℕ → List ℕ → Bool
stands m at [] = true
stands m at (x ∷ xs) = eqb (get_or m at 0) x && stands m (at + 1) xs

pub stands-append : (m : List ℕ) (at : ℕ) (xs ys : List ℕ) → stands m at (xs ++ ys) ≡ (stands m at xs && stands m (at + length xs) ys)
unfolding stands
stands-append m at [] ys = rw add-zero
stands-append m at (x ∷ xs) ys =
    let e : at + suc (length xs) ≡ at + 1 + length xs = omega arith in
    rw (stands-append m (at + 1) xs ys, e) (sym (and_assoc (eqb (get_or m at 0) x) (stands m (at + 1) xs) (stands m (at + 1 + length xs) ys)))

stands-behind : (y : ℕ) (m : List ℕ) (at : ℕ) (xs : List ℕ) → stands (y ∷ m) (suc at) xs ≡ stands m at xs
unfolding stands
stands-behind y m at [] = refl
stands-behind y m at (x ∷ xs) =
    let e : suc at + 1 ≡ suc (at + 1) = omega arith in
    rw e (ap (λ (t : Bool). eqb (get_or m at 0) x && t) (stands-behind y m (at + 1) xs))

-- a list is the same as another of its length that stands at its start
pub same-stands : (m xs : List ℕ) → length m ≡ length xs → same m xs ≡ stands m 0 xs
unfolding same stands
same-stands [] [] h = refl
same-stands [] (x ∷ xs) h = absurd (omega arith)
same-stands (y ∷ m) [] h = absurd (omega arith)
same-stands (y ∷ m) (x ∷ xs) h =
    ap (λ (t : Bool). eqb y x && t) (same-stands m xs (omega arith) ∙ sym (stands-behind y m 0 xs))

-- the lowest byte of a number and the rest of it
digit_tests : (a l x : ℕ) → a < 256 → (eqb a (x % 256) && eqb l (x / 256)) ≡ eqb (a + 256 * l) x
digit_tests a l x h = by (eqb a (x % 256)) refl (eqb l (x / 256)) refl
  where
    by : (s : Bool) → eqb a (x % 256) ≡ s → (t : Bool) → eqb l (x / 256) ≡ t → (s && t) ≡ eqb (a + 256 * l) x
    by true p true q =
        let u = eqb-true a (x % 256) p in
        let v = eqb-true l (x / 256) q in
        sym (eq-eqb (a + 256 * l) x (omega arith))
    by true p false q = sym (ne_eqb (a + 256 * l) x (λ e. eqb-false l (x / 256) q (omega arith)))
    by false p true q = sym (ne_eqb (a + 256 * l) x (λ e. eqb-false a (x % 256) p (omega arith)))
    by false p false q = sym (ne_eqb (a + 256 * l) x (λ e. eqb-false a (x % 256) p (omega arith)))

-- the w bytes of a number stand where that number is read
pub stands-number : (m : List ℕ) → ((i : ℕ) → get_or m i 0 < 256) → (w at x : ℕ) → x < 256 ^ w → stands m at (le_bytes w x) ≡ eqb (le m at w) x
unfolding stands le_bytes le
stands-number m bytes zero at x h = sym (eq-eqb 0 x (omega arith))
stands-number m bytes (suc w) at x h =
    ap (λ (t : Bool). eqb (get_or m at 0) (x % 256) && t) (stands-number m bytes w (at + 1) (x / 256) (omega arith))
    ∙ digit_tests (get_or m at 0) (le m (at + 1) w) x (bytes at)
