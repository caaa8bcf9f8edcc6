-- `all` over the numbers below n, as the judge of a schema calls it, is a test at every number.
use Rattle.std.proofs.Common.{◌≡◌, ap, ◌∙◌, refl, zero-add}
use Rattle.std.specs.Prelude.{ℕ, zero, suc, ◌+◌, ◌<◌, length, Bool, true, false, ◌&&◌, Option, List, MatchOption}
use Rattle.std.specs.Bool.{MatchBool}
use Rattle.std.proofs.lemmas.Iterator.{YieldsList-from_range, cases_from_all}
use Rattle.std.proofs.lemmas.Iterator.Search.{all_from_yields_List}
use Rattle.std.proofs.lemmas.List.FromFn.{length-range_with_len, get_or-range_with_len}
use Rattle.std.specs.Fn.{Called}
use Rattle.std.specs.Iterator.{YieldsThen}
use Rattle.std.specs.List.{FoldsTo, list_all, range_with_len, AllWithin, HoldsAt}
use Rattle.std.specs.declared.ops.Range.{Range}
use Rattle.std.proofs.iter.Yields.{nat_range_steps}
use denote.Param.Members.{Mut}
use native.Mathlib.Omega.{arith}
use Rattle.coding.specs.Lists.{every}
use Rattle.laws.specs.Lists.{never}

and_assoc : (a b c : Bool) → (a && (b && c)) ≡ ((a && b) && c)
and_assoc true b c = refl
and_assoc false b c = refl

and_true : (a : Bool) → (a && true) ≡ a
and_true true = refl
and_true false = refl

module _ (test : ℕ → Bool) where
  last : (a n : ℕ) → list_all test (range_with_len a (suc n)) ≡ (list_all test (range_with_len a n) && test (a + n))
  last a zero = and_true (test a) ∙ ap test (omega arith)
  last a (suc n) =
      let e : a + 1 + n ≡ a + suc n = omega arith in
      ap (λ (x : Bool). test a && x) (last (a + 1) n ∙ ap (λ (k : ℕ). list_all test (range_with_len (a + 1) n) && test k) e)
      ∙ and_assoc (test a) (list_all test (range_with_len (a + 1) n)) (test (a + suc n))

  list_every : (n : ℕ) → list_all test (range_with_len 0 n) ≡ every test n
  unfolding every
  list_every zero = refl
  list_every (suc n) = last 0 n ∙ ap (λ (k : ℕ). list_all test (range_with_len 0 n) && test k) (omega arith) ∙ ap (λ (x : Bool). x && test n) (list_every n)

-- what `all` says of its calls: from f on each was true, but for one at the end where the answer is false
abbrev pub RanAll : {F : Type 0} → Mut F (ℕ × Unit {0}) Bool → Range ℕ → Range ℕ → F → Bool → Type 0
RanAll {F} g s u f r =
    (xs : List ℕ) × (o : Option ℕ) × (j : F) × YieldsThen nat_range_steps s xs o u × FoldsTo (λ p x q. Called g p (x, tt) true q) f xs j
    × MatchOption o (r ≡ true) (λ x. (r ≡ false) × ((h : F) × Called g j (x, tt) false h))

module _ {F : Type 0} {g : Mut F (ℕ × Unit {0}) Bool} {s u : Range ℕ} {f : F} {r : Bool} {n : ℕ} where
  -- the closure computes a test
  pub every_from_all : (test : ℕ → Bool) {m : ℕ} → RanAll g s u f r → s ≡ record { start = 0; end = n } → n ≡ m
      → ((x : ℕ) (b : Bool) (q : F) → Called g f (x, tt) b q → (q ≡ f) × (b ≡ test x)) → r ≡ every test m
  every_from_all test ran e k h =
      all_from_yields_List test u f r ran (YieldsList-from_range 0 n n e (omega arith)) h ∙ list_every test n ∙ ap (every test) k

  -- a yes of the closure says something of the number
  pub each_from_all : (Yes : ℕ → Type 0) {m : ℕ} → RanAll g s u f r → s ≡ record { start = 0; end = n } → n ≡ m
      → ((x : ℕ) (q : F) → Called g f (x, tt) true q → (q ≡ f) × Yes x) → r ≡ true → (i : ℕ) → i < m → Yes i
  each_from_all Yes {m} ran e z h = by r (cases_from_all u f r Yes (λ _. Unit {0}) ran (YieldsList-from_range 0 n n e (omega arith)) h (λ x q k. tt))
    where
      by : (t : Bool) → MatchBool t (AllWithin Yes (range_with_len 0 n) 0 (length (range_with_len 0 n))) ((k : ℕ) × (k < length (range_with_len 0 n)) × HoldsAt (λ _. Unit {0}) (range_with_len 0 n) k)
          → t ≡ true → (i : ℕ) → i < m → Yes i
      by true a q i l =
          let l : i < n = omega arith in
          rw (get_or-range_with_len 0 n i 0 l, zero-add i) at (a i 0 (omega arith) (omega (arith, length-range_with_len 0 n)))
      by false a q i l = never q
