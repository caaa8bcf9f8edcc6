-- Laws of the helpers in `coding`'s Lists: both parts of a conjunction, a choice, a test at every number, and a run.
use Rattle.std.specs.Prelude.{◌≡◌, Bool, true, ◌&&◌, List, [], ◌∷◌, map, length, get_or}
use Rattle.std.proofs.Math.Path.{refl, ap}
use Rattle.std.proofs.Common.{◌∙◌, zero-add}
use Rattle.std.proofs.Math.Bool.{false, and-false}
use Prim.Native.Nat.{ℕ, zero, suc, ◌+◌, ◌<◌, ◌≤◌}
use Rattle.std.proofs.Math.Numerals.{add-one}
use Rattle.std.proofs.Math.Nat.{add-zero}
use native.Mathlib.Omega.{arith}
use borrow.Author.Count.{below_more}
use Rattle.coding.specs.Lists.{pick, every, run}
use Rattle.laws.specs.Sound.{All}

-- ---- conjunctions and choices
pub never : {A : Type 0} → false ≡ true → A
never e = absurd (let z : ◌≡◌ {A = ℕ} 0 1 = cc in omega arith)

pub both_left : (a b : Bool) → (a && b) ≡ true → a ≡ true
both_left true b e = refl
both_left false b e = e

pub both_right : (a b : Bool) → (a && b) ≡ true → b ≡ true
both_right true b e = e
both_right false b e = never e

-- each side of a choice has P
pub pick_holds : {A : Type 0} (P : A → Type 0) (t : Bool) (x y : A) → (t ≡ true → P x) → (t ≡ false → P y) → P (pick t x y)
pick_holds P true x y f g = f refl
pick_holds P false x y f g = g refl

-- ---- a test at every number
module _ (f : ℕ → Bool) where
  pub every_none : every f 0 ≡ true
  unfolding every
  every_none = refl

  pub every_more : (i : ℕ) → every f i ≡ true → f i ≡ true → every f (i + 1) ≡ true
  unfolding every
  every_more i e h = rw add-one (simp (e, h))

  pub every_all : (n : ℕ) → ((i : ℕ) → i < n → f i ≡ true) → every f n ≡ true
  unfolding every
  every_all zero h = refl
  every_all (suc n) h = rw (every_all n (λ i l. h i (omega arith))) (h n (omega arith))

  pub every_fail : (n i : ℕ) → i < n → f i ≡ false → every f n ≡ false
  unfolding every
  every_fail zero i l h = absurd (omega arith)
  every_fail (suc n) i l h =
      below_more (λ (k : ℕ). f k ≡ false → (every f n && f n) ≡ false) n
      (λ k m g. simp (every_fail n k m g)) (λ g. simp (g, and-false)) i (omega arith) h

  pub every-at : (n i : ℕ) → every f n ≡ true → i < n → f i ≡ true
  unfolding every
  every-at zero i e l = absurd (omega arith)
  every-at (suc n) i e l =
      below_more (λ (k : ℕ). f k ≡ true) n (λ k m. every-at n k (both_left (every f n) (f n) e) m)
      (both_right (every f n) (f n) e) i (omega arith)

-- ---- a run
module _ {A : Type 0} (f : ℕ → A) where
  pub run_length : (n i : ℕ) → length (run f i n) ≡ n
  unfolding run
  run_length zero i = refl
  run_length (suc n) i = ap suc (run_length n (i + 1))

  run-from : (d : A) (n i k : ℕ) → k < n → get_or (run f i n) k d ≡ f (i + k)
  unfolding run
  run-from d zero i k l = absurd (omega arith)
  run-from d (suc n) i zero l = rw add-zero
  run-from d (suc n) i (suc k) l =
      let e : i + suc k ≡ i + 1 + k = omega arith in rw e (run-from d n (i + 1) k (omega arith))

  pub run_at : (d : A) (n k : ℕ) → k < n → get_or (run f 0 n) k d ≡ f k
  run_at d n k l = run-from d n 0 k l ∙ ap f (zero-add k)

  module _ (P : A → Type 0) where
    all_from : (n i : ℕ) → ((k : ℕ) → i ≤ k → k < i + n → P (f k)) → All P (run f i n)
    unfolding run
    all_from zero i h = tt
    all_from (suc n) i h =
        (h i (omega arith) (omega arith), all_from n (i + 1) (λ k l m. h k (omega arith) (omega arith)))

    pub run_all : (n : ℕ) → ((k : ℕ) → k < n → P (f k)) → All P (run f 0 n)
    run_all n h = all_from n 0 (λ k l m. h k (omega arith))

-- two runs that are the same at every number
runs-from : {A : Type 0} (f g : ℕ → A) (n i : ℕ) → ((k : ℕ) → i ≤ k → k < i + n → f k ≡ g k) → run f i n ≡ run g i n
unfolding run
runs-from f g zero i h = refl
runs-from f g (suc n) i h = rw (h i (omega arith) (omega arith), runs-from f g n (i + 1) (λ k l m. h k (omega arith) (omega arith)))

pub run-same : {A : Type 0} (f g : ℕ → A) (n : ℕ) → ((k : ℕ) → k < n → f k ≡ g k) → run f 0 n ≡ run g 0 n
run-same f g n h = runs-from f g n 0 (λ k l m. h k (omega arith))

-- f of each of a run is a run
maps-from : {A B : Type 0} (f : A → B) (g : ℕ → A) (n i : ℕ) → map f (run g i n) ≡ run (λ k. f (g k)) i n
unfolding run
maps-from f g zero i = refl
maps-from f g (suc n) i = ap (λ (xs : List _). f (g i) ∷ xs) (maps-from f g n (i + 1))

pub map-run : {A B : Type 0} (f : A → B) (g : ℕ → A) (n : ℕ) → map f (run g 0 n) ≡ run (λ k. f (g k)) 0 n
map-run f g n = maps-from f g n 0

-- P of each gives P at a place
pub all-at : {A : Type 0} (P : A → Type 0) (d : A) (xs : List A) (k : ℕ) → All P xs → k < length xs → P (get_or xs k d)
all-at P d [] k h l = absurd (omega arith)
all-at P d (x ∷ xs) zero h l = h.0
all-at P d (x ∷ xs) (suc k) h l = all-at P d xs k h.1 (omega arith)
