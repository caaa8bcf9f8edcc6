-- How many of the numbers below n pass a test: the records of a table that are in place.
use Rattle.std.proofs.Common.{◌≡◌, ℕ, zero, suc, ◌+◌, Bool, true, false, cond, List, [], ◌∷◌, length, filter, refl, ap, ◌∙◌, arith}
use Rattle.std.specs.List.{range_with_len}
use Rattle.coding.specs.Lists.{pick}
use Rattle.coding.specs.Packed as P
use Rattle.coding.specs.Lawful as L

one_more : (t : Bool) (x k : ℕ) (xs ys : List ℕ) → length xs ≡ length ys + k → length (cond t (x ∷ xs) xs) ≡ length (cond t (x ∷ ys) ys) + k
one_more true x k xs ys e = omega arith
one_more false x k xs ys e = e

one : (t : Bool) (x : ℕ) → length (cond t (x ∷ []) []) ≡ 0 + pick t 1 0
one true x = refl
one false x = refl

last : (test : ℕ → Bool) (a n k : ℕ) → a + n ≡ k → length (filter test (range_with_len a (suc n))) ≡ length (filter test (range_with_len a n)) + pick (test k) 1 0
last test a zero k e = let z : k ≡ a = omega arith in rw z (one (test a) a)
last test a (suc n) k e =
    one_more (test a) a (pick (test k) 1 0) (filter test (range_with_len (a + 1) (suc n))) (filter test (range_with_len (a + 1) n))
    (last test (a + 1) n k (omega arith))

pub inplaces_counted : (b : List ℕ) (at n : ℕ) → length (filter (λ j. P.inplace_at b (P.record_place 4 at j)) (range_with_len 0 n)) ≡ L.inplaces b at n
unfolding L.inplaces
inplaces_counted b at zero = refl
inplaces_counted b at (suc n) =
    last (λ j. P.inplace_at b (P.record_place 4 at j)) 0 n n (omega arith)
    ∙ ap (λ (k : ℕ). k + pick (P.inplace_at b (P.record_place 4 at n)) 1 0) (inplaces_counted b at n)
