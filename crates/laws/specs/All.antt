-- P of each element of a list: of joined lists, of parts of a list, and what it says index by index.
use Rattle.std.specs.Prelude.{List, [], ◌∷◌, ◌++◌, ℕ, zero, suc, get_or, take, drop, replicate}
use Rattle.laws.specs.Sound.{All}

module _ {A : Type 0} (P : A → Type 0) where
  pub all_append : (xs ys : List A) → All P xs → All P ys → All P (xs ++ ys)
  all_append [] ys p q = q
  all_append (x ∷ xs) ys p q = (p.0, all_append xs ys p.1 q)

  pub all_left : (xs ys : List A) → All P (xs ++ ys) → All P xs
  all_left [] ys p = tt
  all_left (x ∷ xs) ys p = (p.0, all_left xs ys p.1)

  pub all_right : (xs ys : List A) → All P (xs ++ ys) → All P ys
  all_right [] ys p = p
  all_right (x ∷ xs) ys p = all_right xs ys p.1

  pub all_take : (n : ℕ) (xs : List A) → All P xs → All P (take n xs)
  all_take zero xs p = tt
  all_take (suc n) [] p = tt
  all_take (suc n) (x ∷ xs) p = (p.0, all_take n xs p.1)

  pub all_drop : (n : ℕ) (xs : List A) → All P xs → All P (drop n xs)
  all_drop zero xs p = p
  all_drop (suc n) [] p = tt
  all_drop (suc n) (x ∷ xs) p = all_drop n xs p.1

  pub all_replicate : (n : ℕ) (x : A) → P x → All P (replicate n x)
  all_replicate zero x p = tt
  all_replicate (suc n) x p = (p, all_replicate n x p)

  pub all_index : (d : A) (xs : List A) → ((i : ℕ) → P (get_or xs i d)) → All P xs
  all_index d [] p = tt
  all_index d (x ∷ xs) p = (p 0, all_index d xs (λ i. p (suc i)))

  pub index_all : (d : A) (xs : List A) → P d → All P xs → (i : ℕ) → P (get_or xs i d)
  index_all d [] q p i = q
  index_all d (x ∷ xs) q p zero = p.0
  index_all d (x ∷ xs) q p (suc i) = index_all d xs q p.1 i
