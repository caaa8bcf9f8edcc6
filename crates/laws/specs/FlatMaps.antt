-- Lists joined one behind the other, f x for each x: their length, and what stands at a place.
use Rattle.std.specs.Prelude.{◌≡◌, ℕ, suc, ◌+◌, ◌*◌, ◌<◌, ◌≤◌, length, get_or, take}
use Rattle.std.proofs.Math.Path.{refl, sym, ap}
use Rattle.std.proofs.Common.{◌∙◌, arith, mul-zero, length-take-le, get_or-append-add}
use mathlib.Core.List.{List, [], ◌∷◌, ◌++◌, append_assoc, flat_map}
use Rattle.std.proofs.Math.Nat.{mul-suc}
use Rattle.std.proofs.Math.ListN.{drop, length-append, get_or-append}
use Rattle.std.proofs.Math.Seq.{split_at}
use Rattle.laws.specs.Sound.{All}
use Rattle.laws.specs.All.{all_append}

module _ {A B : Type 0} (f : A → List B) where
  pub flat_map-append : (xs ys : List A) → flat_map f (xs ++ ys) ≡ flat_map f xs ++ flat_map f ys
  unfolding flat_map
  flat_map-append [] ys = refl
  flat_map-append (x ∷ xs) ys = ap (λ (l : List B). f x ++ l) (flat_map-append xs ys) ∙ sym (append_assoc (f x) (flat_map f xs) (flat_map f ys))

  -- those of element i, between those before and those behind it
  pub flat_map_split : (d : A) (xs : List A) (i : ℕ) → i < length xs
      → flat_map f xs ≡ flat_map f (take i xs) ++ (f (get_or xs i d) ++ flat_map f (drop (suc i) xs))
  unfolding flat_map
  flat_map_split d xs i l = ap (flat_map f) (split_at xs i d l) ∙ flat_map-append (take i xs) (get_or xs i d ∷ drop (suc i) xs)

  -- number j of those of element i
  pub flat_map-at : (d : A) (e : B) (xs : List A) (i j : ℕ) → i < length xs → j < length (f (get_or xs i d))
      → get_or (flat_map f xs) (length (flat_map f (take i xs)) + j) e ≡ get_or (f (get_or xs i d)) j e
  flat_map-at d e xs i j l m =
      ap (λ (ys : List B). get_or ys (length (flat_map f (take i xs)) + j) e) (flat_map_split d xs i l)
      ∙ get_or-append-add (flat_map f (take i xs)) (f (get_or xs i d) ++ flat_map f (drop (suc i) xs)) j e
      ∙ get_or-append (f (get_or xs i d)) (flat_map f (drop (suc i) xs)) e j m

  -- each as long as w
  module _ (w : ℕ) (wide : (x : A) → length (f x) ≡ w) where
    pub flat_map-length : (xs : List A) → length (flat_map f xs) ≡ w * length xs
    unfolding flat_map
    flat_map-length [] = sym (mul-zero w)
    flat_map-length (x ∷ xs) = omega (arith, length-append (f x) (flat_map f xs), wide x, flat_map-length xs, mul-suc w (length xs))

    pub flat_map-before : (xs : List A) (i : ℕ) → i ≤ length xs → length (flat_map f (take i xs)) ≡ w * i
    flat_map-before xs i l = flat_map-length (take i xs) ∙ ap (λ (k : ℕ). w * k) (length-take-le i xs l)

  -- P of each
  pub flat_map_all : (P : B → Type 0) (xs : List A) → All (λ x. All P (f x)) xs → All P (flat_map f xs)
  unfolding flat_map
  flat_map_all P [] h = tt
  flat_map_all P (x ∷ xs) h = all_append P (f x) (flat_map f xs) h.0 (flat_map_all P xs h.1)
