-- Recursion on the struct index: what stands at a lower index is the recursion's own value there; induction on the index.
use Rattle.std.specs.Prelude.{◌≡◌, Bool}
use Rattle.std.proofs.Math.Path.{refl, subst}
use Rattle.std.proofs.Common.{sym, arith, eqb-true}
use Rattle.std.proofs.Math.Bool.{true, false}
use Prim.Native.Nat.{ℕ, zero, suc, ◌<◌}
use Rattle.std.proofs.Math.Dec.{eqb}
use Rattle.std.proofs.lemmas.Bool.{eqb-false}
use Rattle.coding.specs.Lists.{pick}
use Rattle.coding.specs.Structs.{lower, by_index}

-- below n, but not n: below the one before
less : (j n : ℕ) → j < suc n → (j ≡ n → ⊥) → j < n
less j n h e = omega arith

module _ {A : Type 0} (z : A) (f : (ℕ → A) → ℕ → A) where
  at_top : (n j : ℕ) → j ≡ n → f (lower z f n) n ≡ by_index z f j
  unfolding by_index
  at_top n j e = subst (λ (k : ℕ). f (lower z f n) n ≡ f (lower z f k) k) (sym e) refl

  pub lower_is : (n j : ℕ) → j < n → lower z f n j ≡ by_index z f j
  unfolding lower
  lower_is zero j h = absurd (omega arith)
  lower_is (suc n) j h = by (eqb j n) refl (λ k. lower_is n j k)
    where
      by : (t : Bool) → eqb j n ≡ t → (j < n → lower z f n j ≡ by_index z f j) → pick t (f (lower z f n) n) (lower z f n j) ≡ by_index z f j
      by true e g = at_top n j (eqb-true j n e)
      by false e g = g (less j n h (eqb-false j n e))

-- ---- induction: what follows at an index from the lower ones holds at every index; for one, two and three recursions
module _ {A : Type 0} (P : ℕ → A → Type 0) (z : A) (f : (ℕ → A) → ℕ → A)
    (next : (i : ℕ) (g : ℕ → A) → ((j : ℕ) → j < i → P j (g j)) → P i (f g i)) where
  below_holds : (n j : ℕ) → j < n → P j (lower z f n j)
  unfolding lower
  below_holds zero j h = absurd (omega arith)
  below_holds (suc n) j h = by (eqb j n) refl (λ k. below_holds n j k) (next n (lower z f n) (λ k l. below_holds n k l))
    where
      by : (t : Bool) → eqb j n ≡ t → (j < n → P j (lower z f n j)) → P n (f (lower z f n) n) → P j (pick t (f (lower z f n) n) (lower z f n j))
      by true e g p = subst (λ (k : ℕ). P k (f (lower z f n) n)) (sym (eqb-true j n e)) p
      by false e g p = g (less j n h (eqb-false j n e))

  pub index_holds : (i : ℕ) → P i (by_index z f i)
  unfolding by_index
  index_holds i = next i (lower z f i) (λ j h. below_holds i j h)

module _ {A B : Type 0} (P : ℕ → A → B → Type 0) (y : A) (e : (ℕ → A) → ℕ → A) (z : B) (f : (ℕ → B) → ℕ → B)
    (next : (i : ℕ) (g : ℕ → A) (h : ℕ → B) → ((j : ℕ) → j < i → P j (g j) (h j)) → P i (e g i) (f h i)) where
  below_holds₂ : (n j : ℕ) → j < n → P j (lower y e n j) (lower z f n j)
  unfolding lower
  below_holds₂ zero j h = absurd (omega arith)
  below_holds₂ (suc n) j h =
      by (eqb j n) refl (λ k. below_holds₂ n j k) (next n (lower y e n) (lower z f n) (λ k l. below_holds₂ n k l))
    where
      by : (t : Bool) → eqb j n ≡ t → (j < n → P j (lower y e n j) (lower z f n j)) → P n (e (lower y e n) n) (f (lower z f n) n)
          → P j (pick t (e (lower y e n) n) (lower y e n j)) (pick t (f (lower z f n) n) (lower z f n j))
      by true q g p = subst (λ (k : ℕ). P k (e (lower y e n) n) (f (lower z f n) n)) (sym (eqb-true j n q)) p
      by false q g p = g (less j n h (eqb-false j n q))

  pub index_holds₂ : (i : ℕ) → P i (by_index y e i) (by_index z f i)
  unfolding by_index
  index_holds₂ i = next i (lower y e i) (lower z f i) (λ j h. below_holds₂ i j h)

module _ {A B C : Type 0} (P : ℕ → A → B → C → Type 0) (x : A) (d : (ℕ → A) → ℕ → A) (y : B) (e : (ℕ → B) → ℕ → B)
    (z : C) (f : (ℕ → C) → ℕ → C)
    (next : (i : ℕ) (g : ℕ → A) (h : ℕ → B) (k : ℕ → C) → ((j : ℕ) → j < i → P j (g j) (h j) (k j)) → P i (d g i) (e h i) (f k i)) where
  below_holds₃ : (n j : ℕ) → j < n → P j (lower x d n j) (lower y e n j) (lower z f n j)
  unfolding lower
  below_holds₃ zero j h = absurd (omega arith)
  below_holds₃ (suc n) j h =
      by (eqb j n) refl (λ k. below_holds₃ n j k)
      (next n (lower x d n) (lower y e n) (lower z f n) (λ k l. below_holds₃ n k l))
    where
      by : (t : Bool) → eqb j n ≡ t → (j < n → P j (lower x d n j) (lower y e n j) (lower z f n j))
          → P n (d (lower x d n) n) (e (lower y e n) n) (f (lower z f n) n)
          → P j (pick t (d (lower x d n) n) (lower x d n j)) (pick t (e (lower y e n) n) (lower y e n j)) (pick t (f (lower z f n) n) (lower z f n j))
      by true q g p = subst (λ (k : ℕ). P k (d (lower x d n) n) (e (lower y e n) n) (f (lower z f n) n)) (sym (eqb-true j n q)) p
      by false q g p = g (less j n h (eqb-false j n q))

  pub index_holds₃ : (i : ℕ) → P i (by_index x d i) (by_index y e i) (by_index z f i)
  unfolding by_index
  index_holds₃ i = next i (lower x d i) (lower y e i) (lower z f i) (λ j h. below_holds₃ i j h)
