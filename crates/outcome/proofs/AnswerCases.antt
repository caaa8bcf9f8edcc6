-- A walker's answer: a refusal, and whether the walk goes on or is stopped.
use Rattle.std.specs.Prelude.{Ok, Err}
use mathlib.Core.Path.{◌≡◌, ap}
use Prim.Native.Nat.{ℕ, ◌+◌, ◌-◌}
use native.Mathlib.Omega.{arith}
use borrow.Author.Tests.{eq-eqb, ne_eqb}
use Rattle.coding.specs.Walk as W
use Rattle.coding.specs.Walk.{Walked}
use Rattle.coding.specs.declared.Spent.{Spent}
use Rattle.outcome.specs.declared.Outcome.{Outcome}
use Rattle.outcome.specs.Answers.{walked_of, left_of}

module _ (k n at j v c : ℕ) (e : k ≡ n) where
  pub part_refuses : walked_of (record { code = k + 1; place = at; member = j; visits = v; content = c }) ≡ W.refuse_part n at j (W.spending v c)
  unfolding walked_of W.refuse_part
  part_refuses =
      let z : (k + 1 ≡ 0 → ⊥) = λ q. absurd (omega arith) in
      let y : k + 1 - 1 ≡ n = omega arith in
      simp (ne_eqb (k + 1) 0 z) (ap (λ (x : ℕ). Err (W.part_refusal x at j, W.spending v c)) y)

module _ (w : Outcome) where
  pub is_going : w.code ≡ 0 → walked_of w ≡ Ok (left_of w)
  unfolding walked_of
  is_going e = simp (eq-eqb _ _ e)

  module _ (next : Spent → Walked) where
    pub goes : w.code ≡ 0 → W.and_then (walked_of w) next ≡ next (left_of w)
    unfolding W.and_then walked_of
    goes e = simp (eq-eqb _ _ e)

    pub stops : (w.code ≡ 0 → ⊥) → W.and_then (walked_of w) next ≡ walked_of w
    unfolding W.and_then walked_of
    stops f = simp (ne_eqb _ _ f)
