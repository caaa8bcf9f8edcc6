-- The last arm of a match that has an arm for each number below n: what reaches it is n or more.
use Prim.Native.Nat.{ℕ, zero, suc, ◌≤◌, zero-le}
use native.Mathlib.Nat.{eq-or-lt_of_le}
use mathlib.Core.Path.{◌≡◌, sym}
use mathlib.Core.Logic.{⊎_elim}

-- what such an arm is given: x is none of the numbers below n
abbrev pub NoneBelow : ℕ → ℕ → Type 0
NoneBelow x zero = Unit {0}
NoneBelow x (suc n) = NoneBelow x n × (x ≡ n → ⊥)

pub none_below : (x n : ℕ) → NoneBelow x n → n ≤ x
none_below x zero r = zero-le
none_below x (suc n) r = ⊎_elim (λ e. absurd (r.1 (sym e))) (λ l. l) (eq-or-lt_of_le (none_below x n r.0))
