-- Products with a width, for runs of values that are all as wide: a width is a variable, so `omega` is told of its multiples.
use Rattle.std.specs.Prelude.{ℕ, ◌+◌, ◌-◌, ◌*◌, ◌≤◌, ◌<◌, ◌≡◌}
use Rattle.std.proofs.Common.{ap, add-one, arith}

-- one value more
pub times_more : (w n : ℕ) → w * (n + 1) ≡ w * n + w
times_more w n = rw add-one (omega arith)

-- value j of n lies within their bytes
pub times-within : (w j n : ℕ) → j < n → w * j + w ≤ w * n
times-within w j n l =
    let e : n ≡ j + 1 + (n - (j + 1)) = omega arith in
    let p : w * n ≡ w * (j + 1 + (n - (j + 1))) = ap (λ (k : ℕ). w * k) e in
    let q : w * (j + 1 + (n - (j + 1))) ≡ w * (j + 1) + w * (n - (j + 1)) = native.Mathlib.Nat.mul-add w (j + 1) (n - (j + 1)) in
    omega (arith, p, q, times_more w j)

-- value j of n, and those behind it
pub times_left : (w j n : ℕ) → j < n → w * (n - j) ≡ w + w * (n - (j + 1))
times_left w j n l =
    let e : n - j ≡ n - (j + 1) + 1 = omega arith in
    let p : w * (n - j) ≡ w * (n - (j + 1) + 1) = ap (λ (k : ℕ). w * k) e in
    omega (arith, p, times_more w (n - (j + 1)))
