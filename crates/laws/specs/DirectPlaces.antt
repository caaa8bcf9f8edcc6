-- Where the elements of a direct list stand: element j, of w bytes, at `start + w * j`. The walk goes from one place to the next, and a
-- path goes to the element itself.
use Rattle.std.specs.Prelude.{◌≡◌, ℕ, suc, ◌+◌, ◌*◌, ◌<◌, ◌≤◌}
use Rattle.std.proofs.Common.{mul-zero, mul-suc, mul_comm, mul-le-mul_left, arith}

pub element-first : (start w : ℕ) → start + w * 0 ≡ start
element-first start w = omega (arith, mul-zero w)

pub element_next : (start w j : ℕ) → start + w * suc j ≡ start + w + w * j
element_next start w j = omega (arith, mul-suc w j)

-- an element of a content that fits fits
pub element_fits : (start w j n limit : ℕ) → j < n → start + n * w ≤ limit → start + w * j + w ≤ limit
element_fits start w j n limit l h = omega (arith, mul-suc w j, mul_comm n w, mul-le-mul_left w l)

-- the first element fits, and so do the others behind it
pub first_fits : (start w n limit : ℕ) → start + suc n * w ≤ limit → start + w ≤ limit
first_fits start w n limit h = omega (arith, mul_comm (suc n) w, mul-suc w n)

pub others_fit : (start w n limit : ℕ) → start + suc n * w ≤ limit → start + w + n * w ≤ limit
others_fit start w n limit h = omega (arith, mul_comm (suc n) w, mul-suc w n, mul_comm n w)
