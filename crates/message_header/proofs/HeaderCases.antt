-- The length behind the magic of a header.
use mathlib.Core.Path.{◌≡◌, sym, ap, ◌∙◌, subst}
use mathlib.Core.List.{List}
use Prim.Native.Nat.{ℕ, ◌+◌, ◌/◌, ◌^◌, ◌<◌}
use native.Mathlib.Omega.{arith}
use lib.ListN.{get_or}
use lib.Pow.{high}
use Rattle.coding.specs.Bytes.{le}
use Rattle.wire.specs.Numbers.{Number, le_small, le_join}

-- six bytes are the upper ones of the eight that end with them
pub length_upper : (m : List ℕ) → ((i : ℕ) → get_or m i 0 < 256) → (at o x : ℕ) → o ≡ 6 → Number m (at + 2) 8 x
    → (x / 2 ^ 16 ≡ le m (at + 4) o) × (x / 2 ^ 16 < 2 ^ 48)
length_upper m bytes at o x eo n =
    let low : le m (at + 2) 2 < 2 ^ 16 = le_small m bytes (at + 2) 2 in
    let e : at + 2 + 2 ≡ at + 4 = omega arith in
    let z : x / 2 ^ 16 ≡ le m (at + 2 + 2) 6 = ap (λ (k : ℕ). k / 2 ^ 16) (n.is ∙ le_join m (at + 2) 2 6) ∙ high (le m (at + 2 + 2) 6) 16 low in
    let y : x / 2 ^ 16 ≡ le m (at + 4) 6 = z ∙ ap (λ (k : ℕ). le m k 6) e in
    (y ∙ ap (λ (k : ℕ). le m (at + 4) k) (sym eo), subst (λ (k : ℕ). k < 2 ^ 48) (sym y) (le_small m bytes (at + 4) 6))
