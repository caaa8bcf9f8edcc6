-- The blocks of a schema's records stand one behind the other.
use Rattle.std.specs.Prelude.{List}
use Prim.Native.Nat.{ℕ, zero, suc, ◌+◌, ◌*◌, ◌<◌, ◌≤◌}
use native.Mathlib.Omega.{arith}
use borrow.Author.Count.{below_more}
use Rattle.coding.specs.Packed as P

module _ (b : List ℕ) (head start : ℕ) where
  pub blocks_ge : (n : ℕ) → start ≤ P.blocks b head start n
  unfolding P.blocks P.record_place
  blocks_ge zero = omega arith
  blocks_ge (suc n) = omega (arith, blocks_ge n)

  -- a block ends where the next begins
  pub block-end : (n i : ℕ) → i < n
      → P.blocks b head start i + head + 1 + 2 * P.records b head (P.blocks b head start i) ≤ P.blocks b head start n
  unfolding P.blocks P.record_place
  block-end zero i l = absurd (omega arith)
  block-end (suc n) i l =
      below_more (λ (j : ℕ). P.blocks b head start j + head + 1 + 2 * P.records b head (P.blocks b head start j)
      ≤ P.blocks b head start n + head + 1 + 2 * P.records b head (P.blocks b head start n)) n
      (λ j m. omega (arith, block-end n j m)) (omega arith) i (omega arith)
