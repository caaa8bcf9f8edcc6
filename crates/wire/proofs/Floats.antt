-- Whether a float is a NaN, one lemma for each width.
use mathlib.Core.Path.{◌≡◌}
use mathlib.Core.Bool.{Bool}
use Prim.Native.Nat.{ℕ, ◌%◌}
use lib.Dec.{ltb}
use borrow.Author.Tests.{eq-eqb, ne_eqb}
use Rattle.coding.specs.Bytes.{is_nan}

module _ (w x : ℕ) (r : Bool) where
  pub nan_four : w ≡ 4 → r ≡ ltb 0x7F80_0000 (x % 0x8000_0000) → r ≡ is_nan w x
  unfolding is_nan
  nan_four h e = simp (eq-eqb _ _ h) e

  pub nan_eight : (w ≡ 4 → ⊥) → r ≡ ltb 0x7FF0_0000_0000_0000 (x % 0x8000_0000_0000_0000) → r ≡ is_nan w x
  unfolding is_nan
  nan_eight h e = simp (ne_eqb _ _ h) e
