-- A table that is handed in: a row at its place.
use mathlib.Core.Path.{◌≡◌, refl, sym, ap, ap₂, ◌∙◌}
use mathlib.Core.Bool.{false, ◌&&◌, and-false}
use mathlib.Core.List.{List, ◌++◌}
use Prim.Native.Nat.{ℕ, ◌+◌, ◌<◌}
use native.Mathlib.Omega.{arith}
use lib.Dec.{eqb}
use lib.ListN.{length, get_or}
use borrow.Author.Tests.{eq-eqb, ne_eqb}
use Rattle.coding.specs.Bytes.{le, le_bytes}
use Rattle.coding.specs.Positions as Po
use Rattle.coding.specs.declared.Row.{Row}
use Rattle.laws.specs.RowBounds.{RowSmall}
use Rattle.laws.specs.SameLists.{stands, stands-append, stands-number}
use Rattle.wire.specs.Numbers.{Number}

-- four bytes, and those behind them
four-first : (m : List ℕ) (at : ℕ) (x y : List ℕ) → length x ≡ 4 → stands m at (x ++ y) ≡ (stands m at x && stands m (at + 4) y)
four-first m at x y e = stands-append m at x y ∙ ap (λ (k : ℕ). stands m at x && stands m (at + k) y) e

module _ (m : List ℕ) (bytes : (i : ℕ) → get_or m i 0 < 256) (at : ℕ) (x : Row) (small : RowSmall x) where
  row_tests : stands m at (Po.row_bytes x) ≡ (eqb (le m at 4) x.value && (eqb (le m (at + 4) 4) x.flag && eqb (le m (at + 8) 4) x.size))
  unfolding Po.row_bytes le_bytes
  row_tests =
      let e : at + 4 + 4 ≡ at + 8 = omega arith in
      let v = stands-number m bytes 4 at x.value small.value in
      let f = stands-number m bytes 4 (at + 4) x.flag small.flag in
      let z = stands-number m bytes 4 (at + 8) x.size small.size in
      four-first m at (le_bytes 4 x.value) (le_bytes 4 x.flag ++ le_bytes 4 x.size) refl
      ∙ ap₂ ◌&&◌ v
      (four-first m (at + 4) (le_bytes 4 x.flag) (le_bytes 4 x.size) refl
      ∙ ap₂ ◌&&◌ f (ap (λ (k : ℕ). stands m k (le_bytes 4 x.size)) e ∙ z))

  module _ (v : ℕ) (ev : Number m at 4 v) where
    pub other-value : (v ≡ x.value → ⊥) → false ≡ stands m at (Po.row_bytes x)
    other-value n = sym (row_tests ∙ rw (← ev.is, ne_eqb v x.value n) refl)

    module _ (same : v ≡ x.value) (f : ℕ) (ef : Number m (at + 4) 4 f) where
      pub other_flag : (f ≡ x.flag → ⊥) → false ≡ stands m at (Po.row_bytes x)
      other_flag n = sym (row_tests ∙ rw (← ef.is, ne_eqb f x.flag n) (and-false (eqb (le m at 4) x.value)))

      pub same_size : f ≡ x.flag → (z : ℕ) → Number m (at + 8) 4 z → eqb z x.size ≡ stands m at (Po.row_bytes x)
      same_size e z ez =
          sym (row_tests ∙ rw (← ev.is, ← ef.is, ← ez.is, eq-eqb v x.value same, eq-eqb f x.flag e) refl)
