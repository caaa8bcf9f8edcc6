-- Where the rows of a table stand.
use mathlib.Core.Path.{◌≡◌}
use mathlib.Core.List.{List}
use Prim.Native.Nat.{ℕ, ◌+◌, ◌-◌, ◌*◌, ◌/◌, ◌^◌, ◌<◌, ◌≤◌}
use native.Mathlib.Omega.{arith}
use lib.ListN.{length, get_or, take}
use Rattle.coding.specs.Schema as Sc
use Rattle.coding.specs.Packed as P
use Rattle.laws.specs.Rules.{lawful_counts}
use Rattle.laws.specs.PositionRows.{member_total, table-place, total_last}
use Rattle.schema.specs.Directory.{Block, Accepted}

module _ (b : List ℕ) (t p₀ p : ℕ) (l : t < P.table_count b) (first : Block b 4 (P.table_place b 0) p₀) (this : Block b 4 (P.table_place b t) p) where
  apart : p ≡ p₀ + 5 * t + 2 * member_total (take t (P.parse b).tables)
  apart = omega (arith, first.is, this.is, table-place b t (omega arith))

  pub first-before : p₀ ≤ p
  first-before = omega (arith, apart)

  pub heads-before : 5 * t ≤ p - p₀
  heads-before = omega (arith, apart)

  pub row_first : 12 * ((p - p₀ - 5 * t) / 2) ≡ 12 * member_total (take t (P.parse b).tables)
  row_first = omega (arith, apart)

  pub row_low : 12 * ((p - p₀ - 5 * t) / 2) < 2 ^ 20
  row_low = omega (arith, this.small)

module _ (b dir : List ℕ) (a : Accepted b dir) (n : ℕ) (en : n ≡ get_or b 3 0) where
  pub some-table : 1 ≤ n
  some-table = omega (arith, (lawful_counts b a.formed).some)

  pub last-table : n - 1 < P.table_count b
  last-table = omega (arith, (lawful_counts b a.formed).some)

  module _ (r k : ℕ) (er : r ≡ 12 * member_total (take (n - 1) (P.parse b).tables)) (ek : k ≡ length (Sc.table_of (P.parse b) (n - 1)).members) where
    pub size_is : r + 12 * k ≡ 12 * member_total (P.parse b).tables
    size_is = omega (arith, total_last b (n - 1) (omega (arith, some-table)))
