-- A field of a byte: how far a run of bits goes in one byte, and a byte with such a run replaced.
use Rattle.std.specs.Prelude.{ℕ, ◌+◌, ◌*◌, ◌/◌, ◌%◌, ◌^◌, ◌≤◌, ◌<◌, ◌≡◌}

-- n of the `left` bits from `at` on lie in the byte of `at`; where bits are left after them, that byte ends
pub record Chunk (at left n : ℕ) : Type 0 where
  pub some : 0 < n
  pub most : n ≤ left
  pub inside : at % 8 + n ≤ 8
  pub ends : n < left → at % 8 + n ≡ 8

-- b with its n bits above the k low ones replaced by x
unfoldable pub merged : ℕ → ℕ → ℕ → ℕ → ℕ
merged b n k x = (b / 2 ^ k / 2 ^ n * 2 ^ n + x) * 2 ^ k + b % 2 ^ k
