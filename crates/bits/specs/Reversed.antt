-- Eight bits reversed.
use Rattle.std.specs.Prelude.{ℕ, ◌+◌, ◌*◌, ◌/◌, ◌%◌, ◌^◌}

-- bit k of a number
unfoldable pub digit : ℕ → ℕ → ℕ
digit x k = x / 2 ^ k % 2

-- a number of eight bits, its lowest bit made the highest
unfoldable pub reversed : ℕ → ℕ
reversed x =
    digit x 7 + digit x 6 * 2 + (digit x 5 * 4 + digit x 4 * 8)
    + (digit x 3 * 16 + digit x 2 * 32 + (digit x 1 * 64 + digit x 0 * 128))
