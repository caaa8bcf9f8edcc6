-- The elements of a list that lead to no object, as bits of the sheet.
use Rattle.std.specs.Prelude.{ℕ, zero, suc, ◌+◌, ◌*◌, ◌/◌, ◌%◌, true, List, [], ◌++◌, get_or, eqb}
use Rattle.coding.specs.Lists.{pick}
use Rattle.coding.specs.Bytes.{le, bit_at}
use Rattle.coding.specs.Bits.{bits_of}
use Rattle.sheet_values.specs.Marks.{enum_at, float_at}

-- n numbers of w bytes
unfoldable pub numbers_at : List ℕ → ℕ → ℕ → ℕ → List ℕ
numbers_at m w zero at = []
numbers_at m w (suc n) at = bits_of (8 * w) (le m at w) ++ numbers_at m w n (at + w)

-- n floats of w bytes, in which a NaN is no value
unfoldable pub floats_at : List ℕ → ℕ → ℕ → ℕ → List ℕ
floats_at m w zero at = []
floats_at m w (suc n) at = float_at true w (le m at w) ++ floats_at m w n (at + w)

-- n enums of k values
unfoldable pub enums_at : List ℕ → ℕ → ℕ → ℕ → List ℕ
enums_at m k zero at = []
enums_at m k (suc n) at = enum_at k (get_or m at 0) ++ enums_at m k n (at + 1)

-- the bits of an enum with its mark; 255 is no value
unfoldable pub enum_width : ℕ → ℕ
enum_width x = pick (eqb x 255) 2 10

-- bool i of the bytes from `start`
unfoldable pub bool_at : List ℕ → ℕ → ℕ → ℕ
bool_at m start i = bit_at m (start + i / 8) (i % 8)

-- n bools from bool i on
unfoldable pub bools_at : List ℕ → ℕ → ℕ → ℕ → List ℕ
bools_at m start zero i = []
bools_at m start (suc n) i = bits_of 1 (bool_at m start i) ++ bools_at m start n (i + 1)
