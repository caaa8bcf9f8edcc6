-- A mark and what follows it, as bits of the sheet.
use Rattle.std.specs.Prelude.{ℕ, ◌+◌, ◌*◌, Bool, ◌&&◌, List, ◌++◌, take, drop, leb, ltb, eqb}
use Rattle.coding.specs.Lists.{pick}
use Rattle.coding.specs.Bytes.{le, is_nan}
use Rattle.coding.specs.Bits.{bits_of}
use Rattle.coding.specs.Sheet as E

-- a mark and the w low bits of x
unfoldable pub marked : ℕ → ℕ → ℕ → List ℕ
marked mark w x = bits_of 2 mark ++ bits_of w x

-- an enum of n values
unfoldable pub enum_at : ℕ → ℕ → List ℕ
enum_at n x = pick (eqb x 255) (bits_of 2 0) (pick (ltb x n) (marked 1 8 x) (marked 2 8 x))

-- a float of w bytes; where it may be absent, a NaN is no value
unfoldable pub float_at : Bool → ℕ → ℕ → List ℕ
float_at none w x = pick (none && is_nan w x) (bits_of 2 0) (marked 1 (8 * w) x)

-- a number of w bytes with its mark, at byte `end` of a fixed part that has n bytes from `start`
unfoldable pub plain_at : List ℕ → ℕ → ℕ → ℕ → ℕ → List ℕ
plain_at m w start n end = pick (leb (end + w) n) (marked 1 (8 * w) (le m (start + end) w)) (bits_of 2 0)

-- a text or bytes with its mark
unfoldable pub blob_at : List ℕ → ℕ → ℕ → List ℕ
blob_at m at n = bits_of 2 1 ++ E.blob_bits (take n (drop at m))
