-- Bytes of a message; past its end they are 0, so that every definition is total.
use Rattle.std.specs.Prelude.{ℕ, zero, suc, ◌+◌, ◌*◌, ◌/◌, ◌%◌, ◌^◌, List, [], ◌∷◌, Bool, true, get_or, ltb, eqb}
use Rattle.coding.specs.Lists.{pick}

-- "Numbers are little-endian; signed ones two's complement.": the number of w bytes from a place. A signed number is handed
-- on by its bits.
unfoldable pub le : List ℕ → ℕ → ℕ → ℕ
le m at zero = 0
le m at (suc w) = get_or m at 0 + 256 * le m (at + 1) w

-- "Numbers are little-endian" when they are written: the w bytes of a number, lowest first
unfoldable pub le_bytes : ℕ → ℕ → List ℕ
le_bytes zero x = []
le_bytes (suc w) x = x % 256 ∷ le_bytes w (x / 256)

-- bit k of the byte at a place, the lowest being 0: "(byte[i>>3] >> (i & 7)) & 1" with the byte at a place and the bit
-- given apart
unfoldable pub bit_at : List ℕ → ℕ → ℕ → ℕ
bit_at m at k = get_or m at 0 / 2 ^ k % 2

-- "The floating point types F32 and F64 are encoded using IEEE 754 in little endian without padding" (000): whether the
-- bits of a float of w bytes (4 or 8) are a NaN: the exponent is all ones, the fraction not 0
unfoldable pub is_nan : ℕ → ℕ → Bool
is_nan w x =
    pick (eqb w 4) (ltb 0x7F80_0000 (x % 0x8000_0000)) (ltb 0x7FF0_0000_0000_0000 (x % 0x8000_0000_0000_0000))

-- "absent floats, which are 0x7FC00000 or 0x7FF8000000000000", of w bytes (4 or 8)
unfoldable pub no_float : ℕ → ℕ
no_float w = pick (eqb w 4) 0x7FC0_0000 0x7FF8_0000_0000_0000

-- "Message and sheet: at most 16,777,215 bytes each."
unfoldable pub largest : ℕ
largest = 16777215

-- "Depth: 32 objects, the root being 1"
unfoldable pub deepest : ℕ
deepest = 32

-- ---- the width of an offset and of a length, which the definitions take as a parameter `o`. 02, K5: "The caller says which
-- coding; it is not guessed."
-- "U48 is six bytes.": the coding of 000
unfoldable pub u48 : ℕ
u48 = 6

-- 02, K5: "U32 offsets and lengths": the coding of 002
unfoldable pub u32 : ℕ
u32 = 4

-- whether it is the width of one of the two codings
unfoldable pub width_known : ℕ → Bool
width_known o = pick (eqb o u32) true (eqb o u48)

-- "The caller says which coding": by the number of bits of its offsets. The width under the coding that a number names; another
-- number names none, and 0 is no width.
unfoldable pub width_of : ℕ → ℕ
width_of n = pick (eqb n 48) u48 (pick (eqb n 32) u32 0)
