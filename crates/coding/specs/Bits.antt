-- Bytes as bits, "packed most significant bit first". A bit is the number 0 or 1.
use Rattle.std.specs.Prelude.{ℕ, zero, suc, ◌+◌, ◌*◌, ◌-◌, ◌/◌, ◌%◌, ◌^◌, List, [], ◌∷◌, ◌++◌, Bool, true, ◌&&◌, length, take, drop, replicate, eqb}

-- "numbers at their width": the w low bits of x, the highest of them first
unfoldable pub bits_of : ℕ → ℕ → List ℕ
bits_of zero x = []
bits_of (suc w) x = (x / 2 ^ w % 2) ∷ bits_of w x

-- the bits of a list of bytes, for "text or bytes a 32-bit length and the bytes" and for the bytes of a sheet
unfoldable pub bits : List ℕ → List ℕ
bits [] = []
bits (b ∷ bs) = bits_of 8 b ++ bits bs

-- the number that a list of bits gives, the first bit being the highest: "most significant bit first"
unfoldable pub value : List ℕ → ℕ
value [] = 0
value (x ∷ xs) = x * 2 ^ length xs + value xs

-- the first n bytes of a list of bits, for "text or bytes a 32-bit length and the bytes"
unfoldable pub pack : ℕ → List ℕ → List ℕ
pack zero xs = []
pack (suc n) xs = value (take 8 xs) ∷ pack n (drop 8 xs)

-- how many bytes a list of bits takes, the last one full or in part: "to the byte end"
unfoldable pub byte_count : List ℕ → ℕ
byte_count xs = (length xs + 7) / 8

-- those bytes: "then zero bits to the byte end, nothing more"
unfoldable pub packed : List ℕ → List ℕ
packed xs = pack (byte_count xs) (xs ++ replicate (8 * byte_count xs - length xs) 0)

-- whether each bit is 0, for "then zero bits to the byte end"
unfoldable pub all_zero : List ℕ → Bool
all_zero [] = true
all_zero (x ∷ xs) = eqb x 0 && all_zero xs
