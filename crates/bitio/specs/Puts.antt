-- What a writer of sheet bits does, whether or not there is room: the one relation that every counting writer ensures.
use Rattle.std.specs.Prelude.{ℕ, ◌+◌, ◌*◌, ◌≤◌, ◌≡◌, true, List, ◌++◌, length, take, drop, leb}
use Rattle.coding.specs.Lists.{pick}
use Rattle.coding.specs.Bits.{bits, all_zero}

-- a count of bits, or one more than a sheet of 16,777,215 bytes has
unfoldable pub saturated : ℕ → ℕ
saturated n = pick (leb n 134217720) n 134217721

-- a buffer no longer than a sheet may be, and a position in it or past the limit
pub record Room (o : List ℕ) (p : ℕ) : Type 0 where
  pub short : 8 * length o ≤ 134217720
  pub most : p ≤ 134217721

-- l' is l up to p, and xs from there on; what follows is as it was or made 0, so that bits which were 0 are
pub record Stored (l : List ℕ) (p : ℕ) (xs l' : List ℕ) : Type 0 where
  pub front : take (p + length xs) l' ≡ take p l ++ xs
  pub zeros : (i : ℕ) → p + length xs ≤ i → all_zero (drop i l) ≡ true → all_zero (drop i l') ≡ true

-- from p on, the bits xs: q is where they end, and where all fit they stand in the buffer
pub record Puts (o : List ℕ) (p : ℕ) (xs : List ℕ) (o' : List ℕ) (q : ℕ) : Type 0 where
  pub len : length o' ≡ length o
  pub most : q ≤ 134217721
  pub end : q ≡ saturated (p + length xs)
  pub put : p + length xs ≤ 8 * length o → Stored (bits o) p xs (bits o')
