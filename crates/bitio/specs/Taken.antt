-- What is got and taken from a sheet.
use Rattle.std.specs.Prelude.{ℕ, ◌*◌, ◌^◌, ◌≤◌, ◌<◌, ◌≡◌, Option, MatchOption, List, length, take, drop}
use Rattle.coding.specs.Bits.{bits, value, pack}
use Rattle.coding.specs.Sheet.{got, fail, take_number, take_bytes}
use Rattle.bitio.specs.declared.Number.{Number}

-- x is the number of w bits of s from pos on
pub record Run (s : List ℕ) (pos w x : ℕ) : Type 0 where
  pub number : x ≡ value (take w (drop pos (bits s)))
  pub small : x < 2 ^ w

-- w bits of the sheet s are left at pos: n has their number, and where the cursor goes on
pub record NumberAt (s : List ℕ) (pos w : ℕ) (n : Number) : Type 0 where
  pub number : take_number w (drop pos (bits s)) ≡ got n.value (drop n.next (bits s))
  pub small : n.value < 2 ^ w
  pub inside : n.next ≤ 8 * length s

-- w bits of the sheet s are taken at pos, if they are left
abbrev pub TakenNumber : List ℕ → ℕ → ℕ → Option Number → Type 0
TakenNumber s pos w r = MatchOption r (take_number w (drop pos (bits s)) ≡ fail) (NumberAt s pos w)

-- n bytes of the sheet s are left at pos, and the cursor goes on at next
pub record BytesAt (s : List ℕ) (pos n next : ℕ) : Type 0 where
  pub bytes : take_bytes n (drop pos (bits s)) ≡ got (pack n (drop pos (bits s))) (drop next (bits s))
  pub inside : next ≤ 8 * length s

-- n bytes of the sheet s are taken at pos, if they are left
abbrev pub TakenBytes : List ℕ → ℕ → ℕ → Option ℕ → Type 0
TakenBytes s pos n r = MatchOption r (take_bytes n (drop pos (bits s)) ≡ fail) (BytesAt s pos n)
