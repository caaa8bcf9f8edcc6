-- Sizes of the coding in the words of the contracts: what a reader of a message may suppose of its bytes. Each number of the
-- coding stands here once for all contracts; `wire`'s constants are the code's.
use Rattle.std.specs.Prelude.{ℕ, ◌+◌, ◌*◌, ◌%◌, ◌≤◌, ◌≡◌, List, length}

-- "Message and sheet: at most 16,777,215 bytes each."
abbrev pub WithinSize : List ℕ → Type 0
WithinSize m = length m ≤ 16777215

-- o is the width of an offset under one of the two codings: four bytes, or six
abbrev pub Width : ℕ → Type 0
Width o = (4 ≤ o) × (o ≤ 6) × (o % 2 ≡ 0)

-- the message has its start
abbrev pub HasStart : ℕ → List ℕ → Type 0
HasStart o m = 4 + o ≤ length m

-- an offset or a length stands at a place; a union's choice and offset do
abbrev pub HasOffset : ℕ → List ℕ → ℕ → Type 0
HasOffset o m at = at + o ≤ length m

abbrev pub HasUnion : ℕ → List ℕ → ℕ → Type 0
HasUnion o m at = at + (2 + o) ≤ length m

-- n of them stand from a place on
abbrev pub HasOffsets : ℕ → List ℕ → ℕ → ℕ → Type 0
HasOffsets o m at n = at + o * n ≤ length m

abbrev pub HasUnions : ℕ → List ℕ → ℕ → ℕ → Type 0
HasUnions o m at n = at + (2 + o) * n ≤ length m
