-- A run put into a list.
use Rattle.std.specs.Prelude.{ℕ, ◌+◌, List, ◌++◌, length, take, drop}

-- l with the elements from p on replaced by xs
unfoldable pub splice : List ℕ → ℕ → List ℕ → List ℕ
splice l p xs = take p l ++ xs ++ drop (p + length xs) l
