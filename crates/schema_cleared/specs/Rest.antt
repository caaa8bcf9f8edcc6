-- The cleared schema, as it is stored from its first byte to its last.
use Rattle.std.specs.Prelude.{ℕ, ◌-◌, ◌<◌, ◌≤◌, List, ◌≡◌, get_or, length}
use Rattle.std.proofs.lemmas.List.Edits.{sets}
use Rattle.coding.specs.Lists.{pick, run}
use Rattle.coding.specs.Moving.{inplace_union, flag_cleared, cleared_byte}

-- the first byte of the record at a place, if it is a table member's
unfoldable pub first : List ℕ → ℕ → ℕ
first b at = pick (inplace_union b at) (flag_cleared (get_or b at 0)) (get_or b at 0)

-- the output once the bytes from place p on are stored too
unfoldable pub rest : List ℕ → List ℕ → ℕ → List ℕ
rest b out p = sets out p (run (cleared_byte b) p (length b - p))

-- from one place to another nothing is cleared
pub record Kept (b : List ℕ) (from to : ℕ) : Type 0 where
  pub at : (p : ℕ) → from ≤ p → p < to → cleared_byte b p ≡ get_or b p 0
