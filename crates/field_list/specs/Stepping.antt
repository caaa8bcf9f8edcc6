-- What the loop over a list's steps has still to do.
use Rattle.std.specs.Prelude.{ℕ, ◌*◌, ◌-◌, List, ◌++◌, take, drop}
use Rattle.coding.specs.Field.{step_numbers}
use Rattle.coding.specs.declared.Answer.{Answer}

-- after i of so many steps, the next one at element j: the rest of them stored too
unfoldable pub steps_left : (ℕ → Answer) → ℕ → ℕ → ℕ → ℕ → List ℕ → List ℕ
steps_left gives n j i steps out = take (4 * i) out ++ (step_numbers gives n j (steps - i) ++ drop (4 * steps) out)
