-- The answer for a sheet's bits, once the message is accepted, and what the output holds then.
use Rattle.std.specs.Prelude.{ℕ, List, ◌++◌, length, drop}
use Rattle.coding.specs.Lists.{pick}
use Rattle.coding.specs.Bits.{packed}
use Rattle.coding.specs.Walk.{at_zero, spent_of}
use Rattle.coding.specs.Message.{fits_room}
use Rattle.coding.specs.declared.Verdict.{Verdict}
use Rattle.coding.specs.declared.ReadAnswer.{ReadAnswer}

-- refusal 14, with what the verdict says was spent
unfoldable pub no_room : Verdict → ReadAnswer
no_room v = record { verdict = at_zero 14 (spent_of v); length = 0 }

unfoldable pub sheet_answer : List ℕ → Verdict → List ℕ → ReadAnswer
sheet_answer xs v out = pick (fits_room (packed xs) out) (record { verdict = v; length = length (packed xs) }) (no_room v)

unfoldable pub sheet_over : List ℕ → List ℕ → List ℕ
sheet_over xs out = pick (fits_room (packed xs) out) (packed xs ++ drop (length (packed xs)) out) out
