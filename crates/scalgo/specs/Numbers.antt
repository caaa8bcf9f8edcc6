-- A verdict and a part of the message as the C interface stores them, and the schema that a reader goes by.
use Rattle.std.specs.Prelude.{ℕ, List, [], ◌∷◌, Option, Some, None}
use Rattle.std.specs.Borrow.{Bor}
use denote.Triple.Both.{Both}
use Rattle.coding.specs.Bytes.{width_of}
use Rattle.coding.specs.Positions.{with_table}
use Rattle.coding.specs.declared.Content.{Content}
use Rattle.coding.specs.declared.Verdict.{Verdict}

-- number, place, member, visits and content, in this order
unfoldable pub verdict_numbers : Verdict → List ℕ
verdict_numbers v = v.number ∷ v.place ∷ v.member ∷ v.visits ∷ v.content ∷ []

-- a text or bytes as a part of the message: 1, where it starts and its length; where there is none each is 0
unfoldable pub there : Option Content → ℕ
there None = 0
there (Some c) = 1

unfoldable pub start_of : Option Content → ℕ
start_of None = 0
start_of (Some c) = c.start

unfoldable pub length_of : Option Content → ℕ
length_of None = 0
length_of (Some c) = c.length

-- 02, K10: the schema that a reader goes by, of the parameters `schema` and `positions` under a coding
abbrev pub lent : {Y Z : Type 0} → ℕ → Both (Bor (List ℕ)) Y → Both (Bor (List ℕ)) Z → List ℕ
lent coding schema positions = with_table (width_of coding) schema.entry.now positions.entry.now
