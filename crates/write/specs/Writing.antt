-- What the code of the answers tells of a sheet as a whole.
use Rattle.std.specs.Prelude.{ℕ, ◌+◌, ◌≤◌, ◌≡◌, List, Bool, true, ◌&&◌, ltb, length}
use Rattle.coding.specs.Bytes.{largest, deepest}
use Rattle.coding.specs.Packed.{parse}
use Rattle.coding.specs.Bits.{bits, all_zero}
use Rattle.coding.specs.Sheet.{got}
use Rattle.coding.specs.Walk.{start_size}
use Rattle.coding.specs.declared.Object.TheVariants as O
use Rattle.write_measure.specs.Survey.{head_size, survey}
use Rattle.write_measure.specs.Surveyed.{Small}
use Rattle.write_measure.specs.declared.Extent.{Extent}

-- "then zero bits to the byte end, nothing more"
unfoldable pub only_end : List ℕ → Bool
only_end xs = ltb (length xs) 8 && all_zero xs

-- the length of the message whose root table takes x: the message's start, the root's header, and what it takes
unfoldable pub message_size : ℕ → Extent → ℕ
message_size o x = start_size o + (head_size o + x.width + x.chain + x.below)

-- the sheet s is lawful, and its root table takes x
pub record LawfulSheet (o : ℕ) (b s : List ℕ) (x : Extent) : Type 0 where
  pub short : length s ≤ largest
  pub rest : List ℕ
  pub sheet : survey deepest o (parse b) (O.Table (parse b).root) (bits s) ≡ got x rest
  pub end : only_end rest ≡ true
  pub small : Small x
