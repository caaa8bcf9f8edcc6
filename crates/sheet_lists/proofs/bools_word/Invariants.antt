use Rattle.std.proofs.Common.{◌≡◌, ◌*◌, ◌^◌, ◌<◌}
use Rattle.coding.specs.Bits.{bits_of}
use Rattle.sheet_lists.specs.Elements as A
use Rattle.sheet_lists.proofs.bools_word.Given as goal

abbrev pub invariant-loop-i : goal.invariant-loop-i
invariant-loop-i l = (l.v < 2 ^ (8 * l.i)) × (bits_of (8 * l.i) l.v ≡ A.bools_at l.m l.at (8 * l.i) 0)
