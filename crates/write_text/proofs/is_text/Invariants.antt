-- The state after the blocks passed.
use Rattle.std.proofs.Common.{◌≡◌, ◌*◌, drop}
use Rattle.coding.specs.Bits.{bits, pack}
use Rattle.coding.specs.Utf8.{Boundary}
use Rattle.utf8.specs.Steps.{state_in, HoldsState, after_octets}
use Rattle.write_text.proofs.is_text.Given as goal

abbrev pub invariant-loop-j : goal.invariant-loop-j
invariant-loop-j l = HoldsState l.w × (state_in l.w ≡ after_octets Boundary (pack (64 * l.j) (drop l.pos (bits l.s))))
