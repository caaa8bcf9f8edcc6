-- The first j bytes are got.
use Rattle.std.proofs.Common.{◌≡◌, ◌*◌, take, drop}
use Rattle.coding.specs.Bits.{bits, pack}
use Rattle.bitio.proofs.get_aligned.Given as goal

abbrev pub invariant-loop-j : goal.invariant-loop-j
invariant-loop-j l = take l.j l.dst ≡ pack l.j (drop (8 * l.i) (bits l.s))
