-- The first j bytes are got, each a field of two neighbours.
use Rattle.std.proofs.Common.{◌≡◌, take, drop}
use Rattle.coding.specs.Bits.{bits, pack}
use Rattle.bitio.proofs.get_across.Given as goal

abbrev pub invariant-loop-j : goal.invariant-loop-j
invariant-loop-j l = take l.j l.dst ≡ pack l.j (drop l.pos (bits l.s))
