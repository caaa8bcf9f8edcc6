-- To put the rest of the bytes from here is to put all from the start.
use Rattle.std.proofs.Common.{◌≡◌, ◌+◌, ◌*◌, drop}
use Rattle.coding.specs.Bits.{bits}
use Rattle.bitio.specs.Splice.{splice}
use Rattle.bitio.proofs.put_bytes_aligned.Given as goal

abbrev pub invariant-loop-j : goal.invariant-loop-j
invariant-loop-j l = splice (bits l.out) (8 * (l.start + l.j)) (bits (drop l.j l.m)) ≡ splice (bits l.initial.out) (8 * l.start) (bits l.m)
