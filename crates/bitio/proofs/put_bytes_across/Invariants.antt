-- To put the low bits of the byte before and the rest of the bytes from here is to put all from the start.
use Rattle.std.proofs.Common.{◌≡◌, ◌++◌, ◌+◌, ◌*◌, ◌^◌, ◌<◌, drop}
use Rattle.coding.specs.Bits.{bits, bits_of}
use Rattle.bitio.specs.Splice.{splice}
use Rattle.bitio.proofs.put_bytes_across.Given as goal

abbrev pub invariant-loop-j : goal.invariant-loop-j
invariant-loop-j l = (l.before < 2 ^ 8)
    × (splice (bits l.out) (8 * (l.start + l.j)) (bits_of l.a l.before ++ bits (drop l.j l.m)) ≡ splice (bits l.initial.out) l.pos (bits l.m))
