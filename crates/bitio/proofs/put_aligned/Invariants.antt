-- To put what is left from here is to put all from the start.
use Rattle.std.proofs.Common.{◌≡◌, ◌+◌, ◌*◌}
use Rattle.coding.specs.Bits.{bits, bits_of}
use Rattle.bitio.specs.Splice.{splice}
use Rattle.bitio.proofs.put_aligned.Given as goal

abbrev pub invariant-loop-i : goal.invariant-loop-i
invariant-loop-i l = (8 * l.i + l.left ≡ 8 * l.start + l.width)
    × (splice (bits l.out) (8 * l.i) (bits_of l.left l.v) ≡ splice (bits l.initial.out) (8 * l.start) (bits_of l.width l.v))
