-- The bytes from i on are read.
use Rattle.std.proofs.Common.{◌+◌, ◌-◌}
use Rattle.wire.specs.Numbers.{Number}
use Rattle.wire.proofs.bytes_of.Given as goal

abbrev pub invariant-loop-i : goal.invariant-loop-i
invariant-loop-i l = Number l.m (l.at + l.i) (l.w - l.i) l.v
