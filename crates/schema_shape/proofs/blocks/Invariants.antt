-- i blocks were gone over and their places stored.
use Rattle.schema_shape.proofs.Storing.{Storing}
use Rattle.schema_shape.proofs.blocks.Given as goal

abbrev pub invariant-loop-i : goal.invariant-loop-i
invariant-loop-i l = Storing l.b l.base l.head l.low l.high l.start l.initial.dir l.dir l.at l.i
