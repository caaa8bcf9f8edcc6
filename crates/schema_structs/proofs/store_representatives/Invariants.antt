-- The representatives of the structs below i are stored.
use Rattle.schema_structs.proofs.Representing.{RepresentedBelow}
use Rattle.schema_structs.proofs.store_representatives.Given as goal

abbrev pub invariant-loop-i : goal.invariant-loop-i
invariant-loop-i l = RepresentedBelow l.b l.dir l.i
