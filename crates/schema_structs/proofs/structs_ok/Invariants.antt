-- The structs below i are lawful and their sizes stored.
use Rattle.schema_structs.proofs.StructRules.{Sizing}
use Rattle.schema_structs.proofs.structs_ok.Given as goal

abbrev pub invariant-loop-i : goal.invariant-loop-i
invariant-loop-i l = Sizing l.b l.dir l.i
