use borrow.Author.Rules.{rules}
use Rattle.write_measure.proofs.FlatCases.{float_short}
use Rattle.write_pass.proofs.EmitCases.{marked_float, marked-enum, marked_none}
use Rattle.write_pass.proofs.emit_marked_flat.Goals as goal

pub emit_marked_float-requires-clause-w_bound : goal.emit_marked_float-requires-clause-w_bound
emit_marked_float-requires-clause-w_bound c = search (float_short, rules)

pub returns-in-Float : goal.returns-in-Float
returns-in-Float c = search marked_float

pub returns-in-Enumerated : goal.returns-in-Enumerated
returns-in-Enumerated c = search marked-enum

pub returns-in_default : goal.returns-in_default
returns-in_default c = search (marked_none, c.in_default.not-Float, c.in_default.not-Enumerated)
