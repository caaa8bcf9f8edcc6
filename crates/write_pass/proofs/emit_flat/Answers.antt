use borrow.Author.Rules.{rules}
use Rattle.write_measure.proofs.PartCases.{struct-counted}
use Rattle.write_pass.proofs.EmitCases.{integer_eight, float_eight}
use Rattle.write_pass.proofs.StructCases.{flat_boolean, flat_integer_lem, flat_float, flat-enum, flat-struct}
use Rattle.write_pass.proofs.emit_flat.Goals as goal

pub emit_number-requires-clause-w_bound : goal.emit_number-requires-clause-w_bound
emit_number-requires-clause-w_bound c = search (integer_eight, rules)

pub emit_number-requires-in-Float-clause-w_bound : goal.emit_number-requires-in-Float-clause-w_bound
emit_number-requires-in-Float-clause-w_bound c = search (float_eight, rules)

pub emit_struct-requires-clause-in_bounds : goal.emit_struct-requires-clause-in_bounds
emit_struct-requires-clause-in_bounds c = search (struct-counted, rules)

pub returns-in-Boolean : goal.returns-in-Boolean
returns-in-Boolean c = search flat_boolean

pub returns-in-Integer : goal.returns-in-Integer
returns-in-Integer c = search flat_integer_lem

pub returns-in-Float : goal.returns-in-Float
returns-in-Float c = search flat_float

pub returns-in-Enumerated : goal.returns-in-Enumerated
returns-in-Enumerated c = search flat-enum

pub returns-in-Struct : goal.returns-in-Struct
returns-in-Struct c = search flat-struct
