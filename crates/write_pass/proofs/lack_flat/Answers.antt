use borrow.Author.Rules.{rules}
use Rattle.write_pass.proofs.EmitCases.{integer_eight, float_eight, lacks_boolean, lacks_integer, lacks_float, lacks-enum, lacks-struct}
use Rattle.write_measure.proofs.PartCases.{struct-counted}
use Rattle.write_pass.proofs.lack_flat.Goals as goal

pub put_number-requires : goal.put_number-requires
put_number-requires c = search (integer_eight, rules)

pub put_number-requires-in-Float : goal.put_number-requires-in-Float
put_number-requires-in-Float c = search (float_eight, rules)

pub stored_size-requires : goal.stored_size-requires
stored_size-requires c = search (struct-counted, rules)

pub returns-in-Boolean : goal.returns-in-Boolean
returns-in-Boolean c = search lacks_boolean

pub returns-in-Integer : goal.returns-in-Integer
returns-in-Integer c = search lacks_integer

pub returns-in-Float : goal.returns-in-Float
returns-in-Float c = search lacks_float

pub returns-in-Enumerated : goal.returns-in-Enumerated
returns-in-Enumerated c = search lacks-enum

pub returns-in-Struct : goal.returns-in-Struct
returns-in-Struct c = search lacks-struct
