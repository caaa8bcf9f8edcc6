use borrow.Author.Rules.{rules}
use Rattle.write_measure.proofs.SimpleCases.{body_boolean, body_integer, body_float, body-enum, body-struct, integer_fits, float_fits, struct_fits}
use Rattle.write_measure.proofs.flat_body.Goals as goal

pub returns-then-k-eq-KIND_BOOL : goal.returns-then-k-eq-KIND_BOOL
returns-then-k-eq-KIND_BOOL c = search body_boolean

pub any_number-requires-then-k-lt-KIND_FLOAT : goal.any_number-requires-then-k-lt-KIND_FLOAT
any_number-requires-then-k-lt-KIND_FLOAT c = search (integer_fits, rules)

pub returns-then-k-lt-KIND_FLOAT : goal.returns-then-k-lt-KIND_FLOAT
returns-then-k-lt-KIND_FLOAT c = search body_integer

pub float_number-requires : goal.float_number-requires
float_number-requires c = search (float_fits, rules)

pub returns-then-k-lt-KIND_ENUM : goal.returns-then-k-lt-KIND_ENUM
returns-then-k-lt-KIND_ENUM c = search body_float

pub returns-then-k-eq-KIND_ENUM : goal.returns-then-k-eq-KIND_ENUM
returns-then-k-eq-KIND_ENUM c = search body-enum

pub struct_at-requires : goal.struct_at-requires
struct_at-requires c = search (struct_fits, rules)

pub returns : goal.returns
returns c = search body-struct
