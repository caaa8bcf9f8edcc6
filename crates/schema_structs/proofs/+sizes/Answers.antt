use native.Mathlib.Omega.{arith}
use Rattle.schema_structs.proofs.FieldSizes.{size_5, size_5_small, size_6, rest_all, rest_more, rest_done}
use Rattle.schema_structs.proofs.+sizes.Goals as goal

pub field_size-returns-then-i-s : goal.field_size-returns-then-i-s
field_size-returns-then-i-s t c = (search size_5, search size_5_small)

pub field_size-returns-else-i-s : goal.field_size-returns-else-i-s
field_size-returns-else-i-s t c = (search size_6, omega arith)

pub struct_size-loop-j-init : goal.struct_size-loop-j-init
struct_size-loop-j-init t c = (omega arith, rest_all _ _)

pub struct_size-loop-j-preserved : goal.struct_size-loop-j-preserved
struct_size-loop-j-preserved t c = (omega arith, search rest_more)

pub struct_size-returns : goal.struct_size-returns
struct_size-returns t c = (search rest_done, omega arith)
