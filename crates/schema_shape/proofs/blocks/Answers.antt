use native.Mathlib.Omega.{arith}
use Rattle.schema_shape.proofs.Storing.{begins, refused, goes_on, done}
use Rattle.schema_shape.proofs.blocks.Goals as goal

pub loop-i-init : goal.loop-i-init
loop-i-init c = search begins

pub returns-then-c-low : goal.returns-then-c-low
returns-then-c-low c = (search refused, tt)

pub loop-i-preserved : goal.loop-i-preserved
loop-i-preserved c = search goes_on

pub returns : goal.returns
returns c = (search done, omega arith)
