use mathlib.Core.Path.{refl}
use native.Mathlib.Omega.{arith}
use Rattle.write_measure.proofs.ExtentCases.{direct_short}
use Rattle.write_measure.proofs.direct_size.Goals as goal

pub overflow_mul-result : goal.overflow_mul-result
overflow_mul-result c = omega (arith, direct_short c.args.size c.args.n c.requires.0 c.requires.1)

pub overflow_add-result : goal.overflow_add-result
overflow_add-result c = omega (arith, direct_short c.args.size c.args.n c.requires.0 c.requires.1)

pub returns : goal.returns
returns c = (refl, direct_short c.args.size c.args.n c.requires.0 c.requires.1)
