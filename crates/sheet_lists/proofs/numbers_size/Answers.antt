use native.Mathlib.Omega.{arith}
use mathlib.Core.Path.{refl}
use Rattle.sheet_lists.proofs.Numbers.{numbers_most}
use Rattle.sheet_lists.proofs.numbers_size.Goals as goal

pub overflow_mul-result-2 : goal.overflow_mul-result-2
overflow_mul-result-2 c = omega (arith, numbers_most c.args.w c.args.n c.requires.0 c.requires.1)

pub returns : goal.returns
returns c = (refl, numbers_most c.args.w c.args.n c.requires.0 c.requires.1)
