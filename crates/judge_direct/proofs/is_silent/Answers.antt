use Rattle.judge_direct.proofs.QuietCases.{onto_start, onto_ended, onto_done, onto_next, led_laid}
use Rattle.laws.specs.Lists.{never}
use Prim.Native.Nat.{◌-◌}
use native.Mathlib.Omega.{arith}
use borrow.Author.Rules.{rules}
use Rattle.judge_direct.proofs.is_silent.Goals as goal

pub loop-j-init : goal.loop-j-init
loop-j-init c = (search rules, search onto_start)

pub bit_byte-requires : goal.bit_byte-requires
bit_byte-requires c = c.loop-j.invariant.0.byte

pub returns-then-w-bit_byte : goal.returns-then-w-bit_byte
returns-then-w-bit_byte c = λ e. search onto_ended

pub behind_quiet-requires : goal.behind_quiet-requires
behind_quiet-requires c = (search rules, omega arith, omega arith, search rules)

pub loop-j-preserved : goal.loop-j-preserved
loop-j-preserved c = (search led_laid, search onto_next)

pub returns-in-None : goal.returns-in-None
returns-in-None c = λ e. never e

pub returns : goal.returns
returns c = λ e. search onto_done
