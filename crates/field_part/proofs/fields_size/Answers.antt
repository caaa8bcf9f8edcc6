use native.Mathlib.Omega.{arith}
use Rattle.field_part.proofs.PartCases.{size_start, size_turn, field_sound-before}
use borrow.Author.Rules.{rules}
use Rattle.field_part.proofs.fields_size.Goals as goal

pub loop-i-init : goal.loop-i-init
loop-i-init c = (search size_start, omega arith)

pub flat_width-size-requires : goal.flat_width-size-requires
flat_width-size-requires c = search (field_sound-before, rules)

pub loop-i-preserved : goal.loop-i-preserved
loop-i-preserved c = (search size_turn, omega arith)
