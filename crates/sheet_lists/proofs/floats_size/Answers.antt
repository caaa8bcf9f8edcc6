use Rattle.std.proofs.Common.{arith}
use Rattle.sheet_lists.proofs.Elements.{flag_most, floats-counted, floats-count}
use Rattle.sheet_lists.proofs.floats_size.Goals as goal

pub loop-i-init : goal.loop-i-init
loop-i-init g c = (omega arith, floats-counted _ _ _)

pub loop-i-preserved : goal.loop-i-preserved
loop-i-preserved g c = (omega (arith, flag_most _ _ c.from-values.ensures), floats-count _ _ _ c.is_nan.ensures _ _ _ _ _ _ c.loop-i.invariant.1 c.from-w.ensures c.number.ensures c.from-values.ensures)
