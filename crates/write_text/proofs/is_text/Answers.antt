use Rattle.std.proofs.Common.{arith}
use Rattle.write_text.proofs.TextLaws.{begin_holds, begin-state, part_turn, parts_done}
use Rattle.write_text.proofs.is_text.Goals as goal

pub loop-j-init : goal.loop-j-init
loop-j-init c = (begin_holds, begin-state _)

pub loop-j-preserved : goal.loop-j-preserved
loop-j-preserved c = let p = c.after_bytes-w.ensures in
    (p.holds, part_turn _ _ _ _ c.loop-j.invariant.1 _ _ _ (omega arith) (omega arith) _ p)

pub returns : goal.returns
returns c = parts_done _ _ _ _ c.loop-j.invariant.1 _ _ _ (omega arith) (omega arith) _ c.after_bytes.ensures _ c.may_end.ensures
