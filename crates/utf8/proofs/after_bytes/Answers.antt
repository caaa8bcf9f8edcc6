use Rattle.std.proofs.Common.{◌<◌, arith}
use Rattle.utf8.proofs.StepLaws.{byte_of_part, part-length, onward_none, onward_more}
use Rattle.utf8.proofs.after_bytes.Goals as goal

pub loop-b-init : goal.loop-b-init
loop-b-init c = search onward_none

pub loop-b-preserved : goal.loop-b-preserved
loop-b-preserved c = let l = c.loop-b in
    let a = c.args in
    let s = a.s.now in
    let len = part-length s a.i a.k c.requires.1 in
    let below : l.b-index < a.k = omega arith in
    onward_more _ _ _ _ _ _ _ _ c.requires.1 below l.invariant (byte_of_part s a.i a.k l.b-index below) c.after_byte-x.ensures
