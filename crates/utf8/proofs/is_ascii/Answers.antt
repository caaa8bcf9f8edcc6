use Rattle.std.proofs.Common.{◌<◌, arith}
use Rattle.utf8.proofs.StepLaws.{byte_of_part, part-length, none_above_more, ascii_done}
use Rattle.utf8.proofs.is_ascii.Goals as goal

pub loop-b-preserved : goal.loop-b-preserved
loop-b-preserved c = let l = c.loop-b in
    let a = c.args in
    let s = a.s.now in
    let len = part-length s a.i a.k c.requires in
    let below : l.b-index < a.k = omega arith in
    none_above_more s a.i l.b-index l.joined _ (byte_of_part s a.i a.k l.b-index below) l.invariant

pub returns : goal.returns
returns c = let a = c.args in
    let len = part-length a.s.now a.i a.k c.requires in
    ascii_done _ _ _ _ _ c.requires (omega arith) c.loop-b.invariant
