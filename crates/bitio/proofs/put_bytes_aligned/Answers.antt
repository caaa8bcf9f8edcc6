use Rattle.std.proofs.Common.{◌+◌, ◌*◌, sym, ◌∙◌, arith}
use Rattle.bitio.proofs.Turns.{bytes_turn, bytes_done}
use Rattle.bitio.proofs.put_bytes_aligned.Goals as goal

pub loop-j-preserved : goal.loop-j-preserved
loop-j-preserved c = let l = c.loop-j in
    let a = c.args in
    bytes_turn l.out a.m.now a.start l.j (omega arith) (omega arith) ∙ l.invariant

pub returns : goal.returns
returns c = let l = c.loop-j in
    let a = c.args in
    sym (bytes_done l.out a.m.now (8 * (a.start + l.j)) l.j (omega arith)) ∙ l.invariant
