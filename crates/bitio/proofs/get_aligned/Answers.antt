use Rattle.std.proofs.Common.{◌+◌, ◌*◌, get_or, refl, arith}
use Rattle.coding.specs.Bits.{pack}
use Rattle.bitio.proofs.Runs.{run_byte, bytes_turn}
use Rattle.bitio.proofs.get_aligned.Goals as goal

pub loop-j-init : goal.loop-j-init
unfolding pack
loop-j-init c = refl

pub loop-j-preserved : goal.loop-j-preserved
loop-j-preserved c = let l = c.loop-j in
    let a = c.args in
    let s = a.s.now in
    bytes_turn l.dst s (8 * a.i) l.j (get_or s (a.i + l.j) 0) (omega arith)
    (run_byte s (a.i + l.j) (8 * a.i + 8 * l.j) (omega arith) (omega arith) ((c.type_inv.s (a.i + l.j)).fits)) l.invariant
