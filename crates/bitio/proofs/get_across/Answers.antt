use Rattle.std.proofs.Common.{◌+◌, ◌-◌, ◌*◌, ◌/◌, ◌^◌, get_or, refl, arith}
use Rattle.coding.specs.Bits.{pack}
use Rattle.bitio.proofs.Runs.{run-field, run-two, bytes_turn}
use Rattle.bitio.proofs.get_across.Goals as goal

pub loop-j-init : goal.loop-j-init
unfolding pack
loop-j-init c = refl

pub loop-j-preserved : goal.loop-j-preserved
loop-j-preserved c = let l = c.loop-j in
    let o = c.offset-k.result in
    let a = c.args in
    let s = a.s.now in
    let i = a.pos / 8 + l.j in
    bytes_turn l.dst s a.pos l.j c.across.result (omega arith)
    (run-field s (8 * i) (a.pos + 8 * l.j) o 8 (8 - o) 16 (get_or s i 0 * 2 ^ 8 + get_or s (i + 1) 0) c.across.result
    (omega arith) (omega arith) (omega arith) (run-two s i (omega arith) ((c.type_inv.s i).fits) ((c.type_inv.s (i + 1)).fits)) c.across.ensures) l.invariant
