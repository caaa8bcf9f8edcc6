-- The bits in the first byte, and those after it.
use Rattle.bitio.proofs.Turns.{put_two, put_one, put_done}
use Rattle.laws.specs.Bits.{bits-length}
use Rattle.coding.specs.Bits.{bits}
use Rattle.bitio.specs.Splice.{splice}
use Prim.Native.Nat.{◌+◌, ◌-◌, ◌*◌, ◌/◌}
use mathlib.Core.Path.{sym, ap, ◌∙◌}
use native.Mathlib.Omega.{arith}
use Rattle.bitio.proofs.put_short.Goals as goal

pub returns-then-left-gt0 : goal.returns-then-left-gt0
returns-then-left-gt0 c = let low = c.low in
    let put = c.put_in in
    let n = c.chunk-n.result in
    let z = c.chunk-n.ensures.ends (omega arith) in
    let a = c.args in
    put_two (bits a.out.now) (bits put.new.out) (bits c.put_aligned.new.out) a.pos (8 * (a.pos / 8 + 1)) n (a.width - n) a.width a.v low.result
    (omega arith) (omega arith) (omega (arith, bits-length a.out.now)) low.ensures put.ensures c.put_aligned.ensures

pub returns-else-left-gt0 : goal.returns-else-left-gt0
returns-else-left-gt0 c = let low = c.low in
    let n = c.chunk-n.result in
    let a = c.args in
    c.put_in.ensures ∙ ap (splice (bits a.out.now) a.pos) (put_one n a.width a.v low.result (omega arith) low.ensures)

pub returns-else-width-gt0 : goal.returns-else-width-gt0
returns-else-width-gt0 c = let a = c.args in
    sym (put_done a.out.now a.pos a.width a.v (omega arith))
