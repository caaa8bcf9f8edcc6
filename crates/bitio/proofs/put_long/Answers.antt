use Rattle.bitio.proofs.Words.{joined_put}
use Rattle.bitio.proofs.Turns.{put_done}
use Rattle.bitio.specs.Splice.{splice}
use Rattle.coding.specs.Bits.{bits, bits_of}
use Rattle.laws.specs.Bits.{bits_of-mod}
use Prim.Native.Nat.{◌+◌, ◌-◌, ◌*◌, ◌/◌}
use mathlib.Core.Path.{refl, sym, ap, ◌∙◌}
use native.Mathlib.Omega.{arith}
use Rattle.bitio.proofs.put_long.Goals as goal

pub returns-then-left-gt0 : goal.returns-then-left-gt0
returns-then-left-gt0 c = let a = c.args in
    let o = c.offset-a in
    let y = c.from in
    let j = c.joined-w in
    let one = c.put_word in
    let low = c.low in
    let two = c.put_in in
    joined_put a.out.now (bits one.new.out) (bits two.new.out) a.pos (a.pos / 8) o.result 64 (64 - o.result) (o.result + a.width - 64) a.width
    a.v y.result j.result (8 * (a.pos / 8 + 8)) refl o.ensures (omega arith) (omega arith) (omega arith) (omega arith) y.ensures j.ensures one.ensures
    (omega arith) (two.ensures ∙ ap (splice (bits one.new.out) (8 * (a.pos / 8 + 8))) (ap (bits_of (o.result + a.width - 64)) low.ensures ∙ bits_of-mod (o.result + a.width - 64) a.v))

pub returns-else-left-gt0 : goal.returns-else-left-gt0
returns-else-left-gt0 c = let a = c.args in
    let o = c.offset-a in
    let y = c.from in
    let j = c.joined-w in
    let one = c.put_word in
    joined_put a.out.now (bits one.new.out) (bits one.new.out) a.pos (a.pos / 8) o.result 64 (64 - o.result) (o.result + a.width - 64) a.width
    a.v y.result j.result (8 * (a.pos / 8 + 8)) refl o.ensures (omega arith) (omega arith) (omega arith) (omega arith) y.ensures j.ensures one.ensures
    (omega arith) (sym (put_done one.new.out (8 * (a.pos / 8 + 8)) (o.result + a.width - 64) a.v (omega arith)))
