use Rattle.std.proofs.Common.{ℕ, List, ◌≡◌, ◌+◌, ◌*◌, ◌/◌, sym, ap, ap₂, ◌∙◌, arith}
use Rattle.coding.specs.Bits.{bits, bits_of}
use Rattle.laws.specs.Bits.{bits_of-mod}
use Rattle.bitio.specs.Splice.{splice}
use Rattle.bitio.proofs.Turns.{put_turn, put_done}
use Rattle.bitio.proofs.put_aligned.Goals as goal

pub loop-i-preserved : goal.loop-i-preserved
loop-i-preserved c = let l = c.loop-i in
    (omega arith, put_turn l.out l.i l.left c.args.v c.last_byte.result (omega arith) (omega arith) c.last_byte.ensures ∙ l.invariant.1)

pub returns-then-left-gt0 : goal.returns-then-left-gt0
returns-then-left-gt0 c = let l = c.loop-i in
    let a = c.args in
    let end : 8 * (a.start + a.width / 8) ≡ 8 * l.i = omega arith in
    c.put_in.ensures
    ∙ ap₂ (λ (i : ℕ) (xs : List ℕ). splice (bits l.out) i xs) end (ap (bits_of l.left) c.low.ensures ∙ bits_of-mod l.left a.v)
    ∙ l.invariant.1

pub returns-else-left-gt0 : goal.returns-else-left-gt0
returns-else-left-gt0 c = let l = c.loop-i in
    sym (put_done l.out (8 * l.i) l.left c.args.v (omega arith)) ∙ l.invariant.1
