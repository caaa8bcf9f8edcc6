use Rattle.bitio.proofs.Words.{zeroed_put}
use Rattle.bitio.specs.Splice.{splice}
use Rattle.coding.specs.Bits.{bits, bits_of}
use mathlib.Core.List.{◌++◌}
use Prim.Native.Nat.{ℕ, ◌-◌, ◌/◌}
use mathlib.Core.Path.{refl, ap, ◌∙◌}
use native.Mathlib.Omega.{arith}
use Rattle.bitio.proofs.put_zeroed.Goals as goal

pub returns : goal.returns
returns c = let a = c.args in
    let o = c.offset-a in
    let y = c.from in
    let x = c.behind-x in
    let s = c.put_word in
    zeroed_put a.out.now (bits s.new.out) a.pos (a.pos / 8) o.result a.width (64 - o.result - a.width) a.v y.result x.result _ refl o.ensures (omega arith) (omega arith) y.ensures x.ensures refl s.ensures
    ∙ ap (λ (k : ℕ). splice (bits a.out.now) a.pos (bits_of a.width a.v ++ bits_of (64 - k - a.width) 0)) o.ensures
