use Rattle.std.proofs.Common.{ℕ, ◌≡◌, ◌++◌, ◌+◌, ◌-◌, ◌*◌, ◌/◌, ◌%◌, ◌^◌, get_or, length, refl, ap, ◌∙◌, arith}
use Rattle.std.proofs.lemmas.Nat.{shr_le}
use Rattle.coding.specs.Bits.{bits, bits_of}
use Rattle.bitio.specs.Splice.{splice}
use Rattle.bitio.proofs.Turns.{own_start, across_turn, across_done}
use Rattle.bitio.proofs.put_bytes_across.Goals as goal

pub loop-j-init : goal.loop-j-init
loop-j-init c = let a = c.args in
    let o = c.offset-a.result in
    let out = a.out.now in
    let p : ℕ = get_or out (a.pos / 8) 0 / 2 ^ (8 - o) in
    let z : a.pos / 8 + 0 ≡ a.pos / 8 = omega arith in (
      omega (arith, shr_le (get_or out (a.pos / 8) 0) (8 - o), (c.type_inv.out (a.pos / 8)).fits),
      ap (λ (k : ℕ). splice (bits out) (8 * k) (bits_of o p ++ bits a.m.now)) z
          ∙ own_start out (bits a.m.now) a.pos (a.pos / 8) o p refl c.offset-a.ensures (omega arith) refl,
    )

pub loop-j-preserved : goal.loop-j-preserved
loop-j-preserved c = let l = c.loop-j in
    let o = c.offset-a.result in
    let a = c.args in
    let m = a.m.now in
    let small = (c.type_inv.m l.j).fits in
    (small, across_turn l.out m (a.pos / 8) o l.before (get_or m l.j 0) c.across.result l.j (omega arith) (omega arith) (omega arith) refl small c.across.ensures ∙ l.invariant.1)

pub returns : goal.returns
returns c = let l = c.loop-j in
    let o = c.offset-a.result in
    let a = c.args in
    let start = a.pos / 8 in
    let end : 8 * (start + length a.m.now) ≡ 8 * (start + l.j) = omega arith in
    c.put_in.ensures
    ∙ ap (λ (k : ℕ). splice (bits l.out) k (bits_of o c.low.result)) end
    ∙ across_done l.out a.m.now (8 * (start + l.j)) o l.before c.low.result l.j (omega arith) (c.low.ensures ∙ ap (λ (b : ℕ). b % 2 ^ o) c.from.ensures)
    ∙ l.invariant.1
