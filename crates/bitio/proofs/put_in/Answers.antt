-- A store of the byte with the field replaced.
use Rattle.std.proofs.Common.{◌≡◌, ℕ, ◌-◌, ◌/◌, ◌%◌, get_or, ap, ◌∙◌, arith, rules}
use Rattle.bits.specs.Chunk.{merged}
use Rattle.bits.proofs.Masks.{merged-lt}
use Rattle.bitio.proofs.Fields.{put_law}
use Rattle.bitio.proofs.put_in.Goals as goal

pub overflow_cast-out : goal.overflow_cast-out
overflow_cast-out c = let a = c.args in
    let k = 8 - c.offset.result - a.n in
    let e : c.merge.result ≡ merged (get_or a.out.now (a.pos / 8) 0) a.n k a.x = c.merge.ensures ∙ ap (λ (b : ℕ). merged b a.n k a.x) c.from.ensures in
    record { fits = rw e (merged-lt (get_or a.out.now (a.pos / 8) 0) (a.pos % 8) a.n k a.x 8 (omega arith) (search rules) c.requires.x_bound) }

pub returns : goal.returns
returns c = let a = c.args in
    let k = 8 - c.offset.result - a.n in
    put_law a.out.now a.pos a.n k (omega arith) (omega arith) a.x c.merge.result c.requires.x_bound
    (c.merge.ensures ∙ ap (λ (b : ℕ). merged b a.n k a.x) c.from.ensures)
