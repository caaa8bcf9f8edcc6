-- A field of a word.
use Rattle.std.proofs.Common.{◌+◌, ◌-◌, ◌*◌, arith}
use Rattle.bitio.proofs.Runs.{run_none, run-field}
use Rattle.bitio.proofs.get_short.Goals as goal

pub returns-then-width-eq0 : goal.returns-then-width-eq0
returns-then-width-eq0 c = let a = c.args in
    run_none a.s.now a.pos a.width (omega arith)

pub returns : goal.returns
returns c = let a = c.args in
    let i = c.min-i.result in
    run-field a.s.now (8 * i) a.pos (a.pos - 8 * i) a.width (8 * (i + 8) - a.pos - a.width) 64 c.word.result c.low.result
    (omega arith) (omega arith) (omega arith) c.word.ensures c.low.ensures
