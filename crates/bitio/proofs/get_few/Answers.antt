use Rattle.std.proofs.Common.{◌-◌, ◌*◌, length, arith}
use Rattle.bitio.proofs.Runs.{run_none, run_next, run-field}
use Rattle.bitio.proofs.get_few.Goals as goal

pub loop-b-init : goal.loop-b-init
loop-b-init c = search run_none

pub loop-b-preserved : goal.loop-b-preserved
loop-b-preserved c = let l = c.loop-b in
    let s = c.args.s.now in
    run_next s l.b-index l.v c.from.result (omega arith) (omega arith) l.invariant c.from.ensures ((c.type_inv.s l.b-index).fits)

pub returns : goal.returns
returns c = let l = c.loop-b in
    let a = c.args in
    let s = a.s.now in
    run-field s 0 a.pos a.pos a.width (8 * length s - a.pos - a.width) (8 * l.b-index) l.v c.low.result (omega arith) (omega arith) (omega arith) l.invariant c.low.ensures
