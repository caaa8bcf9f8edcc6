use Rattle.demands.specs.Positions.{made-within, made_answers}
use Rattle.promises.proofs.Tables.{table-length, made-verdict}
use Rattle.promises.proofs.table_then_judge.Goals as goal

pub slice_bounds-judge-end : goal.slice_bounds-judge-end
slice_bounds-judge-end c = made-within _ _ _ _ c.positions-table.ensures.value _ c.positions-table.ensures.out_after

pub slice_bounds-judge-end-2 : goal.slice_bounds-judge-end-2
slice_bounds-judge-end-2 c = table-length _ _ _ _ c.positions-table.ensures.value _ c.positions-table.ensures.out_after

pub returns : goal.returns
returns c = let ea = c.positions-table.ensures.value in
    let eo = c.positions-table.ensures.out_after in
    let ev = c.judge-verdict.ensures in
    record { table = ea; made = eo; verdict = ev; old = made-verdict _ _ _ _ ea _ eo _ _ _ ev; every = made_answers _ _ _ _ ea _ eo }
