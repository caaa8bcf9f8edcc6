use Rattle.promises.proofs.Trips.{same-verdict}
use Rattle.promises.proofs.Writing.{within_room, part_length}
use Rattle.promises.proofs.write_then_judge.Goals as goal

pub slice_bounds-judge-end : goal.slice_bounds-judge-end
slice_bounds-judge-end c = within_room _ _ _ _ _ c.write-written.ensures.value _ c.write-written.ensures.out_after

pub slice_bounds-judge-end-2 : goal.slice_bounds-judge-end-2
slice_bounds-judge-end-2 c = part_length _ _ _ _ _ c.write-written.ensures.value _ c.write-written.ensures.out_after

pub slice_bounds-judge-end-3 : goal.slice_bounds-judge-end-3
slice_bounds-judge-end-3 c = within_room _ _ _ _ _ c.write-written.ensures.value _ c.write-written.ensures.out_after

pub slice_bounds-judge-end-4 : goal.slice_bounds-judge-end-4
slice_bounds-judge-end-4 c = part_length _ _ _ _ _ c.write-written.ensures.value _ c.write-written.ensures.out_after

pub returns : goal.returns
returns c = let ew = c.write-written.ensures.value in
    let er = c.write-written.ensures.out_after in
    let by-older = c.judge-by_older.ensures in
    let by-newer = c.judge-by_newer.ensures in
    let older-known = c.shared_slice_known-1 in
    let sheet-known = c.shared_slice_known-5-1 in record { written = ew; message = er; by_older = by-older; by_newer = by-newer; same = λ appends h. same-verdict _ _ _ (λ i. (older-known.given i).fits) (λ i. (sheet-known.given i).fits) _ _ _ ew er h _ appends _ _ _ _ _ by-older by-newer }
