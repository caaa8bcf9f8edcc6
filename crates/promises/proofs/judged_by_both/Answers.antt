use Rattle.promises.proofs.Promised.{both_judge}
use Rattle.promises.proofs.judged_by_both.Goals as goal

pub returns : goal.returns
returns c = let er = c.judge-by_older.ensures in
    let es = c.judge-by_newer.ensures in
    record { by_older = er; by_newer = es; accepts = both_judge _ _ _ _ _ _ _ (λ i. (c.shared_slice_known-1.given i).fits) _ _ er es }
