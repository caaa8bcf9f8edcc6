use Rattle.promises.proofs.Promised.{more_same, more_further, more-exactly}
use Rattle.promises.proofs.judged_with_more.Goals as goal

pub returns : goal.returns
returns c = let er = c.judge-by_less.ensures in
    let es = c.judge-by_more.ensures in
    record { by_less = er; by_more = es; same = more_same _ _ _ _ _ _ _ er es; further = more_further _ _ _ _ _ _ _ er es; exactly = more-exactly _ _ _ _ _ _ _ er es }
