use Rattle.promises.proofs.Tables.{old_steps, other_steps}
use Rattle.promises.proofs.Stepping.{all_each, all_own, all-other}
use Rattle.promises.proofs.steps.Goals as goal

pub returns : goal.returns
returns c = let er = c.read_list.ensures.value in
    let eo = c.read_list.ensures.out_after in
    record { whole = er; output = eo; each = all_each _ _ _ _ _ _ _ _ er eo; own = all_own _ _ _ _ _ _ _ _ er eo; other = all-other _ _ _ _ _ _ _ _ er eo; right_table = λ table. old_steps _ _ _ table _ _ _ _ _ _ er eo; other_table = λ o. other_steps _ _ _ o _ _ _ _ _ _ er eo }
