use Rattle.promises.proofs.Tables.{old_step, other_step}
use Rattle.promises.proofs.Stepping.{step_same, step_end, step_own, step_other}
use Rattle.promises.proofs.step_and_field.Goals as goal

pub returns : goal.returns
returns c = let ea = c.step-step.ensures.0 in
    let en = c.step-step.ensures.1 in
    let er = c.field-answer.ensures in
    record { step = ea; next = en; field = er; same = step_same _ _ _ _ _ _ ea en _ _ er; end = step_end _ _ _ _ _ _ ea en; own = step_own _ _ _ _ _ _ ea en; other = step_other _ _ _ _ _ _ ea en; right_table = λ table. old_step _ _ _ table _ _ _ _ ea en; other_table = λ o. other_step _ _ _ o _ _ _ _ ea en }
