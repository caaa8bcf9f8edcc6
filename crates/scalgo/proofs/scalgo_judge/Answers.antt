-- `scalgo::scalgo_judge` meets its contract.
use mathlib.Core.Path.{ap, ◌∙◌}
use Rattle.coding.specs.declared.Verdict.{Verdict}
use Rattle.scalgo.specs.Numbers.{verdict_numbers}
use Rattle.scalgo.proofs.Codings.{judge_by}
use Rattle.scalgo.proofs.scalgo_judge.Goals as goal

pub returns : goal.returns
returns c = let w = c.width_of-o.ensures in
    let e = judge_by _ _ w _ _ _ _ _ c.judge-v.ensures in
    record { value = ap (λ (v : Verdict). v.number) e; verdict_after = c.store.ensures ∙ ap verdict_numbers e }
