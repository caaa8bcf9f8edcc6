-- `desk::verdict` meets its contract: with the table that is made every answer is the one by the schema alone, and 14 does not come.
use mathlib.Core.Path.{sym, ◌∙◌}
use lib.Seq.{length-take-le}
use Rattle.demands.specs.Positions.{made-within, made_answers, made_room}
use borrow.Author.Rules.{rules}
use Rattle.desk.proofs.verdict.Goals as goal

pub slice_bounds-rows-end : goal.slice_bounds-rows-end
slice_bounds-rows-end c = made-within _ _ _ _ c.positions-made.ensures.value _ c.positions-made.ensures.out_after

pub slice_bounds-judge-end : goal.slice_bounds-judge-end
slice_bounds-judge-end c = sym (length-take-le _ _ (made-within _ _ _ _ c.positions-made.ensures.value _ c.positions-made.ensures.out_after))

pub returns : goal.returns
returns c =
    let made = c.positions-made.ensures in
    c.judge.ensures
    ∙ (made_answers _ _ _ _ made.value _ made.out_after (made_room _ _ _ (λ i. (c.type_inv.schema i).fits) (search rules) _ made.value)).verdict _ _
