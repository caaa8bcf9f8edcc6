-- `scalgo::scalgo_field` meets its contract.
use mathlib.Core.Path.{ap, ◌∙◌}
use Rattle.coding.specs.Field.{answer_case}
use Rattle.coding.specs.declared.Case.{Case}
use Rattle.scalgo.proofs.Codings.{field_by}
use Rattle.scalgo.proofs.scalgo_field.Goals as goal

pub returns : goal.returns
returns c = let f = field_by _ _ c.width_of-o.ensures _ _ _ _ _ c.field.ensures in
    let e = c.case_of-answer.ensures ∙ ap answer_case f in
    record { value = ap (λ (x : Case). x.case) e; a_after = ap (λ (x : Case). x.a) e; b_after = ap (λ (x : Case). x.b) e; c_after = ap (λ (x : Case). x.c) e }
