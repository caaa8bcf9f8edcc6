use Rattle.std.proofs.Common.{ℕ, rules, tests, ap, ◌∙◌, arith}
use Rattle.std.proofs.lemmas.Iterator.{YieldsList-from_range}
use Rattle.std.proofs.lemmas.Iterator.Consumers.{YieldsList-from_filter, count_from_yields_List}
use Rattle.coding.specs.Packed as P
use Rattle.coding.specs.Lawful as L
use Rattle.schema_rules.proofs.Counting.{inplaces_counted}
use Rattle.schema_rules.proofs.inplaces.Goals as goal

pub returns : goal.returns
returns c =
    let b = c.args.b.now in let at = c.args.at in let n = c.records.result in
    count_from_yields_List _ _ c.count.ensures.ran
    (YieldsList-from_filter _ (λ (j : ℕ). P.inplace_at b (P.record_place 4 at j)) (YieldsList-from_range 0 n n c.filter.ensures.source (omega arith)) c.filter.ensures.closure (λ x t q k. search (rules, tests)))
    ∙ inplaces_counted b at n ∙ ap (L.inplaces b at) c.records.ensures.0
