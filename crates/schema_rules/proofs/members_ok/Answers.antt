use Rattle.std.proofs.Common.{rules, tests, refl}
use Rattle.coding.specs.Lawful as L
use Rattle.schema.specs.Every.{every_from_all}
use Rattle.schema_rules.proofs.members_ok.Goals as goal

pub returns : goal.returns
unfolding L.records_ok L.first_ok
returns c = every_from_all _ c.all.ensures.ran refl c.records.ensures.0 (λ x b q k. search (rules, tests))
