use Rattle.std.proofs.Common.{rules, tests, refl}
use Rattle.coding.specs.Lawful as L
use Rattle.schema.specs.Every.{every_from_all}
use Rattle.schema_lawful.proofs.id_ok.Goals as goal

pub returns : goal.returns
unfolding L.id_lawful L.id_differs
returns c = every_from_all _ c.all.ensures.ran refl refl (λ x b q k. search (rules, tests))
