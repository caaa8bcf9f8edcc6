use Rattle.std.proofs.Common.{rules, tests, refl}
use Rattle.coding.specs.Lawful as L
use Rattle.schema.specs.Every.{every_from_all}
use Rattle.schema_lawful.proofs.older_table.Goals as goal

pub returns : goal.returns
unfolding L.older_table
returns c = every_from_all _ c.all.ensures.ran refl (search rules) (λ x b q k. search (rules, tests))
