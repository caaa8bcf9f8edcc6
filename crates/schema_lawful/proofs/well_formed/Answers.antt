use Rattle.std.proofs.Common.{◌≡◌, true, rules, arith}
use Rattle.std.proofs.lemmas.Grind.{common_steps}
use Rattle.coding.specs.Lawful as L
use Rattle.laws.specs.LawfulSound.{formed_sound}
use Rattle.schema_lawful.specs.Parts as Pa
use Rattle.schema_lawful.proofs.well_formed.Goals as goal

pub store_representatives-requires : goal.store_representatives-requires
unfolding L.well_formed L.rules_ok Pa.rest_lawful
store_representatives-requires c =
    let formed : L.well_formed c.args.b.now ≡ true = grind (arith, common_steps) in
    (search rules, search rules, formed_sound c.args.b.now (λ i. (c.type_inv.b i).fits) formed)
