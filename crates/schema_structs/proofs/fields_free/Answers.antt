use Rattle.std.proofs.Common.{ℕ, true, refl, rules}
use Rattle.coding.specs.Packed as P
use Rattle.coding.specs.Schema as Sc
use Rattle.schema.specs.Every.{each_from_all}
use Rattle.schema.specs.Representatives.{FieldFree}
use Rattle.schema_structs.proofs.Representing.{free_all}
use Rattle.schema_structs.proofs.fields_free.Goals as goal

pub returns : goal.returns
returns c =
    let S = P.parse c.args.packed.now.bytes.now in
    free_all S c.args.i c.requires.2 _
    (each_from_all (λ (j : ℕ). FieldFree S (Sc.field_of S c.args.i j) true) c.all.ensures.ran refl c.field_count.ensures.0 (λ x q k. search rules))
