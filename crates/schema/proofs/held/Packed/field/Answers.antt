-- `schema::held::Packed::field` meets its contract.
use Rattle.schema.proofs.Access.{field-inside}
use Rattle.schema.proofs.Access.{field_is}
use Rattle.schema.proofs.held.Packed.field.Goals as goal

pub flat_at-requires : goal.flat_at-requires
flat_at-requires c = search field-inside

pub returns : goal.returns
returns c = search field_is
