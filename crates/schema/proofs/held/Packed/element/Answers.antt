-- `schema::held::Packed::element` meets its contract.
use Rattle.schema.proofs.Access.{element_is}
use Rattle.schema.proofs.held.Packed.element.Goals as goal

pub returns : goal.returns
returns c = search element_is
