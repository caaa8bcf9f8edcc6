-- `schema::held::Schema::stored_size` meets its contract.
use Rattle.schema.proofs.Access.{size_is, size_small}
use Rattle.schema.proofs.held.Schema.stored_size.Goals as goal

pub returns : goal.returns
returns c = (search size_is, search size_small)
