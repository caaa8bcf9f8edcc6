use Rattle.schema.proofs.Access.{member-inside, record_is, record-stands}
use Rattle.schema.proofs.held.Schema.record_of.Goals as goal

pub returns : goal.returns
returns c = (search member-inside, search record_is, search record-stands)
