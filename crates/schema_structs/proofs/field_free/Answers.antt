use Rattle.schema_structs.proofs.Representing.{free-struct}
use Rattle.schema_structs.proofs.field_free.Goals as goal

pub returns-then-s-i : goal.returns-then-s-i
returns-then-s-i c = search free-struct
