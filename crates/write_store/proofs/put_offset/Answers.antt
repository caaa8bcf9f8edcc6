use Rattle.write_store.proofs.PutCases.{number_put}
use Rattle.write_store.proofs.put_offset.Goals as goal

pub returns : goal.returns
returns c = search number_put
