use Rattle.write_store.proofs.PutCases.{number_put}
use Rattle.write_store.proofs.put_number.Goals as goal

pub returns : goal.returns
returns c = search number_put
