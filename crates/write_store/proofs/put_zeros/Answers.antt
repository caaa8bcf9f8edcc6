use Rattle.write_store.proofs.PutCases.{zeros_put}
use Rattle.write_store.proofs.put_zeros.Goals as goal

pub returns : goal.returns
returns c = search zeros_put
