use Rattle.write_store.proofs.PutCases.{byte_put}
use Rattle.write_store.proofs.put_byte.Goals as goal

pub returns : goal.returns
returns c = search byte_put
