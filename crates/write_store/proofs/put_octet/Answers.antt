use Rattle.write_store.proofs.OctetCases.{octet_put}
use Rattle.write_store.proofs.put_octet.Goals as goal

pub returns : goal.returns
returns c = search octet_put
