use Rattle.write_store.proofs.StoreCases.{number-stored}
use Rattle.write_store.proofs.store_whole.Goals as goal

pub returns : goal.returns
returns g c = search number-stored
