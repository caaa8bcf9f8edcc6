use Rattle.write_store.proofs.StoreCases.{copy-stored, copy_none}
use Rattle.write_store.proofs.store_copy.Goals as goal

pub returns-then-at-end : goal.returns-then-at-end
returns-then-at-end c = search copy-stored

pub returns-else-at-end : goal.returns-else-at-end
returns-else-at-end c = search copy_none
