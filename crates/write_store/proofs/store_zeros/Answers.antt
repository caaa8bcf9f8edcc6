use Rattle.write_store.proofs.StoreCases.{zeros-stored, zeros_none}
use Rattle.write_store.proofs.store_zeros.Goals as goal

pub returns-then-at-end : goal.returns-then-at-end
returns-then-at-end c = search zeros-stored

pub returns-else-at-end : goal.returns-else-at-end
returns-else-at-end c = search zeros_none
