use Rattle.write_store.proofs.StoreCases.{number-cut, number_none}
use Rattle.write_store.proofs.store_cut.Goals as goal

pub returns-then-at-end : goal.returns-then-at-end
returns-then-at-end c = search number-cut

pub returns-else-at-end : goal.returns-else-at-end
returns-else-at-end c = search number_none
