use Rattle.sheet_lists.proofs.Words.{words_join}
use Rattle.sheet_lists.proofs.store_numbers.Goals as goal

pub returns : goal.returns
returns g c = search words_join
