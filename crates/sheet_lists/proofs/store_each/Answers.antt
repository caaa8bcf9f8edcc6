use Rattle.sheet_lists.proofs.Numbers.{numbers_start, numbers_turn}
use Rattle.sheet_lists.proofs.store_each.Goals as goal

pub loop-i-init : goal.loop-i-init
loop-i-init c = search numbers_start

pub loop-i-preserved : goal.loop-i-preserved
loop-i-preserved c = search numbers_turn
