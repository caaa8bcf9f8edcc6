use Rattle.sheet_lists.proofs.Bools.{words_start, words_turn}
use Rattle.sheet_lists.proofs.store_bools.Goals as goal

pub loop-i-init : goal.loop-i-init
loop-i-init c = search words_start

pub loop-i-preserved : goal.loop-i-preserved
loop-i-preserved c = search words_turn
