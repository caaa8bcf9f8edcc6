use Rattle.sheet_lists.proofs.Words.{words_start, words_turn}
use Rattle.sheet_lists.proofs.store_words.Goals as goal

pub loop-i-init : goal.loop-i-init
loop-i-init g c = search words_start

pub loop-i-preserved : goal.loop-i-preserved
loop-i-preserved g c = search words_turn
