use Rattle.std.proofs.Common.{◌^◌, ◌<◌, arith}
use Rattle.sheet_lists.proofs.Bools.{byte-bools, word_start, word_small, word_turn}
use Rattle.sheet_lists.proofs.bools_word.Goals as goal

pub loop-i-init : goal.loop-i-init
loop-i-init c = (omega arith, word_start _ _)

pub loop-i-preserved : goal.loop-i-preserved
loop-i-preserved c = let inv = c.loop-i.invariant in
    let few : c.loop-i.i < 8 = omega arith in
    let byte : c.from.result < 2 ^ 8 = omega arith in
    let bools = byte-bools _ _ _ _ _ c.byte.ensures c.reversed.ensures c.from.ensures in
    (word_small _ _ _ few inv.0 byte, word_turn _ _ _ few inv.0 byte _ _ inv.1 bools)
