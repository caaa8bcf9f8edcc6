use Rattle.std.proofs.Common.{arith}
use Rattle.sheet_values.proofs.Cases.{counted_puts}
use Rattle.sheet_lists.proofs.Enums.{enums_begin, enums_turn}
use Rattle.sheet_lists.proofs.put_enums.Goals as goal

pub returns-then-out-pos : goal.returns-then-out-pos
returns-then-out-pos c = search (counted_puts, c.enums_size-size.ensures.0 c.args.k)

pub loop-i-init : goal.loop-i-init
loop-i-init c = (omega arith, search enums_begin)

pub loop-i-preserved : goal.loop-i-preserved
loop-i-preserved c = (omega arith, enums_turn _ _ _ _ _ _ _ _ _ _ _ _ _ _ c.requires.room (omega arith) c.loop-i.invariant.1 c.gather_enums-run.ensures.0 c.write-p.ensures)

pub returns-else-out-pos-2 : goal.returns-else-out-pos-2
returns-else-out-pos-2 c = enums_turn _ _ _ _ _ _ _ _ _ _ _ _ _ _ c.requires.room (omega arith) c.loop-i.invariant.1 c.gather_enums-run.ensures.0 c.write-p.ensures
