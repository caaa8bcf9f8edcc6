use borrow.Author.Rules.{rules}
use native.Mathlib.Omega.{arith}
use Prim.Native.Nat.{◌-◌}
use Rattle.judge_text.proofs.ElementCases.{value_there, value_fits, value_next, elements_start, elements_done, references_stopped, references_turn}
use Rattle.judge_rows.proofs.row_tables.Goals as goal

pub loop-j-init : goal.loop-j-init
loop-j-init c = (omega arith, omega arith, search elements_start)

pub offset_in-requires : goal.offset_in-requires
offset_in-requires c = search (value_there, rules)

pub returns-then-g-ne0 : goal.returns-then-g-ne0
returns-then-g-ne0 c = search references_stopped

pub overflow_add-at : goal.overflow_add-at
overflow_add-at c = record { fits = search value_fits }

pub loop-j-preserved : goal.loop-j-preserved
loop-j-preserved c = (omega arith, search value_next, search references_turn)

pub returns : goal.returns
returns c = search elements_done
