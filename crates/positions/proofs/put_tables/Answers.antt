use Rattle.positions.proofs.LoopCases.{tables_long, start_put, table_low, table_fits, rest_long, table_put, tables_put}
use Prim.Native.Nat.{◌-◌}
use mathlib.Core.Path.{refl}
use native.Mathlib.Omega.{arith}
use borrow.Author.Rules.{rules}
use Rattle.positions.proofs.put_tables.Goals as goal

pub loop-t-init : goal.loop-t-init
loop-t-init c = (omega arith, refl, search tables_long, search start_put)

pub put_table-at-requires : goal.put_table-at-requires
put_table-at-requires c = (search rules, search table_low, search table_fits)

pub loop-t-preserved : goal.loop-t-preserved
loop-t-preserved c = (omega arith, search rules, search rest_long, table_put _ _ _ _ c.count-n.ensures.0 c.loop-t-test.true _ _ c.put_table-at.ensures.1 _ _ _ c.loop-t.invariant.3 c.put_table-at.ensures.0)

pub returns : goal.returns
returns c = search tables_put
