use Prim.Native.Nat.{◌-◌}
use mathlib.Core.Path.{refl, ap}
use native.Mathlib.Omega.{arith}
use Rattle.positions.proofs.LoopCases.{tables_long, start-stands, table_low, table-within, behind_low, behind_long, behind-stands, table_off, tables_stand}
use borrow.Author.Rules.{rules}
use mathlib.Core.Bool.{not}
use Rattle.positions.proofs.tables_are.Goals as goal

pub loop-t-init : goal.loop-t-init
loop-t-init c = (omega arith, search tables_long, search start-stands)

pub table_is-requires : goal.table_is-requires
table_is-requires c = (search rules, search table_low, search table-within)

pub returns-then-not-table_is : goal.returns-then-not-table_is
returns-then-not-table_is c = table_off _ _ _ _ c.count-n.ensures.0 c.loop-t-test.true _ _ refl _ _ _ c.loop-t.invariant.2 c.table_is.ensures (ap not c.if-not-table_is.true)

pub overflow_add-at : goal.overflow_add-at
overflow_add-at c = let h = behind_low _ _ _ _ c.count-n.ensures.0 c.loop-t-test.true _ c.loop-t.invariant.1 _ c.member_count.ensures.0 c.requires.1 in record { fits = omega arith }

pub loop-t-preserved : goal.loop-t-preserved
loop-t-preserved c = (omega arith, search behind_long, behind-stands _ _ _ _ c.count-n.ensures.0 c.loop-t-test.true _ _ c.member_count.ensures.0 _ _ _ c.loop-t.invariant.2 c.table_is.ensures (ap not c.if-not-table_is.false))

pub returns : goal.returns
returns c = search tables_stand
