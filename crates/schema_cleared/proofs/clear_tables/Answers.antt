use Prim.Native.Nat.{◌-◌}
use mathlib.Core.Path.{refl, ◌∙◌}
use native.Mathlib.Omega.{arith}
use Rattle.schema_cleared.proofs.ClearCases.{tables-begin, tables_done}
use Rattle.schema_cleared.proofs.clear_tables.Goals as goal

pub loop-i-init : goal.loop-i-init
loop-i-init c = (omega arith, refl, search tables-begin)

pub loop-i-preserved : goal.loop-i-preserved
loop-i-preserved c = (
  omega arith,
  c.clear_table.auto.out ∙ c.loop-i.invariant.1,
  c.clear_table.ensures ∙ c.loop-i.invariant.2,
)

pub returns : goal.returns
returns c = search tables_done
