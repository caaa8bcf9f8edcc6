use Prim.Native.Nat.{◌-◌}
use mathlib.Core.Path.{refl, ◌∙◌}
use native.Mathlib.Omega.{arith}
use Rattle.schema_cleared.proofs.ClearCases.{first_record, record-inside, record_turn, records_done}
use Rattle.schema_cleared.proofs.clear_records.Goals as goal

pub loop-j-init : goal.loop-j-init
loop-j-init c = (omega arith, refl, search first_record)

pub clear_record-requires : goal.clear_record-requires
clear_record-requires c = (search record-inside, omega arith)

pub loop-j-preserved : goal.loop-j-preserved
loop-j-preserved c = (
  omega arith,
  c.clear_record.auto.out ∙ c.loop-j.invariant.1,
  search (record_turn, c.loop-j.invariant.2),
)

pub returns : goal.returns
returns c = search records_done
