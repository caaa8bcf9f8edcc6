-- `clear_record` meets its contract.
use native.Mathlib.Omega.{arith}
use lib.ListN.{length-set}
use Rattle.schema_cleared.proofs.ClearCases.{record-stored}
use Rattle.schema_cleared.proofs.clear_record.Goals as goal

pub bounds-out-at-2 : goal.bounds-out-at-2
bounds-out-at-2 c = simp length-set (omega arith)

pub returns : goal.returns
returns c = search record-stored
