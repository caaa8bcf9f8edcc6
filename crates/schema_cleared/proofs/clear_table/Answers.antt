-- `clear_table` meets its contract.
use native.Mathlib.Omega.{arith}
use Rattle.schema_cleared.proofs.ClearCases.{head_kept, table_done}
use Rattle.schema_cleared.proofs.clear_table.Goals as goal

pub copy-requires : goal.copy-requires
copy-requires c = (omega arith, omega arith, omega arith, search head_kept)

pub returns : goal.returns
returns c = search table_done
