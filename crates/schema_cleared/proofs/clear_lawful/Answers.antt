-- `clear_lawful` meets its contract.
use native.Mathlib.Omega.{arith}
use borrow.Author.Rules.{rules}
use Rattle.schema_cleared.proofs.ClearCases.{no_room, no_room_out, some-table, start-inside, start_kept, cleared_answer, cleared_out}
use Rattle.schema_cleared.proofs.clear_lawful.Goals as goal

pub returns-then-out-n : goal.returns-then-out-n
returns-then-out-n c = record { value = search no_room; out_after = search no_room_out }

pub table_place-requires : goal.table_place-requires
table_place-requires c = search some-table

pub copy-requires : goal.copy-requires
copy-requires c = (omega arith, search start-inside, omega arith, search start_kept)

pub returns : goal.returns
returns c = record { value = search cleared_answer; out_after = search cleared_out }
