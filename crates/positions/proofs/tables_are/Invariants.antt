use Rattle.schema.specs.Parsed.{bytes_of}
use Prim.Native.Nat.{◌+◌, ◌-◌, ◌≤◌}
use mathlib.Core.Path.{◌≡◌}
use lib.ListN.{length}
use Rattle.coding.specs.Positions.{positions_of}
use Rattle.laws.specs.SameLists.{stands}
use Rattle.positions.specs.Rows.{tables_bytes}
use Rattle.positions.proofs.tables_are.Given as goal

abbrev pub invariant-loop-t : goal.invariant-loop-t
invariant-loop-t l = (l.t ≤ l.n) × (l.at + length (tables_bytes l.schema.width (bytes_of l.schema) l.t) ≡ length (positions_of l.schema.width (bytes_of l.schema))) × (stands l.rows 0 (positions_of l.schema.width (bytes_of l.schema)) ≡ stands l.rows l.at (tables_bytes l.schema.width (bytes_of l.schema) l.t))
