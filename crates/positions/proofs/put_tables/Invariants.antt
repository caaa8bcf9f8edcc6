use Rattle.schema.specs.Parsed.{bytes_of}
use Prim.Native.Nat.{◌+◌, ◌-◌, ◌≤◌}
use mathlib.Core.Path.{◌≡◌}
use lib.ListN.{length}
use lib.Seq.{sets}
use Rattle.coding.specs.Positions.{positions_of}
use Rattle.positions.specs.Rows.{tables_bytes}
use Rattle.positions.proofs.put_tables.Given as goal

abbrev pub invariant-loop-t : goal.invariant-loop-t
invariant-loop-t l = (l.t ≤ l.n) × (length l.out ≡ length l.initial.out) × (l.at + length (tables_bytes l.schema.width (bytes_of l.schema) l.t) ≡ length (positions_of l.schema.width (bytes_of l.schema))) × (sets l.initial.out 0 (positions_of l.schema.width (bytes_of l.schema)) ≡ sets l.out l.at (tables_bytes l.schema.width (bytes_of l.schema) l.t))
