use Rattle.schema.specs.Parsed.{bytes_of}
use Prim.Native.Nat.{◌+◌, ◌-◌, ◌*◌, ◌≤◌}
use mathlib.Core.Path.{◌≡◌}
use Rattle.laws.specs.SameLists.{stands}
use Rattle.message_layout.specs.Bounds.{Laid}
use Rattle.positions.specs.Rows.{table_bytes, rest_bytes}
use Rattle.positions.proofs.table_is.Given as goal

abbrev pub invariant-loop-j : goal.invariant-loop-j
invariant-loop-j l = (l.j ≤ l.n) × (l.pos ≡ l.at + 12 * l.j) × (Laid (4097 * l.j) l.c) × (stands l.rows l.at (table_bytes l.schema.width (bytes_of l.schema) l.t) ≡ stands l.rows l.pos (rest_bytes l.schema.width (bytes_of l.schema) l.t l.j l.c))
