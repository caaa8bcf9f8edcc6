-- `clear_tables` meets its contract. The invariant: to store the rest from table i on is to store it from the first table.
use Prim.Native.Nat.{◌-◌, ◌≤◌}
use mathlib.Core.Path.{◌≡◌}
use lib.ListN.{length}
use Rattle.coding.specs.Packed.{table_place}
use Rattle.laws.specs.MemberPlaces.{tables_start}
use Rattle.schema_cleared.specs.Rest.{rest}
use Rattle.schema_cleared.proofs.clear_tables.Given as goal

abbrev pub invariant-loop-i : goal.invariant-loop-i
invariant-loop-i l = (l.i ≤ l.n) × (length l.out ≡ length l.initial.out) × (rest l.packed.bytes.now l.out (table_place l.packed.bytes.now l.i) ≡ rest l.packed.bytes.now l.initial.out (tables_start l.packed.bytes.now))
