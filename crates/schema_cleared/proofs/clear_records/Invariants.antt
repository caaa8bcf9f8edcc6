-- `clear_records` meets its contract. The invariant: to store the rest from record j on is to store it from the first record.
use Prim.Native.Nat.{◌+◌, ◌-◌, ◌≤◌}
use mathlib.Core.Path.{◌≡◌}
use lib.ListN.{length}
use Rattle.coding.specs.Packed.{record_place}
use Rattle.schema_cleared.specs.Rest.{rest}
use Rattle.schema_cleared.proofs.clear_records.Given as goal

abbrev pub invariant-loop-j : goal.invariant-loop-j
invariant-loop-j l = (l.j ≤ l.n) × (length l.out ≡ length l.initial.out) × (rest l.packed.bytes.now l.out (record_place 4 l.at l.j) ≡ rest l.packed.bytes.now l.initial.out (l.at + 5))
