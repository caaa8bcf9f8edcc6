-- `copy` meets its contract. The invariant: to store the rest from p on is to store it from the start.
use Prim.Native.Nat.{◌-◌, ◌≤◌}
use mathlib.Core.Path.{◌≡◌}
use lib.ListN.{length}
use Rattle.schema_cleared.specs.Rest.{rest}
use Rattle.schema_cleared.proofs.copy.Given as goal

abbrev pub invariant-loop-p : goal.invariant-loop-p
invariant-loop-p l = (l.from ≤ l.p) × (l.p ≤ l.to) × (length l.out ≡ length l.initial.out) × (rest l.b l.out l.p ≡ rest l.b l.initial.out l.from)
