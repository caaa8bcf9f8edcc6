-- The measure falls with the struct index.
use Rattle.coding.specs.Structs as S
use Rattle.coding.specs.Packed as P
use mathlib.Core.Path.{◌≡◌}
use Rattle.schema_structs.proofs.FieldSizes.{rest}
use Prim.Native.Nat.{◌+◌, ◌*◌, ◌≤◌}
use Rattle.schema_structs.proofs.+sizes.Given as goal

abbrev pub decreases-field_size : goal.decreases-field_size
decreases-field_size l = 2 * l.s

abbrev pub decreases-struct_size : goal.decreases-struct_size
decreases-struct_size l = 2 * l.s + 1

abbrev pub invariant-struct_size-loop-j : goal.invariant-struct_size-loop-j
invariant-struct_size-loop-j l = (l.size ≤ 4096 * l.j) × (l.size + rest l.packed.bytes.now l.s l.j ≡ S.struct_size (P.parse l.packed.bytes.now) l.s)
