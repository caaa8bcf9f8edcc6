-- Where the argument of a right record leads: to a table or a union of the schema.
use mathlib.Core.Path.{◌≡◌}
use mathlib.Core.Bool.{true}
use mathlib.Core.List.{List}
use Prim.Native.Nat.{ℕ, ◌<◌}
use borrow.Author.Tests.{ltb-true}
use Rattle.coding.specs.Packed as P
use Rattle.coding.specs.Lawful as L

module _ (b : List ℕ) (k a : ℕ) (e : L.argument_ok b k a ≡ true) where
  pub table_below : k ≡ 18 → a < P.table_count b
  unfolding L.argument_ok
  table_below h = ltb-true _ _ (rw h at e)

  pub union_below : k ≡ 17 → a < P.union_count b
  unfolding L.argument_ok
  union_below h = ltb-true _ _ (rw h at e)
