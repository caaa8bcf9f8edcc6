-- The widths of flat values and kinds: the ways out, and their bounds.
use mathlib.Core.Path.{◌≡◌, subst}
use mathlib.Core.List.{List}
use Prim.Native.Nat.{ℕ, ◌<◌}
use native.Mathlib.Omega.{arith}
use lib.ListN.{length}
use Rattle.coding.specs.Structs.{struct_size}
use Rattle.coding.specs.Packed as P
use Rattle.coding.specs.declared.Flat.{Flat}
use Rattle.coding.specs.declared.Flat.TheVariants.{Struct}
use Rattle.laws.specs.Sound.{FlatSound}
use Rattle.laws.specs.Parsed.{structs-length}
use Rattle.schema.specs.Directory.{Accepted, accepted_sound}

-- a struct by its index
module _ (b dir : List ℕ) (a : Accepted b dir) (k : Flat) (sound : FlatSound (length (P.parse b).structs) k) (i : ℕ) (f : k ≡ Struct i) (j : ℕ) (e : j ≡ i) where
  pub struct_index : j < P.struct_count b
  struct_index = let h = subst (FlatSound (length (P.parse b).structs)) f sound in omega (arith, structs-length b)

  pub some-struct : (r : ℕ) → r ≡ struct_size (P.parse b) j → 0 < r
  some-struct r q =
      let h = subst (FlatSound (length (P.parse b).structs)) f sound in
      let u = ((accepted_sound b dir a).structs j).some (omega arith) in
      omega arith
