-- The members of a struct that lies within the message lie within it.
use mathlib.Core.List.{List}
use Prim.Native.Nat.{ℕ, ◌+◌, ◌≤◌}
use native.Mathlib.Omega.{arith}
use lib.ListN.{length, drop}
use Rattle.coding.specs.Packed as P
use Rattle.coding.specs.Schema as Sc
use Rattle.coding.specs.Structs.{total, struct_size}
use Rattle.laws.specs.Sizes.{struct-size_is}
use Rattle.schema.specs.Directory.{Accepted, accepted_sound}

pub all-inside : (b dir m : List ℕ) → Accepted b dir → (i at : ℕ) → at + struct_size (P.parse b) i ≤ length m
    → at + total (struct_size (P.parse b)) (drop 0 (Sc.struct_of (P.parse b) i)) ≤ length m
all-inside b dir m a i at h = omega (arith, struct-size_is (P.parse b) (accepted_sound b dir a) i)
