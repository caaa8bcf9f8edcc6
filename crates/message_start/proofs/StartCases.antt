-- The root table of a lawful schema.
use mathlib.Core.Path.{◌≡◌}
use mathlib.Core.List.{List}
use Prim.Native.Nat.{ℕ}
use Rattle.coding.specs.Packed as P
use Rattle.coding.specs.declared.Object.TheVariants as O
use Rattle.laws.specs.Sound.{ObjectSound}
use Rattle.schema.specs.Directory.{Accepted, accepted_sound}

pub root_sound : (b dir : List ℕ) → Accepted b dir → (x : ℕ) → x ≡ (P.parse b).root → ObjectSound (P.parse b) (O.Table x)
root_sound b dir a x e = rw e (accepted_sound b dir a).root
