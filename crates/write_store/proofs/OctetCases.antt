-- A whole byte of bools.
use mathlib.Core.Path.{◌≡◌, refl}
use mathlib.Core.List.{List}
use Prim.Native.Nat.{ℕ, ◌+◌, ◌^◌, ◌<◌}
use native.Mathlib.Omega.{arith}
use lib.ListN.{set}
use Rattle.write_store.specs.State.{put_octet}
use Rattle.write_store.specs.Storing.{state_of, BitPut}
use Rattle.write_store.specs.declared.Places.{Places}

pub octet_put : (c : Places) (y h : ℕ) (o o₁ : List ℕ) → h ≡ y → y < 2 ^ 8 → o₁ ≡ set o c.at y
    → BitPut (put_octet y (state_of c o)) (state_of (record { at = c.at + 1; last = c.at; free = 0; held = h; tail = c.tail; next = c.next }) o₁) c
    (record { at = c.at + 1; last = c.at; free = 0; held = h; tail = c.tail; next = c.next })
unfolding put_octet
octet_put c y h o o₁ e l f =
    record {
      is = rw (e, f) refl;
      bool = record { free = omega arith; held = omega arith };
      at = omega arith;
      tail = refl;
      next = refl;
    }
