-- One lemma for each way out of the readers of bits and of numbers of any width.
use mathlib.Core.Path.{◌≡◌, ◌∙◌}
use Prim.Native.Nat.{ℕ, suc, ◌+◌, ◌-◌, ◌*◌, ◌/◌, ◌%◌, ◌^◌, ◌≤◌, ◌<◌}
use native.Mathlib.Nat.{sub_self}
use native.Mathlib.Omega.{arith}
use mathlib.Core.List.{List}
use lib.ListN.{get_or}
use lib.Dec.{eqb}
use lib.Bits.{bit_or}
use Rattle.coding.specs.Bytes.{bit_at, width_of}
use borrow.Author.Tests.{ne_eqb}
use Rattle.wire.specs.Numbers.{Number, number_none, number_push}

pub bit-of : (m : List ℕ) (at k x r : ℕ) → x ≡ get_or m at 0 → r ≡ x / 2 ^ k % 2 → eqb r 1 ≡ eqb (bit_at m at k) 1
unfolding bit_at
bit-of m at k x r ex er = rw (er, ex)

pub number_done : (m : List ℕ) (at w : ℕ) → Number m at (w - w) 0
number_done m at w = rw (sub_self w) (number_none m at)

pub number_turn : (m : List ℕ) (at w i v x y : ℕ) → i ≤ w → 0 < i → w ≤ 8 → Number m (at + i) (w - i) v → x ≡ get_or m (at + (i - 1)) 0 → y ≡ x → y < 256
    → Number m (at + (i - 1)) (w - (i - 1)) (bit_or ((v * 256) % 2 ^ 64) y)
number_turn m at w i v x y l p q n ex ey s =
    let e : at + i ≡ at + (i - 1) + 1 = omega arith in
    let f : w - (i - 1) ≡ suc (w - i) = omega arith in
    rw f (number_push m (at + (i - 1)) (w - i) 64 (omega arith) (rw e at n) (ey ∙ ex) s)

-- a number that names no coding
pub width_none : (n : ℕ) → (n ≡ 48 → ⊥) → (n ≡ 32 → ⊥) → 0 ≡ width_of n
unfolding width_of
width_none n g h = simp (ne_eqb n 48 g, ne_eqb n 32 h)
