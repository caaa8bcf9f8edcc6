-- A number that was read, and the one law over the width that every reader cites.
use Rattle.std.specs.Prelude.{◌≡◌, refl, ℕ, zero, suc, ◌+◌, ◌*◌, ◌%◌, ◌^◌, ◌≤◌, ◌<◌, List, get_or}
use Rattle.std.proofs.Common.{sym, ap, ap₂, ◌∙◌, arith, pow-add, shl_exact}
use native.Mathlib.Nat.{mul_left_comm, zero-add, suc-add, add-zero}
use Rattle.std.specs.Int.Bits.{bit_or, or_shifted_r}
use Rattle.std.proofs.lemmas.Nat.{or_shifted}
use Rattle.coding.specs.Bytes.{le}

-- r is the number of w bytes at a place
pub record Number (m : List ℕ) (at w r : ℕ) : Type 0 where
  pub is : r ≡ le m at w
  pub small : r < 2 ^ (8 * w)

-- eight bits more
pub byte_more : (a : ℕ) → 2 ^ (8 * suc a) ≡ 256 * 2 ^ (8 * a)
byte_more a =
    let e : 8 * suc a ≡ 8 + 8 * a = omega arith in
    ap (λ (k : ℕ). 2 ^ k) e ∙ pow-add 2 8 (8 * a)

pub le_small : (m : List ℕ) → ((i : ℕ) → get_or m i 0 < 256) → (at w : ℕ) → le m at w < 2 ^ (8 * w)
unfolding le
le_small m bytes at zero = omega arith
le_small m bytes at (suc w) = omega (arith, byte_more w, le_small m bytes (at + 1) w, bytes at)

-- a + b bytes are a bytes and then b bytes
pub le_join : (m : List ℕ) (at a b : ℕ) → le m at (a + b) ≡ le m (at + a) b * 2 ^ (8 * a) + le m at a
unfolding le
le_join m at zero b = rw (zero-add, add-zero at) (omega arith)
le_join m at (suc a) b =
    let e : at + 1 + a ≡ at + suc a = omega arith in
    let x : ℕ = le m (at + suc a) b in
    let ih : le m (at + 1) (a + b) ≡ x * 2 ^ (8 * a) + le m (at + 1) a =
    le_join m (at + 1) a b ∙ ap (λ (k : ℕ). le m k b * 2 ^ (8 * a) + le m (at + 1) a) e in
    let p : x * 2 ^ (8 * suc a) ≡ 256 * (x * 2 ^ (8 * a)) =
    ap (λ (k : ℕ). x * k) (byte_more a) ∙ mul_left_comm x 256 (2 ^ (8 * a)) in
    ap (le m at) (suc-add a b) ∙ omega (arith, ih, p)

joined_small : (a b x y : ℕ) → x < 2 ^ (8 * a) → y < 2 ^ (8 * b) → y * 2 ^ (8 * a) + x < 2 ^ (8 * (a + b))
joined_small a b x y l m =
    let e : 8 * (a + b) ≡ 8 * b + 8 * a = omega arith in
    let p : 2 ^ (8 * (a + b)) ≡ 2 ^ (8 * b) * 2 ^ (8 * a) = ap (λ (k : ℕ). 2 ^ k) e ∙ pow-add 2 (8 * b) (8 * a) in
    let q : suc y * 2 ^ (8 * a) ≤ 2 ^ (8 * b) * 2 ^ (8 * a) = native.Mathlib.Nat.mul-le-mul_right (2 ^ (8 * a)) m in
    omega (arith, p, q)

-- the law: a number of a bytes and the b bytes behind it, put together by a shift and an or of words of n bits
pub numbers_join : (m : List ℕ) (at a b n : ℕ) → 8 * b + 8 * a ≤ n → {x y : ℕ} → Number m at a x → Number m (at + a) b y
    → Number m at (a + b) (bit_or x ((y * 2 ^ (8 * a)) % 2 ^ n))
numbers_join m at a b n h {x} {y} p q =
    let s : bit_or x ((y * 2 ^ (8 * a)) % 2 ^ n) ≡ y * 2 ^ (8 * a) + x =
    ap (bit_or x) (shl_exact (8 * b) (8 * a) n q.small h) ∙ or_shifted_r y (8 * a) x p.small in
    record {
      is = s ∙ ap₂ (λ (u v : ℕ). v * 2 ^ (8 * a) + u) p.is q.is ∙ sym (le_join m at a b);
      small = rw s (joined_small a b x y p.small q.small);
    }

-- one byte
pub number_byte : (m : List ℕ) (at r : ℕ) → r ≡ get_or m at 0 → r < 256 → Number m at 1 r
unfolding le
number_byte m at r e l = record { is = omega arith; small = l }

-- no byte
pub number_none : (m : List ℕ) (at : ℕ) → Number m at 0 0
unfolding le
number_none m at = record { is = refl; small = omega arith }

-- one byte more in front: the higher bytes by a shift, of words of n bits
pub number_push : (m : List ℕ) (at w n : ℕ) → 8 * w + 8 ≤ n → {v x : ℕ} → Number m (at + 1) w v → x ≡ get_or m at 0 → x < 256
    → Number m at (suc w) (bit_or ((v * 256) % 2 ^ n) x)
unfolding le
number_push m at w n h {v} {x} p e l =
    let s : bit_or ((v * 256) % 2 ^ n) x ≡ v * 256 + x =
    ap (λ (k : ℕ). bit_or k x) (shl_exact (8 * w) 8 n p.small h) ∙ or_shifted v 8 x l in
    record {
      is = s ∙ omega (arith, p.is);
      small = rw s (omega (arith, byte_more w, p.small));
    }
