-- The laws of bits, most significant first: lengths, the value of bits and the bits of a value, bytes as bits and back.
use Rattle.std.specs.Prelude.{◌≡◌, true, ℕ, zero, suc, ◌+◌, ◌-◌, ◌*◌, ◌/◌, ◌%◌, ◌^◌, ◌≤◌, ◌<◌, take, drop, eqb}
use Rattle.std.proofs.Math.Path.{refl, sym, ap, ap₂}
use Rattle.std.proofs.Common.{◌∙◌, zero-add, suc-add, add_comm, mul_assoc, add-mul, pow-suc, mul_comm, mod-eq_of_lt, length-drop, take_at, drop_at, take-add, take_all, length-take-le, pow_pos, pow-add, shr-shr, eqb-true}
use mathlib.Core.List.{List, [], ◌∷◌, ◌++◌, append_assoc, append-nil}
use Rattle.std.proofs.Math.Nat.{mod-one, mul-add-div_right, mul-add-mod_self_right}
use native.Mathlib.Omega.{arith}
use Rattle.std.proofs.Math.ListN.{length, replicate, length-append, length-replicate}
use Rattle.std.proofs.Math.Pow.{split, high}
use Rattle.std.proofs.lemmas.Nat.{mod-pow-add}
use Rattle.std.proofs.Math.Arith.{digits_lt}
use Rattle.coding.specs.Bits.{bits_of, bits, value, pack, packed, byte_count, all_zero}
use Rattle.laws.specs.Sound.{All}
use Rattle.laws.specs.Lists.{both_left, both_right}
use Rattle.laws.specs.All.{all_append, all_take, all_drop, all_replicate}

abbrev pub Bit : ℕ → Type 0
Bit x = x < 2

abbrev pub Byte : ℕ → Type 0
Byte x = x < 256

-- ---- the bits of a number
pub bits_of-length : (w x : ℕ) → length (bits_of w x) ≡ w
unfolding bits_of
bits_of-length zero x = refl
bits_of-length (suc w) x = ap suc (bits_of-length w x)

pub bits_of-bits : (w x : ℕ) → All Bit (bits_of w x)
unfolding bits_of
bits_of-bits zero x = tt
bits_of-bits (suc w) x = (omega arith, bits_of-bits w x)

-- a + b bits are the a above and the b low ones
pub bits_of_split : (a b x : ℕ) → bits_of (a + b) x ≡ bits_of a (x / 2 ^ b) ++ bits_of b x
unfolding bits_of
bits_of_split zero b x = ap (λ (k : ℕ). bits_of k x) (zero-add b)
bits_of_split (suc a) b x =
    ap (λ (k : ℕ). bits_of k x) (suc-add a b)
    ∙ ap₂ (λ (y : ℕ) (l : List ℕ). y ∷ l) (ap (λ (k : ℕ). x / 2 ^ k % 2) (add_comm a b) ∙ ap (λ (k : ℕ). k % 2) (sym (shr-shr x b a))) (bits_of_split a b x)

-- what stands above does not count
pub bits_of_low : (b h l : ℕ) → bits_of b (h * 2 ^ b + l) ≡ bits_of b l
unfolding bits_of
bits_of_low zero h l = refl
bits_of_low (suc b) h l =
    let e : h * 2 ^ suc b ≡ h * 2 * 2 ^ b = ap (λ (k : ℕ). h * k) (pow-suc 2 b ∙ mul_comm (2 ^ b) 2) ∙ sym (mul_assoc h 2 (2 ^ b)) in
    let p : (h * 2 * 2 ^ b + l) / 2 ^ b % 2 ≡ l / 2 ^ b % 2 =
    ap (λ (k : ℕ). k % 2) (mul-add-div_right (pow_pos b) (h * 2) l) ∙ mul-add-mod_self_right h 2 (l / 2 ^ b) in
    ap (λ (k : ℕ). ((k + l) / 2 ^ b % 2) ∷ bits_of b (k + l)) e
    ∙ ap₂ (λ (x : ℕ) (s : List ℕ). x ∷ s) p (bits_of_low b (h * 2) l)

pub bits_of-mod : (b x : ℕ) → bits_of b (x % 2 ^ b) ≡ bits_of b x
bits_of-mod b x = sym (bits_of_low b (x / 2 ^ b) (x % 2 ^ b)) ∙ ap (bits_of b) (split x b)

pub bits_of_join : (a b h l : ℕ) → l < 2 ^ b → bits_of (a + b) (h * 2 ^ b + l) ≡ bits_of a h ++ bits_of b l
bits_of_join a b h l k = bits_of_split a b (h * 2 ^ b + l) ∙ ap₂ (λ (x : ℕ) (s : List ℕ). bits_of a x ++ s) (high h b k) (bits_of_low b h l)

-- ---- the value of a list of bits
pub value-append : (xs ys : List ℕ) → value (xs ++ ys) ≡ value xs * 2 ^ length ys + value ys
unfolding value
value-append [] ys = omega arith
value-append (x ∷ xs) ys =
    let e : x * 2 ^ length (xs ++ ys) ≡ x * 2 ^ length xs * 2 ^ length ys =
    ap (λ (k : ℕ). x * 2 ^ k) (length-append xs ys) ∙ ap (λ (k : ℕ). x * k) (pow-add 2 (length xs) (length ys)) ∙ sym (mul_assoc x (2 ^ length xs) (2 ^ length ys)) in
    omega (arith, e, value-append xs ys, add-mul (x * 2 ^ length xs) (value xs) (2 ^ length ys))

pub value-bits_of : (w x : ℕ) → value (bits_of w x) ≡ x % 2 ^ w
unfolding value bits_of
value-bits_of zero x = sym (mod-one x)
value-bits_of (suc w) x =
    ap₂ (λ (k n : ℕ). x / 2 ^ w % 2 * 2 ^ k + n) (bits_of-length w x) (value-bits_of w x)
    ∙ sym (mod-pow-add x 1 w)
    ∙ ap (λ (k : ℕ). x % 2 ^ k) (let e : 1 + w ≡ suc w = omega arith in e)

-- a number's bits, wherever they stand in front, spell it
pub value_front : (w x : ℕ) (r : List ℕ) → x < 2 ^ w → value (take w (bits_of w x ++ r)) ≡ x
value_front w x r h = ap value (take_at (bits_of w x) r w (bits_of-length w x)) ∙ value-bits_of w x ∙ mod-eq_of_lt h

pub value-lt : (xs : List ℕ) → All Bit xs → value xs < 2 ^ length xs
unfolding value
value-lt [] h = omega arith
value-lt (x ∷ xs) h =
    let r : value xs < 2 ^ length xs = value-lt xs h.1 in
    rw pow-suc (rw (mul_comm (2 ^ length xs) 2) (digits_lt h.0 r))

pub bits_of-value : (xs : List ℕ) → All Bit xs → bits_of (length xs) (value xs) ≡ xs
unfolding value bits_of
bits_of-value [] h = refl
bits_of-value (x ∷ xs) h =
    let r : value xs < 2 ^ length xs = value-lt xs h.1 in
    ap₂ (λ (a : ℕ) (s : List ℕ). a ∷ s)
    (ap (λ (k : ℕ). k % 2) (high x (length xs) r) ∙ mod-eq_of_lt h.0)
    (bits_of_low (length xs) x (value xs) ∙ bits_of-value xs h.1)

-- the first w bits of a list that has as many: their value, and they are the bits of it
pub front-lt : (w : ℕ) (xs : List ℕ) → All Bit xs → w ≤ length xs → value (take w xs) < 2 ^ w
front-lt w xs h l = rw (length-take-le w xs l) at (value-lt (take w xs) (all_take Bit w xs h))

pub front-bits : (w : ℕ) (xs : List ℕ) → All Bit xs → w ≤ length xs → bits_of w (value (take w xs)) ≡ take w xs
front-bits w xs h l =
    ap (λ (k : ℕ). bits_of k (value (take w xs))) (sym (length-take-le w xs l)) ∙ bits_of-value (take w xs) (all_take Bit w xs h)

-- ---- the bits of a list of bytes
pub bits-length : (l : List ℕ) → length (bits l) ≡ 8 * length l
unfolding bits
bits-length [] = refl
bits-length (b ∷ bs) = length-append (bits_of 8 b) (bits bs) ∙ omega (arith, bits_of-length 8 b, bits-length bs)

pub bits-bits : (l : List ℕ) → All Bit (bits l)
unfolding bits
bits-bits [] = tt
bits-bits (b ∷ bs) = all_append Bit (bits_of 8 b) (bits bs) (bits_of-bits 8 b) (bits-bits bs)

pub bits_cons : (x : ℕ) (xs : List ℕ) → bits (x ∷ xs) ≡ bits_of 8 x ++ bits xs
unfolding bits
bits_cons x xs = refl

pub bits-append : (xs ys : List ℕ) → bits (xs ++ ys) ≡ bits xs ++ bits ys
unfolding bits
bits-append [] ys = refl
bits-append (x ∷ xs) ys = rw (bits-append xs ys) (sym (append_assoc (bits_of 8 x) (bits xs) (bits ys)))

-- ---- bytes filled by bits
pub pack-length : (n : ℕ) (xs : List ℕ) → length (pack n xs) ≡ n
unfolding pack
pack-length zero xs = refl
pack-length (suc n) xs = ap suc (pack-length n (drop 8 xs))

pub pack_bytes : (n : ℕ) (xs : List ℕ) → All Bit xs → 8 * n ≤ length xs → All Byte (pack n xs)
unfolding pack
pack_bytes zero xs h l = tt
pack_bytes (suc n) xs h l = (front-lt 8 xs h (omega arith), pack_bytes n (drop 8 xs) (all_drop Bit 8 xs h) (omega (arith, length-drop 8 xs)))

-- whole bytes of bits are the bits of those bytes
pub bits-pack : (n : ℕ) (xs : List ℕ) → All Bit xs → 8 * n ≤ length xs → bits (pack n xs) ≡ take (8 * n) xs
unfolding bits pack
bits-pack zero xs h l = refl
bits-pack (suc n) xs h l =
    let e : 8 * suc n ≡ 8 + 8 * n = omega arith in
    ap₂ {C = List ℕ} (λ (s t : List ℕ). s ++ t) (front-bits 8 xs h (omega arith))
    (bits-pack n (drop 8 xs) (all_drop Bit 8 xs h) (omega (arith, length-drop 8 xs)))
    ∙ sym (take-add 8 (8 * n) xs) ∙ ap (λ (k : ℕ). take k xs) (sym e)

-- bytes are what their bits fill, wherever these stand in front
pub pack_front : (l r : List ℕ) → All Byte l → pack (length l) (bits l ++ r) ≡ l
unfolding bits pack
pack_front [] r h = refl
pack_front (b ∷ bs) r h =
    rw (append_assoc (bits_of 8 b) (bits bs) r)
    (ap₂ (λ (x : ℕ) (s : List ℕ). x ∷ s) (value_front 8 b (bits bs ++ r) h.0)
    (ap (pack (length bs)) (drop_at (bits_of 8 b) (bits bs ++ r) 8 (bits_of-length 8 b)) ∙ pack_front bs r h.1))

-- ---- zero bits to the byte end
pub zero_bits : (n : ℕ) → all_zero (replicate n 0) ≡ true
unfolding all_zero
zero_bits zero = refl
zero_bits (suc n) = zero_bits n

pub bits-zero : (xs : List ℕ) → all_zero xs ≡ true → xs ≡ replicate (length xs) 0
unfolding all_zero
bits-zero [] e = refl
bits-zero (x ∷ xs) e =
    ap₂ (λ (y : ℕ) (s : List ℕ). y ∷ s) (eqb-true x 0 (both_left (eqb x 0) (all_zero xs) e))
    (bits-zero xs (both_right (eqb x 0) (all_zero xs) e))

-- how many zero bits fill the last byte
abbrev pub padding : List ℕ → ℕ
padding xs = 8 * byte_count xs - length xs

pub padding-lt : (xs : List ℕ) → padding xs < 8
unfolding byte_count
padding-lt xs = omega arith

module _ (xs : List ℕ) where
  padded : List ℕ
  padded = xs ++ replicate (padding xs) 0

  padded-length : length padded ≡ 8 * byte_count xs
  unfolding byte_count padded
  padded-length = length-append xs (replicate (padding xs) 0) ∙ omega (arith, length-replicate {A = ℕ} (padding xs) 0)

  padded-bits : All Bit xs → All Bit padded
  unfolding padded
  padded-bits h = all_append Bit xs (replicate (padding xs) 0) h (all_replicate Bit (padding xs) 0 (omega arith))

  packed_is : packed xs ≡ pack (byte_count xs) padded
  unfolding packed padded
  packed_is = refl

  pub packed-length : length (packed xs) ≡ byte_count xs
  packed-length = ap length packed_is ∙ pack-length (byte_count xs) padded

  pub packed_bytes : All Bit xs → All Byte (packed xs)
  packed_bytes h = rw packed_is (pack_bytes (byte_count xs) padded (padded-bits h) (omega (arith, padded-length)))

  -- the bits of the bytes are those that were packed, and the zero bits
  pub bits-packed : All Bit xs → bits (packed xs) ≡ xs ++ replicate (padding xs) 0
  bits-packed h =
      ap bits packed_is ∙ bits-pack (byte_count xs) padded (padded-bits h) (omega (arith, padded-length))
      ∙ take_all (8 * byte_count xs) padded (omega (arith, padded-length)) ∙ padded_open
    where
      padded_open : padded ≡ xs ++ replicate (padding xs) 0
      padded_open = unfold padded in refl

  -- bytes whose bits are a list and less than a byte of zero bits are that list's bytes
  pub packed-from : (l z : List ℕ) → All Byte l → bits l ≡ xs ++ z → length z < 8 → all_zero z ≡ true → l ≡ packed xs
  unfolding packed byte_count
  packed-from l z h e small zs =
      let n : 8 * length l ≡ length xs + length z = sym (bits-length l) ∙ ap length e ∙ length-append xs z in
      let k : length l ≡ (length xs + 7) / 8 = omega arith in
      let p : length z ≡ 8 * ((length xs + 7) / 8) - length xs = omega arith in
      let f : bits l ≡ xs ++ replicate (8 * ((length xs + 7) / 8) - length xs) 0 =
      e ∙ ap (λ (s : List ℕ). xs ++ s) (bits-zero z zs ∙ ap (λ (j : ℕ). replicate j 0) p) in
      sym (pack_front l [] h) ∙ ap₂ pack k (append-nil (bits l) ∙ f)
