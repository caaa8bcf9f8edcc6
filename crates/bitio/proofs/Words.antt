-- Numbers stored by the word.
use Rattle.std.specs.Prelude.{◌≡◌, refl, List, ◌++◌, ℕ, zero, suc, ◌+◌, ◌-◌, ◌*◌, ◌/◌, ◌%◌, ◌^◌, ◌≤◌, ◌<◌, length, get_or, take, drop}
use Rattle.std.proofs.Common.{sym, ap, ap₂, ◌∙◌, Fits, w8, append_assoc, arith, mod-lt, pow_pos, pow-add, pow-suc}
use Rattle.std.specs.Int.{w64, byte_at, bytes_high_first, to_be_bytes, from_be_bytes}
use Rattle.std.specs.Int.Bits.{bit_or}
use Rattle.std.proofs.lemmas.Nat.{be_bytes_8}
use borrow.Rule.Slice.PartMut.{put_mid}
use lib.Pow.{shr_lt}
use Rattle.coding.specs.Bits.{bits_of, bits, value}
use Rattle.laws.specs.All.{index_all}
use Rattle.laws.specs.Bits.{Byte, bits_of-length, bits_of_split, bits_of-mod, bits_of_join, bits-length, value_front}
use Rattle.bitio.specs.Splice.{splice}
use Rattle.bitio.specs.SpliceLaws.{put_then}
use Rattle.bitio.specs.Taken.{Run}
use Rattle.bits.proofs.Masks.{or_more}
use Rattle.bitio.proofs.Parts.{part-length, part-bits, part_put, part_all}
use Rattle.bitio.proofs.Turns.{own_start}

-- ---- a number's bytes, the highest first, have its bits
byte_power : (k : ℕ) → 256 ^ k ≡ 2 ^ (8 * k)
byte_power zero = refl
byte_power (suc k) =
    let e : 8 * suc k ≡ 8 * k + 8 = omega arith in
    pow-suc 256 k ∙ ap (λ (m : ℕ). m * 256) (byte_power k) ∙ sym (ap (λ (m : ℕ). 2 ^ m) e ∙ pow-add 2 (8 * k) 8)

byte_is : (k n : ℕ) → byte_at k n ≡ n / 2 ^ (8 * k) % 2 ^ 8
byte_is zero n = omega arith
byte_is (suc k) n = ap (λ (m : ℕ). n / m % 256) (byte_power (suc k))

pub bytes-bits : (k n : ℕ) → bits (bytes_high_first k n) ≡ bits_of (8 * k) n
unfolding bits bits_of
bytes-bits zero n = refl
bytes-bits (suc k) n =
    let e : 8 * suc k ≡ 8 + 8 * k = omega arith in
    ap₂ (λ (s t : List ℕ). s ++ t) (ap (bits_of 8) (byte_is k n) ∙ bits_of-mod 8 (n / 2 ^ (8 * k))) (bytes-bits k n)
    ∙ sym (bits_of_split 8 (8 * k) n) ∙ ap (λ (i : ℕ). bits_of i n) (sym e)

-- eight bytes got
pub word_run : (s l : List ℕ) (i x : ℕ) → i + 8 ≤ length s → ((k : ℕ) → Fits w8 (get_or s k 0)) → l ≡ take 8 (drop i s) → x ≡ from_be_bytes w64 l → x < 2 ^ 64
    → Run s (8 * i) 64 x
word_run s l i x h bytes e ex small =
    let each : (k : ℕ) → get_or l k 0 < 256 = rw e (index_all Byte 0 (take 8 (drop i s)) (omega arith) (part_all s i 8 h bytes)) in
    let here : bits (take 8 (drop i s)) ≡ bits_of 64 x =
    ap bits (sym e ∙ sym (be_bytes_8 l x (ap length e ∙ part-length s i 8 h) each ex)) ∙ bytes-bits 8 x in
    let rest : List ℕ = bits (drop 8 (drop i s)) in
    record {
      number = sym (ap (λ (t : List ℕ). value (take 64 t)) (part-bits s i 8 h ∙ ap (λ (t : List ℕ). t ++ rest) here) ∙ value_front 64 x rest small);
      small = small;
    }

-- eight bytes put
pub word_put : (out ys : List ℕ) (i n v : ℕ) → i + 8 ≤ length out → n ≡ 8 → ys ≡ to_be_bytes w64 v → bits (put_mid i n out ys) ≡ splice (bits out) (8 * i) (bits_of 64 v)
word_put out ys i n v h en e =
    part_put out i n (omega arith) ys (ap length e ∙ sym en) ∙ ap (splice (bits out) (8 * i)) (ap bits e ∙ bytes-bits 8 v)

-- the first n bits of a number, and the rest after them
pub put_split : (l l₁ l₂ : List ℕ) (p q n left w v : ℕ) → n + left ≡ w → q ≡ p + n → p + w ≤ length l → l₁ ≡ splice l p (bits_of n (v / 2 ^ left))
    → l₂ ≡ splice l₁ q (bits_of left v) → l₂ ≡ splice l p (bits_of w v)
put_split l l₁ l₂ p q n left w v ew eq fit e f =
    let h1 = bits_of-length n (v / 2 ^ left) in
    let h2 = bits_of-length left v in
    put_then l l₁ l₂ p q (bits_of n (v / 2 ^ left)) (bits_of left v) e f (omega arith) (omega arith)
    ∙ ap (splice l p) (sym (bits_of_split n left v) ∙ ap (λ (k : ℕ). bits_of k v) ew)

-- the bits of a byte that stand before a number
pub joined_none : (b a n x : ℕ) → a ≡ 0 → bits_of (a + n) x ≡ bits_of a (b / 2 ^ (8 - a)) ++ bits_of n x
unfolding bits_of
joined_none b a n x e = rw e (ap (λ (k : ℕ). bits_of k x) (let z : 0 + n ≡ n = omega arith in z))

pub behind-bits : (b a n x y : ℕ) → b < 2 ^ 8 → a < 8 → a + n ≤ 64 → y ≡ x % 2 ^ n
    → bits_of (a + n) (bit_or ((b / 2 ^ (8 - a) * 2 ^ n) % 2 ^ 64) y) ≡ bits_of a (b / 2 ^ (8 - a)) ++ bits_of n x
behind-bits b a n x y hb ha h e =
    let p : a + (8 - a) ≡ 8 = omega arith in
    let top : b / 2 ^ (8 - a) < 2 ^ a = shr_lt a (8 - a) (rw p hb) in
    let small : x % 2 ^ n < 2 ^ n = mod-lt x (pow_pos n) in
    ap (λ (k : ℕ). bits_of (a + n) (bit_or ((b / 2 ^ (8 - a) * 2 ^ n) % 2 ^ 64) k)) e
    ∙ ap (bits_of (a + n)) (or_more (b / 2 ^ (8 - a)) a n (x % 2 ^ n) top h small)
    ∙ bits_of_join a n (b / 2 ^ (8 - a)) (x % 2 ^ n) small
    ∙ ap (λ (s : List ℕ). bits_of a (b / 2 ^ (8 - a)) ++ s) (bits_of-mod n x)

-- k bits by one store, of which n are the number's first, and the rest after them
pub joined_put : (out l₁ l₂ : List ℕ) (pos i a k n left width v b w q : ℕ) → i ≡ pos / 8 → a ≡ pos % 8 → a + n ≡ k → n + left ≡ width → i < length out
    → pos + width ≤ 8 * length out → b ≡ get_or out i 0 → bits_of (a + n) w ≡ bits_of a (b / 2 ^ (8 - a)) ++ bits_of n (v / 2 ^ left)
    → l₁ ≡ splice (bits out) (8 * i) (bits_of k w) → q ≡ pos + n → l₂ ≡ splice l₁ q (bits_of left v) → l₂ ≡ splice (bits out) pos (bits_of width v)
joined_put out l₁ l₂ pos i a k n left width v b w q ei ea ek ew h fit eb ej e eq f =
    put_split (bits out) l₁ l₂ pos q n left width v ew eq (omega (arith, bits-length out))
    (e ∙ ap (λ (j : ℕ). splice (bits out) (8 * i) (bits_of j w)) (sym ek) ∙ ap (splice (bits out) (8 * i)) ej
    ∙ ap (λ (j : ℕ). splice (bits out) (8 * i) (bits_of a (j / 2 ^ (8 - a)) ++ bits_of n (v / 2 ^ left))) eb
    ∙ own_start out (bits_of n (v / 2 ^ left)) pos i a (get_or out i 0 / 2 ^ (8 - a)) ei ea h refl)
    f

-- n bits behind those of their byte, and zero bits up to the word's end, by one store
pub zeroed_put : (out l : List ℕ) (pos i a n k v b x r : ℕ) → i ≡ pos / 8 → a ≡ pos % 8 → a + n + k ≡ 64 → i < length out → b ≡ get_or out i 0
    → bits_of (a + n) x ≡ bits_of a (b / 2 ^ (8 - a)) ++ bits_of n v → r ≡ (x * 2 ^ k) % 2 ^ 64 → l ≡ splice (bits out) (8 * i) (bits_of 64 r)
    → l ≡ splice (bits out) pos (bits_of n v ++ bits_of k 0)
zeroed_put out l pos i a n k v b x r ei ea ek h eb ex er el =
    let z : x * 2 ^ k ≡ x * 2 ^ k + 0 = omega arith in
    el
    ∙ ap (splice (bits out) (8 * i))
    (ap (bits_of 64) er ∙ bits_of-mod 64 (x * 2 ^ k) ∙ ap₂ bits_of (sym ek) z ∙ bits_of_join (a + n) k x 0 (pow_pos k)
    ∙ ap (λ (s : List ℕ). s ++ bits_of k 0) ex
    ∙ append_assoc (bits_of a (b / 2 ^ (8 - a))) (bits_of n v) (bits_of k 0))
    ∙ own_start out (bits_of n v ++ bits_of k 0) pos i a (b / 2 ^ (8 - a)) ei ea h (ap (λ (y : ℕ). y / 2 ^ (8 - a)) eb)
