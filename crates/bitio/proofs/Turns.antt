-- A turn of the loops that store bytes, and what is left when they end.
use mathlib.Core.Path.{◌≡◌, sym, ap, ap₂, ◌∙◌}
use Prim.Native.Nat.{ℕ, suc, ◌+◌, ◌-◌, ◌*◌, ◌/◌, ◌%◌, ◌^◌, ◌≤◌, ◌<◌}
use native.Mathlib.Numerals.{add-one}
use native.Mathlib.Omega.{arith}
use mathlib.Core.List.{List, ◌++◌, append_assoc, append-nil}
use lib.ListN.{length, get_or, take, drop, set, length-append, length-drop, drop_of_length-le}
use lib.Seq.{drop-cons, take_at}
use Rattle.coding.specs.Bits.{bits_of, bits}
use Rattle.laws.specs.Bits.{bits_of-length, bits_of_split, bits_of-mod, bits_cons, bits-length}
use Rattle.laws.specs.BitLists.{bits-drop, across}
use Rattle.bitio.specs.Splice.{splice}
use Rattle.bitio.specs.SpliceLaws.{splice_none, splice_more, splice_own, put_then, bits-stored}

-- a byte stored, and the rest of a run after it
store_then : (out : List ℕ) (i b : ℕ) (ys : List ℕ) → i < length out → 8 * i + 8 + length ys ≤ 8 * length out
    → splice (bits (set out i b)) (8 * (i + 1)) ys ≡ splice (bits out) (8 * i) (bits_of 8 b ++ ys)
store_then out i b ys h fit =
    let e : 8 * (i + 1) ≡ 8 * i + length (bits_of 8 b) = omega (arith, bits_of-length 8 b) in
    ap₂ (λ (s : List ℕ) (k : ℕ). splice s k ys) (bits-stored out i b h) e
    ∙ splice_more (bits out) (8 * i) (bits_of 8 b) ys (omega (arith, bits_of-length 8 b, bits-length out))

-- ---- a number, a byte a turn
pub put_turn : (out : List ℕ) (i left v b : ℕ) → 8 ≤ left → 8 * i + left ≤ 8 * length out → b ≡ v / 2 ^ (left - 8) % 2 ^ 8
    → splice (bits (set out i b)) (8 * (i + 1)) (bits_of (left - 8) v) ≡ splice (bits out) (8 * i) (bits_of left v)
put_turn out i left v b h fit e =
    let r : ℕ = left - 8 in
    let w : 8 + r ≡ left = omega arith in
    store_then out i b (bits_of r v) (omega arith) (omega (arith, bits_of-length r v))
    ∙ ap (splice (bits out) (8 * i))
    (ap (λ (s : List ℕ). s ++ bits_of r v) (ap (bits_of 8) e ∙ bits_of-mod 8 (v / 2 ^ r)) ∙ sym (bits_of_split 8 r v) ∙ ap (λ (k : ℕ). bits_of k v) w)

-- no bits
pub put_done : (out : List ℕ) (at left v : ℕ) → left ≤ 0 → splice (bits out) at (bits_of left v) ≡ bits out
unfolding bits_of
put_done out at left v h = let z : left ≡ 0 = omega arith in rw z (splice_none (bits out) at)

-- the first n bits of a number, and the rest after them
pub put_two : (l l₁ l₂ : List ℕ) (p q n left w v x : ℕ) → n + left ≡ w → q ≡ p + n → p + w ≤ length l → x ≡ v / 2 ^ left % 2 ^ n
    → l₁ ≡ splice l p (bits_of n x) → l₂ ≡ splice l₁ q (bits_of left v) → l₂ ≡ splice l p (bits_of w v)
put_two l l₁ l₂ p q n left w v x ew eq fit ex e f =
    let h1 = bits_of-length n x in
    let h2 = bits_of-length left v in
    put_then l l₁ l₂ p q (bits_of n x) (bits_of left v) e f (omega arith) (omega arith)
    ∙ ap (splice l p)
    (ap (λ (s : List ℕ). s ++ bits_of left v) (ap (bits_of n) ex ∙ bits_of-mod n (v / 2 ^ left)) ∙ sym (bits_of_split n left v) ∙ ap (λ (k : ℕ). bits_of k v) ew)

-- all of a number's bits are its low ones
pub put_one : (n w v x : ℕ) → n ≡ w → x ≡ v / 2 ^ (w - n) % 2 ^ n → bits_of n x ≡ bits_of w v
put_one n w v x e f =
    let z : w - n ≡ 0 = omega arith in
    ap (bits_of n) f ∙ bits_of-mod n (v / 2 ^ (w - n)) ∙ ap₂ (λ (k i : ℕ). bits_of k (v / 2 ^ i)) e z ∙ whole w v
  where
    whole : (w v : ℕ) → bits_of w (v / 2 ^ 0) ≡ bits_of w v
    whole w v = let z : v / 1 ≡ v = omega arith in ap (bits_of w) z

-- ---- whole bytes, from a byte on
one_more : (m : List ℕ) (j : ℕ) → j < length m → bits (drop j m) ≡ bits_of 8 (get_or m j 0) ++ bits (drop (j + 1) m)
one_more m j h =
    ap bits (drop-cons m j 0 h) ∙ bits_cons (get_or m j 0) (drop (suc j) m) ∙ ap (λ (k : ℕ). bits_of 8 (get_or m j 0) ++ bits (drop k m)) (sym (add-one j))

rest-length : (m : List ℕ) (j : ℕ) → length (bits (drop j m)) ≡ 8 * (length m - j)
rest-length m j = bits-length (drop j m) ∙ ap (λ (k : ℕ). 8 * k) (length-drop j m)

pub bytes_turn : (out m : List ℕ) (start j : ℕ) → j < length m → start + length m ≤ length out
    → splice (bits (set out (start + j) (get_or m j 0))) (8 * (start + (j + 1))) (bits (drop (j + 1) m)) ≡ splice (bits out) (8 * (start + j)) (bits (drop j m))
bytes_turn out m start j h fit =
    let e : start + (j + 1) ≡ start + j + 1 = omega arith in
    ap (λ (k : ℕ). splice (bits (set out (start + j) (get_or m j 0))) (8 * k) (bits (drop (j + 1) m))) e
    ∙ store_then out (start + j) (get_or m j 0) (bits (drop (j + 1) m)) (omega arith) (omega (arith, rest-length m (j + 1)))
    ∙ ap (splice (bits out) (8 * (start + j))) (sym (one_more m j h))

pub bytes_done : (out m : List ℕ) (at j : ℕ) → length m ≤ j → splice (bits out) at (bits (drop j m)) ≡ bits out
unfolding bits
bytes_done out m at j h = rw (drop_of_length-le m h) (splice_none (bits out) at)

-- ---- whole bytes, from within a byte on: a bits of p stand before the bytes that are left
-- the bits that stand there already
pub own_start : (out ys : List ℕ) (pos start a p : ℕ) → start ≡ pos / 8 → a ≡ pos % 8 → start < length out → p ≡ get_or out start 0 / 2 ^ (8 - a)
    → splice (bits out) (8 * start) (bits_of a p ++ ys) ≡ splice (bits out) pos ys
own_start out ys pos start a p es ea h ep =
    let b : ℕ = get_or out start 0 in
    let z : List ℕ = bits (drop (suc start) out) in
    let w : 8 ≡ a + (8 - a) = omega arith in
    let at : pos ≡ 8 * start + a = omega arith in
    let from : drop (8 * start) (bits out) ≡ bits_of a p ++ (bits_of (8 - a) b ++ z) =
    sym (bits-drop start out) ∙ ap bits (drop-cons out start 0 h) ∙ bits_cons b (drop (suc start) out)
    ∙ ap (λ (s : List ℕ). s ++ z) (ap (λ (k : ℕ). bits_of k b) w ∙ bits_of_split a (8 - a) b ∙ ap (λ (i : ℕ). bits_of a i ++ bits_of (8 - a) b) (sym ep))
    ∙ append_assoc (bits_of a p) (bits_of (8 - a) b) z in
    let own : bits_of a p ≡ take a (drop (8 * start) (bits out)) =
    sym (take_at (bits_of a p) (bits_of (8 - a) b ++ z) a (bits_of-length a p)) ∙ ap (take a) (sym from) in
    ap (λ (s : List ℕ). splice (bits out) (8 * start) (s ++ ys)) own
    ∙ splice_own (bits out) (8 * start) a ys (omega (arith, bits-length out))
    ∙ ap (λ (k : ℕ). splice (bits out) k ys) (sym at)

pub across_turn : (out m : List ℕ) (start a p x b j : ℕ) → j < length m → start + length m < length out → a < 8 → x ≡ get_or m j 0 → x < 2 ^ 8
    → b ≡ (p * 2 ^ 8 + x) / 2 ^ a % 2 ^ 8
    → splice (bits (set out (start + j) b)) (8 * (start + (j + 1))) (bits_of a x ++ bits (drop (j + 1) m)) ≡ splice (bits out) (8 * (start + j)) (bits_of a p ++ bits (drop j m))
across_turn out m start a p x b j h fit ha ex hx eb =
    let e : start + (j + 1) ≡ start + j + 1 = omega arith in
    let ys : List ℕ = bits (drop (j + 1) m) in
    let bytes : bits (drop j m) ≡ bits_of 8 x ++ ys = one_more m j h ∙ ap (λ (i : ℕ). bits_of 8 i ++ ys) (sym ex) in
    let same : bits_of 8 b ++ (bits_of a x ++ ys) ≡ bits_of a p ++ bits (drop j m) =
    sym (append_assoc (bits_of 8 b) (bits_of a x) ys)
    ∙ ap (λ (s : List ℕ). s ++ ys) (ap (λ (i : ℕ). bits_of 8 i ++ bits_of a x) eb ∙ sym (across a p x (omega arith) hx))
    ∙ append_assoc (bits_of a p) (bits_of 8 x) ys
    ∙ ap (λ (s : List ℕ). bits_of a p ++ s) (sym bytes) in
    ap (λ (k : ℕ). splice (bits (set out (start + j) b)) (8 * k) (bits_of a x ++ ys)) e
    ∙ store_then out (start + j) b (bits_of a x ++ ys) (omega arith) (omega (arith, length-append (bits_of a x) ys, bits_of-length a x, rest-length m (j + 1)))
    ∙ ap (splice (bits out) (8 * (start + j))) same

pub across_done : (out m : List ℕ) (at a p x j : ℕ) → length m ≤ j → x ≡ p % 2 ^ a
    → splice (bits out) at (bits_of a x) ≡ splice (bits out) at (bits_of a p ++ bits (drop j m))
unfolding bits
across_done out m at a p x j h e =
    ap (splice (bits out) at) (ap (bits_of a) e ∙ bits_of-mod a p ∙ sym (append-nil (bits_of a p)) ∙ ap (λ (s : List ℕ). bits_of a p ++ bits s) (sym (drop_of_length-le m h)))
