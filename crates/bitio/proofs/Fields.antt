-- A field of a number, and what a store of the byte with its field replaced does to the bits.
use mathlib.Core.Path.{◌≡◌, sym, ap, ap₂, ◌∙◌}
use Prim.Native.Nat.{ℕ, suc, ◌+◌, ◌*◌, ◌/◌, ◌%◌, ◌^◌, ◌<◌}
use native.Mathlib.Nat.{mod-lt}
use native.Mathlib.Omega.{arith}
use mathlib.Core.List.{List, ◌++◌, append_assoc}
use lib.ListN.{length, get_or, take, drop, set, length-append}
use lib.Seq.{length-take-le}
use lib.Pow.{pow_pos}
use Rattle.coding.specs.Bits.{bits_of, bits}
use Rattle.laws.specs.Bits.{bits_of-length, bits_of_split, bits_of-mod, bits_of_join, bits-length}
use Rattle.laws.specs.BitLists.{bits_at, bits-set}
use Rattle.bitio.specs.Splice.{splice}
use Rattle.bitio.specs.SpliceLaws.{splice_at}
use Rattle.bits.specs.Chunk.{merged}

-- ---- a field of n bits in a number of w bits: a bits above it, k below
pub fields : (b a n k w : ℕ) → a + n + k ≡ w → bits_of w b ≡ bits_of a (b / 2 ^ k / 2 ^ n) ++ bits_of n (b / 2 ^ k) ++ bits_of k b
fields b a n k w e =
    ap (λ (i : ℕ). bits_of i b) (sym e) ∙ bits_of_split (a + n) k b ∙ ap (λ (s : List ℕ). s ++ bits_of k b) (bits_of_split a n (b / 2 ^ k))

pub merged-bits : (b a n k x w : ℕ) → a + n + k ≡ w → x < 2 ^ n → bits_of w (merged b n k x) ≡ bits_of a (b / 2 ^ k / 2 ^ n) ++ bits_of n x ++ bits_of k b
unfolding merged
merged-bits b a n k x w e hx =
    let h : ℕ = b / 2 ^ k / 2 ^ n in
    ap (λ (i : ℕ). bits_of i ((h * 2 ^ n + x) * 2 ^ k + b % 2 ^ k)) (sym e)
    ∙ bits_of_join (a + n) k (h * 2 ^ n + x) (b % 2 ^ k) (mod-lt b (pow_pos k))
    ∙ ap₂ (λ (s t : List ℕ). s ++ t) (bits_of_join a n h x hx) (bits_of-mod k b)

-- a list cut around the field
pub cut : (t a m k d : List ℕ) → t ++ (a ++ m ++ k ++ d) ≡ t ++ a ++ (m ++ (k ++ d))
cut t a m k d = simp append_assoc

module _ (l : List ℕ) (pos n k : ℕ) (e : pos % 8 + n + k ≡ 8) (h : pos / 8 < length l) where
  abbrev b : ℕ
  b = get_or l (pos / 8) 0

  abbrev before : List ℕ
  before = bits (take (pos / 8) l) ++ bits_of (pos % 8) (b / 2 ^ k / 2 ^ n)

  abbrev after : List ℕ
  after = bits_of k b ++ bits (drop (suc (pos / 8)) l)

  before-length : length before ≡ pos
  before-length =
      length-append (bits (take (pos / 8) l)) (bits_of (pos % 8) (b / 2 ^ k / 2 ^ n))
      ∙ omega (arith, bits-length (take (pos / 8) l), length-take-le (pos / 8) l (omega arith), bits_of-length (pos % 8) (b / 2 ^ k / 2 ^ n))

  bits-cut : bits l ≡ before ++ (bits_of n (b / 2 ^ k) ++ after)
  bits-cut =
      bits_at l (pos / 8) h
      ∙ ap (λ (s : List ℕ). bits (take (pos / 8) l) ++ (s ++ bits (drop (suc (pos / 8)) l))) (fields b (pos % 8) n k 8 e)
      ∙ cut (bits (take (pos / 8) l)) (bits_of (pos % 8) (b / 2 ^ k / 2 ^ n)) (bits_of n (b / 2 ^ k)) (bits_of k b) (bits (drop (suc (pos / 8)) l))

  -- a store of the byte with the field replaced is a run of n bits put in
  pub put_law : (x y : ℕ) → x < 2 ^ n → y ≡ merged b n k x → bits (set l (pos / 8) y) ≡ splice (bits l) pos (bits_of n x)
  put_law x y hx f =
      ap (λ (z : ℕ). bits (set l (pos / 8) z)) f
      ∙ bits-set l (pos / 8) h (merged b n k x)
      ∙ ap (λ (s : List ℕ). bits (take (pos / 8) l) ++ (s ++ bits (drop (suc (pos / 8)) l))) (merged-bits b (pos % 8) n k x 8 e hx)
      ∙ cut (bits (take (pos / 8) l)) (bits_of (pos % 8) (b / 2 ^ k / 2 ^ n)) (bits_of n x) (bits_of k b) (bits (drop (suc (pos / 8)) l))
      ∙ sym (splice_at before (bits_of n (b / 2 ^ k)) after (bits_of n x) pos before-length (bits_of-length n (b / 2 ^ k) ∙ sym (bits_of-length n x)))
      ∙ ap (λ (s : List ℕ). splice s pos (bits_of n x)) (sym bits-cut)
