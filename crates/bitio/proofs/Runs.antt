-- Numbers of runs of bits: of a byte, of two runs joined, of a field of a run; and whole bytes got one by one.
use mathlib.Core.Path.{◌≡◌, refl, sym, ap, ap₂, ◌∙◌}
use Prim.Native.Nat.{ℕ, suc, ◌+◌, ◌*◌, ◌/◌, ◌%◌, ◌^◌, ◌≤◌, ◌<◌}
use native.Mathlib.Numerals.{add-one}
use native.Mathlib.Omega.{arith}
use mathlib.Core.List.{List, [], ◌∷◌, ◌++◌}
use lib.ListN.{length, get_or, take, drop, set}
use lib.Seq.{drop-cons, drop-drop, take-suc-set}
use lib.Pow.{pow-add, high, low}
use lib.Arith.{digits_lt}
use lib.Bits.{bit_or}
use Rattle.coding.specs.Bits.{bits, value, pack}
use Rattle.laws.specs.Bits.{bits_cons, bits-length, value_front}
use Rattle.laws.specs.BitLists.{bits-drop, pack_snoc, value_more, run-lt}
use Rattle.bitio.specs.Taken.{Run}
use Rattle.bits.proofs.Masks.{or_more}

-- no bits
pub run_none : (l : List ℕ) (pos w : ℕ) → w ≡ 0 → Run l pos w 0
unfolding value
run_none l pos w e = rw e (record { number = refl; small = omega arith })

-- a byte
pub run_byte : (l : List ℕ) (i p : ℕ) → p ≡ 8 * i → i < length l → get_or l i 0 < 2 ^ 8 → Run l p 8 (get_or l i 0)
run_byte l i p e h hb =
    let x : ℕ = get_or l i 0 in
    record {
      number = sym (value_front 8 x (bits (drop (suc i) l)) hb)
          ∙ ap (λ (s : List ℕ). value (take 8 s)) (sym (bits_cons x (drop (suc i) l)) ∙ ap bits (sym (drop-cons l i 0 h)) ∙ bits-drop i l ∙ ap (λ (k : ℕ). drop k (bits l)) (sym e));
      small = hb;
    }

-- two runs, one after the other
module _ (l : List ℕ) (p q a c w h x : ℕ) (eq : q ≡ p + a) (ew : w ≡ a + c) (fit : p + w ≤ 8 * length l) (f : Run l p a h) (g : Run l q c x) where
  pub run-sum : Run l p w (h * 2 ^ c + x)
  run-sum =
      record {
        number = ap₂ (λ (y z : ℕ). y * 2 ^ c + z) f.number (g.number ∙ ap (λ (k : ℕ). value (take c (drop k (bits l)))) eq)
            ∙ sym (value_more (bits l) p a c (omega (arith, bits-length l)))
            ∙ ap (λ (k : ℕ). value (take k (drop p (bits l)))) (sym ew);
        small = rw (ew, pow-add 2 a c) (digits_lt f.small g.small);
      }

-- the same by a shift and an or of 64 bits
module _ (l : List ℕ) (p q a c w h x : ℕ) (eq : q ≡ p + a) (ew : w ≡ a + c) (most : w ≤ 64) (fit : p + w ≤ 8 * length l) (f : Run l p a h) (g : Run l q c x) where
  pub run_join : Run l p w (bit_or ((h * 2 ^ c) % 2 ^ 64) x)
  run_join = rw (or_more h a c x f.small (omega arith) g.small) (run-sum l p q a c w h x eq ew fit f g)

-- the first k bytes, and one more
pub run_next : (l : List ℕ) (k v b : ℕ) → k < 7 → k < length l → Run l 0 (8 * k) v → b ≡ get_or l k 0 → get_or l k 0 < 2 ^ 8
    → Run l 0 (8 * (k + 1)) (bit_or ((v * 2 ^ 8) % 2 ^ 64) b)
run_next l k v b few h f eb hb =
    run_join l 0 (8 * k) (8 * k) 8 (8 * (k + 1)) v b (omega arith) (omega arith) (omega arith) (omega arith) f (rw eb (run_byte l k (8 * k) refl h hb))

-- two neighbouring bytes
pub run-two : (l : List ℕ) (i : ℕ) → i + 2 ≤ length l → get_or l i 0 < 2 ^ 8 → get_or l (i + 1) 0 < 2 ^ 8 → Run l (8 * i) 16 (get_or l i 0 * 2 ^ 8 + get_or l (i + 1) 0)
run-two l i h hb hc =
    run-sum l (8 * i) (8 * (i + 1)) 8 8 16 (get_or l i 0) (get_or l (i + 1) 0) (omega arith) refl (omega arith)
    (run_byte l i (8 * i) refl (omega arith) hb) (run_byte l (i + 1) (8 * (i + 1)) refl (omega arith) hc)

-- n bits of a run of w bits, a bits in and k bits from its end
module _ (l : List ℕ) (p q a n k w v r : ℕ) (eq : q ≡ p + a) (ew : w ≡ a + n + k) (fit : p + w ≤ 8 * length l) (f : Run l p w v) (e : r ≡ v / 2 ^ k % 2 ^ n) where
  pub run-field : Run l q n r
  run-field =
      let b : List ℕ = bits l in
      let first : ℕ = value (take a (drop p b)) in
      let middle : ℕ = value (take n (drop (p + a) b)) in
      let last : ℕ = value (take k (drop (p + (a + n)) b)) in
      let hm : middle < 2 ^ n = run-lt l (p + a) n (omega arith) in
      let hl : last < 2 ^ k = run-lt l (p + (a + n)) k (omega arith) in
      let whole : v ≡ (first * 2 ^ n + middle) * 2 ^ k + last =
      f.number ∙ ap (λ (i : ℕ). value (take i (drop p b))) ew
      ∙ value_more b p (a + n) k (omega (arith, bits-length l))
      ∙ ap (λ (i : ℕ). i * 2 ^ k + last) (value_more b p a n (omega (arith, bits-length l))) in
      let is : r ≡ middle =
      e ∙ ap (λ (i : ℕ). i / 2 ^ k % 2 ^ n) whole ∙ ap (λ (i : ℕ). i % 2 ^ n) (high (first * 2 ^ n + middle) k hl) ∙ low first n hm in
      record { number = is ∙ ap (λ (i : ℕ). value (take n (drop i b))) (sym eq); small = rw is hm }

-- ---- whole bytes got: the first j stand in dst
pub bytes_turn : (dst s : List ℕ) (pos j x : ℕ) → j < length dst → Run s (pos + 8 * j) 8 x → take j dst ≡ pack j (drop pos (bits s))
    → take (j + 1) (set dst j x) ≡ pack (j + 1) (drop pos (bits s))
bytes_turn dst s pos j x h r e =
    rw (add-one j)
    (take-suc-set dst j x h
    ∙ ap₂ (λ (t : List ℕ) (y : ℕ). t ++ (y ∷ [])) e (r.number ∙ ap (λ (t : List ℕ). value (take 8 t)) (sym (drop-drop (8 * j) pos (bits s))))
    ∙ sym (pack_snoc j (drop pos (bits s))))
