-- How counting writers compose, and each way out of one.
use Rattle.std.specs.Prelude.{◌≡◌, refl, Bool, true, false, List, [], ◌++◌, ℕ, ◌+◌, ◌-◌, ◌*◌, ◌/◌, ◌%◌, ◌≤◌, ◌<◌, length, take, drop, leb}
use Rattle.std.proofs.Common.{sym, ap, ap₂, ◌∙◌, add-zero, add_assoc, arith, length-append, length-drop, drop_of_length-le, length-take-le, take_all, le-leb, leb-true, leb-false}
use Rattle.std.proofs.lemmas.Bool.{lt-leb}
use Rattle.coding.specs.Lists.{pick}
use Rattle.coding.specs.Bits.{bits, bits_of, all_zero}
use Rattle.coding.specs.Sheet.{blob_bits}
use Rattle.laws.specs.Bits.{bits_of-length, bits-length}
use Rattle.bitio.specs.Splice.{splice}
use Rattle.bitio.specs.StoredLaws.{zeros_of, stored_none, stored_then, stored_same, stored_in, stored_zeroed}
use Rattle.bitio.specs.Puts.{saturated, Room, Puts}

-- ---- the saturating count
pub count_in : (n : ℕ) → n ≤ 134217720 → n ≡ saturated n
unfolding saturated
count_in n h = simp (le-leb _ _ h)

pub count_over : (n : ℕ) → 134217720 < n → 134217721 ≡ saturated n
unfolding saturated
count_over n h = simp (lt-leb _ _ h)

at_most : (n : ℕ) (b : Bool) → leb n 134217720 ≡ b → pick b n 134217721 ≤ 134217721
at_most n true e = omega (arith, leb-true n 134217720 e)
at_most n false e = omega arith

pub count_most : (n : ℕ) → saturated n ≤ 134217721
unfolding saturated
count_most n = at_most n (leb n 134217720) refl

again : (n k : ℕ) (b : Bool) → leb n 134217720 ≡ b → saturated (pick b n 134217721 + k) ≡ saturated (n + k)
again n k true e = refl
again n k false e =
    let h = leb-false n 134217720 e in
    sym (count_over (134217721 + k) (omega arith)) ∙ count_over (n + k) (omega arith)

opened : (n : ℕ) → saturated n ≡ pick (leb n 134217720) n 134217721
unfolding saturated
opened n = refl

pub count_again : (n k : ℕ) → saturated (saturated n + k) ≡ saturated (n + k)
count_again n k = ap (λ (x : ℕ). saturated (x + k)) (opened n) ∙ again n k (leb n 134217720) refl

-- ---- writers
-- nothing
pub puts_none : (o : List ℕ) (p : ℕ) → p ≤ 134217721 → Puts o p [] o p
puts_none o p h = record { len = refl; most = h; end = none p h (leb p 134217720) refl; put = λ _. stored_none (bits o) p }
  where
    none : (p : ℕ) → p ≤ 134217721 → (b : Bool) → leb p 134217720 ≡ b → p ≡ saturated (p + 0)
    none p h true e = count_in p (leb-true p 134217720 e) ∙ ap saturated (sym (add-zero p))
    none p h false e =
        let l = leb-false p 134217720 e in
        let z : p ≡ 134217721 = omega arith in
        z ∙ count_over (p + 0) (omega arith)

-- past the limit: whatever is left is not written
pub puts_over : (o : List ℕ) (p : ℕ) (xs : List ℕ) → Room o p → 134217720 < p → Puts o p xs o p
puts_over o p xs g h =
    let a = g.short in
    let b = g.most in
    let z : p ≡ 134217721 = omega arith in
    record { len = refl; most = b; end = z ∙ count_over (p + length xs) (omega arith); put = λ f. absurd (let n : ⊥ = omega arith in n) }

-- one run, and one after it
pub puts_then : (o o₁ o₂ : List ℕ) (p q r : ℕ) (xs ys : List ℕ) → 8 * length o ≤ 134217720 → Puts o p xs o₁ q → Puts o₁ q ys o₂ r → Puts o p (xs ++ ys) o₂ r
puts_then o o₁ o₂ p q r xs ys g a b =
    let la = length-append xs ys in
    record {
      len = b.len ∙ a.len;
      most = b.most;
      end = b.end ∙ ap (λ (k : ℕ). saturated (k + length ys)) a.end ∙ count_again (p + length xs) (length ys)
          ∙ ap saturated (add_assoc p (length xs) (length ys) ∙ ap (λ (k : ℕ). p + k) (sym la));
      put = λ f.
          let e : q ≡ p + length xs = a.end ∙ sym (count_in (p + length xs) (omega arith)) in
          let l₁ = a.len in
          stored_then (bits o) (bits o₁) (bits o₂) p q xs ys (a.put (omega arith)) (b.put (omega arith)) e;
    }

pub puts-same : (o o' : List ℕ) (p q : ℕ) (xs ys : List ℕ) → xs ≡ ys → Puts o p xs o' q → Puts o p ys o' q
puts-same o o' p q xs ys e h = record { len = h.len; most = h.most; end = h.end ∙ ap (λ (l : List ℕ). saturated (p + length l)) e; put = λ f. stored_same (bits o) (bits o') p xs ys e (h.put (rw e f)) }

-- a position that a writer came to is one that the next may start from
pub room_next : (o o' : List ℕ) (p q : ℕ) (xs : List ℕ) → Room o p → Puts o p xs o' q → Room o' q
room_next o o' p q xs g h =
    let a = g.short in
    let b = h.len in
    record { short = omega arith; most = h.most }

-- ---- the ways out of a writer of a run of known length
module _ (o : List ℕ) (p n : ℕ) (xs : List ℕ) (g : Room o p) (e : length xs ≡ n) where
  pub run_over : 134217720 < p + n → Puts o p xs o 134217721
  run_over h =
      let a = g.short in
      record { len = refl; most = omega arith; end = count_over (p + length xs) (omega arith); put = λ f. absurd (let z : ⊥ = omega arith in z) }

  module _ (h : p + n ≤ 134217720) where
    ends : p + n ≡ saturated (p + length xs)
    ends = count_in (p + n) h ∙ ap (λ (k : ℕ). saturated (p + k)) (sym e)

    pub run-not : 8 * length o < p + n → Puts o p xs o (p + n)
    run-not l = record { len = refl; most = omega arith; end = ends; put = λ f. absurd (let z : ⊥ = omega arith in z) }

    pub run_in : (o' : List ℕ) → length o' ≡ length o → bits o' ≡ splice (bits o) p xs → Puts o p xs o' (p + n)
    run_in o' l f = record { len = l; most = omega arith; end = ends; put = λ h. stored_in (bits o) (bits o') p xs (omega (arith, bits-length o)) f }

    -- with zero bits behind it
    pub run_zeroed : (o' zs : List ℕ) → length o' ≡ length o → p + n + length zs ≤ 8 * length o → all_zero zs ≡ true → bits o' ≡ splice (bits o) p (xs ++ zs) → Puts o p xs o' (p + n)
    run_zeroed o' zs l k z f =
        record { len = l; most = omega arith; end = ends; put = λ h. stored_zeroed (bits o) (bits o') p xs zs (omega (arith, bits-length o)) f z }

module _ (o : List ℕ) (p w v : ℕ) (g : Room o p) where
  pub bits_over : 134217720 < p + w → Puts o p (bits_of w v) o 134217721
  bits_over h = run_over o p w (bits_of w v) g (bits_of-length w v) h

  module _ (h : p + w ≤ 134217720) where
    pub bits-not : 8 * length o < p + w → Puts o p (bits_of w v) o (p + w)
    bits-not l = run-not o p w (bits_of w v) g (bits_of-length w v) h l

    pub bits_in : (o' : List ℕ) → length o' ≡ length o → bits o' ≡ splice (bits o) p (bits_of w v) → Puts o p (bits_of w v) o' (p + w)
    bits_in o' l f = run_in o p w (bits_of w v) g (bits_of-length w v) h o' l f

-- a run within a word, by one store of it
pub bits_zeroed : (o o' : List ℕ) (p w v : ℕ) → Room o p → p / 8 + 8 ≤ length o → p % 8 + w < 64 → length o' ≡ length o
    → bits o' ≡ splice (bits o) p (bits_of w v ++ bits_of (64 - p % 8 - w) 0) → Puts o p (bits_of w v) o' (p + w)
bits_zeroed o o' p w v g k h l f =
    let a = g.short in
    run_zeroed o p w (bits_of w v) g (bits_of-length w v) (omega arith) o' (bits_of (64 - p % 8 - w) 0) l (omega (arith, bits_of-length (64 - p % 8 - w) 0)) (zeros_of (64 - p % 8 - w)) f

module _ (o : List ℕ) (p : ℕ) (s : List ℕ) (g : Room o p) where
  pub bytes_long : 16777215 < length s → Puts o p (bits s) o 134217721
  bytes_long h = run_over o p (8 * length s) (bits s) g (bits-length s) (omega arith)

  pub bytes_over : 134217720 < p + 8 * length s → Puts o p (bits s) o 134217721
  bytes_over h = run_over o p (8 * length s) (bits s) g (bits-length s) h

  module _ (h : p + 8 * length s ≤ 134217720) where
    pub bytes-not : 8 * length o < p + 8 * length s → Puts o p (bits s) o (p + 8 * length s)
    bytes-not l = run-not o p (8 * length s) (bits s) g (bits-length s) h l

    pub bytes_in_lem : (o' : List ℕ) → length o' ≡ length o → bits o' ≡ splice (bits o) p (bits s) → Puts o p (bits s) o' (p + 8 * length s)
    bytes_in_lem o' l f = run_in o p (8 * length s) (bits s) g (bits-length s) h o' l f

-- ---- the part of a message that a text or bytes has: where it starts and its length, each cut at the message's end
pub part : (m : List ℕ) (at n a k : ℕ) → a ≤ at → a ≤ length m → (a < at → a ≡ length m) → k ≤ n → k ≤ length m - a → (k < n → k ≡ length m - a)
    → take k (drop a m) ≡ take n (drop at m)
part m at n a k h1 h2 h3 h4 h5 h6 = parts m at n a k h1 h2 h3 h4 h5 h6 (leb at a) (leb n k) refl refl
  where
    tail : (m : List ℕ) (at a : ℕ) → (b : Bool) → leb at a ≡ b → a ≤ at → a ≤ length m → (a < at → a ≡ length m) → drop a m ≡ drop at m
    tail m at a true e h1 h2 h3 = let l = leb-true at a e in let z : a ≡ at = omega arith in ap (λ (i : ℕ). drop i m) z
    tail m at a false e h1 h2 h3 =
        let l = leb-false at a e in
        let z = h3 l in
        let u : length m ≤ a = omega arith in
        let w : length m ≤ at = omega arith in
        drop_of_length-le m u ∙ sym (drop_of_length-le m w)

    parts : (m : List ℕ) (at n a k : ℕ) → a ≤ at → a ≤ length m → (a < at → a ≡ length m) → k ≤ n → k ≤ length m - a → (k < n → k ≡ length m - a)
        → (b c : Bool) → leb at a ≡ b → leb n k ≡ c → take k (drop a m) ≡ take n (drop at m)
    parts m at n a k h1 h2 h3 h4 h5 h6 b true eb ec =
        let l = leb-true n k ec in
        let z : k ≡ n = omega arith in
        ap₂ (λ (i : ℕ) (s : List ℕ). take i s) z (tail m at a b eb h1 h2 h3)
    parts m at n a k h1 h2 h3 h4 h5 h6 b false eb ec =
        let l = leb-false n k ec in
        let z = h6 l in
        let d : length (drop a m) ≡ length m - a = length-drop a m in
        take_all k (drop a m) (omega arith) ∙ sym (take_all n (drop a m) (omega arith)) ∙ ap (take n) (tail m at a b eb h1 h2 h3)

pub blob_puts : (m o o₁ o₂ : List ℕ) (at n a k p q r : ℕ) → 8 * length o ≤ 134217720 → a ≤ at → a ≤ length m → (a < at → a ≡ length m) → k ≤ n → k ≤ length m - a → (k < n → k ≡ length m - a)
    → Puts o p (bits_of 32 k) o₁ q → Puts o₁ q (bits (take (a + k - a) (drop a m))) o₂ r → Puts o p (blob_bits (take n (drop at m))) o₂ r
unfolding blob_bits
blob_puts m o o₁ o₂ at n a k p q r g h1 h2 h3 h4 h5 h6 x y =
    let d : length (drop a m) ≡ length m - a = length-drop a m in
    let z : a + k - a ≡ k = omega arith in
    let e : take k (drop a m) ≡ take n (drop at m) = part m at n a k h1 h2 h3 h4 h5 h6 in
    let f : take (a + k - a) (drop a m) ≡ take n (drop at m) = ap (λ (i : ℕ). take i (drop a m)) z ∙ e in
    let l : k ≡ length (take n (drop at m)) = sym (length-take-le k (drop a m) (omega arith)) ∙ ap length e in
    puts_then o o₁ o₂ p q r (bits_of 32 (length (take n (drop at m)))) (bits (take n (drop at m))) g
    (puts-same o o₁ p q (bits_of 32 k) (bits_of 32 (length (take n (drop at m)))) (ap (bits_of 32) l) x)
    (puts-same o₁ o₂ q r (bits (take (a + k - a) (drop a m))) (bits (take n (drop at m))) (ap bits f) y)
