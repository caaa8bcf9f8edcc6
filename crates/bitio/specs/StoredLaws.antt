-- Runs stored one after another, and a run stored with zero bits behind it.
use Rattle.std.specs.Prelude.{◌≡◌, refl, Bool, true, false, ◌&&◌, ℕ, zero, suc, ◌+◌, ◌-◌, ◌*◌, ◌/◌, ◌%◌, ◌^◌, ◌≤◌, eqb}
use Rattle.std.proofs.Common.{sym, ◌∙◌, subst, add-zero, arith, take_at, drop_at, drop-drop, length-take-le, pow_pos}
use Rattle.std.proofs.Math.Path.{ap, ap₂}
use mathlib.Core.List.{List, [], ◌∷◌, ◌++◌, append_assoc, append-nil}
use Rattle.std.proofs.Math.ListN.{length, take, drop, length-append}
use Rattle.std.proofs.Math.Seq.{drop-nil}
use Rattle.std.proofs.Math.Pow.{high}
use Rattle.coding.specs.Bits.{bits_of, all_zero}
use Rattle.bitio.specs.Splice.{splice}
use Rattle.bitio.specs.Puts.{Stored}

-- ---- zero bits
and_right : (a b : Bool) → a && b ≡ true → b ≡ true
and_right true b e = e
and_right false b e = let z : ◌≡◌ {A = ℕ} 0 1 = cc in absurd (omega arith)

-- all but the front of zero bits are zero bits
pub zeros-drop : (j : ℕ) (xs : List ℕ) → all_zero xs ≡ true → all_zero (drop j xs) ≡ true
unfolding all_zero
zeros-drop zero xs e = e
zeros-drop (suc j) [] e = refl
zeros-drop (suc j) (x ∷ xs) e = zeros-drop j xs (and_right (eqb x 0) (all_zero xs) e)

pub zeros-append : (xs ys : List ℕ) → all_zero xs ≡ true → all_zero ys ≡ true → all_zero (xs ++ ys) ≡ true
unfolding all_zero
zeros-append [] ys e f = f
zeros-append (x ∷ xs) ys e f = by (eqb x 0) e (λ g. zeros-append xs ys g f)
  where
    by : (t : Bool) → t && all_zero xs ≡ true → (all_zero xs ≡ true → all_zero (xs ++ ys) ≡ true) → t && all_zero (xs ++ ys) ≡ true
    by true g h = h g
    by false g h = let z : ◌≡◌ {A = ℕ} 0 1 = cc in absurd (omega arith)

no_bit : (k : ℕ) → 0 / 2 ^ k ≡ 0
no_bit k = let z : 0 * 2 ^ k + 0 ≡ 0 = omega arith in ap (λ (x : ℕ). x / 2 ^ k) (sym z) ∙ high 0 k (pow_pos k)

pub zeros_of : (k : ℕ) → all_zero (bits_of k 0) ≡ true
unfolding all_zero bits_of
zeros_of zero = refl
zeros_of (suc k) = ap (λ (x : ℕ). eqb (x % 2) 0 && all_zero (bits_of k 0)) (no_bit k) ∙ zeros_of k

-- a list whose front is replaced by zero bits: what was zero bits is
zeros_over : (j : ℕ) (zs m : List ℕ) → all_zero zs ≡ true → all_zero (drop j m) ≡ true → all_zero (drop j (zs ++ drop (length zs) m)) ≡ true
unfolding all_zero
zeros_over j [] m e f = f
zeros_over zero (z ∷ zs) m e f = zeros-append (z ∷ zs) (drop (length (z ∷ zs)) m) e (zeros-drop (length (z ∷ zs)) m f)
zeros_over (suc j) (z ∷ zs) [] e f =
    let g : all_zero (drop j []) ≡ true = ap all_zero (drop-nil j) in
    ap (λ (s : List ℕ). all_zero (drop j (zs ++ s))) (sym (drop-nil (length zs))) ∙ zeros_over j zs [] (and_right (eqb z 0) (all_zero zs) e) g
zeros_over (suc j) (z ∷ zs) (x ∷ m) e f = zeros_over j zs m (and_right (eqb z 0) (all_zero zs) e) f

-- ---- what is stored
-- nothing
pub stored_none : (l : List ℕ) (p : ℕ) → Stored l p [] l
stored_none l p = record { front = ap (λ (k : ℕ). take k l) (add-zero p) ∙ sym (append-nil (take p l)); zeros = λ i h e. e }

-- one run, and one after it
pub stored_then : (l l₁ l₂ : List ℕ) (p q : ℕ) (xs ys : List ℕ) → Stored l p xs l₁ → Stored l₁ q ys l₂ → q ≡ p + length xs → Stored l p (xs ++ ys) l₂
stored_then l l₁ l₂ p q xs ys a b e =
    let n = length-append xs ys in
    let f : p + length (xs ++ ys) ≡ q + length ys = omega arith in
    record {
      front = ap (λ (k : ℕ). take k l₂) f ∙ b.front ∙ ap (λ (k : ℕ). take k l₁ ++ ys) e ∙ ap (λ (s : List ℕ). s ++ ys) a.front ∙ append_assoc (take p l) xs ys;
      zeros = λ i h z. b.zeros i (omega arith) (a.zeros i (omega arith) z);
    }

pub stored_same : (l l' : List ℕ) (p : ℕ) (xs ys : List ℕ) → xs ≡ ys → Stored l p xs l' → Stored l p ys l'
stored_same l l' p xs ys e h = subst (λ (s : List ℕ). Stored l p s l') e h

-- a run put in with zero bits behind it
module _ (l l' : List ℕ) (p : ℕ) (xs zs : List ℕ) (h : p + length xs + length zs ≤ length l) (e : l' ≡ splice l p (xs ++ zs)) (z : all_zero zs ≡ true) where
  abbrev end : ℕ
  end = p + length xs

  abbrev rest : List ℕ
  rest = zs ++ drop (length zs) (drop end l)

  front_length : length (take p l ++ xs) ≡ end
  front_length = length-append (take p l) xs ∙ ap (λ (k : ℕ). k + length xs) (length-take-le p l (omega arith))

  parts : l' ≡ take p l ++ xs ++ rest
  unfolding splice
  parts =
      let f : p + length (xs ++ zs) ≡ end + length zs = omega (arith, length-append xs zs) in
      e
      ∙ ap₂ (λ (s : List ℕ) (k : ℕ). s ++ drop k l) (sym (append_assoc (take p l) xs zs)) f
      ∙ append_assoc (take p l ++ xs) zs (drop (end + length zs) l)
      ∙ ap (λ (s : List ℕ). take p l ++ xs ++ (zs ++ s)) (sym (drop-drop (length zs) end l))

  after : (i : ℕ) → end ≤ i → all_zero (drop i l) ≡ true → all_zero (drop i l') ≡ true
  after i g f =
      let j : ℕ = i - end in
      let k : end + j ≡ i = omega arith in
      let back : drop j (drop end l) ≡ drop i l = drop-drop j end l ∙ ap (λ (n : ℕ). drop n l) k in
      let here : drop j (drop end l') ≡ drop i l' = drop-drop j end l' ∙ ap (λ (n : ℕ). drop n l') k in
      let tail : drop end l' ≡ rest = ap (drop end) parts ∙ drop_at (take p l ++ xs) rest end front_length in
      ap all_zero (sym here ∙ ap (drop j) tail) ∙ zeros_over j zs (drop end l) z (ap all_zero back ∙ f)

  pub stored_zeroed : Stored l p xs l'
  stored_zeroed = record { front = ap (take end) parts ∙ take_at (take p l ++ xs) rest end front_length; zeros = after }

-- a run put in
pub stored_in : (l l' : List ℕ) (p : ℕ) (xs : List ℕ) → p + length xs ≤ length l → l' ≡ splice l p xs → Stored l p xs l'
unfolding all_zero
stored_in l l' p xs h e = stored_zeroed l l' p xs [] (let z : length {A = ℕ} [] ≡ 0 = refl in omega arith) (e ∙ ap (splice l p) (sym (append-nil xs))) refl
