-- The laws of a run put into a list.
use Rattle.std.specs.Prelude.{◌≡◌, List, [], ◌++◌, ℕ, suc, ◌+◌, ◌*◌, ◌≤◌, ◌<◌, length, get_or, take, drop, set}
use Rattle.std.proofs.Common.{sym, ap, ap₂, ◌∙◌, append_assoc, append-nil, add-zero, add_assoc, arith, length-append, length-drop, take-append-drop, take_at, drop_at, take-add, drop-drop, length-take-le}
use Rattle.coding.specs.Bits.{bits_of, bits}
use Rattle.laws.specs.Bits.{bits_of-length, bits-length}
use Rattle.laws.specs.BitLists.{bits_at, bits-set}
use Rattle.bitio.specs.Splice.{splice}

-- nothing
pub splice_none : (l : List ℕ) (p : ℕ) → splice l p [] ≡ l
unfolding splice
splice_none l p = rw (add-zero p, append-nil) (take-append-drop p l)

-- between two lists
pub splice_at : (a x z y : List ℕ) (p : ℕ) → length a ≡ p → length x ≡ length y → splice (a ++ (x ++ z)) p y ≡ a ++ (y ++ z)
unfolding splice
splice_at a x z y p e f =
    let g : length (a ++ x) ≡ p + length y = length-append a x ∙ ap₂ ◌+◌ e f in
    ap₂ (λ (s t : List ℕ). s ++ y ++ t)
    (take_at a (x ++ z) p e)
    (ap (drop (p + length y)) (sym (append_assoc a x z)) ∙ drop_at (a ++ x) z (p + length y) g)
    ∙ append_assoc a y z

-- two runs, one after the other, are one
pub splice_more : (l : List ℕ) (p : ℕ) (xs ys : List ℕ) → p + length xs + length ys ≤ length l
    → splice (splice l p xs) (p + length xs) ys ≡ splice l p (xs ++ ys)
unfolding splice
splice_more l p xs ys h =
    let e : length (take p l ++ xs) ≡ p + length xs = length-append (take p l) xs ∙ ap (λ (k : ℕ). k + length xs) (length-take-le p l (omega arith)) in
    let f : p + length xs + length ys ≡ p + length (xs ++ ys) = add_assoc p (length xs) (length ys) ∙ ap (λ (k : ℕ). p + k) (sym (length-append xs ys)) in
    ap₂ (λ (s t : List ℕ). s ++ ys ++ t)
    (take_at (take p l ++ xs) (drop (p + length xs) l) (p + length xs) e)
    (sym (drop-drop (length ys) (p + length xs) (take p l ++ xs ++ drop (p + length xs) l))
    ∙ ap (drop (length ys)) (drop_at (take p l ++ xs) (drop (p + length xs) l) (p + length xs) e)
    ∙ drop-drop (length ys) (p + length xs) l
    ∙ ap (λ (k : ℕ). drop k l) f)
    ∙ ap (λ (s : List ℕ). s ++ drop (p + length (xs ++ ys)) l) (append_assoc (take p l) xs ys)

-- the same for callers: a run, and a run after it
pub put_then : (l l₁ l₂ : List ℕ) (p q : ℕ) (xs ys : List ℕ) → l₁ ≡ splice l p xs → l₂ ≡ splice l₁ q ys → q ≡ p + length xs
    → q + length ys ≤ length l → l₂ ≡ splice l p (xs ++ ys)
put_then l l₁ l₂ p q xs ys e f g fit =
    f ∙ ap₂ (λ (s : List ℕ) (k : ℕ). splice s k ys) e g ∙ splice_more l p xs ys (omega arith)

-- a run whose front stands there already
pub splice_own : (l : List ℕ) (p k : ℕ) (xs : List ℕ) → p + k ≤ length l → splice l p (take k (drop p l) ++ xs) ≡ splice l (p + k) xs
unfolding splice
splice_own l p k xs h =
    let len : length (take k (drop p l)) ≡ k = length-take-le k (drop p l) (omega (arith, length-drop p l)) in
    let e : p + length (take k (drop p l) ++ xs) ≡ p + k + length xs = omega (arith, length-append (take k (drop p l)) xs) in
    ap₂ (λ (s : List ℕ) (i : ℕ). s ++ drop i l)
    (sym (append_assoc (take p l) (take k (drop p l)) xs) ∙ ap (λ (s : List ℕ). s ++ xs) (sym (take-add p k l))) e

-- a byte stored is its bits put in
pub bits-stored : (l : List ℕ) (i b : ℕ) → i < length l → bits (set l i b) ≡ splice (bits l) (8 * i) (bits_of 8 b)
bits-stored l i b h =
    bits-set l i h b
    ∙ sym (splice_at (bits (take i l)) (bits_of 8 (get_or l i 0)) (bits (drop (suc i) l)) (bits_of 8 b) (8 * i)
    (bits-length (take i l) ∙ ap (λ (k : ℕ). 8 * k) (length-take-le i l (omega arith)))
    (bits_of-length 8 (get_or l i 0) ∙ sym (bits_of-length 8 b)))
    ∙ ap (λ (s : List ℕ). splice s (8 * i) (bits_of 8 b)) (sym (bits_at l i h))
