-- Bytes stored one behind the other: the law by which stores are joined, and the four bytes of a number.
use Rattle.std.specs.Prelude.{◌≡◌, refl, List, [], ◌∷◌, ◌++◌, ℕ, suc, ◌+◌, ◌/◌, ◌%◌, length, set}
use Rattle.std.proofs.Common.{sym, ap, ◌∙◌, arith, add-zero}
use Rattle.std.proofs.Math.Nat.{div-div-eq-div-mul}
use Rattle.std.proofs.lemmas.List.Edits.{sets}
use Rattle.coding.specs.Bytes.{le_bytes}

-- a run of bytes, and a run behind it
pub sets-append : (m : List ℕ) (p : ℕ) (a b : List ℕ) → sets m p (a ++ b) ≡ sets (sets m p a) (p + length a) b
sets-append m p [] b = ap (λ (n : ℕ). sets m n b) (sym (add-zero p))
sets-append m p (x ∷ a) b =
    let e : suc p + length a ≡ p + suc (length a) = omega arith in
    sets-append (set m p x) (suc p) a b ∙ ap (λ (n : ℕ). sets (sets (set m p x) (suc p) a) n b) e

-- the four bytes of a number
pub four-stored : (x a b c d : ℕ) → a ≡ x % 256 → b ≡ (x / 256) % 256 → c ≡ (x / 65536) % 256 → d ≡ (x / 16777216) % 256
    → (o : List ℕ) (at : ℕ) → set (set (set (set o at a) (at + 1) b) (at + 2) c) (at + 3) d ≡ sets o at (le_bytes 4 x)
unfolding le_bytes
four-stored x a b c d ea eb ec ed o at =
    let two : x / 65536 ≡ x / 256 / 256 = sym (div-div-eq-div-mul x 256 256) in
    let three : x / 16777216 ≡ x / 256 / 256 / 256 = sym (div-div-eq-div-mul x 65536 256) ∙ ap (λ (k : ℕ). k / 256) two in
    let e1 : at + 1 ≡ suc at = omega arith in
    let e2 : at + 2 ≡ suc (suc at) = omega arith in
    let e3 : at + 3 ≡ suc (suc (suc at)) = omega arith in
    rw (e1, e2, e3, ea, eb, ec, ed, two, three) refl
