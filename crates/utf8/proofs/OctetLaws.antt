-- Laws of the states of text: octets one after the other, and the state that a word holds.
use Prim.Native.Nat.{ℕ, ◌*◌, ◌%◌, ◌≤◌, ◌<◌}
use native.Mathlib.Omega.{arith}
use mathlib.Core.Path.{◌≡◌, refl, ap, ◌∙◌}
use mathlib.Core.Bool.{false}
use mathlib.Core.List.{List, [], ◌∷◌, ◌++◌}
use lib.Dec.{eqb}
use borrow.Author.Tests.{le-leb}
use Rattle.coding.specs.Utf8.{TextState, Boundary, OneTail, TwoTails, ThreeTails, AfterE0, AfterED, AfterF0, AfterF4, NoText, within, after_first, after_octet, may_end, text_from}
use Rattle.utf8.specs.Table.{state_number}
use Rattle.utf8.specs.Steps.{state_in, HoldsState, after_octets}

pub octets-append : (q : TextState) (xs ys : List ℕ) → after_octets q (xs ++ ys) ≡ after_octets (after_octets q xs) ys
unfolding after_octets
octets-append q [] ys = refl
octets-append q (x ∷ xs) ys = octets-append (after_octet q x) xs ys

-- octets may follow in a state exactly if a text may end in the state after them
pub octets-end : (q : TextState) (xs : List ℕ) → text_from q xs ≡ may_end (after_octets q xs)
unfolding text_from after_octets
octets-end q [] = refl
octets-end q (x ∷ xs) = octets-end (after_octet q x) xs

pub ascii_stays : (x : ℕ) → x < 128 → after_octet Boundary x ≡ Boundary
unfolding after_octet after_first within
ascii_stays x h = let l : x ≤ 127 = omega arith in simp (le-leb 0 x (omega arith), le-leb x 127 l)

pub no-text_stays : (xs : List ℕ) → text_from NoText xs ≡ false
unfolding text_from after_octet may_end
no-text_stays [] = refl
no-text_stays (x ∷ xs) = no-text_stays xs

number_ends : (q : TextState) → eqb (6 * state_number q) 0 ≡ may_end q
unfolding state_number may_end
number_ends Boundary = refl
number_ends OneTail = refl
number_ends TwoTails = refl
number_ends ThreeTails = refl
number_ends AfterE0 = refl
number_ends AfterED = refl
number_ends AfterF0 = refl
number_ends AfterF4 = refl
number_ends NoText = refl

-- a text may end in the state of a word exactly if the word's last six bits are 0
pub word_ends : (w : ℕ) → HoldsState w → eqb (w % 64) 0 ≡ may_end (state_in w)
unfolding HoldsState
word_ends w l = ap (λ (n : ℕ). eqb n 0) l ∙ number_ends (state_in w)
