-- The table's rule, proved by tests over the complete table that are computed: an entry is the state after its byte, and the
-- words hold the entries.
use Prim.Native.Nat.{ℕ, ◌*◌, ◌/◌, ◌%◌, ◌^◌, ◌<◌}
use native.Mathlib.Omega.{arith}
use mathlib.Core.Path.{◌≡◌, refl, ap, sym, ◌∙◌}
use mathlib.Core.Bool.{Bool, true}
use lib.Dec.{eqb}
use lib.ListN.{get_or}
use borrow.Author.Tests.{eqb-true}
use Rattle.coding.specs.Lists.{every}
use Rattle.coding.specs.Utf8.{TextState, Boundary, OneTail, TwoTails, ThreeTails, AfterE0, AfterED, AfterF0, AfterF4, NoText, within, after_first, after_octet}
use Rattle.laws.specs.Lists.{every-at}
use Rattle.utf8.specs.Table.{state_number, row, words}
use Rattle.utf8.specs.Steps.{state_of, state_in, HoldsState, StateAfter}

-- ---- each entry is the state after its byte
entry_right : TextState → ℕ → Bool
entry_right q b = eqb (get_or (row q) b 0) (state_number (after_octet q b))

rows_right : (q : TextState) → every (entry_right q) 256 ≡ true
unfolding every entry_right row state_number after_octet after_first within
rows_right Boundary = refl
rows_right OneTail = refl
rows_right TwoTails = refl
rows_right ThreeTails = refl
rows_right AfterE0 = refl
rows_right AfterED = refl
rows_right AfterF0 = refl
rows_right AfterF4 = refl
rows_right NoText = refl

pub entry_is : (q : TextState) (b : ℕ) → b < 256 → get_or (row q) b 0 ≡ state_number (after_octet q b)
unfolding entry_right
entry_is q b h = eqb-true (get_or (row q) b 0) (state_number (after_octet q b)) (every-at (entry_right q) 256 b (rows_right q) h)

-- ---- each word holds its byte's entries
bits_right : TextState → ℕ → Bool
bits_right q b = eqb (get_or words b 0 / 2 ^ (6 * state_number q) % 64) (6 * get_or (row q) b 0)

words_right : (q : TextState) → every (bits_right q) 256 ≡ true
unfolding every bits_right row state_number
words_right Boundary = refl
words_right OneTail = refl
words_right TwoTails = refl
words_right ThreeTails = refl
words_right AfterE0 = refl
words_right AfterED = refl
words_right AfterF0 = refl
words_right AfterF4 = refl
words_right NoText = refl

word_holds : (q : TextState) (b : ℕ) → b < 256 → get_or words b 0 / 2 ^ (6 * state_number q) % 64 ≡ 6 * get_or (row q) b 0
unfolding bits_right
word_holds q b h =
    eqb-true (get_or words b 0 / 2 ^ (6 * state_number q) % 64) (6 * get_or (row q) b 0) (every-at (bits_right q) 256 b (words_right q) h)

-- ---- a word's shift is the state after
state-number : (q : TextState) → state_of (state_number q) ≡ q
unfolding state_number state_of
state-number Boundary = refl
state-number OneTail = refl
state-number TwoTails = refl
state-number ThreeTails = refl
state-number AfterE0 = refl
state-number AfterED = refl
state-number AfterF0 = refl
state-number AfterF4 = refl
state-number NoText = refl

holds_in : (r : ℕ) (q : TextState) → r % 64 ≡ 6 * state_number q → state_in r ≡ q
unfolding state_in
holds_in r q e =
    let h : 6 * state_number q / 6 ≡ state_number q = omega arith in
    ap (λ (n : ℕ). state_of (n / 6)) e ∙ ap state_of h ∙ state-number q

pub shift-after : (w b : ℕ) → HoldsState w → b < 256 → StateAfter w b (get_or words b 0 / 2 ^ (w % 64))
unfolding HoldsState
shift-after w b l h =
    let r = get_or words b 0 / 2 ^ (w % 64) in
    let q = state_in w in
    let e : r % 64 ≡ 6 * state_number (after_octet q b) = ap (λ (n : ℕ). get_or words b 0 / 2 ^ n % 64) l
    ∙ word_holds q b h
    ∙ ap (λ (n : ℕ). 6 * n) (entry_is q b h) in
    let p : state_in r ≡ after_octet q b = holds_in r (after_octet q b) e in
    record { holds = e ∙ ap (λ (s : TextState). 6 * state_number s) (sym p); is = p }

-- ---- the two states that the code asks for
pub at_boundary : (w : ℕ) → w % 64 ≡ 0 → state_in w ≡ Boundary
unfolding state_number
at_boundary w e = holds_in w Boundary e

pub at_no-text : (w : ℕ) → w % 64 ≡ 48 → state_in w ≡ NoText
unfolding state_number
at_no-text w e = holds_in w NoText e
