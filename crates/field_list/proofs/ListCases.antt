-- The ways out of many steps of a list reader: what the loop stores, and what a refused reader gives.
use Rattle.std.specs.Prelude.{Result}
use mathlib.Core.Path.{◌≡◌, refl, sym, ap, ◌∙◌}
use mathlib.Core.Bool.{Bool, true, false}
use mathlib.Core.List.{List, [], ◌∷◌, ◌++◌, append_assoc}
use Prim.Native.Nat.{ℕ, zero, suc, ◌+◌, ◌*◌, ◌-◌, ◌/◌, ◌<◌, ◌≤◌}
use native.Mathlib.Omega.{arith}
use borrow.Rule.Slice.PartMut.{post_of, put_mid, Post-is}
use lib.ListN.{length, set, take, drop, length-append, take-append-drop}
use lib.Seq.{length-take-le, take_at, drop-append-add, drop-drop, sets-eq}
use Rattle.coding.specs.Packed as P
use Rattle.coding.specs.Positions.{with_table}
use Rattle.coding.specs.Walk as W
use Rattle.coding.specs.Field as Field
use Rattle.coding.specs.Field.{case_numbers, answer_case, step_numbers, steps_over, reader_next}
use Rattle.coding.specs.declared.Found.{Found}
use Rattle.coding.specs.declared.Answer.{Answer}
use Rattle.coding.specs.declared.Case.{Case}
use Rattle.coding.specs.declared.Answer.TheVariants as A
use Rattle.coding.specs.declared.Refusal.{Refusal}
use Rattle.field_element.specs.declared.list.ListAt.{ListAt}
use Rattle.field_element.specs.Listed.{Starts, gives, count}
use Rattle.field_element.proofs.StartCases.{starts-gives, starts-count}
use Rattle.field_list.specs.Stepping.{steps_left}

-- ---- the loop
-- what stands before a store's end and behind it
module _ (out ns : List ℕ) (at : ℕ) (l : length ns ≡ 4) (fits : at + 4 ≤ length out) where
  pub stored : List ℕ
  stored = take at out ++ (ns ++ drop (at + 4) out)

  head-length : length (take at out ++ ns) ≡ at + 4
  head-length =
      let t = length-take-le at out (omega arith) in
      omega (arith, length-append (take at out) ns)

  before-end : take (at + 4) stored ≡ take at out ++ ns
  unfolding stored
  before-end =
      rw (← append_assoc (take at out) ns (drop (at + 4) out)) (take_at (take at out ++ ns) (drop (at + 4) out) (at + 4) head-length)

  behind-end : (e : ℕ) → at + 4 ≤ e → drop e stored ≡ drop e out
  unfolding stored
  behind-end e h =
      let k = e - (at + 4) in
      let x : length (take at out ++ ns) + k ≡ e = omega (arith, head-length) in
      let y : at + 4 + k ≡ e = omega arith in
      ap (drop e) (sym (append_assoc (take at out) ns (drop (at + 4) out)))
      ∙ ap (λ (n : ℕ). drop n ((take at out ++ ns) ++ drop (at + 4) out)) (sym x)
      ∙ drop-append-add (take at out ++ ns) (drop (at + 4) out) k
      ∙ drop-drop k (at + 4) out
      ∙ ap (λ (n : ℕ). drop n out) y

  -- the rest, stored after it
  pub after_store : (e : ℕ) → at + 4 ≤ e → (rest : List ℕ)
      → take (at + 4) stored ++ (rest ++ drop e stored) ≡ take at out ++ ((ns ++ rest) ++ drop e out)
  after_store e h rest =
      rw (before-end, behind-end e h) (append_assoc (take at out) ns (rest ++ drop e out) ∙ ap (λ (t : List ℕ). take at out ++ t) (sym (append_assoc ns rest (drop e out))))

case-length : (x : Case) → length (case_numbers x) ≡ 4
unfolding case_numbers
case-length x = refl

module _ (gives : ℕ → Answer) (n : ℕ) where
  pub left_start : (j : ℕ) (out : List ℕ) → steps_left gives n j 0 (length out / 4) out ≡ steps_over gives n j out
  unfolding steps_left steps_over
  left_start j out =
      let z : length out / 4 - 0 ≡ length out / 4 = omega arith in
      ap (λ (k : ℕ). step_numbers gives n j k ++ drop (4 * (length out / 4)) out) z

  pub left_done : (j i steps : ℕ) (out : List ℕ) → steps ≤ i → i ≤ steps → steps_left gives n j i steps out ≡ out
  unfolding steps_left step_numbers
  left_done j i steps out h l =
      let e : i ≡ steps = omega arith in
      let z : steps - i ≡ 0 = omega arith in
      rw (z, e) (take-append-drop (4 * steps) out)

  pub left_turn : (j i steps : ℕ) (out : List ℕ) → i < steps → 4 * steps ≤ length out → (x : Case) → x ≡ answer_case (gives j)
      → (out' : List ℕ) → out' ≡ take (4 * i) out ++ (case_numbers x ++ drop (4 * i + 4) out) → (k : ℕ) → k ≡ reader_next n j
      → steps_left gives n k (i + 1) steps out' ≡ steps_left gives n j i steps out
  unfolding steps_left step_numbers stored
  left_turn j i steps out h s x ex out' eo k ek =
      let a : steps - i ≡ suc (steps - (i + 1)) = omega arith in
      let b : 4 * (i + 1) ≡ 4 * i + 4 = omega arith in
      let rest = step_numbers gives n k (steps - (i + 1)) in
      let z = after_store out (case_numbers x) (4 * i) (case-length x) (omega arith) (4 * steps) (omega arith) rest in
      ap (λ (e : ℕ). take e out' ++ (rest ++ drop (4 * steps) out')) b
      ∙ ap (λ (w : List ℕ). take (4 * i + 4) w ++ (rest ++ drop (4 * steps) w)) eo
      ∙ z
      ∙ ap (λ (y : Case). take (4 * i) out ++ ((case_numbers y ++ rest) ++ drop (4 * steps) out)) ex
      ∙ ap (λ (y : ℕ). take (4 * i) out ++ ((case_numbers (answer_case (gives j)) ++ step_numbers gives n y (steps - (i + 1))) ++ drop (4 * steps) out)) ek
      ∙ ap (λ (y : ℕ). take (4 * i) out ++ (step_numbers gives n j y ++ drop (4 * steps) out)) (sym a)

-- ---- four numbers, stored
pub put_four : (out ys : List ℕ) (at : ℕ) (x : Case) (v : ℕ) → v ≡ x.case → ys ≡ v ∷ x.a ∷ x.b ∷ x.c ∷ []
    → put_mid at (at + 4 - at) out ys ≡ take at out ++ (case_numbers x ++ drop (at + 4) out)
unfolding case_numbers
put_four out ys at x v ev e =
    let w : at ≤ at + 4 = omega arith in
    ap (λ (ns : List ℕ). take at out ++ (ns ++ post_of at (at + 4 - at) out)) (e ∙ ap (λ (n : ℕ). n ∷ x.a ∷ x.b ∷ x.c ∷ []) ev)
    ∙ ap (λ (t : List ℕ). take at out ++ ((x.case ∷ x.a ∷ x.b ∷ x.c ∷ []) ++ t)) (Post-is at (at + 4) out w)

-- ---- two readers that answer alike
module _ (gives other : ℕ → Answer) (n : ℕ) (alike : (j : ℕ) → gives j ≡ other j) where
  alike_steps : (j k : ℕ) → step_numbers gives n j k ≡ step_numbers other n j k
  unfolding step_numbers
  alike_steps j zero = refl
  alike_steps j (suc k) =
      ap (λ (y : Answer). case_numbers (answer_case y) ++ step_numbers gives n (reader_next n j) k) (alike j)
      ∙ ap (λ (t : List ℕ). case_numbers (answer_case (other j)) ++ t) (alike_steps (reader_next n j) k)

  pub alike_over : (j : ℕ) (out : List ℕ) → steps_over gives n j out ≡ steps_over other n j out
  unfolding steps_over
  alike_over j out = ap (λ (t : List ℕ). t ++ drop (4 * (length out / 4)) out) (alike_steps j (length out / 4))

-- what the reader of a path stores, by what it starts from
pub over-starts : (o : ℕ) (b m path : List ℕ) (h : Result ListAt Refusal) → Starts o b m path h → (j : ℕ) (out out' : List ℕ)
    → out' ≡ steps_over (gives h) (count h) j out → out' ≡ Field.reader_over o b m path j out
unfolding Field.reader_over
over-starts o b m path h s j out out' e =
    e ∙ alike_over (gives h) (Field.reader_gives o b m path) (count h) (starts-gives o b m path h s) j out
    ∙ ap (λ (n : ℕ). steps_over (Field.reader_gives o b m path) n j out) (starts-count o b m path h s)
