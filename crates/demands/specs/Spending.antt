-- What is spent, added up and compared. All that speaks of the allowances together goes through this module: another allowance
-- would be one part more here.
use Rattle.std.specs.Prelude.{ℕ, ◌≤◌, ◌<◌, ◌+◌, ◌≡◌}
use Rattle.std.proofs.Common.{le_refl, le_trans, arith, ap₂}
use Rattle.coding.specs.Walk.{spending, one_more, with_content, nothing}
use Rattle.coding.specs.declared.Budget.{Budget}
use Rattle.coding.specs.declared.Spent.{Spent}

-- what s and k are together
unfoldable pub plus : Spent → Spent → Spent
plus s k = spending (s.visits + k.visits) (s.content + k.content)

-- s is no more than t, of either
pub record NoMore (s t : Spent) : Type 0 where
  pub visits : s.visits ≤ t.visits
  pub content : s.content ≤ t.content

-- all that may be spent
abbrev pub allowed : Budget → Spent
allowed b = spending b.visits b.content

-- s is within both allowances
abbrev pub Affords : Budget → Spent → Type 0
Affords b s = NoMore s (allowed b)

pub spent_is : (s t : Spent) → s.visits ≡ t.visits → s.content ≡ t.content → s ≡ t
spent_is s t e f = ap₂ (λ (n c : ℕ). spending n c) e f

-- ---- no more
pub no_more_refl : (s : Spent) → NoMore s s
no_more_refl s = record { visits = le_refl s.visits; content = le_refl s.content }

pub no_more_trans : {s t u : Spent} → NoMore s t → NoMore t u → NoMore s u
no_more_trans h g = record { visits = le_trans h.visits g.visits; content = le_trans h.content g.content }

-- ---- added up
pub plus-nothing : (s : Spent) → plus s nothing ≡ s
unfolding plus nothing
plus-nothing s = spent_is (plus s nothing) s (omega arith) (omega arith)

pub nothing-plus : (s : Spent) → plus nothing s ≡ s
unfolding plus nothing
nothing-plus s = spent_is (plus nothing s) s (omega arith) (omega arith)

pub plus-plus : (s k l : Spent) → plus (plus s k) l ≡ plus s (plus k l)
unfolding plus
plus-plus s k l = spent_is (plus (plus s k) l) (plus s (plus k l)) (omega arith) (omega arith)

pub plus-part : (s k l : Spent) → NoMore (plus s k) (plus s (plus k l))
unfolding plus
plus-part s k l = record { visits = omega arith; content = omega arith }

pub nothing_least : (s : Spent) → NoMore nothing s
unfolding nothing
nothing_least s = record { visits = omega arith; content = omega arith }

-- ---- an arrival: one visit, and then its content
pub one_more_up : (s : Spent) → NoMore s (one_more s)
unfolding one_more
one_more_up s = record { visits = omega arith; content = omega arith }

pub with-content_up : (c : ℕ) (s : Spent) → NoMore s (with_content c s)
unfolding with_content
with-content_up c s = record { visits = omega arith; content = omega arith }

pub one_more-within : {s t : Spent} → NoMore s t → NoMore (one_more s) (one_more t)
unfolding one_more
one_more-within h = record { visits = omega arith; content = h.content }

pub with-content-within : (c : ℕ) {s t : Spent} → NoMore s t → NoMore (with_content c s) (with_content c t)
unfolding with_content
with-content-within c h = record { visits = h.visits; content = omega arith }

-- a visit before what is left to spend, and content before it
pub one_more-plus : (s k : Spent) → plus (one_more s) k ≡ plus s (plus (spending 1 0) k)
unfolding one_more plus
one_more-plus s k = spent_is (plus (one_more s) k) (plus s (plus (spending 1 0) k)) (omega arith) (omega arith)

pub with-content-plus : (c : ℕ) (s k : Spent) → plus (with_content c s) k ≡ plus s (plus (spending 0 c) k)
unfolding with_content plus
with-content-plus c s k = spent_is (plus (with_content c s) k) (plus s (plus (spending 0 c) k)) (omega arith) (omega arith)

pub arrival-plus : (c : ℕ) (k : Spent) → plus (spending 1 0) (plus (spending 0 c) k) ≡ plus (spending 1 c) k
unfolding plus
arrival-plus c k = spent_is (plus (spending 1 0) (plus (spending 0 c) k)) (plus (spending 1 c) k) (omega arith) (omega arith)

-- within the budget after one visit more, and after so much content more
pub one_more_affords : (b : Budget) (s : Spent) → Affords b s → s.visits < b.visits → Affords b (one_more s)
unfolding one_more
one_more_affords b s h l = record { visits = omega arith; content = h.content }

pub with-content_affords : (b : Budget) (c : ℕ) (s : Spent) → Affords b s → s.content + c ≤ b.content
    → Affords b (with_content c s)
unfolding with_content
with-content_affords b c s h l = record { visits = h.visits; content = l }

-- what is left to spend does not fit: no visit is left, or too little content
pub no-visit : (b : Budget) (s k : Spent) → b.visits ≤ s.visits → Affords b (plus s (plus (spending 1 0) k)) → ⊥
unfolding plus
no-visit b s k l h = omega (arith, h.visits)

pub no-content : (b : Budget) (c : ℕ) (s k : Spent) → b.content < s.content + c → Affords b (plus s (plus (spending 0 c) k)) → ⊥
unfolding plus
no-content b c s k l h = omega (arith, h.content)
