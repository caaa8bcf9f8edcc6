-- A walk over objects of given content lengths, one after the other: what it comes to with a budget. With enough of both it goes
-- to its end; with less of either it stops, by 4 or by 17, and it is said exactly where and with what spent.
use Rattle.std.specs.Prelude.{◌⊎◌, ◌≡◌, refl, List, [], ◌∷◌, Bool, ℕ, zero, suc, ◌+◌, ◌<◌, ◌≤◌, length, take}
use Rattle.std.proofs.Common.{inl, inr, ◌∙◌, arith}
use Rattle.std.proofs.Math.Path.{ap}
use Rattle.std.proofs.Math.Bool.{true, false}
use Rattle.std.proofs.Math.Dec.{ltb, leb}
use borrow.Author.Tests.{lt-ltb, le-leb, ltb-true, ltb-false, leb-true, leb-false}
use Rattle.coding.specs.Lists.{pick}
use Rattle.coding.specs.Walk.{spending, one_more, with_content}
use Rattle.coding.specs.declared.Budget.{Budget}
use Rattle.coding.specs.declared.Spent.{Spent}
use Rattle.demands.specs.Spending.{plus, Affords, spent_is, one_more_affords, with-content_affords}

-- the walk goes to its end, or is refused by a number; and what is spent then
pub data Ending : Type 0 where
  goes : Spent → Ending
  stops : ℕ → Spent → Ending

-- an arrival at each object: a visit, and then its content
unfoldable pub spend : Budget → List ℕ → Spent → Ending
spend b [] s = goes s
spend b (c ∷ cs) s =
    pick (ltb s.visits b.visits)
    (pick (leb (s.content + c) b.content) (spend b cs (with_content c (one_more s))) (stops 17 (one_more s)))
    (stops 4 s)

-- the content of all, and what all cost: a visit each, and their content
unfoldable pub total : List ℕ → ℕ
total [] = 0
total (c ∷ cs) = c + total cs

unfoldable pub cost_of : List ℕ → Spent
cost_of cs = spending (length cs) (total cs)

pub total-take : (k : ℕ) (cs : List ℕ) → total (take k cs) ≤ total cs
unfolding total
total-take k [] = nil k
  where
    nil : (k : ℕ) → total (take k []) ≤ 0
    nil zero = omega arith
    nil (suc k) = omega arith
total-take zero (c ∷ cs) = omega arith
total-take (suc k) (c ∷ cs) = let h = total-take k cs in omega arith

-- ---- enough of both
cost_next : (c : ℕ) (cs : List ℕ) (s : Spent) → plus (with_content c (one_more s)) (cost_of cs) ≡ plus s (cost_of (c ∷ cs))
unfolding plus cost_of total with_content one_more
cost_next c cs s =
    spent_is (plus (with_content c (one_more s)) (cost_of cs)) (plus s (cost_of (c ∷ cs))) (omega arith) (omega arith)

cost_affords : (b : Budget) (cs : List ℕ) (s : Spent) → Affords b (plus s (cost_of cs))
    → (s.visits + length cs ≤ b.visits) × (s.content + total cs ≤ b.content)
unfolding plus cost_of
cost_affords b cs s h = (h.visits, h.content)

pub spend-enough : (b : Budget) (cs : List ℕ) (s : Spent) → Affords b (plus s (cost_of cs)) → spend b cs s ≡ goes (plus s (cost_of cs))
unfolding spend
spend-enough b [] s h = ap goes (unfold cost_of total plus in spent_is s (plus s (cost_of [])) (omega arith) (omega arith))
spend-enough b (c ∷ cs) s h =
    let x = cost_affords b (c ∷ cs) s h in
    let w : s.content + (c + total cs) ≤ b.content = unfold total in x.1 in
    rw (lt-ltb s.visits b.visits (omega (arith, x.0)), le-leb (s.content + c) b.content (omega (arith, w)))
    (spend-enough b cs (with_content c (one_more s)) (rw (cost_next c cs s) h) ∙ ap goes (cost_next c cs s))

-- ---- less of either
-- after k objects no visit is left for the next; or the next, which is visited, would pass the content allowance
pub data Stops (b : Budget) (cs : List ℕ) (s : Spent) : Ending → Type 0 where
  no-visit : (k : ℕ) (t : Spent) → k < length cs → t.visits ≡ s.visits + k → t.visits ≡ b.visits
      → t.content ≡ s.content + total (take k cs) → t.content ≤ b.content → Stops b cs s (stops 4 t)
  no-content : (k : ℕ) (t : Spent) → k < length cs → t.visits ≡ s.visits + k + 1 → t.visits ≤ b.visits
      → t.content ≡ s.content + total (take k cs) → t.content ≤ b.content
      → b.content < s.content + total (take (suc k) cs) → Stops b cs s (stops 17 t)

-- one object more before
stops_next : {b : Budget} {c : ℕ} {cs : List ℕ} {s : Spent} {e : Ending} → Stops b cs (with_content c (one_more s)) e → Stops b (c ∷ cs) s e
unfolding total with_content one_more
stops_next (no-visit k t l v a c m) = no-visit (suc k) t (omega arith) (omega arith) a (omega arith) m
stops_next (no-content k t l v a c m n) = no-content (suc k) t (omega arith) (omega arith) a (omega arith) m (omega arith)

-- less of either than what is spent and the rest costs
abbrev pub Less : Budget → Spent → List ℕ → Type 0
Less b s cs = (b.visits < s.visits + length cs) ⊎ (b.content < s.content + total cs)

less_next : (b : Budget) (c : ℕ) (cs : List ℕ) (s : Spent) → Less b s (c ∷ cs) → Less b (with_content c (one_more s)) cs
unfolding total with_content one_more
less_next b c cs s (inl l) = inl (omega arith)
less_next b c cs s (inr l) = inr (omega arith)

pub spend_less : (b : Budget) (cs : List ℕ) (s : Spent) → Affords b s → Less b s cs → Stops b cs s (spend b cs s)
unfolding spend
spend_less b [] s h (inl l) = absurd (omega (arith, h.visits))
spend_less b [] s h (inr l) = absurd (unfold total in omega (arith, h.content))
spend_less b (c ∷ cs) s h l =
    by (ltb s.visits b.visits) (leb (s.content + c) b.content) refl refl
    (λ v w. spend_less b cs (with_content c (one_more s)) (with-content_affords b c (one_more s) (one_more_affords b s h v) (unfold one_more in w)) (less_next b c cs s l))
  where
    by : (f g : Bool) → ltb s.visits b.visits ≡ f → leb (s.content + c) b.content ≡ g
        → (s.visits < b.visits → s.content + c ≤ b.content
        → Stops b cs (with_content c (one_more s)) (spend b cs (with_content c (one_more s))))
        → Stops b (c ∷ cs) s (pick f (pick g (spend b cs (with_content c (one_more s))) (stops 17 (one_more s))) (stops 4 s))
    by true true e f n = stops_next (n (ltb-true s.visits b.visits e) (leb-true (s.content + c) b.content f))
    by true false e f n =
        let v = ltb-true s.visits b.visits e in
        let w = leb-false (s.content + c) b.content f in
        unfold one_more total in
        no-content 0 (one_more s) (omega arith) (omega arith) (omega arith) (omega arith) h.content (omega arith)
    by false g e f n =
        let v = ltb-false s.visits b.visits e in
        unfold total in
        no-visit 0 s (omega arith) (omega arith) (omega (arith, h.visits)) (omega arith) h.content
