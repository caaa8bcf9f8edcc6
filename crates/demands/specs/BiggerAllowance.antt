-- 02, K13, "Bigger allowance, same story": "raising either or both leaves an acceptance with the same visits and content, and leaves
-- every refusal other than 4 and 17 the same in all its parts". Of any bytes as schema and message, under either coding; the same of
-- reading to a sheet. What more makes of a 4 or a 17 is said too, and how much of both is enough for the same verdict.
use Rattle.std.specs.Prelude.{ℕ, ◌<◌, List, ◌↔◌, ◌≡◌, length}
use Rattle.std.proofs.Common.{arith, sym, subst, eqb-true}
use Rattle.std.proofs.Math.Bool.{Bool, true, false}
use Rattle.std.proofs.Math.Path.{refl}
use Rattle.std.proofs.Math.Dec.{eqb}
use Rattle.coding.specs.Lists.{pick}
use Rattle.coding.specs.Packed.{parse}
use Rattle.coding.specs.Lawful.{lawful}
use Rattle.coding.specs.Walk.{walk, verdict_of, spent_of, early, size_ok, start_ok, verdict, Walked}
use Rattle.coding.specs.Message.{fits_room, read_answer, read_out}
use Rattle.coding.specs.declared.Budget.{Budget}
use Rattle.coding.specs.declared.Spent.{Spent}
use Rattle.coding.specs.declared.Verdict.{Verdict}
use Rattle.demands.specs.Spending.{NoMore, allowed, Affords}
use Rattle.demands.specs.SpentGrows.{walked_spent, verdict_affords}
use Rattle.demands.specs.Raised as R

-- "raising either or both": b' allows at least as much of both as b
abbrev pub Raises : Budget → Budget → Type 0
Raises b b' = NoMore (allowed b) (allowed b')

-- an acceptance, or a refusal "other than 4 and 17"
pub record Settled (v : Verdict) : Type 0 where
  pub not_visits : v.number ≡ 4 → ⊥
  pub not-content : v.number ≡ 17 → ⊥

-- what becomes of the verdict v with the budget b where the budget is raised: the same in all parts; or v is 4 or 17, and the other
-- has spent no less of either than v, and of what v lacked more than b allows
pub data Becomes (b : Budget) (v v' : Verdict) : Type 0 where
  unchanged : v' ≡ v → Becomes b v v'
  more_visits : v.number ≡ 4 → NoMore (spent_of v) (spent_of v') → b.visits < v'.visits → Becomes b v v'
  more-content : v.number ≡ 17 → NoMore (spent_of v) (spent_of v') → b.content < v'.content → Becomes b v v'

walked_becomes : (b : Budget) {w w' : Walked} → R.Raised b w w' → Becomes b (verdict_of w) (verdict_of w')
unfolding verdict_of
walked_becomes b R.unchanged = unchanged refl
walked_becomes b (R.more_visits {w} e l v) =
    more_visits e (rw (walked_spent w) l) (subst (λ (t : Spent). b.visits < t.visits) (sym (walked_spent w)) v)
walked_becomes b (R.more-content {w} e l v) =
    more-content e (rw (walked_spent w) l) (subst (λ (t : Spent). b.content < t.content) (sym (walked_spent w)) v)

module _ (o : ℕ) (schema m : List ℕ) (b b' : Budget) (raises : Raises b b') where
  -- ---- judging
  pub verdict_becomes : Becomes b (verdict o schema m b) (verdict o schema m b')
  unfolding verdict
  verdict_becomes = by (lawful o schema) (size_ok o m) (start_ok m)
    where
      judged : Bool → Bool → Bool → Budget → Verdict
      judged l z g c = pick l (pick z (pick g (verdict_of (walk o (parse schema) m c)) (early 3)) (early 2)) (early 1)

      by : (l z g : Bool) → Becomes b (judged l z g b) (judged l z g b')
      by true true true = walked_becomes b (R.walk_raised b b' raises o (parse schema) m)
      by true true false = unchanged refl
      by true false g = unchanged refl
      by false z g = unchanged refl

  -- THE CLAIM: an acceptance and every refusal other than 4 and 17 stay the same in all parts: number, place, member, visits and
  -- content
  pub same-verdict : Settled (verdict o schema m b) → verdict o schema m b' ≡ verdict o schema m b
  same-verdict settled = by verdict_becomes
    where
      by : Becomes b (verdict o schema m b) (verdict o schema m b') → verdict o schema m b' ≡ verdict o schema m b
      by (unchanged e) = e
      by (more_visits n l v) = absurd (settled.not_visits n)
      by (more-content n l v) = absurd (settled.not-content n)

  pub same_acceptance : (verdict o schema m b).number ≡ 0 → verdict o schema m b' ≡ verdict o schema m b
  same_acceptance e = same-verdict (record { not_visits = λ n. omega arith; not-content = λ n. omega arith })

  -- and the smaller budget gives the same verdict exactly where it allows what the bigger has spent
  pub same-exactly : (verdict o schema m b' ≡ verdict o schema m b) ↔ Affords b (spent_of (verdict o schema m b'))
  same-exactly = (within, by verdict_becomes)
    where
      within : verdict o schema m b' ≡ verdict o schema m b → Affords b (spent_of (verdict o schema m b'))
      within e = subst (λ (v : Verdict). Affords b (spent_of v)) (sym e) (verdict_affords o schema m b)

      by : Becomes b (verdict o schema m b) (verdict o schema m b') → Affords b (spent_of (verdict o schema m b'))
          → verdict o schema m b' ≡ verdict o schema m b
      by (unchanged e) h = e
      by (more_visits n l v) h = absurd (omega (arith, h.visits))
      by (more-content n l v) h = absurd (omega (arith, h.content))

  -- ---- reading to a sheet
  module _ (out : List ℕ) where
    settled-verdict : Settled (read_answer o schema m b out).verdict → verdict o schema m b' ≡ verdict o schema m b
    unfolding read_answer
    settled-verdict settled = by (eqb (verdict o schema m b).number 0) refl
      where
        by : (t : Bool) → eqb (verdict o schema m b).number 0 ≡ t → verdict o schema m b' ≡ verdict o schema m b
        by true e = same_acceptance (eqb-true (verdict o schema m b).number 0 e)
        by false e = same-verdict (rw e at settled)

    -- THE CLAIM: the whole answer, 14 too, with as much room; and what the output holds
    pub same_answer : Settled (read_answer o schema m b out).verdict → (out' : List ℕ) → length out' ≡ length out
        → read_answer o schema m b' out' ≡ read_answer o schema m b out
    unfolding read_answer fits_room
    same_answer settled out' room = rw (settled-verdict settled, room)

    pub same_out : Settled (read_answer o schema m b out).verdict → read_out o schema m b' out ≡ read_out o schema m b out
    unfolding read_out
    same_out settled = rw (settled-verdict settled)
