-- Demand 2: a message is accepted exactly when every object reached by its schema is lawful, within depth and budget, which means
-- both allowances (02, K7); its visits are then the arrivals, "shared objects each time", and its content is that of the arrivals.
-- What is reached, lawful and counted is said in Arrivals, apart from the walk. `o` is the width of an offset in bytes.
use Rattle.std.specs.Prelude.{ℕ, ◌<◌, ◌≤◌, List, true, false, ◌≡◌, ◌↔◌, Ok, Err}
use Rattle.std.proofs.Common.{arith, sym, ap, ◌∙◌, subst}
use Rattle.std.proofs.Math.Bool.{Bool}
use Rattle.std.proofs.Math.Path.{refl}
use Rattle.coding.specs.Lists.{pick}
use Rattle.coding.specs.Bytes.{deepest}
use Rattle.coding.specs.Schema.{Schema}
use Rattle.coding.specs.Packed.{parse}
use Rattle.coding.specs.Lawful.{lawful}
use Rattle.coding.specs.Walk.{root_place, nothing, walk, at_zero, verdict_of, early, size_ok, start_ok, verdict, Walked}
use Rattle.coding.specs.declared.Object.TheVariants as Ob
use Rattle.coding.specs.declared.Budget.{Budget}
use Rattle.coding.specs.declared.Spent.{Spent}
use Rattle.coding.specs.declared.Refusal.{Refusal}
use Rattle.coding.specs.declared.Verdict.{Verdict}
use Rattle.demands.specs.Spending.{allowed, Affords, nothing-plus, nothing_least}
use Rattle.demands.specs.Arrivals.{root, cost, message_cost, message_arrivals, message_content, Accepted, LawfulMessage}
use Rattle.demands.specs.ArrivalsWalk.{Judged, goes, stops, LawfulDown, visit_judged, cost-same, down_arrives, down_depth, down-lawful, arrives_down}

-- ---- the walk
module _ (o : ℕ) (S : Schema) (m : List ℕ) (b : Budget) where
  walk_judged : Judged b (LawfulDown deepest o S m (Ob.Table S.root) (root_place o m)) (message_cost o S m)
      nothing (walk o S m b)
  unfolding walk message_cost
  walk_judged =
      visit_judged deepest o S m b (Ob.Table S.root) (root_place o m) nothing (nothing_least (allowed b))

  -- what the walk accepts is accepted, and it has spent what the arrivals cost
  pub walk_accepts : (s : Spent) → walk o S m b ≡ Ok s → Accepted o S m b × (s ≡ message_cost o S m)
  walk_accepts s e = by (walk o S m b) e walk_judged
    where
      by : (w : Walked) → w ≡ Ok s
          → Judged b (LawfulDown deepest o S m (Ob.Table S.root) (root_place o m)) (message_cost o S m) nothing w
          → Accepted o S m b × (s ≡ message_cost o S m)
      by w q (stops r t y n) = let z : ◌≡◌ {A = ℕ} 0 1 = cc in absurd (omega arith)
      by w q (goes t f h x) =
          let z : t ≡ s = cc in
          let c : t ≡ message_cost o S m = f ∙ nothing-plus (message_cost o S m) in
          let l = subst (λ (u : Spent). Affords b u) c h in (
            record {
              depth = λ d ob p a. let y = down_arrives o S m x a in down_depth o S m d y.0 ob p y.1 y.2;
              lawful = λ d ob p a. let y = down_arrives o S m x a in down-lawful o S m y.0 ob p y.2;
              visits = l.visits;
              content = l.content;
            },
            sym z ∙ c,
          )

  -- what is accepted the walk accepts, and it has spent what the arrivals cost
  pub accepted_walks : Accepted o S m b → walk o S m b ≡ Ok (message_cost o S m)
  accepted_walks h = by (walk o S m b) walk_judged
    where
      by : (w : Walked)
          → Judged b (LawfulDown deepest o S m (Ob.Table S.root) (root_place o m)) (message_cost o S m) nothing w
          → w ≡ Ok (message_cost o S m)
      by w (goes t f g x) = ap (λ (u : Spent). Ok u) (f ∙ nothing-plus (message_cost o S m))
      by w (stops r t z n) =
          absurd (n
          (arrives_down o S m h.depth h.lawful deepest 1 (Ob.Table S.root) (root_place o m) root (omega arith))
          (subst (λ (u : Spent). Affords b u) (sym (nothing-plus (message_cost o S m)))
          (record { visits = h.visits; content = h.content })))

  -- the arrivals are all there are: going deeper costs no more
  pub accepted-count : Accepted o S m b → (d : ℕ) → deepest ≤ d
      → cost d o S m (Ob.Table S.root) (root_place o m) ≡ message_cost o S m
  unfolding message_cost
  accepted-count h d l =
      cost-same deepest d o S m (Ob.Table S.root) (root_place o m) l
      (arrives_down o S m h.depth h.lawful deepest 1 (Ob.Table S.root) (root_place o m) root (omega arith))

  walk_refuses : (r : Refusal) (t : Spent) → walk o S m b ≡ Err (r, t) → 0 < r.number
  walk_refuses r t e = by (walk o S m b) e walk_judged
    where
      by : (w : Walked) → w ≡ Err (r, t)
          → Judged b (LawfulDown deepest o S m (Ob.Table S.root) (root_place o m)) (message_cost o S m) nothing w
          → 0 < r.number
      by w q (goes u f g x) = let z : ◌≡◌ {A = ℕ} 0 1 = cc in absurd (omega arith)
      by w q (stops s u z n) = let y : s ≡ r = grind arith in subst (λ (x : Refusal). 0 < x.number) y z

-- ---- the verdict
-- number 0: the schema is lawful, the message's size and start are, and the walk goes to its end
pub record Walks (o : ℕ) (b m : List ℕ) (budget : Budget) : Type 0 where
  pub schema : lawful o b ≡ true
  pub size : size_ok o m ≡ true
  pub start : start_ok m ≡ true
  pub spent : Spent
  pub walks : walk o (parse b) m budget ≡ Ok spent
  pub answer : verdict o b m budget ≡ verdict_of (Ok spent)

module _ (o : ℕ) (b m : List ℕ) (budget : Budget) where
  pub verdict_walks : (verdict o b m budget).number ≡ 0 → Walks o b m budget
  unfolding verdict early verdict_of
  verdict_walks h = by (lawful o b) (size_ok o m) (start_ok m) (walk o (parse b) m budget) refl refl refl refl h
    where
      judged : Bool → Bool → Bool → Walked → Verdict
      judged l z g w = pick l (pick z (pick g (verdict_of w) (early 3)) (early 2)) (early 1)

      by : (l z g : Bool) (w : Walked) → lawful o b ≡ l → size_ok o m ≡ z → start_ok m ≡ g → walk o (parse b) m budget ≡ w
          → (judged l z g w).number ≡ 0 → Walks o b m budget
      by true true true (Ok s) e f q x h =
          record { schema = e; size = f; start = q; spent = s; walks = x; answer = rw (e, f, q, x) }
      by true true true (Err (r, t)) e f q x h =
          let n = walk_refuses o (parse b) m budget r t x in absurd (omega arith)
      by true true false w e f q x h = absurd (omega arith)
      by true false g w e f q x h = absurd (omega arith)
      by false z g w e f q x h = absurd (omega arith)

  pub walks-verdict : lawful o b ≡ true → size_ok o m ≡ true → start_ok m ≡ true → (s : Spent) → walk o (parse b) m budget ≡ Ok s
      → verdict o b m budget ≡ verdict_of (Ok s)
  unfolding verdict
  walks-verdict e f q s x = rw (e, f, q, x)

  pub lawful-verdict : LawfulMessage o b m budget
      → verdict o b m budget ≡ at_zero 0 (message_cost o (parse b) m)
  unfolding verdict_of
  lawful-verdict h =
      walks-verdict h.schema h.size h.start (message_cost o (parse b) m) (accepted_walks o (parse b) m budget h.objects)

  verdict-lawful : (verdict o b m budget).number ≡ 0 → LawfulMessage o b m budget
  verdict-lawful h =
      let x = verdict_walks h in
      record {
        schema = x.schema;
        size = x.size;
        start = x.start;
        objects = (walk_accepts o (parse b) m budget x.spent x.walks).0;
      }

  -- THE CLAIM: number 0 exactly when the schema is lawful, the message has its size and start, and every object reached is
  -- lawful, within depth and both allowances
  pub accepted-exactly : ((verdict o b m budget).number ≡ 0) ↔ LawfulMessage o b m budget
  accepted-exactly = (verdict-lawful, λ h. ap (λ (v : Verdict). v.number) (lawful-verdict h))

  -- and then the visits are the arrivals, and the content is that of the arrivals, together
  pub accepted_visits : (verdict o b m budget).number ≡ 0 → (verdict o b m budget).visits ≡ message_arrivals o (parse b) m
  accepted_visits h = ap (λ (v : Verdict). v.visits) (lawful-verdict (verdict-lawful h))

  pub accepted-content : (verdict o b m budget).number ≡ 0 → (verdict o b m budget).content ≡ message_content o (parse b) m
  accepted-content h = ap (λ (v : Verdict). v.content) (lawful-verdict (verdict-lawful h))
