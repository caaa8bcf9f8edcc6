-- 02, K6: "In the walk, old and new answers agree in all other parts." The walk before K6 noted no member; here each arrival notes
-- whatever it likes as the member of the refusal that it hands back, and no other part of any answer changes.
use Rattle.std.specs.Prelude.{ℕ, zero, suc, ◌+◌, ◌≡◌, refl, List, Bool, true, false, ltb, leb, Result, Ok, Err}
use Rattle.coding.specs.Lists.{pick}
use Rattle.coding.specs.Bytes.{deepest}
use Rattle.coding.specs.Schema.{Schema}
use Rattle.coding.specs.Walk.{placed, content_length, fit_object, bytes_tested, refuse, and_then, Child, with_content, admit, arrive, too_deep, one_more, counted, visit, root_place, nothing, walk, verdict_of, Walked}
use Rattle.coding.specs.declared.Object.{Object}
use Rattle.coding.specs.declared.Object.TheVariants as O
use Rattle.coding.specs.declared.Place.{Place}
use Rattle.coding.specs.declared.Content.{Content}
use Rattle.coding.specs.declared.Budget.{Budget}
use Rattle.coding.specs.declared.Spent.{Spent}
use Rattle.coding.specs.declared.Refusal.{Refusal}
use Rattle.coding.specs.declared.Verdict.{Verdict}
use Rattle.demands.specs.TwoWalks.{Beside, enter_beside}

-- the answer of an arrival that notes f of its refusal as the member
unfoldable pub noting : (Refusal → ℕ) → Walked → Walked
noting f (Ok s) = Ok s
noting f (Err (r, s)) = Err (record { number = r.number; place = r.place; member = f r }, s)

-- the walk, each arrival of which notes what f says: `λ r. no_member` is the walk before K6
unfoldable pub visit_noting : (Refusal → ℕ) → ℕ → ℕ → Schema → List ℕ → Budget → Child
visit_noting f zero o S m b ob p s = noting f (counted too_deep b ob p s)
visit_noting f (suc d) o S m b ob p s = noting f (counted (arrive (visit_noting f d o S m b) o S m b) b ob p s)

unfoldable pub walk_noting : (Refusal → ℕ) → ℕ → Schema → List ℕ → Budget → Walked
walk_noting f o S m b = visit_noting f deepest o S m b (O.Table S.root) (root_place o m) nothing

-- two answers of the walk agree in all parts but the member
pub data Alike : Walked → Walked → Type 0 where
  goes : {s : Spent} → Alike (Ok s) (Ok s)
  stops : {r r' : Refusal} {s : Spent} → r.number ≡ r'.number → r.place ≡ r'.place → Alike (Err (r, s)) (Err (r', s))

same : (w : Walked) → Alike w w
same (Ok s) = goes
same (Err (r, s)) = stops refl refl

noting_alike : (f : Refusal → ℕ) {w w' : Walked} → Alike w w' → Alike (noting f w) w'
unfolding noting
noting_alike f goes = goes
noting_alike f (stops n p) = stops n p

pick_alike : (t : Bool) {a a' b b' : Walked} → Alike a a' → Alike b b' → Alike (pick t a b) (pick t a' b')
pick_alike true x y = x
pick_alike false x y = y

then_alike : (s : Spent) (a a' : Walked) (next next' : Spent → Walked) → Alike a a' → ((t : Spent) → Alike (next t) (next' t))
    → Alike (and_then a next) (and_then a' next')
unfolding and_then
then_alike s a a' next next' (goes {s = t}) h = h t
then_alike s a a' next next' (stops n p) h = stops n p

-- whatever was spent before
abbrev AlikeFrom : Spent → Walked → Walked → Type 0
AlikeFrom s w w' = Alike w w'

alike_beside : Beside AlikeFrom
alike_beside = record { goes = λ s. goes; stops = λ r s. stops refl refl; then_on = then_alike }

module _ (child child' : Child) (H : (ob : Object) (p : Place) (s : Spent) → Alike (child ob p s) (child' ob p s)) (o : ℕ) (S : Schema)
    (m : List ℕ) where
  admit_alike : (b : Budget) (ob : Object) (holder : ℕ) (w : Result Content ℕ) (s : Spent)
      → Alike (admit child o S m b ob holder w s) (admit child' o S m b ob holder w s)
  unfolding admit
  admit_alike b ob holder (Err n) s = same (refuse n holder s)
  admit_alike b ob holder (Ok x) s =
      let c = content_length o S ob x.length in
      pick_alike (leb (s.content + c) b.content)
      (enter_beside AlikeFrom alike_beside child child' H o S m ob holder (bytes_tested m ob (Ok x)) (with_content c s))
      (same (refuse 17 holder s))

  arrive_alike : (b : Budget) (ob : Object) (p : Place) (s : Spent)
      → Alike (arrive child o S m b ob p s) (arrive child' o S m b ob p s)
  unfolding arrive
  arrive_alike b ob p s = admit_alike b ob (placed p) (fit_object o S m ob p) s

counted_alike : (child child' : Child) → ((ob : Object) (p : Place) (s : Spent) → Alike (child ob p s) (child' ob p s)) → (b : Budget)
    (ob : Object) (p : Place) (s : Spent) → Alike (counted child b ob p s) (counted child' b ob p s)
unfolding counted
counted_alike child child' H b ob p s =
    pick_alike (ltb s.visits b.visits) (H ob p (one_more s)) (same (refuse 4 (placed p) s))

visit_alike : (f : Refusal → ℕ) (d o : ℕ) (S : Schema) (m : List ℕ) (b : Budget) (ob : Object) (p : Place) (s : Spent)
    → Alike (visit_noting f d o S m b ob p s) (visit d o S m b ob p s)
unfolding visit_noting visit
visit_alike f zero o S m b ob p s = noting_alike f (same (counted too_deep b ob p s))
visit_alike f (suc d) o S m b ob p s =
    noting_alike f
    (counted_alike _ _
    (arrive_alike (visit_noting f d o S m b) (visit d o S m b) (visit_alike f d o S m b) o S m b)
    b ob p s)

-- two verdicts agree in all parts but the member
pub record AgreeBut (v w : Verdict) : Type 0 where
  pub number : v.number ≡ w.number
  pub place : v.place ≡ w.place
  pub visits : v.visits ≡ w.visits
  pub content : v.content ≡ w.content

verdict_alike : {w w' : Walked} → Alike w w' → AgreeBut (verdict_of w) (verdict_of w')
unfolding verdict_of
verdict_alike goes = record { number = refl; place = refl; visits = refl; content = refl }
verdict_alike (stops n p) = record { number = n; place = p; visits = refl; content = refl }

-- the theorem: whatever is noted as the member, the verdicts agree in all other parts
pub old-and_new_agree : (f : Refusal → ℕ) (o : ℕ) (S : Schema) (m : List ℕ) (b : Budget)
    → AgreeBut (verdict_of (walk_noting f o S m b)) (verdict_of (walk o S m b))
unfolding walk_noting walk
old-and_new_agree f o S m b = verdict_alike (visit_alike f deepest o S m b (O.Table S.root) (root_place o m) nothing)
