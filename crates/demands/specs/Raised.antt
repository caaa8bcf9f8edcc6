-- One message walked with a budget, and with one that allows at least as much of both: the walks come to the same, or the first was
-- refused by 4 or by 17, and the second goes further than the first budget allows.
use Prim.Native.Nat.{ℕ, zero, suc, ◌<◌, ◌+◌}
use Rattle.std.proofs.Common.{le_trans, arith, ltb-true, ltb-false, leb-true, leb-false}
use Rattle.std.specs.Prelude.{List, Bool, true, false, ◌≡◌, ltb, leb, Result, Ok, Err}
use Rattle.std.proofs.Math.Path.{refl}
use Rattle.coding.specs.Lists.{pick}
use Rattle.coding.specs.Bytes.{deepest}
use Rattle.coding.specs.Schema.{Schema}
use Rattle.coding.specs.Walk.{placed, content_length, fit_object, bytes_tested, refuse, and_then, Child, enter, with_content, admit, arrive, too_deep, one_more, counted, visit, root_place, nothing, walk, Walked}
use Rattle.coding.specs.declared.Object.{Object}
use Rattle.coding.specs.declared.Object.TheVariants as Ob
use Rattle.coding.specs.declared.Place.{Place}
use Rattle.coding.specs.declared.Content.{Content}
use Rattle.coding.specs.declared.Budget.{Budget}
use Rattle.coding.specs.declared.Spent.{Spent}
use Rattle.coding.specs.declared.Refusal.{Refusal}
use Rattle.demands.specs.Spending.{NoMore, allowed, no_more_refl, no_more_trans, one_more_up, with-content_up}
use Rattle.demands.specs.TwoWalks.{Beside, enter_beside}
use Rattle.demands.specs.SpentGrows.{spent_by}

-- what a walk comes to with the budget b, and what it comes to with more of either or both
pub data Raised (b : Budget) : Walked → Walked → Type 0 where
  unchanged : {w : Walked} → Raised b w w
  more_visits : {r : Refusal} {s : Spent} {w : Walked} → r.number ≡ 4 → NoMore s (spent_by w) → b.visits < (spent_by w).visits
      → Raised b (Err (r, s)) w
  more-content : {r : Refusal} {s : Spent} {w : Walked} → r.number ≡ 17 → NoMore s (spent_by w) → b.content < (spent_by w).content
      → Raised b (Err (r, s)) w

-- the same of a walk from s on
pub record RaisedFrom (b : Budget) (s : Spent) (w w' : Walked) : Type 0 where
  pub up : NoMore s (spent_by w')
  pub raised : Raised b w w'

-- ---- one walk after the other
then_up : (w : Walked) (next : Spent → Walked) → ((t : Spent) → NoMore t (spent_by (next t)))
    → NoMore (spent_by w) (spent_by (and_then w next))
unfolding and_then spent_by
then_up (Ok t) next f = f t
then_up (Err (r, t)) next f = no_more_refl t

then_raised : (b : Budget) (next next' : Spent → Walked) → ((t : Spent) → RaisedFrom b t (next t) (next' t))
    → {w w' : Walked} → Raised b w w' → Raised b (and_then w next) (and_then w' next')
unfolding and_then
then_raised b next next' f (unchanged {w}) = by w
  where
    by : (w : Walked) → Raised b (and_then w next) (and_then w next')
    by (Ok t) = (f t).raised
    by (Err (r, t)) = unchanged
then_raised b next next' f (more_visits {w} e l v) =
    let u = then_up w next' (λ t. (f t).up) in more_visits e (no_more_trans l u) (le_trans v u.visits)
then_raised b next next' f (more-content {w} e l v) =
    let u = then_up w next' (λ t. (f t).up) in more-content e (no_more_trans l u) (le_trans v u.content)

raised_beside : (b : Budget) → Beside (RaisedFrom b)
unfolding spent_by
raised_beside b =
    record {
      goes = λ s. record { up = no_more_refl s; raised = unchanged };
      stops = λ r s. record { up = no_more_refl s; raised = unchanged };
      then_on = λ s w w' next next' h f.
          record {
            up = no_more_trans h.up (then_up w' next' (λ t. (f t).up));
            raised = then_raised b next next' f h.raised;
          };
    }

-- ---- the two tests of an arrival
module _ (b b' : Budget) (wider : NoMore (allowed b) (allowed b')) where
  -- the content allowance
  admit_raised : (child child' : Child) → ((ob : Object) (p : Place) (s : Spent) → RaisedFrom b s (child ob p s) (child' ob p s))
      → (o : ℕ) (S : Schema) (m : List ℕ) (ob : Object) (holder : ℕ) (x : Result Content ℕ) (s : Spent)
      → RaisedFrom b s (admit child o S m b ob holder x s) (admit child' o S m b' ob holder x s)
  unfolding admit refuse with_content spent_by
  admit_raised child child' H o S m ob holder (Err n) s = (raised_beside b).stops _ s
  admit_raised child child' H o S m ob holder (Ok x) s =
      by (leb (s.content + c) b.content) (leb (s.content + c) b'.content) refl refl
    where
      c : ℕ
      c = content_length o S ob x.length

      inner : Child → Walked
      inner child = enter child o S m ob holder (bytes_tested m ob (Ok x)) (with_content c s)

      within : RaisedFrom b (with_content c s) (inner child) (inner child')
      within =
          enter_beside (RaisedFrom b) (raised_beside b) child child' H o S m ob holder (bytes_tested m ob (Ok x)) (with_content c s)

      by : (t u : Bool) → leb (s.content + c) b.content ≡ t → leb (s.content + c) b'.content ≡ u
          → RaisedFrom b s (pick t (inner child) (refuse 17 holder s)) (pick u (inner child') (refuse 17 holder s))
      by true true e f = record { up = no_more_trans (with-content_up c s) within.up; raised = within.raised }
      by true false e f =
          absurd (omega (arith, leb-true (s.content + c) b.content e, leb-false (s.content + c) b'.content f, wider.content))
      by false true e f =
          let u = no_more_trans (with-content_up c s) within.up in
          record {
            up = u;
            raised = more-content refl u (le_trans (leb-false (s.content + c) b.content e) within.up.content);
          }
      by false false e f = (raised_beside b).stops _ s

  -- the visits
  counted_raised : (child child' : Child) → ((ob : Object) (p : Place) (s : Spent) → RaisedFrom b s (child ob p s) (child' ob p s))
      → (ob : Object) (p : Place) (s : Spent) → RaisedFrom b s (counted child b ob p s) (counted child' b' ob p s)
  unfolding counted refuse one_more spent_by
  counted_raised child child' H ob p s = by (ltb s.visits b.visits) (ltb s.visits b'.visits) refl refl
    where
      within : RaisedFrom b (one_more s) (child ob p (one_more s)) (child' ob p (one_more s))
      within = H ob p (one_more s)

      by : (t u : Bool) → ltb s.visits b.visits ≡ t → ltb s.visits b'.visits ≡ u
          → RaisedFrom b s (pick t (child ob p (one_more s)) (refuse 4 (placed p) s)) (pick u (child' ob p (one_more s)) (refuse 4 (placed p) s))
      by true true e f = record { up = no_more_trans (one_more_up s) within.up; raised = within.raised }
      by true false e f =
          absurd (omega (arith, ltb-true s.visits b.visits e, ltb-false s.visits b'.visits f, wider.visits))
      by false true e f =
          let u = no_more_trans (one_more_up s) within.up in
          let l : b.visits < s.visits + 1 = omega (arith, ltb-false s.visits b.visits e) in
          record { up = u; raised = more_visits refl u (le_trans l within.up.visits) }
      by false false e f = (raised_beside b).stops _ s

  visit_raised : (d o : ℕ) (S : Schema) (m : List ℕ) (ob : Object) (p : Place) (s : Spent)
      → RaisedFrom b s (visit d o S m b ob p s) (visit d o S m b' ob p s)
  unfolding visit too_deep arrive refuse
  visit_raised zero o S m ob p s = counted_raised too_deep too_deep (λ ob p s. (raised_beside b).stops _ s) ob p s
  visit_raised (suc d) o S m ob p s =
      counted_raised (arrive (visit d o S m b) o S m b) (arrive (visit d o S m b') o S m b')
      (λ ob p s. admit_raised (visit d o S m b) (visit d o S m b') (visit_raised d o S m) o S m ob (placed p) (fit_object o S m ob p) s)
      ob p s

  pub walk_raised : (o : ℕ) (S : Schema) (m : List ℕ) → Raised b (walk o S m b) (walk o S m b')
  unfolding walk
  walk_raised o S m = (visit_raised deepest o S m (Ob.Table S.root) (root_place o m) nothing).raised
