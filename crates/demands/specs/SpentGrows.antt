-- What a walk spends, refused or not: a relation between what was spent before and what is spent after that holds of a visit and of
-- content within their allowances holds of every walk. So what is spent never falls, and it stays within both allowances.
use Prim.Native.Nat.{ℕ, zero, suc, ◌≤◌, ◌<◌, ◌+◌}
use Rattle.std.specs.Prelude.{List, Bool, ◌≡◌, leb, Result, Ok, Err}
use Rattle.std.proofs.Math.Bool.{true, false}
use Rattle.std.proofs.Math.Path.{refl}
use Rattle.std.proofs.Math.Dec.{ltb}
use Rattle.std.proofs.Common.{ltb-true, leb-true}
use Rattle.coding.specs.Lists.{pick}
use Rattle.coding.specs.Bytes.{deepest}
use Rattle.coding.specs.Schema.{Schema}
use Rattle.coding.specs.Packed.{parse}
use Rattle.coding.specs.Lawful.{lawful}
use Rattle.coding.specs.Walk.{placed, content_length, fit_object, bytes_tested, refuse, and_then, Child, enter, with_content, admit, arrive, too_deep, one_more, counted, visit, root_place, nothing, walk, verdict_of, spent_of, early, size_ok, start_ok, verdict, Walked}
use Rattle.coding.specs.declared.Object.{Object}
use Rattle.coding.specs.declared.Object.TheVariants as Ob
use Rattle.coding.specs.declared.Place.{Place}
use Rattle.coding.specs.declared.Content.{Content}
use Rattle.coding.specs.declared.Budget.{Budget}
use Rattle.coding.specs.declared.Spent.{Spent}
use Rattle.demands.specs.Spending.{NoMore, allowed, Affords, no_more_refl, no_more_trans, nothing_least, one_more_up, with-content_up, one_more_affords, with-content_affords}
use Rattle.demands.specs.TwoWalks.{Beside, enter_beside}

-- what is spent where a walk ends
unfoldable pub spent_by : Walked → Spent
spent_by (Ok s) = s
spent_by (Err (r, s)) = s

-- ---- a walk beside itself
abbrev pub Grows : (Spent → Spent → Type 0) → Spent → Walked → Walked → Type 0
Grows R s w w' = R s (spent_by w)

module _ (R : Spent → Spent → Type 0) (none : (s : Spent) → R s s) (both : (s t u : Spent) → R s t → R t u → R s u) where
  then_grows : (s : Spent) (w w' : Walked) (next next' : Spent → Walked) → Grows R s w w' → ((t : Spent) → Grows R t (next t) (next' t))
      → Grows R s (and_then w next) (and_then w' next')
  unfolding and_then spent_by
  then_grows s (Ok t) w' next next' h f = both s t _ h (f t)
  then_grows s (Err (r, t)) w' next next' h f = h

  grows : Beside (Grows R)
  unfolding spent_by
  grows = record { goes = none; stops = λ r s. none s; then_on = then_grows }

-- what holds where nothing is charged, of one charge after the other, and of each charge that the budget allows
pub record Charges (b : Budget) (R : Spent → Spent → Type 0) : Type 0 where
  pub none : (s : Spent) → R s s
  pub both : (s t u : Spent) → R s t → R t u → R s u
  pub a-visit : (s : Spent) → s.visits < b.visits → R s (one_more s)
  pub a-content : (c : ℕ) (s : Spent) → s.content + c ≤ b.content → R s (with_content c s)

module _ (b : Budget) (R : Spent → Spent → Type 0) (C : Charges b R) where
  module _ (child : Child) (H : (ob : Object) (p : Place) (s : Spent) → R s (spent_by (child ob p s))) (o : ℕ) (S : Schema) (m : List ℕ) where
    admit_grows : (ob : Object) (holder : ℕ) (x : Result Content ℕ) (s : Spent) → R s (spent_by (admit child o S m b ob holder x s))
    unfolding admit refuse spent_by
    admit_grows ob holder (Err n) s = C.none s
    admit_grows ob holder (Ok x) s = by (leb (s.content + content_length o S ob x.length) b.content) refl
      where
        c : ℕ
        c = content_length o S ob x.length

        inner : Walked
        inner = enter child o S m ob holder (bytes_tested m ob (Ok x)) (with_content c s)

        by : (t : Bool) → leb (s.content + c) b.content ≡ t → R s (spent_by (pick t inner (refuse 17 holder s)))
        by true e =
            C.both s (with_content c s) _ (C.a-content c s (leb-true (s.content + c) b.content e))
            (enter_beside (Grows R) (grows R C.none C.both) child child H o S m ob holder (bytes_tested m ob (Ok x)) (with_content c s))
        by false e = C.none s

  counted_grows : (child : Child) → ((ob : Object) (p : Place) (s : Spent) → R s (spent_by (child ob p s)))
      → (ob : Object) (p : Place) (s : Spent) → R s (spent_by (counted child b ob p s))
  unfolding counted refuse spent_by
  counted_grows child H ob p s = by (ltb s.visits b.visits) refl
    where
      by : (t : Bool) → ltb s.visits b.visits ≡ t → R s (spent_by (pick t (child ob p (one_more s)) (refuse 4 (placed p) s)))
      by true e = C.both s (one_more s) _ (C.a-visit s (ltb-true s.visits b.visits e)) (H ob p (one_more s))
      by false e = C.none s

  visit_grows : (d o : ℕ) (S : Schema) (m : List ℕ) (ob : Object) (p : Place) (s : Spent) → R s (spent_by (visit d o S m b ob p s))
  unfolding visit too_deep arrive refuse spent_by
  visit_grows zero o S m ob p s = counted_grows too_deep (λ ob p s. C.none s) ob p s
  visit_grows (suc d) o S m ob p s =
      counted_grows (arrive (visit d o S m b) o S m b)
      (λ ob p s. admit_grows (visit d o S m b) (visit_grows d o S m) o S m ob (placed p) (fit_object o S m ob p) s) ob p s

-- ---- what is spent never falls
pub no_less : Beside (Grows NoMore)
no_less = grows NoMore no_more_refl (λ s t u h g. no_more_trans h g)

never_falls : (b : Budget) → Charges b NoMore
never_falls b =
    record {
      none = no_more_refl;
      both = λ s t u h g. no_more_trans h g;
      a-visit = λ s l. one_more_up s;
      a-content = λ c s l. with-content_up c s;
    }

pub visit_up : (d o : ℕ) (S : Schema) (m : List ℕ) (b : Budget) (ob : Object) (p : Place) (s : Spent)
    → NoMore s (spent_by (visit d o S m b ob p s))
visit_up d o S m b ob p s = visit_grows b NoMore (never_falls b) d o S m ob p s

-- ---- and what was within both allowances stays within them
stays_within : (b : Budget) → Charges b (λ s t. Affords b s → Affords b t)
stays_within b =
    record {
      none = λ s h. h;
      both = λ s t u f g h. g (f h);
      a-visit = λ s l h. one_more_affords b s h l;
      a-content = λ c s l h. with-content_affords b c s h l;
    }

-- what the verdict of a walk says was spent
pub walked_spent : (w : Walked) → spent_of (verdict_of w) ≡ spent_by w
unfolding verdict_of spent_by
walked_spent (Ok s) = refl
walked_spent (Err (r, s)) = refl

walk_affords : (o : ℕ) (S : Schema) (m : List ℕ) (b : Budget) → Affords b (spent_by (walk o S m b))
unfolding walk
walk_affords o S m b =
    visit_grows b (λ s t. Affords b s → Affords b t) (stays_within b) deepest o S m (Ob.Table S.root) (root_place o m) nothing
    (nothing_least (allowed b))

-- what a verdict says was spent is within both allowances, refused or not
pub verdict_affords : (o : ℕ) (schema m : List ℕ) (b : Budget) → Affords b (spent_of (verdict o schema m b))
unfolding verdict early
verdict_affords o schema m b = by (lawful o schema) (size_ok o m) (start_ok m)
  where
    by : (l z g : Bool)
        → Affords b (spent_of (pick l (pick z (pick g (verdict_of (walk o (parse schema) m b)) (early 3)) (early 2)) (early 1)))
    by true true true = rw (walked_spent (walk o (parse schema) m b)) (walk_affords o (parse schema) m b)
    by true true false = nothing_least (allowed b)
    by true false g = nothing_least (allowed b)
    by false z g = nothing_least (allowed b)
