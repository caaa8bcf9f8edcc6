-- The walk beside what is reached: it goes to its end exactly when all that it reaches is lawful and within the budget, and
-- has spent what the arrivals cost then.
use Prim.Native.Nat.{ℕ, zero, suc, ◌≤◌, ◌<◌, ◌+◌}
use Rattle.std.proofs.Common.{add-zero, sym, ap₂, ◌∙◌}
use native.Mathlib.Omega.{arith}
use mathlib.Core.List.{List, [], ◌∷◌}
use Rattle.std.specs.Prelude.{Bool, ◌≡◌, length, ltb, Result, Ok, Err}
use Rattle.std.proofs.Math.Bool.{true, false}
use Rattle.std.proofs.Math.Path.{refl, ap, subst}
use Rattle.std.proofs.Math.Dec.{leb, eqb}
use borrow.Author.Tests.{ltb-true, ltb-false, leb-true, leb-false, eqb-true, eqb-false}
use Rattle.coding.specs.Lists.{pick}
use Rattle.coding.specs.Bytes.{deepest}
use Rattle.coding.specs.Schema.{Schema, element_of, table_of}
use Rattle.coding.specs.Layout.{begin, after_member, after_members}
use Rattle.coding.specs.Step.{member_step, element_step}
use Rattle.coding.specs.Walk.{placed, element_size, content_length, fit_object, bytes_tested, open_object, refuse, and_then, Child, refuse_part, follow_choice, follow, members, elements, directs, content, enter, spending, one_more, with_content, admit, arrive, too_deep, counted, visit, root_place, nothing, content_at, Walked}
use Rattle.coding.specs.declared.Object.{Object}
use Rattle.coding.specs.declared.Object.TheVariants as Ob
use Rattle.coding.specs.declared.Kind.{Kind}
use Rattle.coding.specs.declared.Member.{Member}
use Rattle.coding.specs.declared.Cursor.{Cursor}
use Rattle.coding.specs.declared.Place.{Place}
use Rattle.coding.specs.declared.Place.TheVariants.{ByOffset, InPlace}
use Rattle.coding.specs.declared.Step.{Step}
use Rattle.coding.specs.declared.Step.TheVariants as St
use Rattle.coding.specs.declared.Content.{Content}
use Rattle.coding.specs.declared.Budget.{Budget}
use Rattle.coding.specs.declared.Spent.{Spent}
use Rattle.coding.specs.declared.Refusal.{Refusal}
use Rattle.laws.specs.DirectPlaces.{element-first, element_next}
use Rattle.demands.specs.Spending.{plus, Affords, no_more_trans, plus-nothing, plus-plus, plus-part, one_more-plus, with-content-plus, arrival-plus, one_more_affords, with-content_affords, no-visit, no-content}
use Rattle.demands.specs.RefusalNumbers.{NumberedStep, NumberedOpened, member_numbered, element_numbered, fit_numbered, bytes_numbered}
use Rattle.demands.specs.Arrivals.{part_count, member_at, direct_at, part_step, LeadsTo, by_reference, by-choice, Arrives, root, below, LawfulStep, LawfulObject, sum, cost_at, cost_in, charge, cost}

-- ---- a walk that is judged
-- a walk from s that goes on exactly when P holds and k more is within the budget, and has spent that then
pub data Judged (b : Budget) (P : Type 0) (k s : Spent) : Walked → Type 0 where
  goes : (t : Spent) → t ≡ plus s k → Affords b t → P → Judged b P k s (Ok t)
  stops : (r : Refusal) (t : Spent) → 0 < r.number → (P → Affords b (plus s k) → ⊥) → Judged b P k s (Err (r, t))

module _ {b : Budget} where
  judged_as : {P Q : Type 0} {k s : Spent} {w : Walked} → (P → Q) → (Q → P) → Judged b P k s w → Judged b Q k s w
  judged_as f g (goes t e h p) = goes t e h (f p)
  judged_as f g (stops r t z n) = stops r t z (λ q h. n (g q) h)

  -- the same from s', where k' more comes to the same
  judged-from : {P : Type 0} {k k' s s' : Spent} {w : Walked} → plus s' k' ≡ plus s k → Judged b P k' s' w → Judged b P k s w
  judged-from e (goes t q h p) = goes t (q ∙ e) h p
  judged-from e (stops r t z n) = stops r t z (λ p h. n p (subst (λ (x : Spent). Affords b x) (sym e) h))

  judged_never : {k l s : Spent} {w : Walked} → Judged b ⊥ k s w → Judged b ⊥ l s w
  judged_never (goes t e h p) = absurd p
  judged_never (stops r t z n) = stops r t z (λ q h. q)

  judged_stay : {P : Type 0} (s : Spent) → Affords b s → P → Judged b P nothing s (Ok s)
  judged_stay s h p = goes s (sym (plus-nothing s)) h p

  judged-refuse : {P : Type 0} (k s : Spent) (n at : ℕ) → 0 < n → (P → Affords b (plus s k) → ⊥) → Judged b P k s (refuse n at s)
  unfolding refuse
  judged-refuse k s n at z f = stops _ s z f

  judged-refuse-part : {P : Type 0} (k s : Spent) (n holder j : ℕ) → 0 < n → (P → Affords b (plus s k) → ⊥)
      → Judged b P k s (refuse_part n holder j s)
  unfolding refuse_part
  judged-refuse-part k s n holder j z f = stops _ s z f

  judged_then : {P Q : Type 0} {k l s : Spent} {w : Walked} {next : Spent → Walked} → Judged b P k s w
      → ((t : Spent) → Affords b t → Judged b Q l t (next t)) → Judged b (P × Q) (plus k l) s (and_then w next)
  unfolding and_then
  judged_then {P} {Q} {k} {l} {s} {next = next} (goes t e h p) f = from (next t) (f t h)
    where
      sum_is : plus t l ≡ plus s (plus k l)
      sum_is = ap (λ (x : Spent). plus x l) e ∙ plus-plus s k l

      from : (w : Walked) → Judged b Q l t w → Judged b (P × Q) (plus k l) s w
      from w (goes u q g z) = goes u (q ∙ sum_is) g (p, z)
      from w (stops r u y n) = stops r u y (λ z g. n z.1 (subst (λ (x : Spent). Affords b x) (sym sum_is) g))
  judged_then {k = k} {l = l} {s = s} (stops r t y n) f = stops r t y (λ z g. n z.0 (no_more_trans (plus-part s k l) g))

-- P of the object that a step leads to, if it leads to one
abbrev EachObject : (Object → Place → Type 0) → Step → Type 0
EachObject P (St.Refused n) = Unit {0}
EachObject P St.Absent = Unit {0}
EachObject P (St.Value x) = Unit {0}
EachObject P (St.Unknown x) = Unit {0}
EachObject P (St.Struct i at) = Unit {0}
EachObject P (St.Object ob p) = P ob p
EachObject P (St.Choice c ob p) = P ob p

led_to : (P : Object → Place → Type 0) {st : Step} {ob : Object} {p : Place} → EachObject P st → LeadsTo st ob p → P ob p
led_to P h by_reference = h
led_to P h by-choice = h

-- a step is lawful, and P of what it leads to
pub record PartLawful (P : Object → Place → Type 0) (st : Step) : Type 0 where
  pub step : LawfulStep st
  pub object : (ob : Object) (p : Place) → LeadsTo st ob p → P ob p

abbrev pub ContentLawful : (Object → Place → Type 0) → ℕ → Schema → List ℕ → Object → ℕ → Result Content ℕ → Type 0
ContentLawful P o S m ob at (Err n) = ⊥
ContentLawful P o S m ob at (Ok c) = (j : ℕ) → j < part_count S ob c.length → PartLawful P (part_step o S m ob at c.start c.length j)

-- an object and all that is reached from it, d objects deep, is lawful
unfoldable pub LawfulDown : ℕ → ℕ → Schema → List ℕ → Object → Place → Type 0
LawfulDown zero o S m ob p = ⊥
LawfulDown (suc d) o S m ob p = ContentLawful (LawfulDown d o S m) o S m ob (placed p) (open_object o S m ob p)

module _ (b : Budget) (P : Object → Place → Type 0) (k : Object → Place → Spent) (child : Child)
    (H : (ob : Object) (p : Place) (s : Spent) → Affords b s → Judged b (P ob p) (k ob p) s (child ob p s)) where
  -- ---- one part
  still : (st : Step) → LawfulStep st → EachObject P st → (s : Spent) → Affords b s
      → Judged b (PartLawful P st) nothing s (Ok s)
  still st l e s h = judged_stay s h (record { step = l; object = λ ob p q. led_to P e q })

  choice_judged : (holder j c : ℕ) (ob : Object) (p : Place) (s : Spent) → Affords b s
      → Judged b (PartLawful P (St.Choice c ob p)) (k ob p) s (follow_choice child holder j ob p s)
  unfolding follow_choice refuse_part
  choice_judged holder j c ob (ByOffset x) s h = by (eqb x 0) refl
    where
      by : (t : Bool) → eqb x 0 ≡ t
          → Judged b (PartLawful P (St.Choice c ob (ByOffset x))) (k ob (ByOffset x)) s
          (pick t (refuse_part 9 holder j s) (child ob (ByOffset x) s))
      by true e = judged-refuse-part _ s 9 holder j (omega arith) (λ q g. q.step (eqb-true x 0 e))
      by false e =
          judged_as
          (λ q. record { step = eqb-false x 0 e; object = λ ob' p' l. led_to P q l })
          (λ q. q.object ob (ByOffset x) by-choice) (H ob (ByOffset x) s h)
  choice_judged holder j c ob (InPlace a n) s h =
      judged_as (λ q. record { step = tt; object = λ ob' p' l. led_to P q l })
      (λ q. q.object ob (InPlace a n) by-choice) (H ob (InPlace a n) s h)

  follow_judged : (holder j : ℕ) (st : Step) → NumberedStep st → (s : Spent) → Affords b s
      → Judged b (PartLawful P st) (cost_at k st) s (follow child holder j st s)
  unfolding follow refuse_part cost_at
  follow_judged holder j (St.Refused n) z s h = judged-refuse-part nothing s n holder j z (λ q g. q.step)
  follow_judged holder j St.Absent z s h = still St.Absent tt tt s h
  follow_judged holder j (St.Value x) z s h = still (St.Value x) tt tt s h
  follow_judged holder j (St.Unknown x) z s h = still (St.Unknown x) tt tt s h
  follow_judged holder j (St.Struct i at) z s h = still (St.Struct i at) tt tt s h
  follow_judged holder j (St.Object ob p) z s h =
      judged_as (λ q. record { step = tt; object = λ ob' p' l. led_to P q l })
      (λ q. q.object ob p by_reference) (H ob p s h)
  follow_judged holder j (St.Choice c ob p) z s h = choice_judged holder j c ob p s h

  -- ---- the parts in turn
  EachPart : (ℕ → Step) → ℕ → Type 0
  EachPart f n = (j : ℕ) → j < n → PartLawful P (f j)

  next-part : (f : ℕ → Step) (n : ℕ) {s : Spent} {w : Walked} {next : Spent → Walked}
      → Judged b (PartLawful P (f 0)) (cost_at k (f 0)) s w
      → ((t : Spent) → Affords b t
      → Judged b (EachPart (λ j. f (suc j)) n) (sum (λ j. cost_at k (f (suc j))) n) t (next t))
      → Judged b (EachPart f (suc n)) (sum (λ j. cost_at k (f j)) (suc n)) s (and_then w next)
  unfolding sum EachPart
  next-part f n x y = judged_as join (λ q. (q 0 (omega arith), λ j h. q (suc j) (omega arith))) (judged_then x y)
    where
      join : PartLawful P (f 0) × ((j : ℕ) → j < n → PartLawful P (f (suc j))) → (j : ℕ) → j < suc n → PartLawful P (f j)
      join q zero h = q.0
      join q (suc j) h = q.1 j (omega arith)

  module _ (o : ℕ) (S : Schema) (m : List ℕ) where
    members_judged : (holder start n : ℕ) (c : Cursor) (i : ℕ) (rs : List Member) (s : Spent) → Affords b s
        → Judged b (EachPart (member_at o S m start n c rs) (length rs))
        (sum (λ j. cost_at k (member_at o S m start n c rs j)) (length rs)) s
        (members child o S m holder start n c i rs s)
    unfolding members member_at after_members EachPart sum
    members_judged holder start n c i [] s h = judged_stay s h (λ j l. absurd (omega arith))
    members_judged holder start n c i (r ∷ rs) s h =
        next-part (member_at o S m start n c (r ∷ rs)) (length rs) (follow_judged holder i (member_step o S m start n c r) (member_numbered o S m start n c r) s h)
        (λ t g. members_judged holder start n (after_member o S r c) (i + 1) rs t g)

    elements_judged : (holder start : ℕ) (e : Kind) (n i : ℕ) (f : ℕ → Step) → ((j : ℕ) → f j ≡ element_step o S m e start (i + j))
        → (s : Spent) → Affords b s
        → Judged b (EachPart f n) (sum (λ j. cost_at k (f j)) n) s (elements child o S m holder start e n i s)
    unfolding elements EachPart sum
    elements_judged holder start e zero i f q s h = judged_stay s h (λ j l. absurd (omega arith))
    elements_judged holder start e (suc n) i f q s h =
        next-part f n
        (subst (λ (st : Step). Judged b (PartLawful P (f 0)) (cost_at k (f 0)) s (follow child holder i st s))
        (q 0 ∙ ap (element_step o S m e start) (add-zero i)) (follow_judged holder i (f 0) (subst NumberedStep (sym (q 0)) (element_numbered o S m e start (i + 0))) s h))
        (λ t g. elements_judged holder start e n (i + 1) (λ j. f (suc j))
        (λ j. q (suc j) ∙ ap (element_step o S m e start) (omega arith)) t g)

    directs_judged : (t w n at : ℕ) (f : ℕ → Step) → ((j : ℕ) → f j ≡ direct_at t w at j) → (s : Spent) → Affords b s
        → Judged b (EachPart f n) (sum (λ j. cost_at k (f j)) n) s (directs child t w n at s)
    unfolding directs EachPart sum direct_at follow
    directs_judged t w zero at f q s h = judged_stay s h (λ j l. absurd (omega arith))
    directs_judged t w (suc n) at f q s h =
        let first : f 0 ≡ St.Object (Ob.Table t) (InPlace at w) =
        q 0 ∙ ap (λ (x : ℕ). St.Object (Ob.Table t) (InPlace x w)) (element-first at w) in
        next-part f n
        (subst (λ (st : Step). Judged b (PartLawful P st) (cost_at k st) s (child (Ob.Table t) (InPlace at w) s)) (sym first)
        (follow_judged 0 0 (St.Object (Ob.Table t) (InPlace at w)) tt s h))
        (λ u g. directs_judged t w n (at + w) (λ j. f (suc j))
        (λ j. q (suc j) ∙ ap (λ (x : ℕ). St.Object (Ob.Table t) (InPlace x w)) (element_next at w j)) u g)

    content_judged : (ob : Object) (at start n : ℕ) (s : Spent) → Affords b s
        → Judged b (EachPart (part_step o S m ob at start n) (part_count S ob n))
        (sum (λ j. cost_at k (part_step o S m ob at start n j)) (part_count S ob n)) s
        (content child o S m ob at start n s)
    unfolding content part_step part_count sum EachPart
    content_judged Ob.Text holder start n s h = judged_stay s h (λ j l. absurd (omega arith))
    content_judged Ob.Bytes holder start n s h = judged_stay s h (λ j l. absurd (omega arith))
    content_judged (Ob.List i) holder start n s h =
        elements_judged holder start (element_of S i) n 0 (element_step o S m (element_of S i) start)
        (λ j. ap (element_step o S m (element_of S i) start) (omega arith)) s h
    content_judged (Ob.Table i) holder start n s h = members_judged holder start n begin 0 (table_of S i).members s h
    content_judged (Ob.DirectList t) at start n s h =
        directs_judged t (element_size o m at) n start (direct_at t (element_size o m at) start) (λ j. refl) s h

    enter_judged : (ob : Object) (at : ℕ) (p : Result Content ℕ) → NumberedOpened p → (s : Spent) → Affords b s
        → Judged b (ContentLawful P o S m ob at p) (cost_in k o S m ob at p) s (enter child o S m ob at p s)
    unfolding enter cost_in EachPart
    enter_judged ob holder (Err n) z s h = judged-refuse nothing s n holder z (λ q g. q)
    enter_judged ob holder (Ok c) z s h = content_judged ob holder c.start c.length s h

    admit_judged : (ob : Object) (at : ℕ) (u : Result Content ℕ) → NumberedOpened u → (s : Spent) → Affords b s
        → Judged b (ContentLawful P o S m ob at (bytes_tested m ob u))
        (plus (spending 0 (charge o S ob u)) (cost_in k o S m ob at (bytes_tested m ob u))) s (admit child o S m b ob at u s)
    unfolding admit charge
    admit_judged ob holder (Err n) z s h = unfold bytes_tested in judged-refuse _ s n holder z (λ q g. q)
    admit_judged ob at (Ok c) z s h = by (leb (s.content + content_length o S ob c.length) b.content) refl
      where
        by : (t : Bool) → leb (s.content + content_length o S ob c.length) b.content ≡ t
            → Judged b (ContentLawful P o S m ob at (bytes_tested m ob (Ok c)))
            (plus (spending 0 (content_length o S ob c.length)) (cost_in k o S m ob at (bytes_tested m ob (Ok c)))) s
            (pick t
            (enter child o S m ob at (bytes_tested m ob (Ok c)) (with_content (content_length o S ob c.length) s))
            (refuse 17 at s))
        by true e =
            judged-from (with-content-plus (content_length o S ob c.length) s (cost_in k o S m ob at (bytes_tested m ob (Ok c))))
            (enter_judged ob at (bytes_tested m ob (Ok c)) (bytes_numbered m ob (Ok c) tt)
            (with_content (content_length o S ob c.length) s)
            (with-content_affords b (content_length o S ob c.length) s h (leb-true (s.content + content_length o S ob c.length) b.content e)))
        by false e =
            judged-refuse _ s 17 at (omega arith)
            (λ q g. no-content b (content_length o S ob c.length) s (cost_in k o S m ob at (bytes_tested m ob (Ok c)))
            (leb-false (s.content + content_length o S ob c.length) b.content e) g)

-- ---- an arrival
counted_judged : (b : Budget) (P : Type 0) (k : Spent) (child : Child) (ob : Object) (p : Place)
    → ((s : Spent) → Affords b s → Judged b P k s (child ob p s))
    → (s : Spent) → Affords b s → Judged b P (plus (spending 1 0) k) s (counted child b ob p s)
unfolding counted
counted_judged b P k child ob p H s h = by (ltb s.visits b.visits) refl
  where
    by : (t : Bool) → ltb s.visits b.visits ≡ t
        → Judged b P (plus (spending 1 0) k) s (pick t (child ob p (one_more s)) (refuse 4 (placed p) s))
    by true e =
        judged-from (one_more-plus s k) (H (one_more s) (one_more_affords b s h (ltb-true s.visits b.visits e)))
    by false e =
        judged-refuse _ s 4 (placed p) (omega arith) (λ q g. no-visit b s k (ltb-false s.visits b.visits e) g)

pub visit_judged : (d o : ℕ) (S : Schema) (m : List ℕ) (b : Budget) (ob : Object) (p : Place) (s : Spent) → Affords b s
    → Judged b (LawfulDown d o S m ob p) (cost d o S m ob p) s (visit d o S m b ob p s)
unfolding visit LawfulDown cost too_deep arrive open_object
visit_judged zero o S m b ob p s h =
    judged_never (counted_judged b ⊥ nothing too_deep ob p (λ t g. judged-refuse nothing t 5 (placed p) (omega arith) (λ q l. q)) s h)
visit_judged (suc d) o S m b ob p s h =
    let u = fit_object o S m ob p in
    let parts = cost_in (cost d o S m) o S m ob (placed p) (bytes_tested m ob u) in
    judged-from (ap (plus s) (arrival-plus (charge o S ob u) parts))
    (counted_judged b (LawfulDown (suc d) o S m ob p) (plus (spending 0 (charge o S ob u)) parts)
    (arrive (visit d o S m b) o S m b) ob p
    (λ t g. admit_judged b (LawfulDown d o S m) (cost d o S m) (visit d o S m b)
    (λ ob' p' v q. visit_judged d o S m b ob' p' v q) o S m ob (placed p) u (fit_numbered o S m ob p) t g) s h)

-- ---- the cost does not depend on the depth that is counted to, where nothing lies deeper
sum_same : (f g : ℕ → Spent) (n : ℕ) → ((j : ℕ) → j < n → f j ≡ g j) → sum f n ≡ sum g n
unfolding sum
sum_same f g zero e = refl
sum_same f g (suc n) e =
    ap₂ plus (e 0 (omega arith)) (sum_same (λ j. f (suc j)) (λ j. g (suc j)) n (λ j h. e (suc j) (omega arith)))

at_same : (f g : Object → Place → Spent) (st : Step) → ((ob : Object) (p : Place) → LeadsTo st ob p → f ob p ≡ g ob p)
    → cost_at f st ≡ cost_at g st
unfolding cost_at
at_same f g (St.Refused n) e = refl
at_same f g St.Absent e = refl
at_same f g (St.Value x) e = refl
at_same f g (St.Unknown x) e = refl
at_same f g (St.Struct i at) e = refl
at_same f g (St.Object ob p) e = e ob p by_reference
at_same f g (St.Choice c ob p) e = e ob p by-choice

pub cost-same : (d e o : ℕ) (S : Schema) (m : List ℕ) (ob : Object) (p : Place) → d ≤ e → LawfulDown d o S m ob p
    → cost e o S m ob p ≡ cost d o S m ob p
unfolding LawfulDown cost cost_in
cost-same zero e o S m ob p h x = absurd x
cost-same (suc d) zero o S m ob p h x = absurd (omega arith)
cost-same (suc d) (suc e) o S m ob p h x =
    ap (plus (spending 1 (charge o S ob (fit_object o S m ob p))))
    (opened (open_object o S m ob p) x (λ ob' p' y. cost-same d e o S m ob' p' (omega arith) y))
  where
    opened : (u : Result Content ℕ) → ContentLawful (LawfulDown d o S m) o S m ob (placed p) u
        → ((ob' : Object) (p' : Place) → LawfulDown d o S m ob' p' → cost e o S m ob' p' ≡ cost d o S m ob' p')
        → cost_in (cost e o S m) o S m ob (placed p) u ≡ cost_in (cost d o S m) o S m ob (placed p) u
    opened (Err n) c q = refl
    opened (Ok x) c q =
        sum_same _ _ (part_count S ob x.length)
        (λ j l.
        at_same (cost e o S m) (cost d o S m) (part_step o S m ob (placed p) x.start x.length j) (λ ob' p' t. q ob' p' ((c j l).object ob' p' t)))

-- ---- from any depth left to all arrivals, and back
module _ (o : ℕ) (S : Schema) (m : List ℕ) where
  -- lawful as far as the root's depth goes: then so is every arrival, at its depth
  pub down_arrives : LawfulDown deepest o S m (Ob.Table S.root) (root_place o m) → {d : ℕ} {ob : Object} {p : Place} → Arrives o S m d ob p
      → (left : ℕ) × (d + left ≡ suc deepest) × LawfulDown left o S m ob p
  unfolding LawfulDown
  down_arrives h root = (deepest, omega arith, h)
  down_arrives h (below {d} {ob} {ob'} {p} {p'} start n j a e l q) =
      let x = down_arrives h a in step x.0 x.1 x.2
    where
      content : (left : ℕ) (u : Result Content ℕ) → u ≡ Ok (content_at start n) → ContentLawful (LawfulDown left o S m) o S m ob (placed p) u
          → LawfulDown left o S m ob' p'
      content left u f c =
          (subst (λ (v : Result Content ℕ). ContentLawful (LawfulDown left o S m) o S m ob (placed p) v) f c j l).object ob' p' q

      step : (left : ℕ) → d + left ≡ suc deepest → LawfulDown left o S m ob p
          → (left : ℕ) × (suc d + left ≡ suc deepest) × LawfulDown left o S m ob' p'
      step zero f x = absurd x
      step (suc left) f x = (left, omega arith, content left (open_object o S m ob p) e x)

  pub down_depth : (d left : ℕ) (ob : Object) (p : Place) → d + left ≡ suc deepest → LawfulDown left o S m ob p → d ≤ deepest
  unfolding LawfulDown
  down_depth d zero ob p e x = absurd x
  down_depth d (suc left) ob p e x = omega arith

  pub down-lawful : (left : ℕ) (ob : Object) (p : Place) → LawfulDown left o S m ob p → LawfulObject o S m ob p
  unfolding LawfulDown
  down-lawful zero ob p x = absurd x
  down-lawful (suc left) ob p x = opened (open_object o S m ob p) refl x
    where
      opened : (u : Result Content ℕ) → open_object o S m ob p ≡ u → ContentLawful (LawfulDown left o S m) o S m ob (placed p) u → LawfulObject o S m ob p
      opened (Err n) e c = absurd c
      opened (Ok x) e c = record { start = x.start; size = x.length; opens = e; parts = λ j l. (c j l).step }

  -- every arrival lawful and not too deep: then each is lawful as far as its depth goes
  pub arrives_down : ((d : ℕ) (ob : Object) (p : Place) → Arrives o S m d ob p → d ≤ deepest)
      → ((d : ℕ) (ob : Object) (p : Place) → Arrives o S m d ob p → LawfulObject o S m ob p)
      → (left d : ℕ) (ob : Object) (p : Place) → Arrives o S m d ob p → d + left ≡ suc deepest → LawfulDown left o S m ob p
  unfolding LawfulDown
  arrives_down depth lawful zero d ob p a e = let l = depth d ob p a in absurd (omega arith)
  arrives_down depth lawful (suc left) d ob p a e =
      let x = lawful d ob p a in
      subst (λ (u : Result Content ℕ). ContentLawful (LawfulDown left o S m) o S m ob (placed p) u) (sym x.opens)
      (λ j l.
      record {
        step = x.parts j l;
        object = λ ob' p' q.
            arrives_down depth lawful left (suc d) ob' p' (below x.start x.size j a x.opens l q) (omega arith);
      })
