-- What a newer schema accepts with a budget, an older one accepts with the same budget: the older's walk is within the
-- newer's.
use Prim.Native.Nat.{ℕ, zero, suc, ◌+◌}
use Rattle.std.proofs.Common.{arith}
use Rattle.std.specs.Prelude.{List, Bool, ◌≡◌, refl, ltb, eqb, Result, Ok, Err}
use Rattle.std.proofs.Math.Bool.{true, false}
use Rattle.std.proofs.Math.Path.{subst}
use Rattle.std.proofs.Math.Dec.{leb}
use borrow.Author.Tests.{ltb-true, lt-ltb, leb-true, le-leb}
use Rattle.coding.specs.Lists.{pick}
use Rattle.coding.specs.Bytes.{le, deepest}
use Rattle.coding.specs.Schema.{Schema}
use Rattle.coding.specs.Layout.{begin, after_member}
use Rattle.coding.specs.Walk.{placed, header_size, element_size, content_length, fit_content, fit_object, bytes_tested, refuse, and_then, Child, refuse_part, follow_choice, follow, members, elements, directs, content, enter, with_content, admit, arrive, too_deep, one_more, counted, visit, root_place, nothing, walk, Walked}
use Rattle.coding.specs.Append.{Extends, rest, more, KindAppends, MemberAppends, SchemaAppends}
use Rattle.coding.specs.declared.Object.{Object}
use Rattle.coding.specs.declared.Object.TheVariants as Ob
use Rattle.coding.specs.declared.Kind.{Kind}
use Rattle.coding.specs.declared.Member.{Member}
use Rattle.coding.specs.declared.Cursor.{Cursor}
use Rattle.coding.specs.declared.Place.{Place}
use Rattle.coding.specs.declared.Place.TheVariants.{ByOffset, InPlace}
use Rattle.coding.specs.declared.Step.{Step}
use Rattle.coding.specs.declared.Content.{Content}
use Rattle.coding.specs.declared.Budget.{Budget}
use Rattle.coding.specs.declared.Spent.{Spent}
use Rattle.coding.specs.declared.Refusal.{Refusal}
use Rattle.laws.specs.Sound.{All, ObjectSound, KindSound, MemberSound, Sound}
use Rattle.demands.specs.Spending.{NoMore, no_more_refl, no_more_trans, one_more-within, with-content-within}
use Rattle.demands.specs.TwoWalks.{choice_beside, members_beside}
use Rattle.demands.specs.SpentGrows.{spent_by, Grows, no_less, visit_up}
use Rattle.demands.specs.SameLayout.{element-same, table_same, after-member-same, content-size-same, content-length-same, header-same, magic-same}
use Rattle.demands.specs.SameStep.{SameStep, refused, no_value, value, enum-value, enum_appended, enum-unknown, struct-value, object-value, choice, choice_appended, choice-unknown, member_step-same, element_step-same}

-- if the second walk goes on, the first does, and has spent no more of either
pub data Within : Walked → Walked → Type 0 where
  stopped : {a : Walked} {r : Refusal} {s : Spent} → Within a (Err (r, s))
  going : {s s' : Spent} → NoMore s s' → Within (Ok s) (Ok s')

pick-within : (t : Bool) {a a' b b' : Walked} → Within a a' → Within b b' → Within (pick t a b) (pick t a' b')
pick-within true x y = x
pick-within false x y = y

then-within : {a a' : Walked} {next next' : Spent → Walked} → Within a a'
    → ((s s' : Spent) → NoMore s s' → Within (next s) (next' s')) → Within (and_then a next) (and_then a' next')
unfolding and_then
then-within stopped f = stopped
then-within (going {s} {s'} h) f = f s s' h

from-within : {s t : Spent} {a : Walked} → NoMore s t → Within (Ok t) a → Within (Ok s) a
from-within h stopped = stopped
from-within h (going l) = going (no_more_trans h l)

-- what the newer's walk leads to alone: what is spent never falls
up-within : {s : Spent} (w : Walked) → NoMore s (spent_by w) → Within (Ok s) w
unfolding spent_by
up-within (Ok t) h = going h
up-within (Err (r, t)) h = stopped

refuse-within : {a : Walked} (n at : ℕ) (s : Spent) → Within a (refuse n at s)
unfolding refuse
refuse-within n at s = stopped

-- ---- the older's walk beside the newer's
module _ (o : ℕ) (O N : Schema) (sound : Sound O) (G : SchemaAppends O N) (m : List ℕ) where
  fit-content-same : (ob : Object) → ObjectSound O ob → (at start n : ℕ) → fit_content o O m ob at start n ≡ fit_content o N m ob at start n
  unfolding fit_content
  fit-content-same ob h at start n = rw (content-size-same O N sound G o m ob h at n)

  pub fit_same : (ob : Object) → ObjectSound O ob → (p : Place) → fit_object o O m ob p ≡ fit_object o N m ob p
  unfolding fit_object
  fit_same ob h (ByOffset x) =
      let start = x + header_size o ob in
      let n = le m (x + 4) o in
      rw (magic-same O N sound G ob h, fit-content-same ob h x start n, header-same O N sound G o m ob h x (fit_content o N m ob x start n))
  fit_same ob h (InPlace a n) = rw (fit-content-same ob h a a n)

  module _ (old new : Child) (U : (ob : Object) (p : Place) (s : Spent) → NoMore s (spent_by (new ob p s)))
      (H : (ob : Object) → ObjectSound O ob → (p : Place) (s s' : Spent) → NoMore s s'
      → Within (old ob p s) (new ob p s')) where
    choice-within : (ob : Object) → ObjectSound O ob → (holder j : ℕ) (p : Place) (s s' : Spent) → NoMore s s'
        → Within (follow_choice old holder j ob p s) (follow_choice new holder j ob p s')
    unfolding follow_choice refuse_part
    choice-within ob q holder j (ByOffset x) s s' h =
        pick-within (eqb x 0) stopped (H ob q (ByOffset x) s s' h)
    choice-within ob q holder j (InPlace a n) s s' h = H ob q (InPlace a n) s s' h

    follow-within : {k : Kind} {a b : Step} → SameStep O k a b → (holder j : ℕ) (s s' : Spent) → NoMore s s'
        → Within (follow old holder j a s) (follow new holder j b s')
    unfolding follow refuse_part
    follow-within (refused {n}) holder j s s' h = stopped
    follow-within no_value holder j s s' h = going h
    follow-within (value q) holder j s s' h = going h
    follow-within (enum-value q) holder j s s' h = going h
    follow-within (enum_appended q) holder j s s' h = going h
    follow-within enum-unknown holder j s s' h = going h
    follow-within (struct-value q) holder j s s' h = going h
    follow-within (object-value {ob} {p} q) holder j s s' h = H ob q p s s' h
    follow-within (choice {ob} {p} l e q) holder j s s' h = choice-within ob q holder j p s s' h
    follow-within (choice_appended {ob} {p} l) holder j s s' h =
        from-within h (up-within _ (choice_beside (Grows NoMore) no_less new new U o N m holder j ob p s'))
    follow-within choice-unknown holder j s s' h = going h

    members-within : {rs rs' : List Member} → Extends MemberAppends rs rs' → All (MemberSound O) rs → (holder start n : ℕ) (c : Cursor)
        (j : ℕ) (s s' : Spent) → NoMore s s'
        → Within (members old o O m holder start n c j rs s) (members new o N m holder start n c j rs' s')
    unfolding members
    members-within (rest {ys}) a holder start n c j s s' h =
        from-within h (up-within _ (members_beside (Grows NoMore) no_less new new U o N m holder start n c j ys s'))
    members-within (more {x} {y} {xs} {ys} q l) a holder start n c j s s' h =
        then-within (follow-within (member_step-same O N sound G m o q a.0 start n c) holder j s s' h)
        (λ t t' g.
        rw (after-member-same O N sound G o q a.0 c)
        (members-within l a.1 holder start n (after_member o N y c) (j + 1) t t' g))

    elements-within : {k k' : Kind} → KindAppends k k' → KindSound O k → (holder start n i : ℕ) (s s' : Spent) → NoMore s s'
        → Within (elements old o O m holder start k n i s) (elements new o N m holder start k' n i s')
    unfolding elements
    elements-within q a holder start zero i s s' h = going h
    elements-within q a holder start (suc n) i s s' h =
        then-within (follow-within (element_step-same O N sound G m o q a start i) holder i s s' h)
        (λ t t' g. elements-within q a holder start n (i + 1) t t' g)

    directs-within : (t : ℕ) → ObjectSound O (Ob.Table t) → (w n at : ℕ) (s s' : Spent) → NoMore s s'
        → Within (directs old t w n at s) (directs new t w n at s')
    unfolding directs
    directs-within t q w zero at s s' h = going h
    directs-within t q w (suc n) at s s' h =
        then-within (H (Ob.Table t) q (InPlace at w) s s' h) (λ u u' g. directs-within t q w n (at + w) u u' g)

    content-within : (ob : Object) → ObjectSound O ob → (holder start n : ℕ) (s s' : Spent) → NoMore s s'
        → Within (content old o O m ob holder start n s) (content new o N m ob holder start n s')
    unfolding content
    content-within Ob.Text q holder start n s s' h = going h
    content-within Ob.Bytes q holder start n s s' h = going h
    content-within (Ob.List i) q holder start n s s' h =
        elements-within (element-same O N sound G i q) (sound.lists i).kind holder start n 0 s s' h
    content-within (Ob.Table i) q holder start n s s' h =
        members-within (table_same O N sound G i q).members (sound.tables i).members holder start n begin 0 s s' h
    content-within (Ob.DirectList t) q holder start n s s' h = directs-within t q.table (element_size o m holder) n start s s' h

    enter-within : (ob : Object) → ObjectSound O ob → (holder : ℕ) (p : Result Content ℕ) (s s' : Spent) → NoMore s s'
        → Within (enter old o O m ob holder p s) (enter new o N m ob holder p s')
    unfolding enter
    enter-within ob q holder (Err n) s s' h = refuse-within n holder s'
    enter-within ob q holder (Ok c) s s' h = content-within ob q holder c.start c.length s s' h

    -- the content allowance's test: if the newer passes it, so does the older
    admit-within : (b : Budget) (ob : Object) → ObjectSound O ob → (holder : ℕ) (p : Result Content ℕ) (s s' : Spent) → NoMore s s'
        → Within (admit old o O m b ob holder p s) (admit new o N m b ob holder p s')
    unfolding admit
    admit-within b ob q holder (Err n) s s' h = refuse-within n holder s'
    admit-within b ob q holder (Ok c) s s' h =
        rw (content-length-same O N sound G o ob q c.length) (by (leb (s'.content + content_length o N ob c.length) b.content) refl)
      where
        by : (t : Bool) → leb (s'.content + content_length o N ob c.length) b.content ≡ t
            → Within
            (pick (leb (s.content + content_length o N ob c.length) b.content)
            (enter old o O m ob holder (bytes_tested m ob (Ok c)) (with_content (content_length o N ob c.length) s))
            (refuse 17 holder s))
            (pick t
            (enter new o N m ob holder (bytes_tested m ob (Ok c)) (with_content (content_length o N ob c.length) s'))
            (refuse 17 holder s'))
        by true e =
            let l = leb-true (s'.content + content_length o N ob c.length) b.content e in
            rw (le-leb (s.content + content_length o N ob c.length) b.content (omega (arith, h.content)))
            (enter-within ob q holder (bytes_tested m ob (Ok c))
            (with_content (content_length o N ob c.length) s) (with_content (content_length o N ob c.length) s')
            (with-content-within (content_length o N ob c.length) h))
        by false e = refuse-within 17 holder s'

    arrive-within : (b : Budget) (ob : Object) → ObjectSound O ob → (p : Place) (s s' : Spent) → NoMore s s'
        → Within (arrive old o O m b ob p s) (arrive new o N m b ob p s')
    unfolding arrive
    arrive-within b ob q p s s' h = rw (fit_same ob q p) (admit-within b ob q (placed p) (fit_object o N m ob p) s s' h)

-- the test of the visits: if the newer passes it, so does the older
counted-within : (old new : Child) (b : Budget) (ob : Object) (p : Place) (s s' : Spent) → NoMore s s'
    → ((t t' : Spent) → NoMore t t' → Within (old ob p t) (new ob p t'))
    → Within (counted old b ob p s) (counted new b ob p s')
unfolding counted
counted-within old new b ob p s s' h H = by (ltb s'.visits b.visits) refl
  where
    by : (t : Bool) → ltb s'.visits b.visits ≡ t
        → Within
        (pick (ltb s.visits b.visits) (old ob p (one_more s)) (refuse 4 (placed p) s))
        (pick t (new ob p (one_more s')) (refuse 4 (placed p) s'))
    by true e =
        rw (lt-ltb s.visits b.visits (omega (arith, h.visits, ltb-true s'.visits b.visits e)))
        (H (one_more s) (one_more s') (one_more-within h))
    by false e = refuse-within 4 (placed p) s'

module _ (o : ℕ) (O N : Schema) (sound : Sound O) (G : SchemaAppends O N) (m : List ℕ) (b : Budget) where
  pub visit-within : (d : ℕ) (ob : Object) → ObjectSound O ob → (p : Place) (s s' : Spent) → NoMore s s'
      → Within (visit d o O m b ob p s) (visit d o N m b ob p s')
  unfolding visit
  visit-within zero ob q p s s' h = counted-within too_deep too_deep b ob p s s' h (λ t t' g. unfold too_deep in refuse-within 5 (placed p) t')
  visit-within (suc d) ob q p s s' h =
      counted-within (arrive (visit d o O m b) o O m b) (arrive (visit d o N m b) o N m b) b ob p s s' h
      (λ t t' g. arrive-within o O N sound G m (visit d o O m b) (visit d o N m b) (visit_up d o N m b) (visit-within d) b ob q p t t' g)

  pub walk-within : Within (walk o O m b) (walk o N m b)
  unfolding walk
  walk-within =
      subst (λ (r : ℕ). Within (visit deepest o O m b (Ob.Table O.root) (root_place o m) nothing) (visit deepest o N m b (Ob.Table r) (root_place o m) nothing)) G.root
      (visit-within deepest (Ob.Table O.root) sound.root (root_place o m) nothing nothing (no_more_refl nothing))

  -- whatever the newer accepts, the older accepts, and has spent no more of either
  pub older_accepts : (s : Spent) → walk o N m b ≡ Ok s → (t : Spent) × (walk o O m b ≡ Ok t) × NoMore t s
  older_accepts s e = accepts walk-within s e
    where
      accepts : {x y : Walked} → Within x y → (s : Spent) → y ≡ Ok s → (t : Spent) × (x ≡ Ok t) × NoMore t s
      accepts (stopped {r} {s = u}) s e = let z : ◌≡◌ {A = ℕ} 0 1 = cc in absurd (omega arith)
      accepts (going {s = t} {s' = u} l) s e = (t, refl, subst (λ (v : Spent). NoMore t v) (let z : u ≡ s = cc in z) l)
