-- A newer schema's walk of a message that is plain under an older schema is the older's, step for step, with every budget.
use Prim.Native.Nat.{ℕ, zero, suc, ◌+◌}
use Rattle.std.specs.Prelude.{List, Bool, ◌&&◌, ◌≡◌, length, ltb, eqb, Result, Ok, Err}
use Rattle.std.proofs.Math.Bool.{true, false}
use Rattle.std.proofs.Math.Path.{refl, ap, subst}
use Rattle.std.proofs.Math.Dec.{leb}
use Rattle.coding.specs.Lists.{pick}
use Rattle.coding.specs.Bytes.{le, deepest}
use Rattle.coding.specs.Schema.{Schema, table_of}
use Rattle.coding.specs.Layout.{begin, after_member}
use Rattle.coding.specs.Walk.{placed, magic, header_size, element_id, element_size, most_elements, start_size, content_size, content_length, end_ok, text_ok, fit_content, direct_header, header_tested, stands_in_place, fit_object, bytes_tested, refuse, and_then, Child, follow_choice, follow, members, elements, directs, content, enter, with_content, admit, arrive, one_more, counted, visit, root_place, nothing, walk, content_at, Walked}
use Rattle.coding.specs.Append.{Extends, rest, more, KindAppends, MemberAppends, SchemaAppends}
use Rattle.coding.specs.declared.Object.{Object}
use Rattle.coding.specs.declared.Object.TheVariants as Ob
use Rattle.coding.specs.declared.Kind.{Kind}
use Rattle.coding.specs.declared.Member.{Member}
use Rattle.coding.specs.declared.Cursor.{Cursor}
use Rattle.coding.specs.declared.Place.{Place}
use Rattle.coding.specs.declared.Place.TheVariants.{ByOffset, InPlace}
use Rattle.coding.specs.declared.Step.{Step}
use Rattle.coding.specs.declared.Content.{Content}
use Rattle.coding.specs.declared.Budget.{Budget}
use Rattle.coding.specs.declared.Spent.{Spent}
use Rattle.laws.specs.Sound.{All, ObjectSound, KindSound, MemberSound, Sound}
use Rattle.demands.specs.SameLayout.{element-same, table_same, after-member-same, content-length-same}
use Rattle.demands.specs.SameStep.{SameStep, refused, no_value, value, enum-value, enum_appended, enum-unknown, struct-value, object-value, choice, choice_appended, choice-unknown, member_step-same, element_step-same}
use Rattle.demands.specs.OlderAccepts.{fit_same}
use Rattle.demands.specs.PlainMessage.{Objects, step_plain, members_plain, elements_plain, directs_plain, content_plain, place_plain, plain, message_plain}
use Rattle.demands.specs.AddedMembers.{full_past, walk_added}

then_same : {a b : Walked} (next next' : Spent → Walked) → b ≡ a → ((s : Spent) → next' s ≡ next s) → and_then b next' ≡ and_then a next
then_same {a} {b} next next' e f = rw e (by a)
  where
    by : (x : Walked) → and_then x next' ≡ and_then x next
    by (Ok s) = unfold and_then in f s
    by (Err (r, s)) = unfold and_then in refl

module _ (o : ℕ) (O N : Schema) (sound : Sound O) (G : SchemaAppends O N) (m : List ℕ) (P : Objects) (old new : Child)
    (H : (ob : Object) → ObjectSound O ob → (p : Place) → P ob p → (s : Spent) → new ob p s ≡ old ob p s) where
  choice-same : (ob : Object) → ObjectSound O ob → (holder j : ℕ) (p : Place) → P ob p → (s : Spent)
      → follow_choice new holder j ob p s ≡ follow_choice old holder j ob p s
  unfolding follow_choice
  choice-same ob q holder j (ByOffset x) h s = rw (H ob q (ByOffset x) h s)
  choice-same ob q holder j (InPlace a n) h s = H ob q (InPlace a n) h s

  follow-same : {k : Kind} {a b : Step} → SameStep O k a b → step_plain P O m a → (holder j : ℕ) (s : Spent)
      → follow new holder j b s ≡ follow old holder j a s
  unfolding follow step_plain
  follow-same refused h holder j s = refl
  follow-same no_value h holder j s = refl
  follow-same (value q) h holder j s = refl
  follow-same (enum-value q) h holder j s = refl
  follow-same (enum_appended q) h holder j s = absurd h
  follow-same enum-unknown h holder j s = absurd h
  follow-same (struct-value q) h holder j s = refl
  follow-same (object-value {ob} {p} q) h holder j s = H ob q p h s
  follow-same (choice {ob} {p} l e q) h holder j s = choice-same ob q holder j p h s
  follow-same (choice_appended l) h holder j s = absurd h
  follow-same choice-unknown h holder j s = absurd h

  members-same : {rs rs' : List Member} → Extends MemberAppends rs rs' → All (MemberSound O) rs → (holder start n : ℕ) (c : Cursor)
      → members_plain P o O m start n c rs → (j : ℕ) (s : Spent)
      → members new o N m holder start n c j rs' s ≡ members old o O m holder start n c j rs s
  unfolding members members_plain
  members-same (rest {ys}) a holder start n c h j s = walk_added m start n new o N holder j ys c s (full_past m start n h)
  members-same (more {x} {y} {xs} {ys} q l) a holder start n c h j s =
      then_same _ _ (follow-same (member_step-same O N sound G m o q a.0 start n c) h.0 holder j s)
      (λ t. rw (← after-member-same O N sound G o q a.0 c) (members-same l a.1 holder start n (after_member o O x c) h.1 (j + 1) t))

  elements_same : {k k' : Kind} → KindAppends k k' → KindSound O k → (holder start n i : ℕ) → elements_plain P o O m start k n i → (s : Spent)
      → elements new o N m holder start k' n i s ≡ elements old o O m holder start k n i s
  unfolding elements elements_plain
  elements_same q a holder start zero i h s = refl
  elements_same q a holder start (suc n) i h s =
      then_same _ _ (follow-same (element_step-same O N sound G m o q a start i) h.0 holder i s)
      (λ t. elements_same q a holder start n (i + 1) h.1 t)

  directs-same : (t : ℕ) → ObjectSound O (Ob.Table t) → (w n at : ℕ) → directs_plain P t w n at → (s : Spent)
      → directs new t w n at s ≡ directs old t w n at s
  unfolding directs directs_plain
  directs-same t q w zero at h s = refl
  directs-same t q w (suc n) at h s =
      then_same _ _ (H (Ob.Table t) q (InPlace at w) h.0 s) (λ u. directs-same t q w n (at + w) h.1 u)

  content-same : (ob : Object) → ObjectSound O ob → (holder start n : ℕ) → content_plain P o O m ob holder start n → (s : Spent)
      → content new o N m ob holder start n s ≡ content old o O m ob holder start n s
  unfolding content content_plain
  content-same Ob.Text q holder start n h s = refl
  content-same Ob.Bytes q holder start n h s = refl
  content-same (Ob.List i) q holder start n h s =
      elements_same (element-same O N sound G i q) (sound.lists i).kind holder start n 0 h s
  content-same (Ob.Table i) q holder start n h s =
      members-same (table_same O N sound G i q).members (sound.tables i).members holder start n begin h 0 s
  content-same (Ob.DirectList t) q holder start n h s = directs-same t q.table (element_size o m holder) n start h s

  -- at an arrival, what was opened stands where the plain content does
  content_admits : (b : Budget) (ob : Object) → ObjectSound O ob → (holder start n : ℕ) → content_plain P o O m ob holder start n
      → (s : Spent)
      → admit new o N m b ob holder (fit_content o O m ob holder start n) s ≡ admit old o O m b ob holder (fit_content o O m ob holder start n) s
  unfolding admit enter fit_content bytes_tested
  content_admits b ob q holder start n h s = by (leb (start + content_size o O m ob holder n) (length m))
    where
      tested : (u v : Bool) (t : Spent)
          → enter new o N m ob holder (pick u (pick v (Ok (content_at start n)) (Err 16)) (Err 10)) t
          ≡ enter old o O m ob holder (pick u (pick v (Ok (content_at start n)) (Err 16)) (Err 10)) t
      tested true true t = content-same ob q holder start n h t
      tested true false t = refl
      tested false v t = refl

      by : (t : Bool)
          → admit new o N m b ob holder (pick t (Ok (content_at start n)) (Err 6)) s
          ≡ admit old o O m b ob holder (pick t (Ok (content_at start n)) (Err 6)) s
      by true =
          rw (content-length-same O N sound G o ob q n)
          (ap (λ (w : Walked). pick (leb (s.content + content_length o N ob n) b.content) w (refuse 17 holder s))
          (tested (end_ok m ob start n) (text_ok m ob start n) (with_content (content_length o N ob n) s)))
      by false = refl

  -- what a direct list's header says more
  header_admits : (b : Budget) (ob : Object) (holder : ℕ) (fit : Result Content ℕ) (s : Spent)
      → admit new o N m b ob holder fit s ≡ admit old o O m b ob holder fit s
      → admit new o N m b ob holder (header_tested o O m ob holder fit) s ≡ admit old o O m b ob holder (header_tested o O m ob holder fit) s
  unfolding header_tested direct_header
  header_admits b Ob.Text holder fit s h = h
  header_admits b Ob.Bytes holder fit s h = h
  header_admits b (Ob.List i) holder fit s h = h
  header_admits b (Ob.Table i) holder fit s h = h
  header_admits b (Ob.DirectList t) holder fit s h =
      by (eqb (element_id o m holder) (table_of O t).id) (leb (le m (holder + 4) o) most_elements)
    where
      by : (u v : Bool)
          → admit new o N m b (Ob.DirectList t) holder (pick u (pick v fit (Err 6)) (Err 7)) s
          ≡ admit old o O m b (Ob.DirectList t) holder (pick u (pick v fit (Err 6)) (Err 7)) s
      by true true = h
      by true false = unfold admit in refl
      by false v = unfold admit in refl

  place_admits : (b : Budget) (ob : Object) → ObjectSound O ob → (p : Place) → place_plain P o O m ob p → (s : Spent)
      → admit new o N m b ob (placed p) (fit_object o O m ob p) s ≡ admit old o O m b ob (placed p) (fit_object o O m ob p) s
  unfolding fit_object place_plain placed
  place_admits b ob q (ByOffset x) h s = by (leb (start_size o) x && leb (x + header_size o ob) (length m)) (eqb (le m x 4) (magic O ob))
    where
      opened : Result Content ℕ
      opened = header_tested o O m ob x (fit_content o O m ob x (x + header_size o ob) (le m (x + 4) o))

      by : (t u : Bool)
          → admit new o N m b ob x (pick t (pick u opened (Err 7)) (Err 6)) s
          ≡ admit old o O m b ob x (pick t (pick u opened (Err 7)) (Err 6)) s
      by true true =
          header_admits b ob x (fit_content o O m ob x (x + header_size o ob) (le m (x + 4) o)) s
          (content_admits b ob q x (x + header_size o ob) (le m (x + 4) o) h s)
      by true false = unfold admit in refl
      by false u = unfold admit in refl
  place_admits b ob q (InPlace a n) h s = by (stands_in_place ob)
    where
      by : (t : Bool)
          → admit new o N m b ob a (pick t (fit_content o O m ob a a n) (Err 6)) s
          ≡ admit old o O m b ob a (pick t (fit_content o O m ob a a n) (Err 6)) s
      by true = content_admits b ob q a a n h s
      by false = unfold admit in refl

  arrive_same : (b : Budget) (ob : Object) → ObjectSound O ob → (p : Place) → place_plain P o O m ob p → (s : Spent)
      → arrive new o N m b ob p s ≡ arrive old o O m b ob p s
  unfolding arrive
  arrive_same b ob q p h s = rw (← fit_same o O N sound G m ob q p) (place_admits b ob q p h s)

module _ (o : ℕ) (O N : Schema) (sound : Sound O) (G : SchemaAppends O N) (m : List ℕ) (b : Budget) where
  visit-same : (d : ℕ) (ob : Object) → ObjectSound O ob → (p : Place) → plain d o O m ob p → (s : Spent)
      → visit d o N m b ob p s ≡ visit d o O m b ob p s
  unfolding visit plain counted
  visit-same zero ob q p h s = refl
  visit-same (suc d) ob q p h s =
      ap (λ (w : Walked). pick (ltb s.visits b.visits) w (refuse 4 (placed p) s))
      (arrive_same o O N sound G m (plain d o O m) (visit d o O m b) (visit d o N m b) (visit-same d) b ob q p h
      (one_more s))

  -- the newer's walk is the older's
  pub newer_judges : message_plain o O m → walk o N m b ≡ walk o O m b
  unfolding walk message_plain
  newer_judges h =
      subst (λ (r : ℕ). visit deepest o N m b (Ob.Table r) (root_place o m) nothing ≡ visit deepest o O m b (Ob.Table O.root) (root_place o m) nothing) G.root
      (visit-same deepest (Ob.Table O.root) sound.root (root_place o m) h nothing)
