-- The walk with what is left of both allowances is the walk with what is spent of them: whatever is spent, that and what is left make
-- the budget.
use Rattle.std.specs.Prelude.{Result, Ok, Err}
use Prim.Native.Nat.{ℕ, zero, suc, ◌+◌, ◌-◌, ◌≤◌, ◌<◌}
use native.Mathlib.Omega.{arith}
use mathlib.Core.Path.{◌≡◌, refl, sym, ap, ◌∙◌}
use mathlib.Core.List.{List, [], ◌∷◌}
use mathlib.Core.Bool.{Bool, true, false}
use lib.Dec.{ltb, leb, eqb}
use borrow.Author.Tests.{lt-ltb, le-ltb, ltb-true, ltb-false, le-leb, lt-leb, leb-true, leb-false}
use Rattle.coding.specs.Lists.{pick}
use Rattle.coding.specs.Schema.{Schema, element_of, table_of}
use Rattle.coding.specs.Layout.{begin, after_member}
use Rattle.coding.specs.Step.{member_step, element_step}
use Rattle.coding.specs.Walk as W
use Rattle.coding.specs.Walk.{Walked}
use Rattle.coding.specs.declared.Object.{Object}
use Rattle.coding.specs.declared.Object.TheVariants as O
use Rattle.coding.specs.declared.Kind.{Kind}
use Rattle.coding.specs.declared.Member.{Member}
use Rattle.coding.specs.declared.Cursor.{Cursor}
use Rattle.coding.specs.declared.Place.{Place}
use Rattle.coding.specs.declared.Place.TheVariants.{ByOffset, InPlace}
use Rattle.coding.specs.declared.Step.{Step}
use Rattle.coding.specs.declared.Step.TheVariants as St
use Rattle.coding.specs.declared.Content.{Content}
use Rattle.coding.specs.declared.Budget.{Budget}
use Rattle.coding.specs.declared.Spent.{Spent}
use Rattle.coding.specs.declared.Refusal.{Refusal}
use Rattle.outcome.specs.Left as Left

-- what is spent and what is left make the budget
record Makes (b : Budget) (s l : Spent) : Type 0 where
  visits : s.visits + l.visits ≡ b.visits
  content : s.content + l.content ≡ b.content

-- two answers of the walk, one by what is spent and one by what is left
data Counts (b : Budget) : Walked → Walked → Type 0 where
  goes : {s l : Spent} → Makes b s l → Counts b (Ok s) (Ok l)
  stops : {r : Refusal} {s l : Spent} → Makes b s l → Counts b (Err (r, s)) (Err (r, l))

then_counts : {b : Budget} {a a' : Walked} {next next' : Spent → Walked} → Counts b a a' → ((s l : Spent) → Makes b s l → Counts b (next s) (next' l))
    → Counts b (W.and_then a next) (W.and_then a' next')
unfolding W.and_then
then_counts (goes {s} {l} k) h = h s l k
then_counts (stops k) h = stops k

module _ (b : Budget) (child child' : W.Child) (H : (ob : Object) (p : Place) (s l : Spent) → Makes b s l → Counts b (child ob p s) (child' ob p l)) (o : ℕ) (S : Schema)
    (m : List ℕ) where
  choice_counts : (holder j : ℕ) (ob : Object) (p : Place) (s l : Spent) → Makes b s l
      → Counts b (W.follow_choice child holder j ob p s) (W.follow_choice child' holder j ob p l)
  unfolding W.follow_choice W.refuse_part
  choice_counts holder j ob (ByOffset x) s l k = by (eqb x 0)
    where
      by : (t : Bool) → Counts b (pick t (W.refuse_part 9 holder j s) (child ob (ByOffset x) s)) (pick t (W.refuse_part 9 holder j l) (child' ob (ByOffset x) l))
      by true = stops k
      by false = H ob (ByOffset x) s l k
  choice_counts holder j ob (InPlace a n) s l k = H ob (InPlace a n) s l k

  follow_counts : (holder j : ℕ) (st : Step) (s l : Spent) → Makes b s l → Counts b (W.follow child holder j st s) (W.follow child' holder j st l)
  unfolding W.follow W.refuse_part
  follow_counts holder j (St.Refused n) s l k = stops k
  follow_counts holder j St.Absent s l k = goes k
  follow_counts holder j (St.Value x) s l k = goes k
  follow_counts holder j (St.Unknown x) s l k = goes k
  follow_counts holder j (St.Struct i at) s l k = goes k
  follow_counts holder j (St.Object ob p) s l k = H ob p s l k
  follow_counts holder j (St.Choice c ob p) s l k = choice_counts holder j ob p s l k

  members_counts : (holder start n : ℕ) (c : Cursor) (j : ℕ) (rs : List Member) (s l : Spent) → Makes b s l
      → Counts b (W.members child o S m holder start n c j rs s) (W.members child' o S m holder start n c j rs l)
  unfolding W.members
  members_counts holder start n c j [] s l k = goes k
  members_counts holder start n c j (r ∷ rs) s l k =
      then_counts (follow_counts holder j (member_step o S m start n c r) s l k) (members_counts holder start n (after_member o S r c) (j + 1) rs)

  elements_counts : (holder start : ℕ) (e : Kind) (n i : ℕ) (s l : Spent) → Makes b s l
      → Counts b (W.elements child o S m holder start e n i s) (W.elements child' o S m holder start e n i l)
  unfolding W.elements
  elements_counts holder start e zero i s l k = goes k
  elements_counts holder start e (suc n) i s l k =
      then_counts (follow_counts holder i (element_step o S m e start i) s l k) (elements_counts holder start e n (i + 1))

  directs_counts : (t w n at : ℕ) (s l : Spent) → Makes b s l → Counts b (W.directs child t w n at s) (W.directs child' t w n at l)
  unfolding W.directs
  directs_counts t w zero at s l k = goes k
  directs_counts t w (suc n) at s l k = then_counts (H (O.Table t) (InPlace at w) s l k) (directs_counts t w n (at + w))

  content_counts : (ob : Object) (holder start n : ℕ) (s l : Spent) → Makes b s l
      → Counts b (W.content child o S m ob holder start n s) (W.content child' o S m ob holder start n l)
  unfolding W.content
  content_counts O.Text holder start n s l k = goes k
  content_counts O.Bytes holder start n s l k = goes k
  content_counts (O.List i) holder start n s l k = elements_counts holder start (element_of S i) n 0 s l k
  content_counts (O.Table i) holder start n s l k = members_counts holder start n begin 0 (table_of S i).members s l k
  content_counts (O.DirectList t) holder start n s l k = directs_counts t (W.element_size o m holder) n start s l k

  enter_counts : (ob : Object) (holder : ℕ) (w : Result Content ℕ) (s l : Spent) → Makes b s l
      → Counts b (W.enter child o S m ob holder w s) (W.enter child' o S m ob holder w l)
  unfolding W.enter W.refuse
  enter_counts ob holder (Err n) s l k = stops k
  enter_counts ob holder (Ok c) s l k = content_counts ob holder c.start c.length s l k

  -- the content that is added is taken from what is left
  admit_counts : (ob : Object) (holder : ℕ) (w : Result Content ℕ) (s l : Spent) → Makes b s l
      → Counts b (W.admit child o S m b ob holder w s) (Left.admit child' o S m ob holder w l)
  unfolding W.admit Left.admit W.refuse W.with_content Left.less_content
  admit_counts ob holder (Err n) s l k = stops k
  admit_counts ob holder (Ok x) s l k = by (W.content_length o S ob x.length) (leb (W.content_length o S ob x.length) l.content) refl
    where
      by : (c : ℕ) (t : Bool) → leb c l.content ≡ t
          → Counts b
          (pick (leb (s.content + c) b.content) (W.enter child o S m ob holder (W.bytes_tested m ob (Ok x)) (W.with_content c s)) (W.refuse 17 holder s))
          (pick t (W.enter child' o S m ob holder (W.bytes_tested m ob (Ok x)) (Left.less_content c l)) (W.refuse 17 holder l))
      by c true q =
          let h = leb-true c l.content q in
          let kc = k.content in
          simp (le-leb (s.content + c) b.content (omega arith))
          (enter_counts ob holder (W.bytes_tested m ob (Ok x)) (W.spending s.visits (s.content + c)) (W.spending l.visits (l.content - c))
          (record { visits = k.visits; content = omega arith }))
      by c false q =
          let h = leb-false c l.content q in
          let kc = k.content in
          simp (lt-leb (s.content + c) b.content (omega arith)) (stops k)

  arrive_counts : (ob : Object) (p : Place) (s l : Spent) → Makes b s l → Counts b (W.arrive child o S m b ob p s) (Left.arrive child' o S m ob p l)
  unfolding W.arrive Left.arrive
  arrive_counts ob p s l k = admit_counts ob (W.placed p) (W.fit_object o S m ob p) s l k

-- the visit that is counted is taken from what is left
counted_counts : (b : Budget) (child child' : W.Child) → ((ob : Object) (p : Place) (s l : Spent) → Makes b s l → Counts b (child ob p s) (child' ob p l))
    → (ob : Object) (p : Place) (s l : Spent) → Makes b s l → Counts b (W.counted child b ob p s) (Left.counted child' ob p l)
unfolding W.counted Left.counted W.refuse W.one_more Left.one_less
counted_counts b child child' H ob p s l k = by (ltb 0 l.visits) refl
  where
    by : (t : Bool) → ltb 0 l.visits ≡ t
        → Counts b (pick (ltb s.visits b.visits) (child ob p (W.one_more s)) (W.refuse 4 (W.placed p) s))
        (pick t (child' ob p (Left.one_less l)) (W.refuse 4 (W.placed p) l))
    by true q =
        let h = ltb-true 0 l.visits q in
        let kv = k.visits in
        simp (lt-ltb s.visits b.visits (omega arith))
        (H ob p (W.spending (s.visits + 1) s.content) (W.spending (l.visits - 1) l.content) (record { visits = omega arith; content = k.content }))
    by false q =
        let h = ltb-false 0 l.visits q in
        let kv = k.visits in
        simp (le-ltb s.visits b.visits (omega arith)) (stops k)

deep_counts : (b : Budget) (ob : Object) (p : Place) (s l : Spent) → Makes b s l → Counts b (W.too_deep ob p s) (W.too_deep ob p l)
unfolding W.too_deep W.refuse
deep_counts b ob p s l k = stops k

visit_counts : (d o : ℕ) (S : Schema) (m : List ℕ) (b : Budget) (ob : Object) (p : Place) (s l : Spent) → Makes b s l
    → Counts b (W.visit d o S m b ob p s) (Left.visit d o S m ob p l)
unfolding W.visit Left.visit
visit_counts zero o S m b ob p s l k = counted_counts b W.too_deep W.too_deep (deep_counts b) ob p s l k
visit_counts (suc d) o S m b ob p s l k =
    counted_counts b _ _ (arrive_counts b (W.visit d o S m b) (Left.visit d o S m) (visit_counts d o S m b) o S m) ob p s l k

-- ---- what is spent, by what is left
made : (b : Budget) (s l : Spent) → Makes b s l → s ≡ W.spending (b.visits - l.visits) (b.content - l.content)
made b s l k =
    let kv = k.visits in
    let kc = k.content in
    let v : s.visits ≡ b.visits - l.visits = omega arith in
    let c : s.content ≡ b.content - l.content = omega arith in
    ap (λ (x : ℕ). W.spending x s.content) v ∙ ap (λ (x : ℕ). W.spending (b.visits - l.visits) x) c

spent_is : (b : Budget) (w w' : Walked) → Counts b w w' → w ≡ Left.spent_of b w'
unfolding Left.spent_of
spent_is b _ _ (goes {s} {l} k) = ap Ok (made b s l k)
spent_is b _ _ (stops {r} {s} {l} k) = ap (λ (u : Spent). Err (r, u)) (made b s l k)

-- what is left is within the budget
abbrev pub Within : Budget → Walked → Type 0
Within b (Ok l) = (l.visits ≤ b.visits) × (l.content ≤ b.content)
Within b (Err (r, l)) = (l.visits ≤ b.visits) × (l.content ≤ b.content)

left-within : (b : Budget) (w w' : Walked) → Counts b w w' → Within b w'
left-within b _ _ (goes {s} {l} k) =
    let kv = k.visits in
    let kc = k.content in
    (omega arith, omega arith)
left-within b _ _ (stops {r} {s} {l} k) =
    let kv = k.visits in
    let kc = k.content in
    (omega arith, omega arith)

-- ---- from the start, where nothing is spent
module _ (d o : ℕ) (S : Schema) (m : List ℕ) (v c : ℕ) (ob : Object) (p : Place) where
  started : Counts (W.allowing v c) (W.visit d o S m (W.allowing v c) ob p W.nothing) (Left.visit d o S m ob p (W.spending v c))
  unfolding W.nothing
  started =
      let z : 0 + v ≡ v = omega arith in
      let y : 0 + c ≡ c = omega arith in
      visit_counts d o S m (W.allowing v c) ob p (W.spending 0 0) (W.spending v c) (record { visits = z; content = y })

  pub visit_spent : W.visit d o S m (W.allowing v c) ob p W.nothing ≡ Left.spent_of (W.allowing v c) (Left.visit d o S m ob p (W.spending v c))
  visit_spent = spent_is _ _ _ started

  pub visit_left : Within (W.allowing v c) (Left.visit d o S m ob p (W.spending v c))
  visit_left = left-within _ _ _ started
