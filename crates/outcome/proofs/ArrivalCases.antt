-- What an arrival and its content are charged, and the ways out of an arrival that was charged.
use Rattle.std.specs.Prelude.{Result, Ok, Err}
use mathlib.Core.Path.{◌≡◌, refl, sym, ap, ◌∙◌}
use mathlib.Core.Bool.{Bool, true, false}
use mathlib.Core.List.{List}
use Prim.Native.Nat.{ℕ, zero, suc, ◌-◌, ◌<◌, ◌≤◌}
use native.Mathlib.Omega.{arith}
use native.Mathlib.Numerals.{sub-one}
use lib.Dec.{ltb}
use borrow.Author.Tests.{lt-ltb, le-ltb, ltb-true, ltb-false, le-leb, lt-leb}
use Rattle.coding.specs.Lists.{pick}
use Rattle.coding.specs.Schema as Sc
use Rattle.coding.specs.Schema.{Schema}
use Rattle.coding.specs.Layout as L
use Rattle.coding.specs.Walk as W
use Rattle.coding.specs.Walk.{Walked}
use Rattle.coding.specs.declared.Object.{Object}
use Rattle.coding.specs.declared.Object.TheVariants as O
use Rattle.coding.specs.declared.Place.{Place}
use Rattle.coding.specs.declared.Place.TheVariants.{ByOffset}
use Rattle.coding.specs.declared.Content.{Content}
use Rattle.coding.specs.declared.Spent.{Spent}
use Rattle.outcome.specs.declared.Outcome.{Outcome}
use Rattle.outcome.specs.Left as Left
use Rattle.outcome.specs.Answers.{walked_of, left_of, within, charged, text_tested}
use Rattle.outcome.proofs.AnswerCases.{is_going, goes, stops}

-- ---- the charge
module _ (d at v c : ℕ) (r : Walked) where
  pub charge_spent : v ≡ 0 → r ≡ W.refuse 4 at (W.spending v c) → r ≡ charged d at (W.spending v c)
  unfolding charged Left.counted W.placed
  charge_spent h f = simp (le-ltb 0 v (omega arith)) f

  module _ (h : v ≡ 0 → ⊥) where
    some : 0 < v
    some = by v h
      where
        by : (k : ℕ) → (k ≡ 0 → ⊥) → 0 < k
        by zero z = absurd (z refl)
        by (suc k) z = omega arith

    pub charge_deep : d ≡ 0 → r ≡ W.refuse 5 at (W.spending (v - 1) c) → r ≡ charged d at (W.spending v c)
    unfolding charged Left.counted W.placed within W.too_deep Left.one_less
    charge_deep z f = simp (lt-ltb 0 v some, z) f

    pub charge_going : (d ≡ 0 → ⊥) → r ≡ Ok (W.spending (v - 1) c) → r ≡ charged d at (W.spending v c)
    unfolding charged Left.counted within Left.one_less
    charge_going z f = by d z
      where
        by : (k : ℕ) → (k ≡ 0 → ⊥) → r ≡ Left.counted (within k) O.Text (ByOffset at) (W.spending v c)
        by zero z' = absurd (z' refl)
        by (suc k) z' = simp (lt-ltb 0 v some) f

-- what goes on is within the depth
pub charged_deep : (d at : ℕ) (s : Spent) (g : Outcome) → walked_of g ≡ charged d at s → g.code ≡ 0 → 0 < d
unfolding charged Left.counted within W.too_deep W.refuse
charged_deep d at s g eg z = by d (ltb 0 s.visits) (sym (is_going g z) ∙ eg)
  where
    by : (k : ℕ) (t : Bool) → Ok (left_of g) ≡ pick t (within k O.Text (ByOffset at) (Left.one_less s)) (W.refuse 4 (W.placed (ByOffset at)) s) → 0 < k
    by zero true e = let y : ◌≡◌ {A = ℕ} 0 1 = cc in absurd (omega arith)
    by zero false e = let y : ◌≡◌ {A = ℕ} 0 1 = cc in absurd (omega arith)
    by (suc k) t e = omega arith

-- content that is not more than what is left
pub not_more : (n c : ℕ) (t : Bool) → t ≡ ltb c n → t ≡ false → n ≤ c
not_more n c t e f = ltb-false c n (sym e ∙ f)

-- ---- an arrival is the charge, and then the object
module _ (o : ℕ) (S : Schema) (m : List ℕ) (ob : Object) (p : Place) (d : ℕ) (s : Spent) where
  charged-first : Left.visit d o S m ob p s ≡ W.and_then (charged d (W.placed p) s) (Left.arrive (Left.visit (d - 1) o S m) o S m ob p)
  unfolding Left.visit Left.counted charged within W.too_deep W.refuse W.and_then W.placed
  charged-first = by d
    where
      none : (t : Bool) (u : Spent) (next : Spent → Walked)
          → pick t (W.refuse 5 (W.placed p) u) (W.refuse 4 (W.placed p) s) ≡ W.and_then (pick t (W.refuse 5 (W.placed p) u) (W.refuse 4 (W.placed p) s)) next
      none true u next = refl
      none false u next = refl

      some : (t : Bool) (u : Spent) (next : Spent → Walked) → pick t (next u) (W.refuse 4 (W.placed p) s) ≡ W.and_then (pick t (Ok u) (W.refuse 4 (W.placed p) s)) next
      some true u next = refl
      some false u next = refl

      by : (k : ℕ) → Left.visit k o S m ob p s
          ≡ W.and_then (Left.counted (within k) O.Text (ByOffset (W.placed p)) s) (Left.arrive (Left.visit (k - 1) o S m) o S m ob p)
      by zero = none (ltb 0 s.visits) _ _
      by (suc k) = rw sub-one (some (ltb 0 s.visits) _ (Left.arrive (Left.visit k o S m) o S m ob p))

  module _ (at : ℕ) (e : at ≡ W.placed p) (g : Outcome) (eg : walked_of g ≡ charged d at s) where
    abbrev opened : Spent → Walked
    opened = Left.arrive (Left.visit (d - 1) o S m) o S m ob p

    is-charged : Left.visit d o S m ob p s ≡ W.and_then (walked_of g) opened
    is-charged = charged-first ∙ ap (λ (q : ℕ). W.and_then (charged d q s) opened) (sym e) ∙ ap (λ (w : Walked). W.and_then w opened) (sym eg)

    pub visit_stopped : (g.code ≡ 0 → ⊥) → walked_of g ≡ Left.visit d o S m ob p s
    visit_stopped f = sym (is-charged ∙ stops g opened f)

    module _ (z : g.code ≡ 0) (q : Result Content ℕ) (eq : q ≡ W.fit_object o S m ob p) (r : Walked) where
      pub visit-found : r ≡ Left.admit (Left.visit (d - 1) o S m) o S m ob at q (left_of g) → r ≡ Left.visit d o S m ob p s
      unfolding Left.arrive
      visit-found f =
          f ∙ ap (λ (i : ℕ). Left.admit (Left.visit (d - 1) o S m) o S m ob i q (left_of g)) e
          ∙ ap (λ (w : Result Content ℕ). Left.admit (Left.visit (d - 1) o S m) o S m ob (W.placed p) w (left_of g)) eq
          ∙ sym (is-charged ∙ goes g opened z)

      pub visit_refused : (n : ℕ) → q ≡ Err n → r ≡ W.refuse n at (left_of g) → r ≡ Left.visit d o S m ob p s
      unfolding Left.admit
      visit_refused n ew f = visit-found (f ∙ sym (ap (λ (w : Result Content ℕ). Left.admit (Left.visit (d - 1) o S m) o S m ob at w (left_of g)) ew))

-- ---- content that fits is charged, and then its bytes are tested
module _ (child : W.Child) (o : ℕ) (S : Schema) (m : List ℕ) (ob : Object) (holder start n : ℕ) (v c k : ℕ) (ek : k ≡ W.content_length o S ob n) where
  pub admit_past : c < k → (r : Walked) → r ≡ W.refuse 17 holder (W.spending v c) → r ≡ Left.admit child o S m ob holder (Ok (W.content_at start n)) (W.spending v c)
  unfolding Left.admit
  admit_past h r f = simp (← ek, lt-leb k c h) f

  pub admit_entered : k ≤ c → (r : Walked) → r ≡ W.enter child o S m ob holder (W.bytes_tested m ob (Ok (W.content_at start n))) (W.spending v (c - k))
      → r ≡ Left.admit child o S m ob holder (Ok (W.content_at start n)) (W.spending v c)
  unfolding Left.admit Left.less_content
  admit_entered h r f = simp (← ek, le-leb k c h) f

-- ---- an arrival by its offset
module _ (o : ℕ) (S : Schema) (m : List ℕ) (ob : Object) (x d : ℕ) (s : Spent) (g : Outcome) (eg : walked_of g ≡ charged d x s) where
  pub offset_stopped : (g.code ≡ 0 → ⊥) → walked_of g ≡ Left.visit d o S m ob (ByOffset x) s
  unfolding W.placed
  offset_stopped f = visit_stopped o S m ob (ByOffset x) d s x refl g eg f

  module _ (z : g.code ≡ 0) (q : Result Content ℕ) (eq : q ≡ W.fit_object o S m ob (ByOffset x)) where
    pub offset_refused : (r : Walked) (n : ℕ) → q ≡ Err n → r ≡ W.refuse n x (left_of g) → r ≡ Left.visit d o S m ob (ByOffset x) s
    unfolding W.placed
    offset_refused r n ew f = visit_refused o S m ob (ByOffset x) d s x refl g eg z q eq r n ew f

    module _ (c : Content) (ew : q ≡ Ok c) (k : ℕ) (ek : k ≡ W.content_length o S ob c.length) (t : Bool) (et : t ≡ ltb g.content k) where
      content : (r : Walked) → r ≡ Left.admit (Left.visit (d - 1) o S m) o S m ob x (Ok c) (left_of g) → r ≡ Left.visit d o S m ob (ByOffset x) s
      unfolding W.placed
      content r f =
          visit-found o S m ob (ByOffset x) d s x refl g eg z q eq r
          (f ∙ sym (ap (λ (w : Result Content ℕ). Left.admit (Left.visit (d - 1) o S m) o S m ob x w (left_of g)) ew))

      pub offset_unpaid : t ≡ true → (r : Walked) → r ≡ W.refuse 17 x (left_of g) → r ≡ Left.visit d o S m ob (ByOffset x) s
      offset_unpaid h r f =
          content r (admit_past (Left.visit (d - 1) o S m) o S m ob x c.start c.length g.visits g.content k ek (ltb-true g.content k (sym et ∙ h)) r f)

      pub offset_paid : t ≡ false → (r : Walked)
          → r ≡ W.enter (Left.visit (d - 1) o S m) o S m ob x (W.bytes_tested m ob (Ok c)) (W.spending g.visits (g.content - k))
          → r ≡ Left.visit d o S m ob (ByOffset x) s
      offset_paid h r f =
          content r (admit_entered (Left.visit (d - 1) o S m) o S m ob x c.start c.length g.visits g.content k ek (not_more k g.content t et h) r f)

-- a text has no parts
pub text_entered : (child : W.Child) (o : ℕ) (S : Schema) (m : List ℕ) (holder start n : ℕ) (s : Spent)
    → text_tested m holder start n s ≡ W.enter child o S m O.Text holder (W.bytes_tested m O.Text (Ok (W.content_at start n))) s
unfolding text_tested W.bytes_tested W.enter W.content
text_entered child o S m holder start n s = by (W.end_ok m O.Text start n) (W.text_ok m O.Text start n)
  where
    by : (t u : Bool)
        → pick t (pick u (Ok s) (W.refuse 16 holder s)) (W.refuse 10 holder s)
        ≡ W.enter child o S m O.Text holder (pick t (pick u (Ok (W.content_at start n)) (Err 16)) (Err 10)) s
    by true true = refl
    by true false = refl
    by false u = refl

-- and of a table's bytes nothing is tested
module _ (o : ℕ) (S : Schema) (m : List ℕ) (x d : ℕ) (s : Spent) (g : Outcome) (eg : walked_of g ≡ charged d x s) (z : g.code ≡ 0) (q : Result Content ℕ) (y : Content)
    (ew : q ≡ Ok y) (t : Bool) (et : t ≡ ltb g.content y.length) where
  module _ (eq : q ≡ W.fit_object o S m O.Text (ByOffset x)) where
    pub text_unpaid : t ≡ true → (r : Walked) → r ≡ W.refuse 17 x (left_of g) → r ≡ Left.visit d o S m O.Text (ByOffset x) s
    unfolding W.content_length
    text_unpaid h r f = offset_unpaid o S m O.Text x d s g eg z q eq y ew y.length refl t et h r f

    pub text_paid : t ≡ false → (c : ℕ) → c ≡ g.content - y.length → (r : Walked) → r ≡ text_tested m x y.start y.length (W.spending g.visits c)
        → r ≡ Left.visit d o S m O.Text (ByOffset x) s
    unfolding W.content_length
    text_paid h c ec r f =
        offset_paid o S m O.Text x d s g eg z q eq y ew y.length refl t et h r
        (f ∙ ap (λ (i : ℕ). text_tested m x y.start y.length (W.spending g.visits i)) ec ∙ text_entered (Left.visit (d - 1) o S m) o S m x y.start y.length _)

  module _ (i : ℕ) (eq : q ≡ W.fit_object o S m (O.Table i) (ByOffset x)) where
    pub table_unpaid : t ≡ true → (r : Walked) → r ≡ W.refuse 17 x (left_of g) → r ≡ Left.visit d o S m (O.Table i) (ByOffset x) s
    unfolding W.content_length
    table_unpaid h r f = offset_unpaid o S m (O.Table i) x d s g eg z q eq y ew y.length refl t et h r f

    pub table_paid : t ≡ false → (c : ℕ) → c ≡ g.content - y.length → (k : ℕ) → k ≡ d - 1 → (r : Walked)
        → r ≡ W.members (Left.visit k o S m) o S m x y.start y.length L.begin 0 (Sc.table_of S i).members (W.spending g.visits c)
        → r ≡ Left.visit d o S m (O.Table i) (ByOffset x) s
    unfolding W.content_length W.bytes_tested W.end_ok W.text_ok W.enter W.content
    table_paid h c ec k ek r f =
        offset_paid o S m (O.Table i) x d s g eg z q eq y ew y.length refl t et h r
        (f ∙ ap (λ (e : ℕ). W.members (Left.visit e o S m) o S m x y.start y.length L.begin 0 (Sc.table_of S i).members (W.spending g.visits c)) ek
        ∙ ap (λ (e : ℕ). W.members (Left.visit (d - 1) o S m) o S m x y.start y.length L.begin 0 (Sc.table_of S i).members (W.spending g.visits e)) ec)
