-- The ways out of an arrival and of an object's content, one lemma for each: the charge, the test of its bytes, and its parts.
use Rattle.std.specs.Prelude.{Result, Ok}
use mathlib.Core.Path.{◌≡◌, sym, ap, ◌∙◌, subst}
use mathlib.Core.Bool.{Bool, true, false}
use mathlib.Core.List.{List}
use Prim.Native.Nat.{ℕ, ◌+◌, ◌-◌, ◌<◌, ◌≤◌}
use native.Mathlib.Omega.{arith}
use lib.Dec.{ltb}
use lib.ListN.{length}
use borrow.Author.Tests.{ltb-true}
use Rattle.coding.specs.Schema as Sc
use Rattle.coding.specs.Schema.{Schema}
use Rattle.coding.specs.Layout as L
use Rattle.coding.specs.Walk as W
use Rattle.coding.specs.Walk.{Walked}
use Rattle.coding.specs.declared.Object.{Object}
use Rattle.coding.specs.declared.Object.TheVariants as O
use Rattle.coding.specs.declared.Place.{Place}
use Rattle.coding.specs.declared.Content.{Content}
use Rattle.coding.specs.declared.Spent.{Spent}
use Rattle.outcome.specs.declared.Outcome.{Outcome}
use Rattle.outcome.specs.Left as Left
use Rattle.outcome.specs.Answers.{walked_of, left_of, charged, text_tested}
use Rattle.message_object.proofs.OpenCases.{fit_fits}
use Rattle.outcome.proofs.ArrivalCases.{visit-found, admit_past, admit_entered, not_more, text_entered}

-- ---- an arrival at content that fits
pub visit-content : (o : ℕ) (S : Schema) (m : List ℕ) (ob : Object) (p : Place) (d : ℕ) (s : Spent) (at : ℕ) → at ≡ W.placed p → (g : Outcome) → walked_of g ≡ charged d at s
    → g.code ≡ 0 → (q : Result Content ℕ) → q ≡ W.fit_object o S m ob p → (r : Walked) (c : Content) → q ≡ Ok c → (k : ℕ) → k ≡ d - 1
    → r ≡ Left.admit (Left.visit k o S m) o S m ob at (Ok c) (left_of g) → r ≡ Left.visit d o S m ob p s
visit-content o S m ob p d s at e g eg z q eq r c ew k ek f =
    visit-found o S m ob p d s at e g eg z q eq r
    (f ∙ ap (λ (i : ℕ). Left.admit (Left.visit i o S m) o S m ob at (Ok c) (left_of g)) ek
    ∙ ap (λ (w : Result Content ℕ). Left.admit (Left.visit (d - 1) o S m) o S m ob at w (left_of g)) (sym ew))

-- it lies within the message
pub held_fits : (o : ℕ) (S : Schema) (m : List ℕ) (ob : Object) (p : Place) (at : ℕ) → at ≡ W.placed p → (g : Result Content ℕ) (c : Content) → g ≡ W.fit_object o S m ob p
    → g ≡ Ok c → c.start + W.content_size o S m ob at c.length ≤ length m
held_fits o S m ob p at e g c eg ew =
    subst (λ (i : ℕ). c.start + W.content_size o S m ob i c.length ≤ length m) (sym e) (fit_fits o S m ob p g c.start c.length eg ew)

-- what is left below is less
pub below_falls : (d k : ℕ) → k ≡ d - 1 → 0 < d → k < d
below_falls d k e h = omega arith

-- ---- the charge, and then the bytes and the parts
module _ (child : W.Child) (o : ℕ) (S : Schema) (m : List ℕ) (ob : Object) (holder start n v c k : ℕ) (ek : k ≡ W.content_length o S ob n) (t : Bool) (et : t ≡ ltb c k)
    (r : Walked) where
  pub admit_unpaid : t ≡ true → r ≡ W.refuse 17 holder (W.spending v c) → r ≡ Left.admit child o S m ob holder (Ok (W.content_at start n)) (W.spending v c)
  admit_unpaid h f = admit_past child o S m ob holder start n v c k ek (ltb-true c k (sym et ∙ h)) r f

  module _ (h : t ≡ false) (l : ℕ) (el : l ≡ c - k) where
    paid : r ≡ W.enter child o S m ob holder (W.bytes_tested m ob (Ok (W.content_at start n))) (W.spending v l)
        → r ≡ Left.admit child o S m ob holder (Ok (W.content_at start n)) (W.spending v c)
    paid f =
        admit_entered child o S m ob holder start n v c k ek (not_more k c t et h) r
        (f ∙ ap (λ (i : ℕ). W.enter child o S m ob holder (W.bytes_tested m ob (Ok (W.content_at start n))) (W.spending v i)) el)

    pub admit-text : ob ≡ O.Text → r ≡ text_tested m holder start n (W.spending v l) → r ≡ Left.admit child o S m ob holder (Ok (W.content_at start n)) (W.spending v c)
    admit-text e f = paid (rw e (f ∙ text_entered child o S m holder start n (W.spending v l)))

    pub admit_bytes : ob ≡ O.Bytes → r ≡ Ok (W.spending v l) → r ≡ Left.admit child o S m ob holder (Ok (W.content_at start n)) (W.spending v c)
    unfolding W.bytes_tested W.end_ok W.text_ok W.enter W.content
    admit_bytes e f = paid (rw e f)

    pub admit_list : (i j : ℕ) → ob ≡ O.List i → j ≡ i → r ≡ W.elements child o S m holder start (Sc.element_of S j) n 0 (W.spending v l)
        → r ≡ Left.admit child o S m ob holder (Ok (W.content_at start n)) (W.spending v c)
    unfolding W.bytes_tested W.end_ok W.text_ok W.enter W.content
    admit_list i j e ej f = paid (rw e (f ∙ ap (λ (q : ℕ). W.elements child o S m holder start (Sc.element_of S q) n 0 (W.spending v l)) ej))

    pub admit-table : (i j : ℕ) → ob ≡ O.Table i → j ≡ i → r ≡ W.members child o S m holder start n L.begin 0 (Sc.table_of S j).members (W.spending v l)
        → r ≡ Left.admit child o S m ob holder (Ok (W.content_at start n)) (W.spending v c)
    unfolding W.bytes_tested W.end_ok W.text_ok W.enter W.content
    admit-table i j e ej f = paid (rw e (f ∙ ap (λ (q : ℕ). W.members child o S m holder start n L.begin 0 (Sc.table_of S q).members (W.spending v l)) ej))

    pub admit-direct : (i : ℕ) → ob ≡ O.DirectList i → r ≡ W.directs child i (W.element_size o m holder) n start (W.spending v l)
        → r ≡ Left.admit child o S m ob holder (Ok (W.content_at start n)) (W.spending v c)
    unfolding W.bytes_tested W.end_ok W.text_ok W.enter W.content
    admit-direct i e f = paid (rw e f)
