-- The ways out of the verdict.
use mathlib.Core.Path.{◌≡◌, refl, sym, ap, ◌∙◌, subst}
use mathlib.Core.Bool.{Bool, true, false}
use mathlib.Core.List.{List}
use Prim.Native.Nat.{ℕ, ◌+◌, ◌-◌, ◌<◌, ◌≤◌}
use native.Mathlib.Omega.{arith}
use lib.ListN.{length}
use lib.Dec.{eqb, leb}
use borrow.Author.Tests.{leb-true, eq-eqb, ne_eqb, eqb-true}
use Rattle.coding.specs.Lists.{pick}
use Rattle.coding.specs.Bytes.{largest, deepest}
use Rattle.laws.specs.Lists.{both_left, both_right}
use Rattle.coding.specs.Schema.{Schema}
use Rattle.coding.specs.Packed as P
use Rattle.coding.specs.Positions.{with_table}
use Rattle.coding.specs.Walk as W
use Rattle.coding.specs.Walk.{Walked}
use Rattle.coding.specs.declared.Object.{Object}
use Rattle.coding.specs.declared.Object.TheVariants as O
use Rattle.coding.specs.declared.Place.{Place}
use Rattle.coding.specs.declared.Budget.{Budget}
use Rattle.coding.specs.declared.Verdict.{Verdict}
use Rattle.coding.specs.Lawful.{lawful}
use Rattle.std.specs.Prelude.{Option, Some, None, Ok, Err}
use Rattle.positions.specs.declared.indexed.Indexed.{Indexed}
use Rattle.schema.specs.Parsed.{bytes_of}
use Rattle.positions.specs.Lent.{HeldWith, lent_is, lent_refused}
use Rattle.outcome.specs.declared.Outcome.{Outcome}
use Rattle.outcome.specs.Answers.{walked_of, left_of}
use Rattle.outcome.specs.Left as Left
use Rattle.judge.proofs.NumberCases.{NumberSmall, walk_small}
use Rattle.judge.proofs.CountCases.{Within, visit_spent, visit_left}

-- ---- the walk from the root, where nothing is spent
module _ (o : ℕ) (b m : List ℕ) (v c : ℕ) (ob : Object) (p : Place) (eo : ob ≡ O.Table (P.parse b).root) (ep : p ≡ W.root_place o m) (w : Outcome)
    (e : walked_of w ≡ Left.visit 32 o (P.parse b) m ob p (W.spending v c)) where
  pub walk_is : W.walk o (P.parse b) m (W.allowing v c) ≡ Left.spent_of (W.allowing v c) (walked_of w)
  unfolding W.walk deepest
  walk_is =
      ap (λ (q : Object). W.visit 32 o (P.parse b) m (W.allowing v c) q (W.root_place o m) W.nothing) (sym eo)
      ∙ ap (λ (q : Place). W.visit 32 o (P.parse b) m (W.allowing v c) ob q W.nothing) (sym ep)
      ∙ visit_spent 32 o (P.parse b) m v c ob p
      ∙ ap (Left.spent_of (W.allowing v c)) (sym e)

  left : Within (W.allowing v c) (walked_of w)
  left = subst (Within (W.allowing v c)) (sym e) (visit_left 32 o (P.parse b) m v c ob p)

  both : (w.visits ≤ v) × (w.content ≤ c)
  unfolding walked_of
  both = by (eqb w.code 0) left
    where
      by : (t : Bool)
          → Within (W.allowing v c) (pick t (Ok (left_of w)) (Err (record { number = w.code - 1; place = w.place; member = w.member }, left_of w)))
          → (w.visits ≤ v) × (w.content ≤ c)
      by true h = h
      by false h = h

  pub walk_visits : w.visits ≤ v
  walk_visits = both.0

  pub walk-content : w.content ≤ c
  walk-content = both.1

-- a message within the size
module _ (o : ℕ) (m : List ℕ) (t : Bool) (et : t ≡ W.size_ok o m) (f : t ≡ true) where
  pub size_start : 4 + o ≤ length m
  unfolding W.size_ok W.start_size
  size_start = leb-true (4 + o) (length m) (both_left (leb (4 + o) (length m)) (leb (length m) largest) (sym et ∙ f))

  pub size-magic : 4 ≤ length m
  size-magic = omega (arith, size_start)

  pub size-largest : length m ≤ 16777215
  unfolding W.size_ok W.start_size largest
  size-largest = leb-true (length m) 16777215 (both_right (leb (4 + o) (length m)) (leb (length m) 16777215) (sym et ∙ f))

module _ (o : ℕ) (b m : List ℕ) (a : lawful o b ≡ true) (budget : Budget) (r : Verdict) (q : Bool) (eq : q ≡ W.size_ok o m) where
  pub verdict-size : q ≡ false → r ≡ W.early 2 → r ≡ W.verdict o b m budget
  unfolding W.verdict
  verdict-size h e = simp (a, ← eq, h) e

  module _ (h : q ≡ true) (t : Bool) (et : t ≡ W.start_ok m) where
    pub verdict-walk : t ≡ true → (w : Walked) → W.walk o (P.parse b) m budget ≡ w → r ≡ W.verdict_of w → r ≡ W.verdict o b m budget
    unfolding W.verdict
    verdict-walk f w ew e = simp (a, ← eq, h, ← et, f, ew) e

    pub verdict-other : t ≡ false → r ≡ W.early 3 → r ≡ W.verdict o b m budget
    unfolding W.verdict
    verdict-other f e = simp (a, ← eq, h, ← et, f) e

-- a table that was handed in with the schema
module _ (o : ℕ) (b rows m : List ℕ) (budget : Budget) (h : Option Indexed) (e : HeldWith o b rows h) where
  pub verdict-lent : (x : Indexed) → h ≡ Some x → (r : Verdict) → r ≡ W.verdict x.schema.width (bytes_of x.schema) m budget → r ≡ W.verdict o (with_table o b rows) m budget
  verdict-lent x is r q = lent_is o b rows h e x is (λ (w : ℕ) (s : List ℕ). W.verdict w s m budget) r q

  pub verdict-unlawful : h ≡ None → (r : Verdict) → r ≡ W.early 1 → r ≡ W.verdict o (with_table o b rows) m budget
  unfolding W.verdict
  verdict-unlawful is r q = simp (lent_refused o b rows h e is) q

module _ (w : Outcome) (v c : ℕ) where
  pub verdict_going : w.code ≡ 0
      → record { number = 0; place = 0; member = 4294967295; visits = v - w.visits; content = c - w.content }
      ≡ W.verdict_of (Left.spent_of (W.allowing v c) (walked_of w))
  unfolding W.verdict_of W.no_member walked_of Left.spent_of
  verdict_going e = simp (eq-eqb _ _ e)

  pub verdict_refused : (w.code ≡ 0 → ⊥)
      → record { number = w.code - 1; place = w.place; member = w.member; visits = v - w.visits; content = c - w.content }
      ≡ W.verdict_of (Left.spent_of (W.allowing v c) (walked_of w))
  unfolding W.verdict_of walked_of Left.spent_of
  verdict_refused f = simp (ne_eqb _ _ f)

  pub code_small : (o : ℕ) (S : Schema) (m : List ℕ) → W.walk o S m (W.allowing v c) ≡ Left.spent_of (W.allowing v c) (walked_of w) → w.code ≤ 256
  unfolding walked_of Left.spent_of
  code_small o S m e = by (eqb w.code 0) refl
    where
      by : (t : Bool) → eqb w.code 0 ≡ t → w.code ≤ 256
      by true q = let z = eqb-true w.code 0 q in omega arith
      by false q =
          let y : NumberSmall (Left.spent_of (W.allowing v c) (pick (eqb w.code 0) (Ok (left_of w)) (Err (record { number = w.code - 1; place = w.place; member = w.member }, left_of w)))) = subst NumberSmall e (walk_small o S m (W.allowing v c)) in
          let z : w.code - 1 < 256 = rw q at y in
          omega arith
