-- The ways out of the walkers, one lemma for each, in the words of the walk's definition.
use Rattle.std.specs.Prelude.{Ok}
use mathlib.Core.Path.{◌≡◌, sym, ap, ◌∙◌, subst}
use mathlib.Core.Bool.{Bool, true}
use mathlib.Core.List.{List}
use Prim.Native.Nat.{ℕ}
use borrow.Author.Tests.{eq-eqb, ne_eqb}
use Rattle.coding.specs.Schema as Sc
use Rattle.coding.specs.Schema.{Schema}
use Rattle.coding.specs.Layout as L
use Rattle.coding.specs.Walk as W
use Rattle.coding.specs.Walk.{Walked}
use Rattle.coding.specs.declared.Object.{Object}
use Rattle.coding.specs.declared.Object.TheVariants as O
use Rattle.coding.specs.declared.Place.{Place}
use Rattle.coding.specs.declared.Place.TheVariants.{ByOffset, InPlace}
use Rattle.coding.specs.declared.Step.{Step}
use Rattle.coding.specs.declared.Step.TheVariants as St
use Rattle.coding.specs.declared.Spent.{Spent}
use Rattle.laws.specs.Sound.{ObjectSound}
use Rattle.message_step.specs.Lead.{PlaceSmall, StepSmall}
use Rattle.outcome.specs.Left as Left
use Rattle.judge_text.specs.Texts.{is_text}
use Rattle.judge_text.proofs.TextCases.{text_only}

-- ---- an arrival by its place
module _ (o d : ℕ) (S : Schema) (m : List ℕ) (ob : Object) (p : Place) (s : Spent) (r : Walked) where
  pub arrive-text : (x : ℕ) → p ≡ ByOffset x → (t : Bool) → t ≡ is_text ob → t ≡ true → r ≡ Left.visit d o S m O.Text (ByOffset x) s
      → r ≡ Left.visit d o S m ob p s
  arrive-text x e t et h f = rw e (f ∙ ap (λ (q : Object). Left.visit d o S m q (ByOffset x) s) (sym (text_only ob t et h)))

  pub arrive_offset : (x : ℕ) → p ≡ ByOffset x → r ≡ Left.visit d o S m ob (ByOffset x) s → r ≡ Left.visit d o S m ob p s
  arrive_offset x e f = rw e f

  pub arrive_inplace : (a n : ℕ) → p ≡ InPlace a n → r ≡ Left.visit d o S m ob (InPlace a n) s → r ≡ Left.visit d o S m ob p s
  arrive_inplace a n e f = rw e f

-- ---- what a step leads to
module _ (child : W.Child) (holder j : ℕ) (step : Step) (s : Spent) where
  module _ (r : Walked) where
    pub follow_absent : step ≡ St.Absent → r ≡ Ok s → r ≡ W.follow child holder j step s
    unfolding W.follow
    follow_absent e f = rw e f

    pub follow-value : (x : ℕ) → step ≡ St.Value x → r ≡ Ok s → r ≡ W.follow child holder j step s
    unfolding W.follow
    follow-value x e f = rw e f

    pub follow-unknown : (x : ℕ) → step ≡ St.Unknown x → r ≡ Ok s → r ≡ W.follow child holder j step s
    unfolding W.follow
    follow-unknown x e f = rw e f

    pub follow-struct : (i at : ℕ) → step ≡ St.Struct i at → r ≡ Ok s → r ≡ W.follow child holder j step s
    unfolding W.follow
    follow-struct i at e f = rw e f

    pub follow_refused : (n : ℕ) → step ≡ St.Refused n → r ≡ W.refuse_part n holder j s → r ≡ W.follow child holder j step s
    unfolding W.follow
    follow_refused n e f = rw e f

    pub follow-object : (ob : Object) (p : Place) → step ≡ St.Object ob p → r ≡ child ob p s → r ≡ W.follow child holder j step s
    unfolding W.follow
    follow-object ob p e f = rw e f

    pub follow-choice : (c : ℕ) (ob : Object) (p : Place) → step ≡ St.Choice c ob p → r ≡ W.follow_choice child holder j ob p s
        → r ≡ W.follow child holder j step s
    unfolding W.follow
    follow-choice c ob p e f = rw e f

module _ (child : W.Child) (holder j : ℕ) (ob : Object) (p : Place) (s : Spent) (r : Walked) where
  pub union_none : (x : ℕ) → p ≡ ByOffset x → x ≡ 0 → r ≡ W.refuse_part 9 holder j s → r ≡ W.follow_choice child holder j ob p s
  unfolding W.follow_choice
  union_none x e z f = rw e (simp (eq-eqb _ _ z) f)

  pub union_offset : (x : ℕ) → p ≡ ByOffset x → (x ≡ 0 → ⊥) → r ≡ child ob (ByOffset x) s → r ≡ W.follow_choice child holder j ob p s
  unfolding W.follow_choice
  union_offset x e z f = rw e (simp (ne_eqb _ _ z) f)

  pub union_inplace : (a n : ℕ) → p ≡ InPlace a n → r ≡ child ob (InPlace a n) s → r ≡ W.follow_choice child holder j ob p s
  unfolding W.follow_choice
  union_inplace a n e f = rw e f

-- what a step leads to is small
module _ (S : Schema) (step : Step) (small : StepSmall S step) (ob : Object) (p : Place) where
  pub object_small : step ≡ St.Object ob p → ObjectSound S ob
  object_small e = (subst (StepSmall S) e small).0

  pub object-place : step ≡ St.Object ob p → PlaceSmall p
  object-place e = (subst (StepSmall S) e small).1

  pub choice_small : (c : ℕ) → step ≡ St.Choice c ob p → ObjectSound S ob
  choice_small c e = (subst (StepSmall S) e small).0

  pub choice-place : (c : ℕ) → step ≡ St.Choice c ob p → PlaceSmall p
  choice-place c e = (subst (StepSmall S) e small).1
