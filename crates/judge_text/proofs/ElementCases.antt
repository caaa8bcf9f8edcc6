-- The elements of a list, from one of them on.
use Rattle.std.specs.Prelude.{Ok}
use mathlib.Core.Path.{◌≡◌, refl, sym, ap, ◌∙◌}
use mathlib.Core.Bool.{Bool, true, false}
use mathlib.Core.List.{List}
use Prim.Native.Nat.{ℕ, suc, ◌+◌, ◌-◌, ◌*◌, ◌^◌, ◌<◌, ◌≤◌}
use native.Mathlib.Omega.{arith}
use lib.Dec.{eqb}
use borrow.Author.Tests.{eq-eqb, ne_eqb}
use Rattle.coding.specs.Lists.{pick}
use Rattle.coding.specs.Bytes.{le}
use Rattle.coding.specs.Schema.{Schema}
use Rattle.coding.specs.Layout as L
use Rattle.coding.specs.Step as T
use Rattle.coding.specs.Walk as W
use Rattle.coding.specs.Walk.{Walked}
use Rattle.coding.specs.declared.Object.{Object}
use Rattle.coding.specs.declared.Kind.{Kind}
use Rattle.coding.specs.declared.Kind.TheVariants.{OfObject}
use Rattle.coding.specs.declared.Place.TheVariants.{ByOffset}
use Rattle.coding.specs.declared.Step.{Step}
use Rattle.coding.specs.declared.Step.TheVariants as St
use Rattle.coding.specs.declared.Spent.{Spent}
use Rattle.wire.specs.Products.{times_more, times-within}
use Rattle.outcome.specs.declared.Outcome.{Outcome}
use Rattle.outcome.specs.Answers.{walked_of, left_of, referred}
use Rattle.outcome.proofs.AnswerCases.{goes, stops}

-- ---- from element j on
module _ (child : W.Child) (o : ℕ) (S : Schema) (m : List ℕ) (holder start : ℕ) (k : Kind) (n : ℕ) (s : Spent) where
  pub elements_start : W.elements child o S m holder start k n 0 s ≡ W.elements child o S m holder start k (n - 0) 0 s
  elements_start =
      let z : n ≡ n - 0 = omega arith in
      ap (λ (l : ℕ). W.elements child o S m holder start k l 0 s) z

  module _ (j : ℕ) (v : Spent) (inv : W.elements child o S m holder start k n 0 s ≡ W.elements child o S m holder start k (n - j) j v) where
    pub elements_done : n ≤ j → (r : Walked) → r ≡ Ok v → r ≡ W.elements child o S m holder start k n 0 s
    unfolding W.elements
    elements_done h r f =
        let z : n - j ≡ 0 = omega arith in
        f ∙ sym (inv ∙ ap (λ (l : ℕ). W.elements child o S m holder start k l j v) z)

    module _ (h : j < n) (g : Outcome) (eg : walked_of g ≡ W.follow child holder j (T.element_step o S m k start j) v) where
      abbrev rest : Spent → Walked
      rest = W.elements child o S m holder start k (n - (j + 1)) (j + 1)

      turned : W.elements child o S m holder start k n 0 s ≡ W.and_then (walked_of g) rest
      unfolding W.elements
      turned =
          let z : n - j ≡ suc (n - (j + 1)) = omega arith in
          inv ∙ ap (λ (l : ℕ). W.elements child o S m holder start k l j v) z ∙ ap (λ (w : Walked). W.and_then w rest) (sym eg)

      pub elements_stopped : (g.code ≡ 0 → ⊥) → walked_of g ≡ W.elements child o S m holder start k n 0 s
      elements_stopped f = sym (turned ∙ stops g rest f)

      pub elements_turn : g.code ≡ 0 → W.elements child o S m holder start k n 0 s ≡ W.elements child o S m holder start k (n - (j + 1)) (j + 1) (left_of g)
      elements_turn f = turned ∙ goes g rest f

-- ---- values of w bytes, one behind the other
-- value j of n is there
pub value_there : (w start n j at c : ℕ) → at ≡ start + w * j → j < n → start + w * n ≤ c → at + w ≤ c
value_there w start n j at c e h l = omega (arith, times-within w j n h)

-- and the place behind it is a number of the machine
pub value_fits : (w start n j at c : ℕ) → at ≡ start + w * j → j < n → start + w * n ≤ c → c ≤ 16777215 → at + w < 2 ^ 64
value_fits w start n j at c e h l small = omega (arith, value_there w start n j at c e h l)

-- where the value behind it stands
pub value_next : (w start j at : ℕ) → at ≡ start + w * j → at + w ≡ start + w * (j + 1)
value_next w start j at e = omega (arith, times_more w j)

-- ---- the offsets of a list
module _ (child : W.Child) (ob : Object) (x : ℕ) (s : Spent) (r : Walked) where
  pub refer_none : x ≡ 0 → r ≡ Ok s → r ≡ referred child ob x s
  unfolding referred
  refer_none h f = simp (eq-eqb _ _ h) f

  pub refer-object : (x ≡ 0 → ⊥) → r ≡ child ob (ByOffset x) s → r ≡ referred child ob x s
  unfolding referred
  refer-object h f = simp (ne_eqb _ _ h) f

-- whichever part holds the offset
pub follow_offset : (child : W.Child) (S : Schema) (m : List ℕ) (holder j : ℕ) (ob : Object) (x : ℕ) (s : Spent)
    → referred child ob x s ≡ W.follow child holder j (T.struct_tested S m (T.object_step ob false 0 x)) s
unfolding referred T.object_step T.place_of T.struct_tested W.follow
follow_offset child S m holder j ob x s = by (eqb x 0)
  where
    by : (t : Bool) → pick t (Ok s) (child ob (ByOffset x) s) ≡ W.follow child holder j (T.struct_tested S m (pick t St.Absent (St.Object ob (ByOffset x)))) s
    by true = refl
    by false = refl

offset_step : (o : ℕ) (S : Schema) (m : List ℕ) (ob : Object) (start j at x : ℕ) → at ≡ start + o * j → x ≡ le m at o
    → T.struct_tested S m (T.object_step ob false 0 x) ≡ T.element_step o S m (OfObject ob) start j
unfolding T.element_step T.value_step T.element_place L.is_bool L.width
offset_step o S m ob start j at x ea ex = ap (λ (q : ℕ). T.struct_tested S m (T.object_step ob false 0 q)) (ex ∙ ap (λ (q : ℕ). le m q o) ea)

module _ (o : ℕ) (child : W.Child) (S : Schema) (m : List ℕ) (holder start : ℕ) (ob : Object) (n : ℕ) (s : Spent) (j : ℕ) (v : Spent)
    (inv : W.elements child o S m holder start (OfObject ob) n 0 s ≡ W.elements child o S m holder start (OfObject ob) (n - j) j v) (h : j < n) (at : ℕ)
    (ea : at ≡ start + o * j) (x : ℕ) (ex : x ≡ le m at o) (g : Outcome) (eg : walked_of g ≡ referred child ob x v) where
  by_step : walked_of g ≡ W.follow child holder j (T.element_step o S m (OfObject ob) start j) v
  by_step = eg ∙ follow_offset child S m holder j ob x v ∙ ap (λ (q : Step). W.follow child holder j q v) (offset_step o S m ob start j at x ea ex)

  pub references_stopped : (g.code ≡ 0 → ⊥) → walked_of g ≡ W.elements child o S m holder start (OfObject ob) n 0 s
  references_stopped f = elements_stopped child o S m holder start (OfObject ob) n s j v inv h g by_step f

  pub references_turn : g.code ≡ 0
      → W.elements child o S m holder start (OfObject ob) n 0 s ≡ W.elements child o S m holder start (OfObject ob) (n - (j + 1)) (j + 1) (left_of g)
  references_turn f = elements_turn child o S m holder start (OfObject ob) n s j v inv h g by_step f
