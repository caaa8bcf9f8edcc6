-- The ways out of the writers of a value by its kind, and what its parts may rely on.
use mathlib.Core.Path.{◌≡◌, refl, sym, ap, ap₂, ◌∙◌}
use mathlib.Core.Bool.{Bool, true, false}
use mathlib.Core.List.{List}
use Prim.Native.Nat.{ℕ, ◌+◌, ◌<◌, ◌≤◌}
use lib.ListN.{length}
use lib.Dec.{eqb, leb}
use borrow.Author.Tests.{eq-eqb, ne_eqb, le-leb, lt-leb}
use Rattle.coding.specs.Lists.{pick}
use Rattle.coding.specs.Bytes.{le}
use Rattle.coding.specs.Schema as Sc
use Rattle.coding.specs.Schema.{Schema}
use Rattle.coding.specs.Step as T
use Rattle.coding.specs.Bits.{bits_of}
use Rattle.coding.specs.Sheet as E
use Rattle.coding.specs.declared.Object.{Object}
use Rattle.coding.specs.declared.Kind.{Kind}
use Rattle.coding.specs.declared.Kind.TheVariants.{OfObject, OfUnion}
use Rattle.coding.specs.declared.Place.{Place}
use Rattle.coding.specs.declared.Step.{Step}
use Rattle.coding.specs.declared.Step.TheVariants as St
use Rattle.bitio.specs.Puts.{Room, Puts}
use Rattle.sheet_values.specs.Marks as K
use Rattle.sheet_walk.specs.MessageBits as A
use Rattle.sheet_walk.specs.Readable as D
use Rattle.bitio.specs.PutsLaws.{puts_then}
use Rattle.sheet_walk.proofs.Objects.{step_absent, step-unknown, step-choice, choice_readable}

-- ---- a reference
pub object_none : (inplace : Bool) (tail x : ℕ) (ob : Object) → x ≡ 0 → St.Absent ≡ T.object_step ob inplace tail x
unfolding T.object_step
object_none inplace tail x ob e = simp (eq-eqb _ _ e)

pub object_there : (inplace : Bool) (tail x : ℕ) (ob : Object) → (x ≡ 0 → ⊥) → (p : Place) → p ≡ T.place_of inplace tail x → St.Object ob p ≡ T.object_step ob inplace tail x
unfolding T.object_step
object_there inplace tail x ob e p ep = simp (ne_eqb _ _ e) (ap (St.Object ob) ep)

pub present_puts : (o d : ℕ) (S : Schema) (m : List ℕ) (ob : Object) (place : Place) (out out₁ out₂ : List ℕ) (p q r : ℕ) → Room out p → Puts out p (bits_of 2 1) out₁ q
    → Puts out₁ q (A.object_at o d S m ob place) out₂ r → Puts out p (A.present_at o d S m ob place) out₂ r
unfolding A.present_at
present_puts o d S m ob place out out₁ out₂ p q r g a b = puts_then out out₁ out₂ p q r (bits_of 2 1) (A.object_at o d S m ob place) g.short a b

-- ---- a union's choice c, which leads to a place
module _ (cases : List Object) (c : ℕ) (place : Place) where
  no_choice : c ≡ 0 → A.choice_step cases c place ≡ St.Absent
  unfolding A.choice_step
  no_choice e = simp (eq-eqb _ _ e)

  module _ (e : c ≡ 0 → ⊥) (n : ℕ) (en : n ≡ length cases) where
    unknown_choice : n < c → A.choice_step cases c place ≡ St.Unknown c
    unfolding A.choice_step
    unknown_choice l = simp (ne_eqb _ _ e, ← en, lt-leb _ _ l)

    known_choice : c ≤ n → A.choice_step cases c place ≡ St.Choice c (Sc.case_of cases c) place
    unfolding A.choice_step
    known_choice l = simp (ne_eqb _ _ e, ← en, le-leb _ _ l)

module _ (o d : ℕ) (S : Schema) (m : List ℕ) (u c : ℕ) (place : Place) where
  module _ (out out₁ : List ℕ) (p q : ℕ) where
    pub choice_none : c ≡ 0 → Puts out p (bits_of 2 0) out₁ q → Puts out p (A.choice_at o d S m u c place) out₁ q
    unfolding A.choice_at
    choice_none e h = step_absent o d S m (OfUnion u) out out₁ p q (A.choice_step (Sc.cases_of S u) c place) (no_choice (Sc.cases_of S u) c place e) h

    pub choice-unknown : (c ≡ 0 → ⊥) → (n y : ℕ) → n ≡ length (Sc.cases_of S u) → n < c → y ≡ c → Puts out p (K.marked 2 16 y) out₁ q
        → Puts out p (A.choice_at o d S m u c place) out₁ q
    unfolding A.choice_at E.unknown_width
    choice-unknown e n y en l ey h =
        step-unknown o d S m (OfUnion u) out out₁ p q (A.choice_step (Sc.cases_of S u) c place) c y 16 (unknown_choice (Sc.cases_of S u) c place e n en l) refl ey h

  module _ (e : c ≡ 0 → ⊥) (n : ℕ) (en : n ≡ length (Sc.cases_of S u)) (l : c ≤ n) (ob : Object) (eo : ob ≡ Sc.case_of (Sc.cases_of S u) c) where
    known : A.choice_step (Sc.cases_of S u) c place ≡ St.Choice c ob place
    known = known_choice (Sc.cases_of S u) c place e n en l ∙ ap (λ (x : Object). St.Choice c x place) (sym eo)

    pub choice-known : (out out₁ : List ℕ) (p q y : ℕ) → Room out p → (out₂ : List ℕ) (r : ℕ) → y ≡ c → Puts out p (K.marked 1 16 y) out₁ q
        → Puts out₁ q (A.object_at o d S m ob place) out₂ r → Puts out p (A.choice_at o d S m u c place) out₂ r
    unfolding A.choice_at
    choice-known out out₁ p q y g out₂ r ey a b =
        step-choice o d S m (OfUnion u) out out₁ p q (A.choice_step (Sc.cases_of S u) c place) g out₂ r c y ob place known ey a b

    pub case_readable : D.StepReadable (D.ObjectReadable o d S m) S m (A.choice_step (Sc.cases_of S u) c place) → D.ObjectReadable o d S m ob place
    case_readable h = choice_readable o d S m (A.choice_step (Sc.cases_of S u) c place) h c ob place known

-- ---- a reference and a choice find no struct
pub tested-object : (S : Schema) (m : List ℕ) (ob : Object) (inplace : Bool) (tail x : ℕ)
    → T.object_step ob inplace tail x ≡ T.struct_tested S m (T.object_step ob inplace tail x)
unfolding T.object_step T.struct_tested
tested-object S m ob inplace tail x = by (eqb x 0)
  where
    by : (t : Bool) → pick t St.Absent (St.Object ob (T.place_of inplace tail x)) ≡ T.struct_tested S m (pick t St.Absent (St.Object ob (T.place_of inplace tail x)))
    by true = refl
    by false = refl

pub tested-union : (S : Schema) (m : List ℕ) (cases : List Object) (inplace : Bool) (tail c x : ℕ)
    → T.union_step cases inplace tail c x ≡ T.struct_tested S m (T.union_step cases inplace tail c x)
unfolding T.union_step T.struct_tested
tested-union S m cases inplace tail c x = by (eqb c 0) (leb c (length cases))
  where
    by : (t u : Bool) → pick t St.Absent (pick u (St.Choice c (Sc.case_of cases c) (T.place_of inplace tail x)) (St.Unknown c))
        ≡ T.struct_tested S m (pick t St.Absent (pick u (St.Choice c (Sc.case_of cases c) (T.place_of inplace tail x)) (St.Unknown c)))
    by true u = refl
    by false true = refl
    by false false = refl

-- ---- what a reference and a choice are steps of
module _ (o : ℕ) (S : Schema) (m : List ℕ) (k : Kind) (none inplace : Bool) (tail at bit : ℕ) where
  pub value-object : (ob : Object) → k ≡ OfObject ob → (x : ℕ) → x ≡ le m at o → T.object_step ob inplace tail x ≡ T.value_step o S m k none inplace tail at bit
  unfolding T.value_step
  value-object ob e x ex = rw e (ap (T.object_step ob inplace tail) ex)

  pub value-union : (u i : ℕ) → k ≡ OfUnion u → i ≡ u → (c x : ℕ) → c ≡ le m at 2 → x ≡ le m (at + 2) o
      → T.union_step (Sc.cases_of S i) inplace tail c x ≡ T.value_step o S m k none inplace tail at bit
  unfolding T.value_step
  value-union u i e ei c x ec ex =
      rw e
      (ap (λ (j : ℕ). T.union_step (Sc.cases_of S j) inplace tail c x) ei
      ∙ ap₂ (T.union_step (Sc.cases_of S u) inplace tail) ec ex)
