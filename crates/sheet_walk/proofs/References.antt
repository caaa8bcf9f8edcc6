-- The objects of a list by their offsets, and its unions by their choices, turn by turn.
use mathlib.Core.Path.{◌≡◌, refl, sym, ap, ap₂, ◌∙◌, subst}
use mathlib.Core.Bool.{false}
use mathlib.Core.List.{List}
use Prim.Native.Nat.{ℕ, ◌+◌, ◌-◌, ◌*◌, ◌<◌, ◌≤◌}
use native.Mathlib.Omega.{arith}
use Rattle.coding.specs.Bytes.{le}
use Rattle.coding.specs.Schema as Sc
use Rattle.coding.specs.Schema.{Schema}
use Rattle.coding.specs.Layout as L
use Rattle.coding.specs.Step as T
use Rattle.coding.specs.Bits.{bits_of}
use Rattle.coding.specs.Sheet as E
use Rattle.coding.specs.declared.Object.{Object}
use Rattle.coding.specs.declared.Kind.{Kind}
use Rattle.coding.specs.declared.Kind.TheVariants.{OfObject, OfUnion}
use Rattle.wire.specs.Numbers.{Number}
use Rattle.wire.specs.Products.{times_more, times-within}
use Rattle.bitio.specs.Puts.{Room, Puts}
use Rattle.sheet_walk.specs.MessageBits as A
use Rattle.sheet_walk.specs.Readable as D
use Rattle.sheet_values.proofs.Remaining.{Remaining}
use Rattle.coding.specs.declared.Place.TheVariants.{ByOffset}
use Rattle.coding.specs.declared.Step.TheVariants as St
use Rattle.sheet_walk.proofs.Values.{object_none, object_there, tested-object, tested-union}
use Rattle.sheet_walk.proofs.Parts.{element_readable, elements_turn, list-elements}

-- ---- places in a run of values that have w bytes each
pub run_inside : (w start j n : ℕ) → j < n → (c : ℕ) → start + w * n ≤ c → start + w * j + w ≤ c
run_inside w start j n h c l = omega (arith, l, times-within w j n h)

pub run_next : (w start j : ℕ) → start + w * j + w ≡ start + w * (j + 1)
run_next w start j = omega (arith, times_more w j)

-- ---- offsets
offset_step : (o : ℕ) (S : Schema) (m : List ℕ) (ob : Object) (start j x : ℕ) → x ≡ le m (start + o * j) o
    → T.object_step ob false 0 x ≡ T.element_step o S m (OfObject ob) start j
unfolding T.element_step T.value_step T.element_place L.is_bool L.width
offset_step o S m ob start j x ex = tested-object S m ob false 0 x ∙ ap (λ (i : ℕ). T.struct_tested S m (T.object_step ob false 0 i)) ex

offset-marked : (ob : Object) → E.unmarked (OfObject ob) ≡ false
unfolding E.unmarked
offset-marked ob = refl

module _ (o d : ℕ) (S : Schema) (m : List ℕ) (ob : Object) (start n j : ℕ) (h : j < n)
    (good : D.ElementsReadable o (D.ObjectReadable o d S m) S m (OfObject ob) start (n - j) j) (x : ℕ) (ex : x ≡ le m (start + o * j) o) where
  pub absent_turn : x ≡ 0 → (whole out₀ out out₁ : List ℕ) (p₀ p p₁ : ℕ) → Remaining out₀ p₀ whole out p (A.elements_at o d S m (OfObject ob) start (n - j) j) → Room out p
      → Puts out p (bits_of 2 0) out₁ p₁ → Remaining out₀ p₀ whole out₁ p₁ (A.elements_at o d S m (OfObject ob) start (n - (j + 1)) (j + 1))
  unfolding A.step_at
  absent_turn e = elements_turn o d S m (OfObject ob) start n j h good St.Absent (object_none false 0 x ob e ∙ offset_step o S m ob start j x ex) (offset-marked ob)

  module _ (some : x ≡ 0 → ⊥) where
    leads : St.Object ob (ByOffset x) ≡ T.element_step o S m (OfObject ob) start j
    unfolding T.place_of
    leads = object_there false 0 x ob some (ByOffset x) refl ∙ offset_step o S m ob start j x ex

    pub offset_readable : D.ObjectReadable o d S m ob (ByOffset x)
    unfolding D.StepReadable
    offset_readable = element_readable o d S m (OfObject ob) start n j h good (St.Object ob (ByOffset x)) leads

    pub offset_turn : (whole out₀ out out₁ : List ℕ) (p₀ p p₁ : ℕ) → Remaining out₀ p₀ whole out p (A.elements_at o d S m (OfObject ob) start (n - j) j) → Room out p
        → Puts out p (A.present_at o d S m ob (ByOffset x)) out₁ p₁
        → Remaining out₀ p₀ whole out₁ p₁ (A.elements_at o d S m (OfObject ob) start (n - (j + 1)) (j + 1))
    unfolding A.step_at A.present_at
    offset_turn = elements_turn o d S m (OfObject ob) start n j h good (St.Object ob (ByOffset x)) leads (offset-marked ob)

-- ---- a list of them
module _ (o : ℕ) (S : Schema) (k : Kind) (ob : Object) (e : k ≡ OfObject ob) where
  pub offsets-inside : (start n c : ℕ) → start + T.elements_size o S k n ≤ c → start + o * n ≤ c
  unfolding T.elements_size L.is_bool L.width
  offsets-inside start n c h = subst (λ (q : Kind). start + T.elements_size o S q n ≤ c) e h

  pub offsets-given : (child : D.Child) (m : List ℕ) (start n : ℕ) → D.ElementsReadable o child S m k start n 0 → D.ElementsReadable o child S m (OfObject ob) start n 0
  offsets-given child m start n h = subst (λ (q : Kind). D.ElementsReadable o child S m q start n 0) e h

pub list_offsets : (o d : ℕ) (S : Schema) (m : List ℕ) (i start n x : ℕ) (k : Kind) → k ≡ Sc.element_of S i → x ≡ n → (out out₁ out₂ : List ℕ) (p q r : ℕ) → Room out p
    → Puts out p (bits_of 32 x) out₁ q → (ob : Object) → k ≡ OfObject ob → Puts out₁ q (A.elements_at o d S m (OfObject ob) start n 0) out₂ r
    → Puts out p (A.list_at o d S m (Sc.element_of S i) start n) out₂ r
list_offsets o d S m i start n x k e ex out out₁ out₂ p q r g h ob ek l =
    list-elements o d S m i start n x k e ex out out₁ out₂ p q r g h (subst (λ (v : Kind). Puts out₁ q (A.elements_at o d S m v start n 0) out₂ r) (sym ek) l)

-- ---- unions
-- they stand in a run of w bytes each
pub run_of_unions : (o w : ℕ) → w ≡ 2 + o → (start j n : ℕ) → j < n → (c : ℕ) → start + (2 + o) * n ≤ c → start + w * j + (2 + o) ≤ c
run_of_unions o w e start j n h c l = rw e (run_inside (2 + o) start j n h c l)

choice_of : (o : ℕ) (S : Schema) (m : List ℕ) (u w : ℕ) → w ≡ 2 + o → (start j c x : ℕ) → c ≡ le m (start + w * j) 2 → x ≡ le m (start + w * j + 2) o
    → A.choice_step (Sc.cases_of S u) c (ByOffset x) ≡ T.element_step o S m (OfUnion u) start j
unfolding A.choice_step T.union_step T.place_of T.element_step T.value_step T.element_place L.is_bool L.width
choice_of o S m u w ew start j c x ec ex =
    tested-union S m (Sc.cases_of S u) false 0 c x
    ∙ ap₂ (λ (i k : ℕ). T.struct_tested S m (T.union_step (Sc.cases_of S u) false 0 i k)) (ec ∙ ap (λ (i : ℕ). le m (start + i * j) 2) ew) (ex ∙ ap (λ (i : ℕ). le m (start + i * j + 2) o) ew)

choice-marked : (u : ℕ) → E.unmarked (OfUnion u) ≡ false
unfolding E.unmarked
choice-marked u = refl

module _ (o d : ℕ) (S : Schema) (m : List ℕ) (u start n j : ℕ) (h : j < n) (good : D.ElementsReadable o (D.ObjectReadable o d S m) S m (OfUnion u) start (n - j) j)
    (w : ℕ) (ew : w ≡ 2 + o) (c x : ℕ) (nc : Number m (start + w * j) 2 c) (ex : x ≡ le m (start + w * j + 2) o) where
  pub chosen_readable : D.StepReadable (D.ObjectReadable o d S m) S m (A.choice_step (Sc.cases_of S u) c (ByOffset x))
  chosen_readable = element_readable o d S m (OfUnion u) start n j h good (A.choice_step (Sc.cases_of S u) c (ByOffset x)) (choice_of o S m u w ew start j c x nc.is ex)

  pub choices_turn : (whole out₀ out out₁ : List ℕ) (p₀ p p₁ : ℕ) → Remaining out₀ p₀ whole out p (A.elements_at o d S m (OfUnion u) start (n - j) j) → Room out p
      → Puts out p (A.choice_at o d S m u c (ByOffset x)) out₁ p₁ → Remaining out₀ p₀ whole out₁ p₁ (A.elements_at o d S m (OfUnion u) start (n - (j + 1)) (j + 1))
  unfolding A.choice_at
  choices_turn =
      elements_turn o d S m (OfUnion u) start n j h good (A.choice_step (Sc.cases_of S u) c (ByOffset x)) (choice_of o S m u w ew start j c x nc.is ex) (choice-marked u)

-- ---- a list of them
union_is : (k : Kind) (u i : ℕ) → k ≡ OfUnion u → i ≡ u → k ≡ OfUnion i
union_is k u i e ei = e ∙ ap OfUnion (sym ei)

module _ (o : ℕ) (S : Schema) (k : Kind) (u i : ℕ) (e : k ≡ OfUnion u) (ei : i ≡ u) where
  pub choices-inside : (start n c : ℕ) → start + T.elements_size o S k n ≤ c → start + (2 + o) * n ≤ c
  unfolding T.elements_size L.is_bool L.width
  choices-inside start n c h = subst (λ (q : Kind). start + T.elements_size o S q n ≤ c) (union_is k u i e ei) h

  pub choices-given : (child : D.Child) (m : List ℕ) (start n : ℕ) → D.ElementsReadable o child S m k start n 0 → D.ElementsReadable o child S m (OfUnion i) start n 0
  choices-given child m start n h = subst (λ (q : Kind). D.ElementsReadable o child S m q start n 0) (union_is k u i e ei) h

pub list-choices : (o d : ℕ) (S : Schema) (m : List ℕ) (i start n x : ℕ) (k : Kind) → k ≡ Sc.element_of S i → x ≡ n → (out out₁ out₂ : List ℕ) (p q r : ℕ) → Room out p
    → Puts out p (bits_of 32 x) out₁ q → (u v : ℕ) → k ≡ OfUnion u → v ≡ u → Puts out₁ q (A.elements_at o d S m (OfUnion v) start n 0) out₂ r
    → Puts out p (A.list_at o d S m (Sc.element_of S i) start n) out₂ r
list-choices o d S m i start n x k e ex out out₁ out₂ p q r g h u v ek ev l =
    list-elements o d S m i start n x k e ex out out₁ out₂ p q r g h (subst (λ (w : Kind). Puts out₁ q (A.elements_at o d S m w start n 0) out₂ r) (sym (union_is k u v ek ev)) l)
