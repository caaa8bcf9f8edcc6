-- A known choice, a value by its kind, and an element.
use mathlib.Core.Path.{◌≡◌, refl, ap, ◌∙◌}
use mathlib.Core.Bool.{Bool, true, false}
use mathlib.Core.List.{List}
use Prim.Native.Nat.{ℕ, ◌+◌, ◌*◌, ◌/◌, ◌%◌, ◌^◌, ◌<◌, ◌≤◌}
use native.Mathlib.Omega.{arith}
use lib.ListN.{length}
use borrow.Author.Tests.{ne_eqb, le-leb, lt-leb}
use Rattle.coding.specs.Lists.{pick}
use Rattle.coding.specs.Bytes.{le}
use Rattle.coding.specs.Schema as Sc
use Rattle.coding.specs.Schema.{Schema}
use Rattle.coding.specs.Layout as L
use Rattle.coding.specs.Step as T
use Rattle.coding.specs.declared.Flat.{Flat}
use Rattle.coding.specs.declared.Object.{Object}
use Rattle.coding.specs.declared.Kind.{Kind}
use Rattle.coding.specs.declared.Kind.TheVariants.{OfFlat, OfObject, OfUnion}
use Rattle.coding.specs.declared.Place.{Place}
use Rattle.coding.specs.declared.Step.{Step}
use Rattle.coding.specs.declared.Step.TheVariants as St
use Rattle.wire.specs.Products.{times-within}
use Rattle.wire.specs.Numbers.{Number}
use Rattle.message_step.proofs.ReachCases.{bool-one}

-- a known choice
module _ (inplace : Bool) (tail x : ℕ) (cases : List Object) (c : ℕ) (h : c ≡ 0 → ⊥) (k n : ℕ) (ek : k ≡ c) (en : n ≡ length cases) where
  pub union-known : k ≤ n → (ob : Object) → ob ≡ Sc.case_of cases k → (p : Place) → p ≡ T.place_of inplace tail x
      → St.Choice c ob p ≡ T.union_step cases inplace tail c x
  unfolding T.union_step
  union-known l ob eo p ep = simp (ne_eqb _ _ h, ← ek, ← en, le-leb _ _ l, ← eo, ← ep)

  pub union-unknown : n < k → St.Unknown c ≡ T.union_step cases inplace tail c x
  unfolding T.union_step
  union-unknown l = simp (ne_eqb _ _ h, ← ek, ← en, lt-leb _ _ l)

-- ---- by the kind
module _ (o : ℕ) (S : Schema) (m : List ℕ) (k : Kind) (none inplace : Bool) (tail at bit : ℕ) (r : Step) where
  pub value-flat : (f : Flat) → k ≡ OfFlat f → r ≡ T.flat_step m f none at bit → r ≡ T.value_step o S m k none inplace tail at bit
  unfolding T.value_step
  value-flat f e q = rw e q

  pub value-object : (ob : Object) → k ≡ OfObject ob → (x : ℕ) → x ≡ le m at o → r ≡ T.object_step ob inplace tail x
      → r ≡ T.value_step o S m k none inplace tail at bit
  unfolding T.value_step
  value-object ob e x ex q = rw e (q ∙ ap (T.object_step ob inplace tail) ex)

  pub value-union : (u i : ℕ) → k ≡ OfUnion u → i ≡ u → (c x : ℕ) → Number m at 2 c → x ≡ le m (at + 2) o
      → r ≡ T.union_step (Sc.cases_of S i) inplace tail c x → r ≡ T.value_step o S m k none inplace tail at bit
  unfolding T.value_step
  value-union u i e ei c x nc ex q = rw e (simp (← ei, ← nc.is, ← ex) q)

-- ---- elements
bool-inside : (i n : ℕ) → i < n → i / 8 + 1 ≤ (n + 7) / 8
bool-inside i n h = omega arith

-- an element lies inside the list's bytes
pub element-inside : (o : ℕ) (S : Schema) (k : Kind) (start n i : ℕ) → i < n
    → T.element_place o S k start i + L.width o S k ≤ start + T.elements_size o S k n
unfolding T.element_place T.elements_size
element-inside o S k start n i h = by (L.is_bool k) refl
  where
    by : (t : Bool) → L.is_bool k ≡ t
        → pick t (start + i / 8) (start + L.width o S k * i) + L.width o S k ≤ start + pick t ((n + 7) / 8) (L.width o S k * n)
    by true e = omega (arith, bool-one o S k e, bool-inside i n h)
    by false e = omega (arith, times-within (L.width o S k) i n h)

-- ---- an element's value, where the code reads it
module _ (o : ℕ) (S : Schema) (m : List ℕ) (k : Kind) (start n i at : ℕ) (ea : at ≡ T.element_place o S k start i) where
  pub element_there : (c : ℕ) → start + T.elements_size o S k n ≤ c → i < n → at + L.width o S k ≤ c
  element_there c h l = omega (arith, element-inside o S k start n i l)

  pub element_low : (c : ℕ) → start + T.elements_size o S k n ≤ c → i < n → c ≤ 16777215 → at < 2 ^ 60
  element_low c h l z = omega (arith, element-inside o S k start n i l)

pub element-value : (o : ℕ) (S : Schema) (m : List ℕ) (k : Kind) (start i at : ℕ) → at ≡ T.element_place o S k start i → (bit : ℕ) → bit ≡ i % 8 → (s r : Step)
    → s ≡ T.value_step o S m k true false 0 at bit → r ≡ T.struct_tested S m s → r ≡ T.element_step o S m k start i
unfolding T.element_step
element-value o S m k start i at ea bit eb s r e f = simp (← ea, ← eb) (f ∙ ap (T.struct_tested S m) e)
