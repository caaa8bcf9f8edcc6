-- A list's element by the number of its kind.
use mathlib.Core.Path.{◌≡◌, sym, ap, ◌∙◌}
use mathlib.Core.List.{List}
use Prim.Native.Nat.{ℕ, ◌<◌, ◌≤◌}
use native.Mathlib.Omega.{arith}
use borrow.Author.Tests.{lt-ltb, le-ltb, eq-eqb, ne_eqb}
use Rattle.coding.specs.Schema as Sc
use Rattle.coding.specs.Packed as P
use Rattle.coding.specs.declared.Object.{Object}
use Rattle.coding.specs.declared.Kind.TheVariants.{OfFlat, OfObject, OfUnion}
use Rattle.laws.specs.Parsed.{element-at}

-- ---- the element by the number of its kind
module _ (b : List ℕ) (at k : ℕ) (ek : k ≡ P.kind_at b at) where
  pub element-flat : k < 13 → P.element_at b at ≡ OfFlat (P.flat_of k (P.argument_at b at))
  unfolding P.element_at P.kind_of
  element-flat h = simp (← ek, lt-ltb _ _ h)

  pub element-object : 13 ≤ k → (k ≡ 17 → ⊥) → (ob : Object) → ob ≡ P.object_at b at → P.element_at b at ≡ OfObject ob
  unfolding P.element_at P.kind_of P.object_at
  element-object h l ob eo = simp (eo, ← ek, le-ltb _ _ h, ne_eqb _ _ l)

  pub element-union : k ≡ 17 → (u : ℕ) → u ≡ P.argument_at b at → P.element_at b at ≡ OfUnion u
  unfolding P.element_at P.kind_of
  element-union l u eu =
      let h : 13 ≤ k = omega arith in
      simp (eu, ← ek, le-ltb _ _ h, eq-eqb _ _ l)

-- the element of list i
pub list_kind : (b : List ℕ) (i at : ℕ) → i < P.list_count b → at ≡ P.list_place b i → P.element_at b at ≡ Sc.element_of (P.parse b) i
list_kind b i at l e = ap (P.element_at b) e ∙ sym (element-at b i l)
