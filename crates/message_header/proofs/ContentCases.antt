-- Content that fits, and where its object stands in the schema.
use Rattle.std.specs.Prelude.{Ok}
use mathlib.Core.Path.{◌≡◌, refl, ap, ◌∙◌, subst}
use mathlib.Core.List.{List}
use Prim.Native.Nat.{ℕ, zero, suc, ◌+◌, ◌-◌, ◌*◌, ◌/◌, ◌<◌, ◌≤◌}
use native.Mathlib.Nat.{mul-zero, le-div_iff_mul-le}
use native.Mathlib.Omega.{arith}
use lib.ListN.{length}
use borrow.Author.Tests.{le-leb}
use Rattle.coding.specs.Schema as Sc
use Rattle.coding.specs.Schema.{Schema}
use Rattle.coding.specs.Packed as P
use Rattle.coding.specs.declared.Object.{Object}
use Rattle.coding.specs.declared.Object.TheVariants as O
use Rattle.coding.specs.declared.Kind.{Kind}
use Rattle.coding.specs.declared.Content.{Content}
use Rattle.laws.specs.Sound.{ObjectSound, KindSound}
use Rattle.laws.specs.SoundAt.{list_index, table_index}
use Rattle.schema.specs.Directory.{Accepted, accepted_sound}
use Rattle.message_header.specs.Headers.{fitted}

-- ---- the elements of a direct list, which may be more bytes together than a number holds
module _ (m : List ℕ) (c : Content) (w : ℕ) where
  module _ (h : c.start ≤ length m) where
    pub elements-empty : w ≡ 0 → Ok c ≡ fitted m c.start (c.length * w) c.length
    unfolding fitted
    elements-empty z =
        let e : c.length * w ≡ 0 = ap (λ (k : ℕ). c.length * k) z ∙ mul-zero c.length in
        simp (le-leb (c.start + c.length * w) (length m) (omega arith))

    module _ (z : w ≡ 0 → ⊥) where
      some : 0 < w
      some = by w z
        where
          by : (k : ℕ) → (k ≡ 0 → ⊥) → 0 < k
          by zero f = absurd (f refl)
          by (suc k) f = omega arith

      pub elements_fit : c.length ≤ (length m - c.start) / w → Ok c ≡ fitted m c.start (c.length * w) c.length
      unfolding fitted
      elements_fit l =
          let k : c.length * w ≤ length m - c.start = (le-div_iff_mul-le some).0 l in
          simp (le-leb (c.start + c.length * w) (length m) (omega arith))

-- ---- a list's element, and a table
pub list_counted : (b : List ℕ) (i j : ℕ) → ObjectSound (P.parse b) (O.List i) → j ≡ i → j < P.list_count b
list_counted b i j h e = rw e (list_index b i h)

pub list_there : (b : List ℕ) (ob : Object) (i j : ℕ) → ObjectSound (P.parse b) ob → ob ≡ O.List i → j ≡ i → j < P.list_count b
list_there b ob i j h e f = list_counted b i j (subst (ObjectSound (P.parse b)) e h) f

pub table_there : (b : List ℕ) (ob : Object) (i j : ℕ) → ObjectSound (P.parse b) ob → ob ≡ O.Table i → j ≡ i → j < P.table_count b
table_there b ob i j h e f = rw f (table_index b i (subst (ObjectSound (P.parse b)) e h))

pub element_sound : (b dir : List ℕ) → Accepted b dir → (i : ℕ) (k : Kind) → k ≡ Sc.element_of (P.parse b) i → KindSound (P.parse b) k
element_sound b dir a i k e = rw e ((accepted_sound b dir a).lists i).kind
