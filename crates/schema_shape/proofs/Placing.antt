-- The three runs of blocks together: the directory is right where the shape is.
use mathlib.Core.Path.{◌≡◌, refl, sym, ap, ◌∙◌}
use mathlib.Core.Bool.{Bool, true, false}
use mathlib.Core.List.{List}
use Prim.Native.Nat.{ℕ, ◌+◌, ◌*◌, ◌<◌}
use native.Mathlib.Omega.{arith}
use lib.ListN.{length, get_or, set}
use lib.Seq.{get_or-set_same, get_or-set_other}
use lib.Dec.{eqb}
use borrow.Author.Tests.{eqb-true}
use Rattle.std.specs.Prelude.{Option, Some, None}
use Rattle.coding.specs.Lists.{pick}
use Rattle.coding.specs.Packed as P
use Rattle.coding.specs.Lawful as L
use Rattle.schema.specs.Directory.{Stored, Directory, Placed}
use Rattle.laws.specs.Lists.{never}
use Rattle.laws.specs.Rules.{Counts}

-- what a run of blocks says by its answer
refuses : (t : Bool) (x : ℕ) → None ≡ pick t (Some x) None → t ≡ false
refuses true x e = cc
refuses false x e = refl

holds : (t : Bool) (x y : ℕ) → Some y ≡ pick t (Some x) None → (t ≡ true) × (y ≡ x)
holds true x y e = (refl, cc)
holds false x y e = cc

module _ (b : List ℕ) (head low high start n base : ℕ) (d₀ d : List ℕ) (r : Option ℕ) (s : Stored b head low high start n base d₀ d r) where
  bad : r ≡ None → L.blocks_ok b head low high start n ≡ false
  bad e = refuses _ (P.blocks b head start n) (sym e ∙ s.is)

  module _ (p : ℕ) (e : r ≡ Some p) where
    good : L.blocks_ok b head low high start n ≡ true
    good = (holds _ (P.blocks b head start n) p (sym e ∙ s.is)).0

    ends : p ≡ P.blocks b head start n
    ends = (holds (L.blocks_ok b head low high start n) (P.blocks b head start n) p (sym e ∙ s.is)).1

    entries : (i : ℕ) → i < n → get_or d (base + i) 0 ≡ P.blocks b head start i
    entries = s.entries (rw e refl)

module _ (b : List ℕ) (ns : ℕ) (es : ns ≡ P.struct_count b) (d₀ d₁ : List ℕ) (r : Option ℕ) (s : Stored b 0 1 32 5 ns 0 d₀ d₁ r) where
  pub places_1 : r ≡ None → Placed b d₁ (L.places_ok b) false
  unfolding L.places_ok
  places_1 z = record { is = simp (← es, bad b 0 1 32 5 ns 0 d₀ d₁ r s z); right = never }

  module _ (p : ℕ) (f : r ≡ Some p) (d₂ : List ℕ) (e₂ : d₂ ≡ set d₁ 64 p) (nl nu : ℕ) (el : nl ≡ P.list_count b) (eu : nu ≡ P.union_count b) (d₃ : List ℕ) (r₂ : Option ℕ) (u : Stored b 0 1 32 (p + 2 * nl) nu 128 d₂ d₃ r₂) where
    lists_at : p + 2 * nl ≡ P.list_place b (P.list_count b)
    unfolding P.list_place P.struct_place
    lists_at = rw (← es, ← el, ends b 0 1 32 5 ns 0 d₀ d₁ r s p f)

    structs_good : L.blocks_ok b 0 1 32 5 (P.struct_count b) ≡ true
    structs_good = rw es at (good b 0 1 32 5 ns 0 d₀ d₁ r s p f)

    pub places_2 : r₂ ≡ None → Placed b d₃ (L.places_ok b) false
    unfolding L.places_ok
    places_2 z = record { is = simp (structs_good, ← lists_at, ← eu, bad b 0 1 32 (p + 2 * nl) nu 128 d₂ d₃ r₂ u z); right = never }

    module _ (q : ℕ) (g : r₂ ≡ Some q) (nt : ℕ) (et : nt ≡ P.table_count b) (d₄ : List ℕ) (r₃ : Option ℕ) (v : Stored b 4 0 64 q nt 192 d₃ d₄ r₃) where
      unions_good : L.blocks_ok b 0 1 32 (P.list_place b (P.list_count b)) (P.union_count b) ≡ true
      unions_good = rw (← lists_at, ← eu) (good b 0 1 32 (p + 2 * nl) nu 128 d₂ d₃ r₂ u q g)

      tables-at : q ≡ P.union_place b (P.union_count b)
      unfolding P.union_place
      tables-at = rw (← lists_at, ← eu) (ends b 0 1 32 (p + 2 * nl) nu 128 d₂ d₃ r₂ u q g)

      pub places_3 : r₃ ≡ None → Placed b d₄ (L.places_ok b) false
      unfolding L.places_ok
      places_3 z = record { is = simp (structs_good, unions_good, ← tables-at, ← et, bad b 4 0 64 q nt 192 d₃ d₄ r₃ v z); right = never }

      module _ (e : ℕ) (h : r₃ ≡ Some e) (k : Counts b) (k₀ : length d₀ ≡ 384) (k₁ : length d₁ ≡ length d₀) (k₂ : length d₂ ≡ length d₁) (k₃ : length d₃ ≡ length d₂) (k₄ : length d₄ ≡ length d₃) where
        ends_at : e ≡ P.table_place b (P.table_count b)
        unfolding P.table_place
        ends_at = rw (← tables-at, ← et) (ends b 4 0 64 q nt 192 d₃ d₄ r₃ v e h)

        directory : eqb e (length b) ≡ true → Directory b d₄
        unfolding P.struct_place P.union_place P.table_place
        directory w = record {
          long = omega arith;
          ends = sym ends_at ∙ eqb-true _ _ w;
          few_structs = k.structs;
          few_lists = k.lists;
          few_unions = k.unions;
          few_tables = k.tables;
          structs = λ i m. v.kept (0 + i) (omega arith) ∙ u.kept (0 + i) (omega arith) ∙ ap (λ (l : List ℕ). get_or l (0 + i) 0) e₂ ∙ get_or-set_other d₁ 64 (0 + i) p 0 (λ w. omega arith) ∙ entries b 0 1 32 5 ns 0 d₀ d₁ r s p f i (omega arith);
          lists = v.kept 64 (omega arith) ∙ u.kept 64 (omega arith) ∙ ap (λ (l : List ℕ). get_or l 64 0) e₂ ∙ get_or-set_same d₁ 64 p 0 (omega arith) ∙ rw (← es) (ends b 0 1 32 5 ns 0 d₀ d₁ r s p f);
          unions = λ i m. v.kept (128 + i) (omega arith) ∙ entries b 0 1 32 (p + 2 * nl) nu 128 d₂ d₃ r₂ u q g i (omega arith) ∙ rw (← lists_at);
          tables = λ i m. entries b 4 0 64 q nt 192 d₃ d₄ r₃ v e h i (omega arith) ∙ rw (← tables-at);
        }

        pub places_4 : Placed b d₄ (L.places_ok b) (eqb e (length b))
        unfolding L.places_ok
        places_4 = record {
          is = simp (structs_good, unions_good, ← tables-at, ← et, good b 4 0 64 q nt 192 d₃ d₄ r₃ v e h) (rw et (simp (← ends_at)));
          right = directory;
        }
