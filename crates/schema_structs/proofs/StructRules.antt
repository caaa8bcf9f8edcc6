-- The rules of the structs, whose sizes are stored on the way: one lemma for each way out of the code.
use mathlib.Core.Path.{◌≡◌, sym, ap, ◌∙◌}
use mathlib.Core.Bool.{Bool, true, false, and-false, not}
use mathlib.Core.List.{List}
use Prim.Native.Nat.{ℕ, ◌+◌, ◌<◌, ◌≤◌}
use native.Mathlib.Omega.{arith}
use lib.ListN.{length, get_or, set, length-set}
use lib.Seq.{get_or-set_same, get_or-set_other}
use borrow.Author.Tests.{not-true, not-false, lt-leb, le-leb, leb-true}
use borrow.Author.Count.{below_more}
use Rattle.coding.specs.Lists.{every}
use Rattle.coding.specs.Packed as P
use Rattle.coding.specs.Lawful as L
use Rattle.coding.specs.Structs as S
use Rattle.coding.specs.declared.Role.TheVariants.{InStruct}
use Rattle.laws.specs.Lists.{every_none, every_more, every_fail, every-at, both_right, never}
use Rattle.schema.specs.Directory.{Directory, Block, StructsJudged, Sizes, SmallBelow}

pub fields_ok_is : (b : List ℕ) (i at : ℕ) (r : Bool) → Block b 0 (P.struct_place b i) at → r ≡ L.records_ok b (InStruct i) 0 at
    → r ≡ L.records_ok b (InStruct i) 0 (P.struct_place b i)
fields_ok_is b i at r B e = e ∙ rw B.is

-- what is stored from 256 on leaves the directory as it is
pub directory_kept : (b d d' : List ℕ) → Directory b d → length d' ≡ length d → ((k : ℕ) → k < 256 → get_or d' k 0 ≡ get_or d k 0) → Directory b d'
directory_kept b d d' D e kept =
    record {
      long = e ∙ D.long;
      ends = D.ends;
      few_structs = D.few_structs;
      few_lists = D.few_lists;
      few_unions = D.few_unions;
      few_tables = D.few_tables;
      structs = λ k m. kept (0 + k) (omega (arith, D.few_structs)) ∙ D.structs k m;
      lists = kept 64 (omega arith) ∙ D.lists;
      unions = λ k m. kept (128 + k) (omega (arith, D.few_unions)) ∙ D.unions k m;
      tables = λ k m. kept (192 + k) (omega (arith, D.few_tables)) ∙ D.tables k m;
    }

-- the loop's invariant: i structs are lawful, and their sizes stored
pub record Sizing (b d : List ℕ) (i : ℕ) : Type 0 where
  pub directory : Directory b d
  pub sizes : Sizes b d i
  pub good : every (L.struct_lawful b) i ≡ true

module _ (b d : List ℕ) where
  pub sizing_none : Directory b d → Sizing b d 0
  sizing_none D = record { directory = D; sizes = λ k m. absurd (omega arith); good = every_none (L.struct_lawful b) }

  pub small-below : (i : ℕ) → Sizing b d i → SmallBelow b i
  unfolding L.struct_lawful
  small-below i g k m =
      leb-true _ _ (both_right (L.records_ok b (InStruct k) 0 (P.struct_place b k)) _ (every-at (L.struct_lawful b) i k g.good m))

  module _ (i : ℕ) (g : Sizing b d i) (n : ℕ) (en : n ≡ P.struct_count b) where
    pub sizing_done : i ≤ n → n ≤ i → StructsJudged b d true
    sizing_done m l =
        let z : i ≡ P.struct_count b = omega arith in
        record {
          is = rw (← z) (sym g.good);
          directory = g.directory;
          sizes = λ q k m. g.sizes k (omega arith);
        }

    module _ (l : i < n) (r : Bool) (er : r ≡ L.records_ok b (InStruct i) 0 (P.struct_place b i)) where
      refused : L.struct_lawful b i ≡ false → StructsJudged b d false
      refused e =
          record {
            is = sym (every_fail (L.struct_lawful b) (P.struct_count b) i (omega arith) e);
            directory = g.directory;
            sizes = never;
          }

      pub fields_bad : not r ≡ true → StructsJudged b d false
      unfolding L.struct_lawful
      fields_bad h = refused (simp (← er, not-true r h))

      module _ (h : not r ≡ false) (z : ℕ) (ez : z ≡ S.struct_size (P.parse b) i) where
        pub too_large : 4096 < z → StructsJudged b d false
        unfolding L.struct_lawful
        too_large m = refused (simp (← ez, lt-leb _ _ m, and-false))

        module _ (m : z ≤ 4096) (d' : List ℕ) (ed : d' ≡ set d (256 + i) z) where
          kept : (k : ℕ) → k < 256 → get_or d' k 0 ≡ get_or d k 0
          kept k m = ap (λ (x : List ℕ). get_or x k 0) ed ∙ get_or-set_other d (256 + i) k z 0 (λ q. omega arith)

          pub sizing_more : Sizing b d' (i + 1)
          unfolding L.struct_lawful
          sizing_more =
              let D : Directory b d = g.directory in
              let f : 256 + i < length d = omega (arith, D.long, D.few_structs) in
              record {
                directory = directory_kept b d d' D (ap length ed ∙ length-set d (256 + i) z) kept;
                sizes = below_more (λ (k : ℕ). get_or d' (256 + k) 0 ≡ S.struct_size (P.parse b) k) i
                    (λ k m. ap (λ (x : List ℕ). get_or x (256 + k) 0) ed ∙ get_or-set_other d (256 + i) (256 + k) z 0 (λ q. omega arith) ∙ g.sizes k m)
                    (ap (λ (x : List ℕ). get_or x (256 + i) 0) ed ∙ get_or-set_same d (256 + i) z 0 f ∙ ez);
                good = every_more (L.struct_lawful b) i g.good (simp (← er, not-false r h, ← ez, le-leb _ _ m));
              }
