-- Where the blocks of a directory stand: within the bytes.
use mathlib.Core.Path.{◌≡◌, ◌∙◌}
use mathlib.Core.List.{List}
use Prim.Native.Nat.{ℕ, ◌+◌, ◌*◌, ◌<◌, ◌≤◌}
use native.Mathlib.Omega.{arith}
use lib.ListN.{length, get_or}
use Rattle.coding.specs.Packed as P
use Rattle.laws.specs.Blocks.{blocks_ge, block-end}
use Rattle.schema.specs.Directory.{Directory, Block}

module _ (b dir : List ℕ) (D : Directory b dir) (i at : ℕ) where
  unions-before : P.union_place b (P.union_count b) ≤ length b
  unfolding P.table_place
  unions-before = rw (← D.ends) (blocks_ge b 4 (P.union_place b (P.union_count b)) (P.table_count b))

  lists-before : P.list_place b (P.list_count b) ≤ length b
  unfolding P.union_place
  lists-before = omega (arith, unions-before, blocks_ge b 0 (P.list_place b (P.list_count b)) (P.union_count b))

  module _ (small : at < 65536) where
    pub table_block : i < P.table_count b → at ≡ get_or dir (192 + i) 0 → Block b 4 (P.table_place b i) at
    unfolding P.table_place
    table_block l e =
        let q : at ≡ P.table_place b i = e ∙ D.tables i l in
        record {
          is = q;
          inside = rw (q, ← D.ends) (block-end b 4 (P.union_place b (P.union_count b)) (P.table_count b) i l);
          small = small;
        }

    pub union_block : i < P.union_count b → at ≡ get_or dir (128 + i) 0 → Block b 0 (P.union_place b i) at
    unfolding P.union_place
    union_block l e =
        let q : at ≡ P.union_place b i = e ∙ D.unions i l in
        record {
          is = q;
          inside = rw q (omega (arith, unions-before, block-end b 0 (P.list_place b (P.list_count b)) (P.union_count b) i l));
          small = small;
        }

    pub struct_block : i < P.struct_count b → at ≡ get_or dir (0 + i) 0 → Block b 0 (P.struct_place b i) at
    unfolding P.list_place P.struct_place
    struct_block l e =
        let q : at ≡ P.struct_place b i = e ∙ D.structs i l in
        record { is = q; inside = rw q (omega (arith, lists-before, block-end b 0 5 (P.struct_count b) i l)); small = small }

  pub list-place_is : at ≡ get_or dir 64 0 → at + 2 * i ≡ P.list_place b i
  unfolding P.list_place
  list-place_is e = rw (e, D.lists)

  pub list_inside : i < P.list_count b → at ≡ get_or dir 64 0 → at + 2 * i + 1 < length b
  unfolding P.list_place
  list_inside l e = let q : at ≡ P.struct_place b (P.struct_count b) = e ∙ D.lists in omega (arith, lists-before)
