-- `lawful` taken apart: each rule as a fact of its own.
use Rattle.std.specs.Prelude.{◌≡◌, refl, Bool, false, ◌&&◌, ◌⊎◌, List, length, eqb}
use Rattle.std.proofs.Math.Bool.{true}
use Rattle.std.proofs.Common.{inl, inr, arith}
use Prim.Native.Nat.{ℕ, ◌+◌, ◌<◌, ◌≤◌}
use Rattle.std.proofs.Math.Dec.{leb}
use borrow.Author.Tests.{leb-true, ltb-true, eqb-true}
use Rattle.coding.specs.Lists.{pick, every}
use Rattle.coding.specs.Bytes as B
use Rattle.coding.specs.Packed as P
use Rattle.coding.specs.Lawful as L
use Rattle.coding.specs.Structs as S
use Rattle.coding.specs.declared.Role.{Role}
use Rattle.coding.specs.declared.Role.TheVariants.{InStruct, InList, InUnion, InTable}
use Rattle.laws.specs.Lists.{every-at, both_left, both_right}

-- ---- the counts
pub record Counts (b : List ℕ) : Type 0 where
  pub structs : P.struct_count b ≤ 64
  pub lists : P.list_count b ≤ 64
  pub unions : P.union_count b ≤ 64
  pub some : 1 ≤ P.table_count b
  pub tables : P.table_count b ≤ 64
  pub root : P.root_index b < P.table_count b

module _ (b : List ℕ) where
  pub counts_hold : L.counts_ok b ≡ true → Counts b
  unfolding L.counts_ok
  counts_hold e₀ =
      let e₁ = both_right (leb (P.struct_count b) 64) _ e₀ in
      let e₂ = both_right (leb (P.list_count b) 64) _ e₁ in
      let e₃ = both_right (leb (P.union_count b) 64) _ e₂ in
      let e₄ = both_right (leb 1 (P.table_count b)) _ e₃ in
      record {
        structs = leb-true _ _ (both_left _ _ e₀);
        lists = leb-true _ _ (both_left _ _ e₁);
        unions = leb-true _ _ (both_left _ _ e₂);
        some = leb-true _ _ (both_left _ _ e₃);
        tables = leb-true _ _ (both_left _ _ e₄);
        root = ltb-true _ _ (both_right (leb (P.table_count b) 64) _ e₄);
      }

  -- the record count of one of the blocks
  pub block-count : (head low high start n i : ℕ) → L.blocks_ok b head low high start n ≡ true → i < n
      → (low ≤ P.records b head (P.blocks b head start i)) × (P.records b head (P.blocks b head start i) ≤ high)
  unfolding L.blocks_ok
  block-count head low high start n i e l =
      let x : ℕ = P.records b head (P.blocks b head start i) in
      let h : (leb low x && leb x high) ≡ true = every-at (λ k. L.between low high (P.records b head (P.blocks b head start k))) n i e l in
      (leb-true _ _ (both_left _ _ h), leb-true _ _ (both_right (leb low x) _ h))

-- ---- one record
module _ (b : List ℕ) (role : Role) (at : ℕ) (e : L.record_ok b role at ≡ true) where
  pub record_argument : L.argument_ok b (P.kind_at b at) (P.argument_at b at) ≡ true
  unfolding L.record_ok
  record_argument = both_left _ _ (both_right (P.zero_at b at) _ e)

  record-rest : (L.kind_ok role (P.kind_at b at) (P.argument_at b at) && (L.flags_ok b role at && L.direct_ok b at)) ≡ true
  unfolding L.record_ok
  record-rest = both_right (L.argument_ok b (P.kind_at b at) (P.argument_at b at)) _ (both_right (P.zero_at b at) _ e)

  pub record_kind_lem : L.kind_ok role (P.kind_at b at) (P.argument_at b at) ≡ true
  record_kind_lem = both_left _ (L.flags_ok b role at && L.direct_ok b at) record-rest

  pub record_flags : L.flags_ok b role at ≡ true
  record_flags = both_left _ (L.direct_ok b at) (both_right (L.kind_ok role (P.kind_at b at) (P.argument_at b at)) _ record-rest)

  -- 02, K1: of a direct list its table, of a union in place its cases
  pub record-direct : L.direct_ok b at ≡ true
  record-direct = both_right (L.flags_ok b role at) _ (both_right (L.kind_ok role (P.kind_at b at) (P.argument_at b at)) _ record-rest)

pub record-of_block : (b : List ℕ) (role : Role) (head at j : ℕ) → L.records_ok b role head at ≡ true → j < P.records b head at
    → L.record_ok b role (P.record_place head at j) ≡ true
unfolding L.records_ok L.first_ok
record-of_block b role head at j h l =
    every-at (λ i. L.record_ok b role (P.record_place head at i)) (P.records b head at) j h l

-- ---- a lawful schema under a coding
pub lawful_formed : (o : ℕ) (b : List ℕ) → L.lawful o b ≡ true → L.well_formed b ≡ true
unfolding L.lawful
lawful_formed o b e = both_left (L.well_formed b) _ (both_right (B.width_known o) _ e)

-- its width is one of the two
pub lawful-width : (o : ℕ) (b : List ℕ) → L.lawful o b ≡ true → (o ≡ 4) ⊎ (o ≡ 6)
unfolding L.lawful B.width_known B.u32 B.u48
lawful-width o b e = by (eqb o 4) refl (both_left _ (L.well_formed b && pick (eqb o 4) (L.older_ok b) true) e)
  where
    by : (t : Bool) → eqb o 4 ≡ t → pick t true (eqb o 6) ≡ true → (o ≡ 4) ⊎ (o ≡ 6)
    by true h q = inl (eqb-true o 4 h)
    by false h q = inr (eqb-true o 6 q)

-- under the coding of 000 nothing is asked beyond that
pub lawful_48 : (b : List ℕ) → L.lawful B.u48 b ≡ L.well_formed b
unfolding L.lawful B.width_known B.u32 B.u48
lawful_48 b = by (L.well_formed b)
  where
    by : (t : Bool) → (t && true) ≡ t
    by true = refl
    by false = refl

-- under the older coding the rules of every list, union and table hold
pub lawful-older : (b : List ℕ) → L.lawful B.u32 b ≡ true → L.older_ok b ≡ true
unfolding L.lawful B.width_known B.u32
lawful-older b e = both_right (L.well_formed b) _ e

pub lawful-wide : (o : ℕ) (b : List ℕ) → L.lawful o b ≡ true → 0 < o
lawful-wide o b e = by (lawful-width o b e)
  where
    by : (o ≡ 4) ⊎ (o ≡ 6) → 0 < o
    by (inl h) = omega arith
    by (inr h) = omega arith

-- a union, which has a choice and an offset, is no longer than a struct may be
pub lawful_narrow : (o : ℕ) (b : List ℕ) → L.lawful o b ≡ true → 2 + o ≤ 4096
lawful_narrow o b e = by (lawful-width o b e)
  where
    by : (o ≡ 4) ⊎ (o ≡ 6) → 2 + o ≤ 4096
    by (inl h) = omega arith
    by (inr h) = omega arith

-- ---- what holds of it under both
module _ (b : List ℕ) (e : L.well_formed b ≡ true) where
  lawful_shape : L.shape_ok b ≡ true
  unfolding L.well_formed
  lawful_shape = both_left (L.shape_ok b) (L.rules_ok b) e

  pub lawful_counts : Counts b
  unfolding L.shape_ok
  lawful_counts = counts_hold b (both_left (L.counts_ok b) (L.places_ok b) lawful_shape)

  lawful_places : L.places_ok b ≡ true
  unfolding L.shape_ok
  lawful_places = both_right (L.counts_ok b) (L.places_ok b) lawful_shape

  places₁ : (L.blocks_ok b 0 1 32 (P.list_place b (P.list_count b)) (P.union_count b)
      && (L.blocks_ok b 4 0 64 (P.union_place b (P.union_count b)) (P.table_count b) && eqb (P.table_place b (P.table_count b)) (length b))) ≡ true
  unfolding L.places_ok
  places₁ = both_right (L.blocks_ok b 0 1 32 5 (P.struct_count b)) _ lawful_places

  places₂ : (L.blocks_ok b 4 0 64 (P.union_place b (P.union_count b)) (P.table_count b) && eqb (P.table_place b (P.table_count b)) (length b)) ≡ true
  places₂ = both_right (L.blocks_ok b 0 1 32 (P.list_place b (P.list_count b)) (P.union_count b)) _ places₁

  pub struct-records : (i : ℕ) → i < P.struct_count b → (1 ≤ P.records b 0 (P.struct_place b i)) × (P.records b 0 (P.struct_place b i) ≤ 32)
  unfolding L.places_ok P.struct_place
  struct-records i l =
      block-count b 0 1 32 5 (P.struct_count b) i (both_left (L.blocks_ok b 0 1 32 5 (P.struct_count b)) _ lawful_places) l

  pub union-records : (i : ℕ) → i < P.union_count b → (1 ≤ P.records b 0 (P.union_place b i)) × (P.records b 0 (P.union_place b i) ≤ 32)
  unfolding P.union_place
  union-records i l =
      block-count b 0 1 32 (P.list_place b (P.list_count b)) (P.union_count b) i
      (both_left (L.blocks_ok b 0 1 32 (P.list_place b (P.list_count b)) (P.union_count b)) _ places₁) l

  pub table-records : (i : ℕ) → i < P.table_count b → (0 ≤ P.records b 4 (P.table_place b i)) × (P.records b 4 (P.table_place b i) ≤ 64)
  unfolding P.table_place
  table-records i l =
      block-count b 4 0 64 (P.union_place b (P.union_count b)) (P.table_count b) i
      (both_left (L.blocks_ok b 4 0 64 (P.union_place b (P.union_count b)) (P.table_count b)) _ places₂) l

  pub lawful-end : P.table_place b (P.table_count b) ≡ length b
  lawful-end = eqb-true _ _ (both_right (L.blocks_ok b 4 0 64 (P.union_place b (P.union_count b)) (P.table_count b)) _ places₂)

  -- ---- the rules
  lawful_rules : L.rules_ok b ≡ true
  unfolding L.well_formed
  lawful_rules = both_right (L.shape_ok b) (L.rules_ok b) e

  rules₁ : (every (L.list_lawful b) (P.list_count b)
      && (every (L.union_lawful b) (P.union_count b) && (every (L.table_lawful b) (P.table_count b) && every (L.id_lawful b) (P.table_count b)))) ≡ true
  unfolding L.rules_ok
  rules₁ = both_right (every (L.struct_lawful b) (P.struct_count b)) _ lawful_rules

  rules₂ : (every (L.union_lawful b) (P.union_count b) && (every (L.table_lawful b) (P.table_count b) && every (L.id_lawful b) (P.table_count b))) ≡ true
  rules₂ = both_right (every (L.list_lawful b) (P.list_count b)) _ rules₁

  rules₃ : (every (L.table_lawful b) (P.table_count b) && every (L.id_lawful b) (P.table_count b)) ≡ true
  rules₃ = both_right (every (L.union_lawful b) (P.union_count b)) _ rules₂

  struct_rule : (i : ℕ) → i < P.struct_count b → L.struct_lawful b i ≡ true
  unfolding L.rules_ok
  struct_rule i l =
      every-at (L.struct_lawful b) (P.struct_count b) i (both_left (every (L.struct_lawful b) (P.struct_count b)) _ lawful_rules) l

  pub struct_ok : (i : ℕ) → i < P.struct_count b → L.records_ok b (InStruct i) 0 (P.struct_place b i) ≡ true
  unfolding L.struct_lawful
  struct_ok i l = both_left _ _ (struct_rule i l)

  pub struct_small : (i : ℕ) → i < P.struct_count b → S.struct_size (P.parse b) i ≤ 4096
  unfolding L.struct_lawful
  struct_small i l = leb-true _ _ (both_right (L.records_ok b (InStruct i) 0 (P.struct_place b i)) _ (struct_rule i l))

  pub list_ok : (i : ℕ) → i < P.list_count b → L.record_ok b InList (P.list_place b i) ≡ true
  unfolding L.list_lawful
  list_ok i l = every-at (L.list_lawful b) (P.list_count b) i (both_left (every (L.list_lawful b) (P.list_count b)) _ rules₁) l

  pub union_ok : (i : ℕ) → i < P.union_count b → L.records_ok b InUnion 0 (P.union_place b i) ≡ true
  unfolding L.union_lawful
  union_ok i l = every-at (L.union_lawful b) (P.union_count b) i (both_left (every (L.union_lawful b) (P.union_count b)) _ rules₂) l

  table_rule : (i : ℕ) → i < P.table_count b → L.table_lawful b i ≡ true
  table_rule i l = every-at (L.table_lawful b) (P.table_count b) i (both_left (every (L.table_lawful b) (P.table_count b)) _ rules₃) l

  pub table_ok : (i : ℕ) → i < P.table_count b → L.records_ok b InTable 4 (P.table_place b i) ≡ true
  unfolding L.table_lawful
  table_ok i l = both_left _ _ (table_rule i l)

  pub table-inplaces : (i : ℕ) → i < P.table_count b → L.inplaces b (P.table_place b i) (P.records b 4 (P.table_place b i)) ≤ 1
  unfolding L.table_lawful
  table-inplaces i l = leb-true _ _ (both_right (L.records_ok b InTable 4 (P.table_place b i)) _ (table_rule i l))

  pub ids_differ : (i : ℕ) → i < P.table_count b → L.id_lawful b i ≡ true
  ids_differ i l = every-at (L.id_lawful b) (P.table_count b) i (both_right (every (L.table_lawful b) (P.table_count b)) _ rules₃) l
