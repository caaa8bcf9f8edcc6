-- What `parse` has at an index in range: the records at a place.
use Rattle.std.specs.Prelude.{◌≡◌, length, get_or}
use Rattle.std.proofs.Common.{ap, ◌∙◌}
use mathlib.Core.List.{List, []}
use Prim.Native.Nat.{ℕ, ◌+◌, ◌<◌, ◌≤◌}
use native.Mathlib.Omega.{arith}
use Rattle.std.proofs.Math.ListN.{get_or-eq_default}
use Rattle.coding.specs.Packed as P
use Rattle.coding.specs.Schema as Sc
use Rattle.laws.specs.Lists.{run_at, run_length}

-- ---- the records of a block
module _ {A : Type 0} (f : List ℕ → ℕ → A) (b : List ℕ) (head at : ℕ) where
  pub records-length : length (P.records_at f b head at) ≡ P.records b head at
  unfolding P.records_at
  records-length = run_length _ (P.records b head at) 0

  pub records_get : (d : A) (j : ℕ) → j < P.records b head at → get_or (P.records_at f b head at) j d ≡ f b (P.record_place head at j)
  unfolding P.records_at
  records_get d j l = run_at (λ i. f b (P.record_place head at i)) d (P.records b head at) j l

-- ---- how many there are
module _ (b : List ℕ) where
  pub structs-length : length (P.parse b).structs ≡ P.struct_count b
  unfolding P.parse
  structs-length = run_length _ (P.struct_count b) 0

  pub lists_length : length (P.parse b).lists ≡ P.list_count b
  unfolding P.parse
  lists_length = run_length _ (P.list_count b) 0

  pub unions-length : length (P.parse b).unions ≡ P.union_count b
  unfolding P.parse
  unions-length = run_length _ (P.union_count b) 0

  pub tables-length : length (P.parse b).tables ≡ P.table_count b
  unfolding P.parse
  tables-length = run_length _ (P.table_count b) 0

-- ---- what stands at an index in range
module _ (b : List ℕ) (i : ℕ) where
  pub struct_at : i < P.struct_count b → Sc.struct_of (P.parse b) i ≡ P.records_at P.flat_at b 0 (P.struct_place b i)
  unfolding Sc.struct_of P.parse
  struct_at l = run_at _ [] (P.struct_count b) i l

  pub element-at : i < P.list_count b → Sc.element_of (P.parse b) i ≡ P.element_at b (P.list_place b i)
  unfolding Sc.element_of P.parse
  element-at l = run_at _ _ (P.list_count b) i l

  pub cases-at : i < P.union_count b → Sc.cases_of (P.parse b) i ≡ P.records_at P.object_at b 0 (P.union_place b i)
  unfolding Sc.cases_of P.parse
  cases-at l = run_at _ [] (P.union_count b) i l

  pub table-at : i < P.table_count b → Sc.table_of (P.parse b) i ≡ P.table_at b (P.table_place b i)
  unfolding Sc.table_of P.parse
  table-at l = run_at _ _ (P.table_count b) i l

  pub members-at : i < P.table_count b → (Sc.table_of (P.parse b) i).members ≡ P.records_at P.member_at b 4 (P.table_place b i)
  unfolding P.table_at
  members-at l = rw (table-at l)

  pub id-at : i < P.table_count b → (Sc.table_of (P.parse b) i).id ≡ P.id_at b (P.table_place b i)
  unfolding P.table_at
  id-at l = rw (table-at l)

  -- one record of each
  pub field_at : (j : ℕ) → i < P.struct_count b → j < P.records b 0 (P.struct_place b i)
      → Sc.field_of (P.parse b) i j ≡ P.flat_at b (P.record_place 0 (P.struct_place b i) j)
  unfolding Sc.field_of
  field_at j l m = rw (struct_at l) (records_get P.flat_at b 0 (P.struct_place b i) _ j m)

  pub member-at : (j : ℕ) → i < P.table_count b → j < P.records b 4 (P.table_place b i)
      → Sc.member_of (P.parse b) i j ≡ P.member_at b (P.record_place 4 (P.table_place b i) j)
  unfolding Sc.member_of
  member-at j l m = rw (members-at l) (records_get P.member_at b 4 (P.table_place b i) _ j m)

  pub case_at : (j : ℕ) → i < P.union_count b → j < P.records b 0 (P.union_place b i)
      → Sc.case_of (Sc.cases_of (P.parse b) i) (j + 1) ≡ P.object_at b (P.record_place 0 (P.union_place b i) j)
  unfolding Sc.case_of
  case_at j l m = rw (cases-at l) (let e : Prim.Native.Nat.pred (j + 1) ≡ j = omega arith in rw e (records_get P.object_at b 0 (P.union_place b i) _ j m))

  -- the numbers of records
  pub struct-length : i < P.struct_count b → length (Sc.struct_of (P.parse b) i) ≡ P.records b 0 (P.struct_place b i)
  struct-length l = ap length (struct_at l) ∙ records-length P.flat_at b 0 (P.struct_place b i)

  pub cases-length : i < P.union_count b → length (Sc.cases_of (P.parse b) i) ≡ P.records b 0 (P.union_place b i)
  cases-length l = ap length (cases-at l) ∙ records-length P.object_at b 0 (P.union_place b i)

  pub members-length : i < P.table_count b → length (Sc.table_of (P.parse b) i).members ≡ P.records b 4 (P.table_place b i)
  members-length l = ap length (members-at l) ∙ records-length P.member_at b 4 (P.table_place b i)

  -- ---- past the end, nothing
  pub struct_past : P.struct_count b ≤ i → Sc.struct_of (P.parse b) i ≡ []
  unfolding Sc.struct_of
  struct_past l = get_or-eq_default (P.parse b).structs [] (omega (arith, structs-length b))

  pub element_past : P.list_count b ≤ i → Sc.element_of (P.parse b) i ≡ (Sc.plain_bool).kind
  unfolding Sc.element_of Sc.plain_bool
  element_past l = get_or-eq_default (P.parse b).lists _ (omega (arith, lists_length b))

  pub cases_past : P.union_count b ≤ i → Sc.cases_of (P.parse b) i ≡ []
  unfolding Sc.cases_of
  cases_past l = get_or-eq_default (P.parse b).unions [] (omega (arith, unions-length b))

  pub table_past : P.table_count b ≤ i → Sc.table_of (P.parse b) i ≡ record { id = 0; members = [] }
  unfolding Sc.table_of
  table_past l = get_or-eq_default (P.parse b).tables _ (omega (arith, tables-length b))
