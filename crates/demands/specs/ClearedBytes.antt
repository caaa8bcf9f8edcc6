-- A schema in which only the in-place flag of its unions is cleared (02, K12), as bytes: what is the same in it, place by place, and that
-- it is read as the first with those flags cleared.
use Rattle.std.specs.Prelude.{◌≡◌, Bool, true, ◌&&◌, length, ltb}
use Rattle.std.proofs.Math.Path.{refl, sym, ap, ap₂, subst}
use Rattle.std.proofs.Common.{◌∙◌, arith, ltb-true, eqb-true, ne_eqb}
use Rattle.std.proofs.Math.Bool.{false}
use mathlib.Core.List.{List, map}
use Prim.Native.Nat.{ℕ, zero, suc, ◌+◌, ◌*◌, ◌-◌, ◌/◌, ◌%◌, ◌<◌, ◌≤◌}
use Rattle.std.proofs.Math.Nat.{add-zero}
use Rattle.std.proofs.Math.ListN.{get_or}
use Rattle.std.proofs.Math.Dec.{eqb}
use Rattle.coding.specs.Lists.{pick, run}
use Rattle.coding.specs.Packed as P
use Rattle.coding.specs.Schema.{Schema}
use Rattle.coding.specs.Moving as M
use Rattle.coding.specs.declared.Member.{Member}
use Rattle.coding.specs.declared.Kind.{Kind}
use Rattle.coding.specs.declared.Kind.TheVariants.{OfFlat, OfObject, OfUnion}
use Rattle.laws.specs.Lists.{never, run-same, map-run}
use Rattle.laws.specs.Blocks.{blocks_ge, block-end}
use Rattle.laws.specs.MemberPlaces.{tables_start, cleared-member, cleared-other, before-tables, table_head, table_argument, without-length, without_at}
use Rattle.demands.specs.ClearedSchema.{is_union, cleared_member, cleared_table, cleared_schema}

-- ---- what is the same, place by place
pub record Cleared (b c : List ℕ) : Type 0 where
  pub long : length c ≡ length b
  -- before the tables; a table's id and count; the second byte of each record; and the first
  pub before : (p : ℕ) → p < tables_start b → get_or c p 0 ≡ get_or b p 0
  pub head : (i k : ℕ) → k < 5 → get_or c (P.table_place b i + k) 0 ≡ get_or b (P.table_place b i + k) 0
  pub argument : (i j : ℕ) → j < P.records b 4 (P.table_place b i)
      → get_or c (P.record_place 4 (P.table_place b i) j + 1) 0 ≡ get_or b (P.record_place 4 (P.table_place b i) j + 1) 0
  pub first : (i j : ℕ) → i < P.table_count b → j < P.records b 4 (P.table_place b i)
      → get_or c (P.record_place 4 (P.table_place b i) j) 0
      ≡ pick (M.inplace_union b (P.record_place 4 (P.table_place b i) j))
      (M.flag_cleared (get_or b (P.record_place 4 (P.table_place b i) j) 0)) (get_or b (P.record_place 4 (P.table_place b i) j) 0)

pub is_cleared : (b : List ℕ) → Cleared b (M.without_inplace_unions b)
is_cleared b =
    record {
      long = without-length b;
      before = λ p l. without_at b p ∙ cleared-other b p (before-tables b p l);
      head = λ i k l. without_at b (P.table_place b i + k) ∙ cleared-other b (P.table_place b i + k) (table_head b i k (P.table_place b i + k) l refl);
      argument = λ i j l.
          without_at b (P.record_place 4 (P.table_place b i) j + 1)
          ∙ cleared-other b (P.record_place 4 (P.table_place b i) j + 1) (table_argument b i j (P.record_place 4 (P.table_place b i) j + 1) l refl);
      first = λ i j l m.
          without_at b (P.record_place 4 (P.table_place b i) j)
          ∙ cleared-member b (P.record_place 4 (P.table_place b i) j) (i, (j, (l, (m, refl))));
    }

-- ---- one record: all but the in-place flag, and that is not set anew
pub record SameRecord (b c : List ℕ) (at : ℕ) : Type 0 where
  pub kind : P.kind_at c at ≡ P.kind_at b at
  pub optional : P.optional_at c at ≡ P.optional_at b at
  pub zero_bit : P.zero_at c at ≡ P.zero_at b at
  pub argument : P.argument_at c at ≡ P.argument_at b at
  pub inplace : P.inplace_at c at ≡ true → P.inplace_at b at ≡ true

record_same : (b c : List ℕ) (at : ℕ) → get_or c at 0 ≡ get_or b at 0 → get_or c (at + 1) 0 ≡ get_or b (at + 1) 0 → SameRecord b c at
unfolding P.kind_at P.optional_at P.zero_at P.argument_at P.inplace_at
record_same b c at e f =
    record {
      kind = ap (λ (x : ℕ). x / 8) e;
      optional = ap (λ (x : ℕ). eqb (x / 4 % 2) 1) e;
      zero_bit = ap (λ (x : ℕ). eqb (x % 2) 0) e;
      argument = f;
      inplace = λ h. ap (λ (x : ℕ). eqb (x / 2 % 2) 1) (sym e) ∙ h;
    }

-- of a byte with a union's kind and the in-place bit, that bit alone goes
module _ (x y : ℕ) (e : y ≡ pick (eqb (x / 8) 17 && eqb (x / 2 % 2) 1) (x - 2) x) where
  byte_by : (k i : Bool) → eqb (x / 8) 17 ≡ k → eqb (x / 2 % 2) 1 ≡ i → y ≡ pick (k && i) (x - 2) x
      → (y / 8 ≡ x / 8) × ((y / 4 % 2 ≡ x / 4 % 2) × ((y % 2 ≡ x % 2) × (eqb (y / 2 % 2) 1 ≡ pick k false i)))
  byte_by true true k i h =
      let p = eqb-true (x / 8) 17 k in
      let q = eqb-true (x / 2 % 2) 1 i in
      let f : x / 4 ≡ x / 2 / 2 = omega arith in
      let s : y ≡ 4 * (x / 4) + x % 2 = omega arith in
      let r : y / 4 ≡ x / 4 = omega arith in
      let d : y / 2 ≡ 2 * (x / 4) = omega arith in
      (omega arith, (ap (λ (n : ℕ). n % 2) r, (omega arith, ne_eqb (y / 2 % 2) 1 (λ z. omega arith))))
  byte_by true false k i h = rw h (refl, (refl, (refl, i)))
  byte_by false i k j h = rw h (refl, (refl, (refl, j)))

  byte_cleared : (y / 8 ≡ x / 8) × ((y / 4 % 2 ≡ x / 4 % 2) × ((y % 2 ≡ x % 2) × (eqb (y / 2 % 2) 1 ≡ pick (eqb (x / 8) 17) false (eqb (x / 2 % 2) 1))))
  byte_cleared = byte_by (eqb (x / 8) 17) (eqb (x / 2 % 2) 1) refl refl e

flag_kept : (k i j : Bool) → j ≡ pick k false i → j ≡ true → i ≡ true
flag_kept true i j e h = never (sym e ∙ h)
flag_kept false i j e h = sym e ∙ h

schemas-same : (S T : Schema) → S.structs ≡ T.structs → S.lists ≡ T.lists → S.unions ≡ T.unions → S.tables ≡ T.tables
    → S.root ≡ T.root → S ≡ T
schemas-same S T a b c d e =
    ap₂ (λ x y. record { structs = x; lists = y; unions = S.unions; tables = S.tables; root = S.root }) a b
    ∙ ap₂ (λ x y. record { structs = T.structs; lists = T.lists; unions = x; tables = y; root = S.root }) c d
    ∙ ap (λ x. record { structs = T.structs; lists = T.lists; unions = T.unions; tables = T.tables; root = x }) e

-- which kinds are unions
union_kind : (k a : ℕ) → is_union (P.kind_of k a) ≡ eqb k 17
unfolding is_union P.kind_of
union_kind k a = by (ltb k 13) (eqb k 17) refl refl
  where
    by : (t u : Bool) → ltb k 13 ≡ t → eqb k 17 ≡ u → is_union (pick t (OfFlat (P.flat_of k a)) (pick u (OfUnion a) (OfObject (P.object_of k a)))) ≡ u
    by true true l e = let f = ltb-true k 13 l in let g = eqb-true k 17 e in absurd (omega arith)
    by true false l e = refl
    by false true l e = refl
    by false false l e = refl

module _ (b c : List ℕ) (C : Cleared b c) where
  -- ---- the counts
  start-five : 5 ≤ tables_start b
  unfolding P.union_place P.list_place P.struct_place
  start-five =
      omega (arith, blocks_ge b 0 5 (P.struct_count b), blocks_ge b 0 (P.list_place b (P.list_count b)) (P.union_count b))

  pub structs_same : P.struct_count c ≡ P.struct_count b
  structs_same = C.before 0 (omega (arith, start-five))

  pub lists-same : P.list_count c ≡ P.list_count b
  lists-same = C.before 1 (omega (arith, start-five))

  pub unions-same : P.union_count c ≡ P.union_count b
  unions-same = C.before 2 (omega (arith, start-five))

  pub tables-same : P.table_count c ≡ P.table_count b
  tables-same = C.before 3 (omega (arith, start-five))

  pub root-same : P.root_index c ≡ P.root_index b
  root-same = C.before 4 (omega (arith, start-five))

  -- ---- the places
  blocks-same : (head start n : ℕ)
      → ((i : ℕ) → i < n → get_or c (P.blocks b head start i + head) 0 ≡ get_or b (P.blocks b head start i + head) 0)
      → (i : ℕ) → i ≤ n → P.blocks c head start i ≡ P.blocks b head start i
  unfolding P.blocks P.records
  blocks-same head start n h zero l = refl
  blocks-same head start n h (suc i) l =
      let e = blocks-same head start n h i (omega arith) in
      ap (λ (p : ℕ). P.record_place head p (get_or c (p + head) 0)) e
      ∙ ap (P.record_place head (P.blocks b head start i)) (h i (omega arith))

  -- the structs end before the lists, the lists before the unions, and these before the tables
  lists-before : P.list_place b (P.list_count b) ≤ tables_start b
  unfolding P.union_place
  lists-before = blocks_ge b 0 (P.list_place b (P.list_count b)) (P.union_count b)

  struct-within : (i j : ℕ) → i < P.struct_count b → j ≤ P.records b 0 (P.struct_place b i)
      → P.record_place 0 (P.struct_place b i) j ≤ tables_start b
  unfolding P.record_place P.struct_place P.list_place
  struct-within i j l m = omega (arith, block-end b 0 5 (P.struct_count b) i l, lists-before)

  union-within : (i j : ℕ) → i < P.union_count b → j ≤ P.records b 0 (P.union_place b i)
      → P.record_place 0 (P.union_place b i) j ≤ tables_start b
  unfolding P.record_place P.union_place
  union-within i j l m = omega (arith, block-end b 0 (P.list_place b (P.list_count b)) (P.union_count b) i l)

  list-within : (i : ℕ) → i < P.list_count b → P.list_place b i + 2 ≤ tables_start b
  unfolding P.list_place
  list-within i l = omega (arith, lists-before)

  pub struct-place : (i : ℕ) → i ≤ P.struct_count b → P.struct_place c i ≡ P.struct_place b i
  unfolding P.struct_place
  struct-place i l =
      blocks-same 0 5 (P.struct_count b)
      (λ k m. C.before (P.blocks b 0 5 k + 0) (unfold P.struct_place P.record_place in omega (arith, struct-within k 0 m (omega arith)))) i l

  pub list-place : (i : ℕ) → P.list_place c i ≡ P.list_place b i
  unfolding P.list_place
  list-place i =
      ap (λ (p : ℕ). p + 2 * i) (ap (P.struct_place c) structs_same ∙ struct-place (P.struct_count b) (omega arith))

  pub union-place : (i : ℕ) → i ≤ P.union_count b → P.union_place c i ≡ P.union_place b i
  unfolding P.union_place
  union-place i l =
      ap (λ (p : ℕ). P.blocks c 0 p i) (ap (P.list_place c) lists-same ∙ list-place (P.list_count b))
      ∙ blocks-same 0 (P.list_place b (P.list_count b)) (P.union_count b)
      (λ k m. C.before (P.blocks b 0 (P.list_place b (P.list_count b)) k + 0)
      (unfold P.union_place P.record_place in omega (arith, union-within k 0 m (omega arith)))) i l

  pub table-place : (i : ℕ) → i ≤ P.table_count b → P.table_place c i ≡ P.table_place b i
  unfolding P.table_place
  table-place i l =
      ap (λ (p : ℕ). P.blocks c 4 p i) (ap (P.union_place c) unions-same ∙ union-place (P.union_count b) (omega arith))
      ∙ blocks-same 4 (tables_start b) (P.table_count b) (λ k m. unfold P.table_place in C.head k 4 (omega arith)) i l

  -- ---- the numbers of records
  pub struct-records : (i : ℕ) → i < P.struct_count b → P.records c 0 (P.struct_place b i) ≡ P.records b 0 (P.struct_place b i)
  unfolding P.records
  struct-records i l = C.before (P.struct_place b i + 0) (unfold P.record_place in omega (arith, struct-within i 0 l (omega arith)))

  pub union-records : (i : ℕ) → i < P.union_count b → P.records c 0 (P.union_place b i) ≡ P.records b 0 (P.union_place b i)
  unfolding P.records
  union-records i l = C.before (P.union_place b i + 0) (unfold P.record_place in omega (arith, union-within i 0 l (omega arith)))

  pub table-records : (i : ℕ) → P.records c 4 (P.table_place b i) ≡ P.records b 4 (P.table_place b i)
  unfolding P.records
  table-records i = C.head i 4 (omega arith)

  -- ---- the records
  early_record : (at : ℕ) → at + 2 ≤ tables_start b → SameRecord b c at
  early_record at l = record_same b c at (C.before at (omega arith)) (C.before (at + 1) (omega arith))

  pub struct_record : (i j : ℕ) → i < P.struct_count b → j < P.records b 0 (P.struct_place b i)
      → SameRecord b c (P.record_place 0 (P.struct_place b i) j)
  unfolding P.record_place
  struct_record i j l m =
      early_record (P.record_place 0 (P.struct_place b i) j) (omega (arith, struct-within i (suc j) l (omega arith)))

  pub union_record : (i j : ℕ) → i < P.union_count b → j < P.records b 0 (P.union_place b i)
      → SameRecord b c (P.record_place 0 (P.union_place b i) j)
  unfolding P.record_place
  union_record i j l m =
      early_record (P.record_place 0 (P.union_place b i) j) (omega (arith, union-within i (suc j) l (omega arith)))

  pub list_record : (i : ℕ) → i < P.list_count b → SameRecord b c (P.list_place b i)
  list_record i l = early_record (P.list_place b i) (list-within i l)

  module _ (i j : ℕ) (l : i < P.table_count b) (m : j < P.records b 4 (P.table_place b i)) where
    abbrev at : ℕ
    at = P.record_place 4 (P.table_place b i) j

    member_flag : P.inplace_at c at ≡ pick (eqb (P.kind_at b at) 17) false (P.inplace_at b at)
    unfolding P.inplace_at P.kind_at
    member_flag = (byte_cleared (get_or b at 0) (get_or c at 0) (unfold M.inplace_union M.flag_cleared P.inplace_at P.kind_at in C.first i j l m)).1.1.1

    pub member_record : SameRecord b c at
    unfolding P.kind_at P.optional_at P.zero_at P.argument_at
    member_record =
        let e = byte_cleared (get_or b at 0) (get_or c at 0) (unfold M.inplace_union M.flag_cleared P.inplace_at P.kind_at in C.first i j l m) in
        record {
          kind = e.0;
          optional = ap (λ (x : ℕ). eqb x 1) e.1.0;
          zero_bit = ap (λ (x : ℕ). eqb x 0) e.1.1.0;
          argument = C.argument i j m;
          inplace = flag_kept (eqb (P.kind_at b at) 17) (P.inplace_at b at) (P.inplace_at c at) member_flag;
        }

    pub member-at : P.member_at c at ≡ cleared_member (P.member_at b at)
    unfolding P.member_at P.element_at cleared_member
    member-at =
        let r = member_record in
        let e : P.kind_of (P.kind_at c at) (P.argument_at c at) ≡ P.kind_of (P.kind_at b at) (P.argument_at b at) =
        ap₂ P.kind_of r.kind r.argument in
        let f : P.inplace_at c at ≡ pick (is_union (P.kind_of (P.kind_at b at) (P.argument_at b at))) false (P.inplace_at b at) =
        member_flag ∙ ap (λ (t : Bool). pick t false (P.inplace_at b at)) (sym (union_kind (P.kind_at b at) (P.argument_at b at))) in
        ap₂ (λ (k : Kind) (t : Bool). record { kind = k; optional = t; inplace = P.inplace_at c at }) e r.optional
        ∙ ap (λ (t : Bool). record { kind = P.kind_of (P.kind_at b at) (P.argument_at b at); optional = P.optional_at b at; inplace = t }) f

  -- ---- the schema that the bytes give
  flat-at : (at : ℕ) → SameRecord b c at → P.flat_at c at ≡ P.flat_at b at
  unfolding P.flat_at
  flat-at at h = ap₂ P.flat_of h.kind h.argument

  object-at : (at : ℕ) → SameRecord b c at → P.object_at c at ≡ P.object_at b at
  unfolding P.object_at
  object-at at h = ap₂ P.object_of h.kind h.argument

  element-at : (at : ℕ) → SameRecord b c at → P.element_at c at ≡ P.element_at b at
  unfolding P.element_at
  element-at at h = ap₂ P.kind_of h.kind h.argument

  -- the records of a block, each read the same
  records-same : {A : Type 0} (f : List ℕ → ℕ → A) (head at : ℕ) → P.records c head at ≡ P.records b head at
      → ((j : ℕ) → j < P.records b head at → f c (P.record_place head at j) ≡ f b (P.record_place head at j))
      → P.records_at f c head at ≡ P.records_at f b head at
  unfolding P.records_at
  records-same f head at e h =
      ap (run (λ j. f c (P.record_place head at j)) 0) e
      ∙ run-same (λ j. f c (P.record_place head at j)) (λ j. f b (P.record_place head at j)) (P.records b head at) h

  structs_are : (P.parse c).structs ≡ (P.parse b).structs
  unfolding P.parse
  structs_are =
      ap (run (λ i. P.records_at P.flat_at c 0 (P.struct_place c i)) 0) structs_same
      ∙ run-same (λ i. P.records_at P.flat_at c 0 (P.struct_place c i)) (λ i. P.records_at P.flat_at b 0 (P.struct_place b i)) (P.struct_count b)
      (λ i l. ap (P.records_at P.flat_at c 0) (struct-place i (omega arith))
      ∙ records-same P.flat_at 0 (P.struct_place b i) (struct-records i l)
      (λ j m. flat-at (P.record_place 0 (P.struct_place b i) j) (struct_record i j l m)))

  lists_are : (P.parse c).lists ≡ (P.parse b).lists
  unfolding P.parse
  lists_are =
      ap (run (λ i. P.element_at c (P.list_place c i)) 0) lists-same
      ∙ run-same (λ i. P.element_at c (P.list_place c i)) (λ i. P.element_at b (P.list_place b i)) (P.list_count b)
      (λ i l. ap (P.element_at c) (list-place i) ∙ element-at (P.list_place b i) (list_record i l))

  unions_are : (P.parse c).unions ≡ (P.parse b).unions
  unfolding P.parse
  unions_are =
      ap (run (λ i. P.records_at P.object_at c 0 (P.union_place c i)) 0) unions-same
      ∙ run-same (λ i. P.records_at P.object_at c 0 (P.union_place c i)) (λ i. P.records_at P.object_at b 0 (P.union_place b i)) (P.union_count b)
      (λ i l. ap (P.records_at P.object_at c 0) (union-place i (omega arith))
      ∙ records-same P.object_at 0 (P.union_place b i) (union-records i l)
      (λ j m. object-at (P.record_place 0 (P.union_place b i) j) (union_record i j l m)))

  pub id_same : (i : ℕ) → P.id_at c (P.table_place b i) ≡ P.id_at b (P.table_place b i)
  unfolding P.id_at
  id_same i =
      let z = add-zero (P.table_place b i) in
      let e : get_or c (P.table_place b i) 0 ≡ get_or b (P.table_place b i) 0 = subst (λ (p : ℕ). get_or c p 0 ≡ get_or b p 0) z (C.head i 0 (omega arith)) in
      ap₂ (λ (x y : ℕ). ((x * 256 + y) * 256 + get_or c (P.table_place b i + 2) 0) * 256 + get_or c (P.table_place b i + 3) 0) e (C.head i 1 (omega arith))
      ∙ ap₂ (λ (x y : ℕ). ((get_or b (P.table_place b i) 0 * 256 + get_or b (P.table_place b i + 1) 0) * 256 + x) * 256 + y)
      (C.head i 2 (omega arith)) (C.head i 3 (omega arith))

  table-at : (i : ℕ) → i < P.table_count b → P.table_at c (P.table_place c i) ≡ cleared_table (P.table_at b (P.table_place b i))
  unfolding P.table_at P.records_at cleared_table
  table-at i l =
      let at = P.table_place b i in
      ap (P.table_at c) (table-place i (omega arith))
      ∙ ap₂ (λ (x : ℕ) (rs : List Member). record { id = x; members = rs }) (id_same i)
      (ap (run (λ j. P.member_at c (P.record_place 4 at j)) 0) (table-records i)
      ∙ run-same (λ j. P.member_at c (P.record_place 4 at j)) (λ j. cleared_member (P.member_at b (P.record_place 4 at j))) (P.records b 4 at)
      (λ j m. member-at i j l m)
      ∙ sym (map-run cleared_member (λ j. P.member_at b (P.record_place 4 at j)) (P.records b 4 at)))

  tables_are : (P.parse c).tables ≡ map cleared_table (P.parse b).tables
  unfolding P.parse
  tables_are =
      ap (run (λ i. P.table_at c (P.table_place c i)) 0) tables-same
      ∙ run-same (λ i. P.table_at c (P.table_place c i)) (λ i. cleared_table (P.table_at b (P.table_place b i))) (P.table_count b) table-at
      ∙ sym (map-run cleared_table (λ i. P.table_at b (P.table_place b i)) (P.table_count b))

  root_is : (P.parse c).root ≡ (P.parse b).root
  unfolding P.parse
  root_is = root-same

  pub reads_cleared : P.parse c ≡ cleared_schema (P.parse b)
  unfolding cleared_schema
  reads_cleared = schemas-same (P.parse c) (cleared_schema (P.parse b)) structs_are lists_are unions_are tables_are root_is

-- THE CLAIM: a schema in which only the in-place flag of its unions is cleared is read as the first with those flags cleared;
pub cleared-parse : (b : List ℕ) → P.parse (M.without_inplace_unions b) ≡ cleared_schema (P.parse b)
cleared-parse b = reads_cleared b (M.without_inplace_unions b) (is_cleared b)

-- its bytes are bytes
pub cleared_bytes : (b : List ℕ) → ((i : ℕ) → get_or b i 0 < 256) → (i : ℕ) → get_or (M.without_inplace_unions b) i 0 < 256
unfolding M.cleared_byte M.flag_cleared
cleared_bytes b h i = rw (without_at b i) (by (M.member_starts b i && M.inplace_union b i))
  where
    by : (t : Bool) → pick t (M.flag_cleared (get_or b i 0)) (get_or b i 0) < 256
    by true = omega (arith, h i)
    by false = h i
