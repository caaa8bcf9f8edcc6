-- A schema in which only the in-place flag of its unions is cleared (02, K12) is lawful under the coding of 000 if the first is: no other
-- bit differs, and what 02, K1 asks of direct lists can only become weaker.
use Rattle.std.specs.Prelude.{◌≡◌, refl, Bool, false, ◌&&◌, List, length, ltb, leb, eqb}
use Rattle.std.proofs.Math.Path.{sym, ap, ap₂}
use Rattle.std.proofs.Common.{◌∙◌, subst}
use Rattle.std.proofs.Math.Bool.{true, not}
use Prim.Native.Nat.{ℕ, zero, suc, ◌<◌, ◌≤◌}
use native.Mathlib.Omega.{arith}
use borrow.Author.Tests.{ltb-true, eqb-true, le-leb, eq-eqb}
use Rattle.coding.specs.Lists.{pick, every}
use Rattle.coding.specs.Bytes.{u48}
use Rattle.coding.specs.Packed as P
use Rattle.coding.specs.Lawful as L
use Rattle.coding.specs.Structs.{struct_size, size_by}
use Rattle.coding.specs.Schema.{Schema, struct_of}
use Rattle.coding.specs.Moving as M
use Rattle.coding.specs.declared.Role.{Role}
use Rattle.coding.specs.declared.Role.TheVariants.{InStruct, InList, InUnion, InTable}
use Rattle.laws.specs.Lists.{both_left, both_right, every_all, every-at}
use Rattle.laws.specs.Rules as R
use Rattle.demands.specs.ClearedSchema.{cleared_schema}
use Rattle.demands.specs.ClearedBytes.{Cleared, is_cleared, SameRecord, structs_same, lists-same, unions-same, tables-same, root-same, struct-place, list-place, union-place, table-place, struct-records, union-records, table-records, struct_record, union_record, list_record, member_record, id_same, reads_cleared}

one_less : (t u : Bool) → (t ≡ true → u ≡ true) → pick t 1 0 ≤ pick u 1 0
one_less true u h = rw (h refl) (omega arith)
one_less false u h = omega arith

both_true : (a b : Bool) → a ≡ true → b ≡ true → (a && b) ≡ true
both_true a b e f = rw e f

within : (low high x y : ℕ) → x ≡ y → (low ≤ y) × (y ≤ high) → L.between low high x ≡ true
within low high x y e h = rw (e, le-leb low y h.0) (le-leb y high h.1)

-- a rule of what is set holds where less is set
rule_weaker : (t u x : Bool) → (t ≡ true → u ≡ true) → pick u x true ≡ true → pick t x true ≡ true
rule_weaker true u x h e = rw (h refl) at e
rule_weaker false u x h e = refl

module _ (b c : List ℕ) (C : Cleared b c) where
  -- ---- what a rule asks of one record, or of a block
  argument-same : (k a : ℕ) → L.argument_ok c k a ≡ L.argument_ok b k a
  unfolding L.argument_ok
  argument-same k a = rw (structs_same b c C, lists-same b c C, unions-same b c C, tables-same b c C)

  inplaces_less : (i : ℕ) → i < P.table_count b → (n : ℕ) → n ≤ P.records b 4 (P.table_place b i)
      → L.inplaces c (P.table_place b i) n ≤ L.inplaces b (P.table_place b i) n
  unfolding L.inplaces
  inplaces_less i l zero m = omega arith
  inplaces_less i l (suc n) m =
      let at = P.record_place 4 (P.table_place b i) n in
      omega (arith, inplaces_less i l n (omega arith), one_less (P.inplace_at c at) (P.inplace_at b at) (member_record b c C i n l (omega arith)).inplace)

  direct-table : (t : ℕ) → t < P.table_count b → L.direct_table b (P.table_place b t) ≡ true → L.direct_table c (P.table_place c t) ≡ true
  unfolding L.direct_table
  direct-table t l e =
      let n = P.records b 4 (P.table_place b t) in
      let z : L.inplaces b (P.table_place b t) n ≡ 0 = eqb-true (L.inplaces b (P.table_place b t) n) 0 (both_right (ltb 0 n) _ e) in
      let y : L.inplaces c (P.table_place b t) n ≡ 0 = omega (arith, inplaces_less t l n (omega arith)) in
      rw (table-place b c C t (omega arith), table-records b c C t, both_left (ltb 0 n) (eqb (L.inplaces b (P.table_place b t) n) 0) e)
      (eq-eqb (L.inplaces c (P.table_place b t) n) 0 y)

  held-union : (u : ℕ) → u < P.union_count b → L.held_union b (P.union_place b u) ≡ true → L.held_union c (P.union_place c u) ≡ true
  unfolding L.held_union
  held-union u l e =
      let at = P.union_place b u in
      rw (union-place b c C u (omega arith), union-records b c C u l)
      (every_all (λ j. not (eqb (P.kind_at c (P.record_place 0 at j)) 18)) (P.records b 0 at)
      (λ j m. ap (λ (k : ℕ). not (eqb k 18)) (union_record b c C u j l m).kind
      ∙ every-at (λ j. not (eqb (P.kind_at b (P.record_place 0 at j)) 18)) (P.records b 0 at) j e m))

  -- what 02, K1 asks of a record, of kind k with argument a, in place or not: i before and j now
  held_stays : (a : ℕ) (i j : Bool) → (j ≡ true → i ≡ true) → a < P.union_count b
      → pick i (L.held_union b (P.union_place b a)) true ≡ true → pick j (L.held_union c (P.union_place c a)) true ≡ true
  held_stays a i true f l e = held-union a l (rw (f refl) at e)
  held_stays a i false f l e = refl

  direct_stays : (k a : ℕ) (i j : Bool) → (j ≡ true → i ≡ true) → L.argument_ok b k a ≡ true
      → pick (eqb k 18) (L.direct_table b (P.table_place b a)) (pick (eqb k 17 && i) (L.held_union b (P.union_place b a)) true) ≡ true
      → pick (eqb k 18) (L.direct_table c (P.table_place c a)) (pick (eqb k 17 && j) (L.held_union c (P.union_place c a)) true) ≡ true
  direct_stays k a i j f e d = by (eqb k 18) (eqb k 17) refl refl d
    where
      table_index : L.argument_ok b 18 a ≡ true → a < P.table_count b
      table_index g = ltb-true a (P.table_count b) (unfold L.argument_ok in g)

      union_index : L.argument_ok b 17 a ≡ true → a < P.union_count b
      union_index g = ltb-true a (P.union_count b) (unfold L.argument_ok in g)

      by : (s t : Bool) → eqb k 18 ≡ s → eqb k 17 ≡ t
          → pick s (L.direct_table b (P.table_place b a)) (pick (t && i) (L.held_union b (P.union_place b a)) true) ≡ true
          → pick s (L.direct_table c (P.table_place c a)) (pick (t && j) (L.held_union c (P.union_place c a)) true) ≡ true
      by true t h g d = direct-table a (table_index (subst (λ (x : ℕ). L.argument_ok b x a ≡ true) (eqb-true k 18 h) e)) d
      by false true h g d =
          held_stays a i j f (union_index (subst (λ (x : ℕ). L.argument_ok b x a ≡ true) (eqb-true k 17 g) e)) d
      by false false h g d = refl

  module _ (role : Role) (at : ℕ) (same : SameRecord b c at) (ok : L.record_ok b role at ≡ true) where
    direct_ok_lem : L.direct_ok c at ≡ true
    unfolding L.direct_ok
    direct_ok_lem =
        rw (same.kind, same.argument)
        (direct_stays (P.kind_at b at) (P.argument_at b at) (P.inplace_at b at) (P.inplace_at c at) same.inplace
        (R.record_argument b role at ok) (R.record-direct b role at ok))

    flags_ok_lem : L.flags_ok c role at ≡ true
    unfolding L.flags_ok
    flags_ok_lem =
        let k = P.kind_at b at in
        let e = R.record_flags b role at ok in
        let p = pick (P.optional_at b at) (L.optional_ok role k) true in
        let q = pick (P.inplace_at b at) (L.inplace_ok role k) true in
        rw (same.kind, same.optional, both_left p q e)
        (rule_weaker (P.inplace_at c at) (P.inplace_at b at) (L.inplace_ok role k) same.inplace (both_right p q e))

    pub record_stays : L.record_ok c role at ≡ true
    unfolding L.record_ok
    record_stays =
        both_true (P.zero_at c at) _ (same.zero_bit ∙ both_left (P.zero_at b at) _ ok)
        (both_true (L.argument_ok c (P.kind_at c at) (P.argument_at c at)) _
        (ap₂ (L.argument_ok c) same.kind same.argument ∙ argument-same (P.kind_at b at) (P.argument_at b at) ∙ R.record_argument b role at ok)
        (both_true (L.kind_ok role (P.kind_at c at) (P.argument_at c at)) _
        (ap₂ (L.kind_ok role) same.kind same.argument ∙ R.record_kind_lem b role at ok)
        (both_true (L.flags_ok c role at) (L.direct_ok c at) flags_ok_lem direct_ok_lem)))

  records_stay : (role : Role) (head at : ℕ) → P.records c head at ≡ P.records b head at
      → ((j : ℕ) → j < P.records b head at → SameRecord b c (P.record_place head at j)) → L.records_ok b role head at ≡ true
      → L.records_ok c role head at ≡ true
  unfolding L.records_ok L.first_ok
  records_stay role head at e same h =
      rw e
      (every_all (λ j. L.record_ok c role (P.record_place head at j)) (P.records b head at)
      (λ j m. record_stays role (P.record_place head at j) (same j m) (R.record-of_block b role head at j (unfold L.records_ok L.first_ok in h) m)))

  -- ---- a schema that is well formed
  module _ (formed : L.well_formed b ≡ true) where
    counts_ok_lem : L.counts_ok c ≡ true
    unfolding L.counts_ok L.shape_ok L.well_formed
    counts_ok_lem =
        rw (structs_same b c C, lists-same b c C, unions-same b c C, tables-same b c C, root-same b c C)
        (both_left (L.counts_ok b) (L.places_ok b) (both_left (L.shape_ok b) (L.rules_ok b) formed))

    places_ok_lem : L.places_ok c ≡ true
    unfolding L.places_ok L.blocks_ok P.struct_place P.union_place P.table_place
    places_ok_lem =
        both_true (L.blocks_ok c 0 1 32 5 (P.struct_count c)) _
        (rw (structs_same b c C)
        (every_all (λ i. L.between 1 32 (P.records c 0 (P.blocks c 0 5 i))) (P.struct_count b)
        (λ i l. within 1 32 _ _ (ap (P.records c 0) (struct-place b c C i (omega arith)) ∙ struct-records b c C i l) (R.struct-records b formed i l))))
        (both_true (L.blocks_ok c 0 1 32 (P.list_place c (P.list_count c)) (P.union_count c)) _
        (rw (unions-same b c C)
        (every_all (λ i. L.between 1 32 (P.records c 0 (P.blocks c 0 (P.list_place c (P.list_count c)) i))) (P.union_count b)
        (λ i l. within 1 32 _ _ (ap (P.records c 0) (union-place b c C i (omega arith)) ∙ union-records b c C i l) (R.union-records b formed i l))))
        (both_true (L.blocks_ok c 4 0 64 (P.union_place c (P.union_count c)) (P.table_count c)) _
        (rw (tables-same b c C)
        (every_all (λ i. L.between 0 64 (P.records c 4 (P.blocks c 4 (P.union_place c (P.union_count c)) i))) (P.table_count b)
        (λ i l. within 0 64 _ _ (ap (P.records c 4) (table-place b c C i (omega arith)) ∙ table-records b c C i) (R.table-records b formed i l))))
        (eq-eqb (P.table_place c (P.table_count c)) (length c)
        (ap (P.table_place c) (tables-same b c C) ∙ table-place b c C (P.table_count b) (omega arith) ∙ R.lawful-end b formed ∙ sym C.long))))

    struct_lawful : (i : ℕ) → i < P.struct_count b → L.struct_lawful c i ≡ true
    unfolding L.struct_lawful
    struct_lawful i l =
        both_true (L.records_ok c (InStruct i) 0 (P.struct_place c i)) _
        (rw (struct-place b c C i (omega arith))
        (records_stay (InStruct i) 0 (P.struct_place b i) (struct-records b c C i l) (λ j m. struct_record b c C i j l m) (R.struct_ok b formed i l)))
        (le-leb (struct_size (P.parse c) i) 4096 (rw size_same (R.struct_small b formed i l)))
      where
        size_same : struct_size (P.parse c) i ≡ struct_size (P.parse b) i
        size_same = ap (λ (S : Schema). struct_size S i) (reads_cleared b c C) ∙ (unfold struct_size size_by struct_of cleared_schema in refl)

    list_lawful : (i : ℕ) → i < P.list_count b → L.list_lawful c i ≡ true
    unfolding L.list_lawful
    list_lawful i l = rw (list-place b c C i) (record_stays InList (P.list_place b i) (list_record b c C i l) (R.list_ok b formed i l))

    union-lawful : (i : ℕ) → i < P.union_count b → L.union_lawful c i ≡ true
    unfolding L.union_lawful
    union-lawful i l =
        rw (union-place b c C i (omega arith))
        (records_stay InUnion 0 (P.union_place b i) (union-records b c C i l) (λ j m. union_record b c C i j l m) (R.union_ok b formed i l))

    table-lawful : (i : ℕ) → i < P.table_count b → L.table_lawful c i ≡ true
    unfolding L.table_lawful
    table-lawful i l =
        let n = P.records b 4 (P.table_place b i) in
        let few : L.inplaces c (P.table_place b i) n ≤ 1 = omega (arith, inplaces_less i l n (omega arith), R.table-inplaces b formed i l) in
        rw (table-place b c C i (omega arith), table-records b c C i)
        (both_true (L.records_ok c InTable 4 (P.table_place b i)) (leb (L.inplaces c (P.table_place b i) n) 1)
        (records_stay InTable 4 (P.table_place b i) (table-records b c C i) (λ j m. member_record b c C i j l m) (R.table_ok b formed i l))
        (le-leb (L.inplaces c (P.table_place b i) n) 1 few))

    id_is : (i : ℕ) → i < P.table_count b → P.id_at c (P.table_place c i) ≡ P.id_at b (P.table_place b i)
    id_is i l = ap (P.id_at c) (table-place b c C i (omega arith)) ∙ id_same b c C i

    id-lawful : (i : ℕ) → i < P.table_count b → L.id_lawful c i ≡ true
    unfolding L.id_lawful L.id_differs
    id-lawful i l =
        every_all (λ j. not (eqb (P.id_at c (P.table_place c i)) (P.id_at c (P.table_place c j)))) i
        (λ j m. ap₂ (λ (x y : ℕ). not (eqb x y)) (id_is i l) (id_is j (omega arith))
        ∙ every-at (λ j. not (eqb (P.id_at b (P.table_place b i)) (P.id_at b (P.table_place b j)))) i j
        (unfold L.id_lawful L.id_differs in R.ids_differ b formed i l) m)

    rules_ok_lem : L.rules_ok c ≡ true
    unfolding L.rules_ok
    rules_ok_lem =
        rw (structs_same b c C, lists-same b c C, unions-same b c C, tables-same b c C)
        (both_true (every (L.struct_lawful c) (P.struct_count b)) _ (every_all (L.struct_lawful c) (P.struct_count b) struct_lawful)
        (both_true (every (L.list_lawful c) (P.list_count b)) _ (every_all (L.list_lawful c) (P.list_count b) list_lawful)
        (both_true (every (L.union_lawful c) (P.union_count b)) _ (every_all (L.union_lawful c) (P.union_count b) union-lawful)
        (both_true (every (L.table_lawful c) (P.table_count b)) _ (every_all (L.table_lawful c) (P.table_count b) table-lawful)
        (every_all (L.id_lawful c) (P.table_count b) id-lawful)))))

    pub stays_formed : L.well_formed c ≡ true
    unfolding L.well_formed L.shape_ok
    stays_formed =
        both_true (L.shape_ok c) (L.rules_ok c) (both_true (L.counts_ok c) (L.places_ok c) counts_ok_lem places_ok_lem) rules_ok_lem

-- THE CLAIM: a schema in which only the in-place flag of its unions is cleared is lawful under the coding of 000 if the first is
pub cleared-lawful : (b : List ℕ) → L.lawful u48 b ≡ true → L.lawful u48 (M.without_inplace_unions b) ≡ true
cleared-lawful b h =
    R.lawful_48 (M.without_inplace_unions b)
    ∙ stays_formed b (M.without_inplace_unions b) (is_cleared b) (sym (R.lawful_48 b) ∙ h)
