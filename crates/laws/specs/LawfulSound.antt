-- A lawful schema is sound: what the rules say of the packed bytes holds of the typed schema.
use Rattle.std.specs.Prelude.{◌≡◌, true, List, ℕ, ◌+◌, ◌^◌, ◌<◌, ◌≤◌, length, get_or}
use Rattle.std.proofs.Common.{arith}
use Rattle.coding.specs.Bytes as B
use Rattle.coding.specs.Packed as P
use Rattle.coding.specs.Lawful as L
use Rattle.coding.specs.Schema as Sc
use Rattle.coding.specs.Structs.{struct_size, by_index, size_by, total}
use Rattle.coding.specs.declared.Role.TheVariants.{InStruct, InUnion, InTable}
use Rattle.laws.specs.Sound.{All, FlatSound, ObjectSound, MemberSound, inplace_count, TableSound, StructSound, UnionSound, ListSound, Sound, NoDirects}
use Rattle.laws.specs.Parsed as Pa
use Rattle.laws.specs.Rules as R
use Rattle.laws.specs.DirectRules.{records_all, inplaces_are, either, older_no-directs}
use Rattle.laws.specs.RecordSound.{list_sound, case_sound, field_sound, member_sound}
use Rattle.laws.specs.Sizes.{sizes_some}

module _ (b : List ℕ) (bytes : (i : ℕ) → get_or b i 0 < 256) (e : L.well_formed b ≡ true) where
  -- ---- structs
  fields_in : (i : ℕ) → i < P.struct_count b → All (FlatSound i) (Sc.struct_of (P.parse b) i)
  fields_in i l =
      rw (Pa.struct_at b i l)
      (records_all (FlatSound i) P.flat_at b 0 (P.struct_place b i)
      (λ j m. field_sound b bytes (P.record_place 0 (P.struct_place b i) j) i (R.record-of_block b (InStruct i) 0 (P.struct_place b i) j (R.struct_ok b e i l) m)))

  struct_in : (i : ℕ) → i < P.struct_count b → StructSound (P.parse b) i
  struct_in i l =
      record {
        few = omega (arith, Pa.struct-length b i l, (R.struct-records b e i l).1);
        members = fields_in i l;
        size = R.struct_small b e i l;
        some = λ m.
            sizes_some (P.parse b) (P.struct_count b)
            (λ j n. (fields_in j n, omega (arith, Pa.struct-length b j n, (R.struct-records b e j n).0))) i l;
      }

  no_size : (i : ℕ) → P.struct_count b ≤ i → struct_size (P.parse b) i ≡ 0
  unfolding struct_size by_index size_by total
  no_size i l = rw (Pa.struct_past b i l)

  struct_past : (i : ℕ) → P.struct_count b ≤ i → StructSound (P.parse b) i
  struct_past i l =
      record {
        few = rw (Pa.struct_past b i l) (omega arith);
        members = rw (Pa.struct_past b i l) tt;
        size = omega (arith, no_size i l);
        some = λ m. absurd (omega (arith, Pa.structs-length b));
      }

  -- ---- lists
  list_in : (i : ℕ) → i < P.list_count b → ListSound (P.parse b) i
  list_in i l =
      let h = list_sound b bytes (P.list_place b i) (R.list_ok b e i l) in
      record { kind = rw (Pa.element-at b i l) h.0; scalar = rw (Pa.element-at b i l) h.1 }

  list_past : (i : ℕ) → P.list_count b ≤ i → ListSound (P.parse b) i
  unfolding Sc.plain_bool
  list_past i l = record { kind = rw (Pa.element_past b i l) tt; scalar = rw (Pa.element_past b i l) tt }

  -- ---- unions
  union_in : (i : ℕ) → i < P.union_count b → UnionSound (P.parse b) i
  union_in i l =
      record {
        few = omega (arith, Pa.cases-length b i l, (R.union-records b e i l).1);
        cases =
            rw (Pa.cases-at b i l)
            (records_all (ObjectSound (P.parse b)) P.object_at b 0 (P.union_place b i)
            (λ j m. case_sound b bytes (P.record_place 0 (P.union_place b i) j) (R.record-of_block b InUnion 0 (P.union_place b i) j (R.union_ok b e i l) m)));
      }

  union_past : (i : ℕ) → P.union_count b ≤ i → UnionSound (P.parse b) i
  union_past i l = record { few = rw (Pa.cases_past b i l) (omega arith); cases = rw (Pa.cases_past b i l) tt }

  -- ---- tables
  id_small : (at : ℕ) → P.id_at b at < 2 ^ 32
  unfolding P.id_at
  id_small at = omega (arith, bytes at, bytes (at + 1), bytes (at + 2), bytes (at + 3))

  table_in : (i : ℕ) → i < P.table_count b → TableSound (P.parse b) i
  table_in i l =
      record {
        id = rw (Pa.id-at b i l) (id_small (P.table_place b i));
        few = omega (arith, Pa.members-length b i l, (R.table-records b e i l).1);
        members =
            rw (Pa.members-at b i l)
            (records_all (MemberSound (P.parse b)) P.member_at b 4 (P.table_place b i)
            (λ j m. member_sound b bytes (P.record_place 4 (P.table_place b i) j) (R.record-of_block b InTable 4 (P.table_place b i) j (R.table_ok b e i l) m)));
        one = rw (Pa.members-at b i l) (omega (arith, inplaces_are b (P.table_place b i), R.table-inplaces b e i l));
      }

  table_past : (i : ℕ) → P.table_count b ≤ i → TableSound (P.parse b) i
  unfolding inplace_count
  table_past i l =
      record {
        id = rw (Pa.table_past b i l) (omega arith);
        few = rw (Pa.table_past b i l) (omega arith);
        members = rw (Pa.table_past b i l) tt;
        one = rw (Pa.table_past b i l) (omega arith);
      }

  root_in : (P.parse b).root < length (P.parse b).tables
  unfolding P.parse
  root_in = omega (arith, (R.lawful_counts b e).root, Pa.tables-length b)

  pub formed_sound : Sound (P.parse b)
  formed_sound =
      record {
        root = root_in;
        few_tables = omega (arith, (R.lawful_counts b e).tables, Pa.tables-length b);
        structs = λ i. either i (P.struct_count b) (struct_in i) (struct_past i);
        lists = λ i. either i (P.list_count b) (list_in i) (list_past i);
        unions = λ i. either i (P.union_count b) (union_in i) (union_past i);
        tables = λ i. either i (P.table_count b) (table_in i) (table_past i);
      }

pub lawful_sound : (o : ℕ) (b : List ℕ) → ((i : ℕ) → get_or b i 0 < 256) → L.lawful o b ≡ true → Sound (P.parse b)
lawful_sound o b bytes e = formed_sound b bytes (R.lawful_formed o b e)

-- under the older coding there is no direct list
pub lawful_no-directs : (b : List ℕ) → L.lawful B.u32 b ≡ true → NoDirects (P.parse b)
lawful_no-directs b e = older_no-directs b (R.lawful-older b e)
