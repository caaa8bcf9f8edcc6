-- The packed bytes of a schema. Reading past the end gives 0, so that `parse` is total; what it gives has a meaning for
-- lawful bytes only.
use Rattle.std.specs.Prelude.{ℕ, zero, suc, ◌+◌, ◌*◌, ◌/◌, ◌%◌, List, [], ◌∷◌, Bool, true, false, get_or, ltb, eqb}
use Rattle.coding.specs.Lists.{pick, run}
use Rattle.coding.specs.Schema.{Schema, Table}
use Rattle.coding.specs.declared.Flat.{Flat}
use Rattle.coding.specs.declared.Flat.TheVariants.{Boolean, Integer, Float, Enumerated, Struct}
use Rattle.coding.specs.declared.Object.{Object}
use Rattle.coding.specs.declared.Object.TheVariants as O
use Rattle.coding.specs.declared.Kind.{Kind}
use Rattle.coding.specs.declared.Kind.TheVariants.{OfFlat, OfObject, OfUnion}
use Rattle.coding.specs.declared.Member.{Member}

-- ---- "Four 8-bit counts: structs, lists, unions (0 to 64 each), tables (1 to 64). 8-bit root table index.": the first
-- five bytes
-- "structs"
abbrev pub struct_count : List ℕ → ℕ
struct_count b = get_or b 0 0

-- "lists"
abbrev pub list_count : List ℕ → ℕ
list_count b = get_or b 1 0

-- "unions"
abbrev pub union_count : List ℕ → ℕ
union_count b = get_or b 2 0

-- "tables"
abbrev pub table_count : List ℕ → ℕ
table_count b = get_or b 3 0

-- "8-bit root table index"
abbrev pub root_index : List ℕ → ℕ
root_index b = get_or b 4 0

-- ---- "Record, 16 bits: kind 5, optional 1, in place 1, zero 1, argument 8.", "packed most significant bit first": the
-- record at a place
-- "kind 5"
unfoldable pub kind_at : List ℕ → ℕ → ℕ
kind_at b at = get_or b at 0 / 8

-- "optional 1"
unfoldable pub optional_at : List ℕ → ℕ → Bool
optional_at b at = eqb (get_or b at 0 / 4 % 2) 1

-- "in place 1"
unfoldable pub inplace_at : List ℕ → ℕ → Bool
inplace_at b at = eqb (get_or b at 0 / 2 % 2) 1

-- "zero 1": whether that bit is 0
unfoldable pub zero_at : List ℕ → ℕ → Bool
zero_at b at = eqb (get_or b at 0 % 2) 0

-- "argument 8": the second byte
unfoldable pub argument_at : List ℕ → ℕ → ℕ
argument_at b at = get_or b (at + 1) 0

-- the bytes of a value of kind 0 to 10: "0 bool, 1 to 4 U8 U16 U32 U64, 5 to 8 I8 I16 I32 I64, 9 F32, 10 F64"
unfoldable pub width_of : ℕ → ℕ
width_of k = get_or (1 ∷ 1 ∷ 2 ∷ 4 ∷ 8 ∷ 1 ∷ 2 ∷ 4 ∷ 8 ∷ 4 ∷ 8 ∷ []) k 0

-- "Kinds: 0 bool, 1 to 4 U8 U16 U32 U64, 5 to 8 I8 I16 I32 I64, 9 F32, 10 F64, 11 enum (argument 1 to 255, the number of
-- values), 12 struct": what kind k with argument a is, of these
unfoldable pub flat_of : ℕ → ℕ → Flat
flat_of k a =
    pick (eqb k 0) Boolean
    (pick (ltb k 5) (Integer false (width_of k))
    (pick (ltb k 9) (Integer true (width_of k))
    (pick (ltb k 11) (Float (width_of k))
    (pick (eqb k 11) (Enumerated a) (Struct a)))))

-- "13 text, 14 bytes, 15 list, 16 table": the same of these; 02, K1: "kind 18, argument a table"
unfoldable pub object_of : ℕ → ℕ → Object
object_of k a =
    pick (eqb k 13) O.Text
    (pick (eqb k 14) O.Bytes (pick (eqb k 15) (O.List a) (pick (eqb k 18) (O.DirectList a) (O.Table a))))

-- the same of all kinds, with "17 union"
unfoldable pub kind_of : ℕ → ℕ → Kind
kind_of k a = pick (ltb k 13) (OfFlat (flat_of k a)) (pick (eqb k 17) (OfUnion a) (OfObject (object_of k a)))

-- the record at a place as a struct's member: "Struct members: kinds 0 to 12"
unfoldable pub flat_at : List ℕ → ℕ → Flat
flat_at b at = flat_of (kind_at b at) (argument_at b at)

-- the record at a place as a union's case: "Union cases: 13 to 16."; 02, K1: "a table member, list element or union case"
unfoldable pub object_at : List ℕ → ℕ → Object
object_at b at = object_of (kind_at b at) (argument_at b at)

-- the record at a place as a list's element, or a table member's kind: "List elements: 0 to 11 and 13 to 17.", and 18 (02, K1)
unfoldable pub element_at : List ℕ → ℕ → Kind
element_at b at = kind_of (kind_at b at) (argument_at b at)

-- the record at a place as a table's member: "kind 5, optional 1, in place 1"
unfoldable pub member_at : List ℕ → ℕ → Member
member_at b at = record { kind = element_at b at; optional = optional_at b at; inplace = inplace_at b at }

-- ---- where things stand. A struct, a union and a table are a block: `head` bytes (4 for a table's id, else none), an
-- 8-bit count, and as many records.
-- how many records the block at a place has: "8-bit member count", "8-bit case count"
unfoldable pub records : List ℕ → ℕ → ℕ → ℕ
records b head at = get_or b (at + head) 0

-- where record j of the block at a place stands: "Record, 16 bits"
unfoldable pub record_place : ℕ → ℕ → ℕ → ℕ
record_place head at j = at + head + 1 + 2 * j

-- "Then in that order", one behind the other: where n blocks that begin at `start` end
unfoldable pub blocks : List ℕ → ℕ → ℕ → ℕ → ℕ
blocks b head start zero = start
blocks b head start (suc n) = record_place head (blocks b head start n) (records b head (blocks b head start n))

-- "Then in that order": where struct i stands, "struct: 8-bit member count 1 to 32, member records"; with i the count,
-- where the structs end
unfoldable pub struct_place : List ℕ → ℕ → ℕ
struct_place b i = blocks b 0 5 i

-- where list i stands, behind the structs: "list: one record for its element"
unfoldable pub list_place : List ℕ → ℕ → ℕ
list_place b i = struct_place b (struct_count b) + 2 * i

-- where union i stands, behind the lists: "union: 8-bit case count 1 to 32, records"
unfoldable pub union_place : List ℕ → ℕ → ℕ
union_place b i = blocks b 0 (list_place b (list_count b)) i

-- where table i stands, behind the unions: "table: 32-bit id, 8-bit member count 0 to 64, records"
unfoldable pub table_place : List ℕ → ℕ → ℕ
table_place b i = blocks b 4 (union_place b (union_count b)) i

-- "table: 32-bit id", "packed most significant bit first"
unfoldable pub id_at : List ℕ → ℕ → ℕ
id_at b at = ((get_or b at 0 * 256 + get_or b (at + 1) 0) * 256 + get_or b (at + 2) 0) * 256 + get_or b (at + 3) 0

-- ---- the schema
-- the "records" of the block at a place, each read by f
unfoldable pub records_at : {A : Type 0} → (List ℕ → ℕ → A) → List ℕ → ℕ → ℕ → List A
records_at f b head at = run (λ j. f b (record_place head at j)) 0 (records b head at)

-- the table at a place: "table: 32-bit id, 8-bit member count 0 to 64, records"
unfoldable pub table_at : List ℕ → ℕ → Table
table_at b at = record { id = id_at b at; members = records_at member_at b 4 at }

-- the schema that the bytes give: "Four 8-bit counts ... 8-bit root table index. Then in that order", structs, lists,
-- unions, tables
unfoldable pub parse : List ℕ → Schema
parse b =
    record {
      structs = run (λ i. records_at flat_at b 0 (struct_place b i)) 0 (struct_count b);
      lists = run (λ i. element_at b (list_place b i)) 0 (list_count b);
      unions = run (λ i. records_at object_at b 0 (union_place b i)) 0 (union_count b);
      tables = run (λ i. table_at b (table_place b i)) 0 (table_count b);
      root = root_index b;
    }
