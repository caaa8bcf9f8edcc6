-- Which bytes are a lawful schema under a coding: all that paper 01 says under "Schema, packed most significant bit first",
-- what 02, K1 says of direct lists, and what 02, K5 asks under the older coding.
use Rattle.std.specs.Prelude.{ℕ, zero, suc, ◌+◌, List, Bool, true, false, ◌&&◌, not, length, ltb, leb, eqb}
use Rattle.coding.specs.Lists.{pick, every}
use Rattle.coding.specs.Bytes.{u32, width_known}
use Rattle.coding.specs.Packed.{struct_count, list_count, union_count, table_count, root_index, kind_at, optional_at, inplace_at, zero_at, argument_at, records, record_place, blocks, struct_place, list_place, union_place, table_place, id_at, parse}
use Rattle.coding.specs.Structs.{struct_size}
use Rattle.coding.specs.declared.Role.{Role}
use Rattle.coding.specs.declared.Role.TheVariants.{InStruct, InList, InUnion, InTable}

-- whether x is from low to high, for "1 to 32" and the like
abbrev pub between : ℕ → ℕ → ℕ → Bool
between low high x = leb low x && leb x high

-- ---- the shape
-- "structs, lists, unions (0 to 64 each), tables (1 to 64). 8-bit root table index." The root is one of the tables.
unfoldable pub counts_ok : List ℕ → Bool
counts_ok b =
    leb (struct_count b) 64
    && (leb (list_count b) 64
    && (leb (union_count b) 64
    && (leb 1 (table_count b) && (leb (table_count b) 64 && ltb (root_index b) (table_count b)))))

-- whether each of the n blocks from `start` on has from low to high records, for "8-bit member count 1 to 32" and the like
unfoldable pub blocks_ok : List ℕ → ℕ → ℕ → ℕ → ℕ → ℕ → Bool
blocks_ok b head low high start n = every (λ i. between low high (records b head (blocks b head start i))) n

-- "struct: 8-bit member count 1 to 32", "union: 8-bit case count 1 to 32", "table: 32-bit id, 8-bit member count 0 to 64";
-- "Nothing follows the last table.", and nothing is missing.
unfoldable pub places_ok : List ℕ → Bool
places_ok b =
    blocks_ok b 0 1 32 5 (struct_count b)
    && (blocks_ok b 0 1 32 (list_place b (list_count b)) (union_count b)
    && (blocks_ok b 4 0 64 (union_place b (union_count b)) (table_count b)
    && eqb (table_place b (table_count b)) (length b)))

-- all of the above: the counts are in their ranges, and "Nothing follows the last table."
unfoldable pub shape_ok : List ℕ → Bool
shape_ok b = counts_ok b && places_ok b

-- ---- the records
-- "11 enum (argument 1 to 255, the number of values)", "For 12 and 15 to 17 the argument is an index below that count;
-- otherwise it is 0."; 02, K1: "kind 18, argument a table". There is no kind 19 to 31.
unfoldable pub argument_ok : List ℕ → ℕ → ℕ → Bool
argument_ok b k a =
    pick (ltb k 11) (eqb a 0)
    (pick (eqb k 11) (ltb 0 a)
    (pick (eqb k 12) (ltb a (struct_count b))
    (pick (ltb k 15) (eqb a 0)
    (pick (eqb k 15) (ltb a (list_count b))
    (pick (eqb k 16) (ltb a (table_count b))
    (pick (eqb k 17) (ltb a (union_count b)) (pick (eqb k 18) (ltb a (table_count b)) false)))))))

-- "Struct members: kinds 0 to 12, an inner struct having a lower index. List elements: 0 to 11 and 13 to 17.
-- Union cases: 13 to 16."; 02, K1: a direct list "may be a table member, list element or union case"
unfoldable pub kind_ok : Role → ℕ → ℕ → Bool
kind_ok (InStruct i) k a = pick (eqb k 12) (ltb a i) (ltb k 12)
kind_ok InList k a = not (eqb k 12)
kind_ok InUnion k a = pick (eqb k 18) true (between 13 16 k)
kind_ok InTable k a = true

-- "Optional only on table members of kind 0 to 10 and 12"
unfoldable pub optional_ok : Role → ℕ → Bool
optional_ok (InStruct i) k = false
optional_ok InList k = false
optional_ok InUnion k = false
optional_ok InTable k = pick (eqb k 12) true (ltb k 11)

-- "in place only on table members of kind 13 to 17"; 02, K1: a direct list is "never in place"
unfoldable pub inplace_ok : Role → ℕ → Bool
inplace_ok (InStruct i) k = false
inplace_ok InList k = false
inplace_ok InUnion k = false
inplace_ok InTable k = between 13 17 k

-- the record at a place: "Optional only on table members of kind 0 to 10 and 12; in place only on table members of kind 13
-- to 17"
unfoldable pub flags_ok : List ℕ → Role → ℕ → Bool
flags_ok b role at =
    pick (optional_at b at) (optional_ok role (kind_at b at)) true && pick (inplace_at b at) (inplace_ok role (kind_at b at)) true

-- how many of the first n records of the table at a place are in place, for "at most one per table"
unfoldable pub inplaces : List ℕ → ℕ → ℕ → ℕ
inplaces b at zero = 0
inplaces b at (suc n) = inplaces b at n + pick (inplace_at b (record_place 4 at n)) 1 0

-- the table at a place, of the elements of a direct list. 02, K1: "its table must have at least one member and none in place"
unfoldable pub direct_table : List ℕ → ℕ → Bool
direct_table b at = ltb 0 (records b 4 at) && eqb (inplaces b at (records b 4 at)) 0

-- the union at a place, which a table holds in place. 02, K1: a direct list is never "a case of a union that a table holds in
-- place"
unfoldable pub held_union : List ℕ → ℕ → Bool
held_union b at = every (λ j. not (eqb (kind_at b (record_place 0 at j)) 18)) (records b 0 at)

-- what 02, K1 asks of the record at a place: of a direct list its table, of a union in place its cases
unfoldable pub direct_ok : List ℕ → ℕ → Bool
direct_ok b at =
    pick (eqb (kind_at b at) 18) (direct_table b (table_place b (argument_at b at)))
    (pick (eqb (kind_at b at) 17 && inplace_at b at) (held_union b (union_place b (argument_at b at))) true)

-- one record: "kind 5, optional 1, in place 1, zero 1, argument 8", of which "zero 1" is 0 and each other part is lawful by
-- the rules above
unfoldable pub record_ok : List ℕ → Role → ℕ → Bool
record_ok b role at =
    zero_at b at
    && (argument_ok b (kind_at b at) (argument_at b at)
    && (kind_ok role (kind_at b at) (argument_at b at) && (flags_ok b role at && direct_ok b at)))

-- whether the first n records of the block at a place are lawful: "member records"
unfoldable pub first_ok : List ℕ → Role → ℕ → ℕ → ℕ → Bool
first_ok b role head at n = every (λ j. record_ok b role (record_place head at j)) n

-- whether all records of the block at a place are lawful: "member records", "records"
unfoldable pub records_ok : List ℕ → Role → ℕ → ℕ → Bool
records_ok b role head at = first_ok b role head at (records b head at)

-- ---- the rules, of one struct, list, union and table each, also of those that nothing refers to
-- struct i: its records are lawful, and "No struct is over 4,096 bytes."
unfoldable pub struct_lawful : List ℕ → ℕ → Bool
struct_lawful b i = records_ok b (InStruct i) 0 (struct_place b i) && leb (struct_size (parse b) i) 4096

-- list i: "list: one record for its element", which is lawful
unfoldable pub list_lawful : List ℕ → ℕ → Bool
list_lawful b i = record_ok b InList (list_place b i)

-- union i: "union: 8-bit case count 1 to 32, records", which are lawful
unfoldable pub union_lawful : List ℕ → ℕ → Bool
union_lawful b i = records_ok b InUnion 0 (union_place b i)

-- table i: its records are lawful, and in place are "at most one per table"
unfoldable pub table_lawful : List ℕ → ℕ → Bool
table_lawful b i =
    records_ok b InTable 4 (table_place b i) && leb (inplaces b (table_place b i) (records b 4 (table_place b i))) 1

-- "Table ids differ.": table i has another id than each of the first n tables
unfoldable pub id_differs : List ℕ → ℕ → ℕ → Bool
id_differs b i n = every (λ j. not (eqb (id_at b (table_place b i)) (id_at b (table_place b j)))) n

-- "Table ids differ.": table i has another id than each table before it
unfoldable pub id_lawful : List ℕ → ℕ → Bool
id_lawful b i = id_differs b i i

-- the rules of every struct, list, union and table, and "Table ids differ."
unfoldable pub rules_ok : List ℕ → Bool
rules_ok b =
    every (struct_lawful b) (struct_count b)
    && (every (list_lawful b) (list_count b)
    && (every (union_lawful b) (union_count b)
    && (every (table_lawful b) (table_count b) && every (id_lawful b) (table_count b))))

-- all that papers 01 and 02 say of a schema, whatever the coding
unfoldable pub well_formed : List ℕ → Bool
well_formed b = shape_ok b && rules_ok b

-- ---- the older coding. 02, K5: "a schema with a union not in place, a table in place, a list of unions or a direct list is
-- 1 under this coding". 002 has no union but one whose content is encoded "immediately after the table", no table member but
-- by its offset, and no unions among its lists' elements. A table that is a case of such a union is no table in place. The rule
-- speaks of every record of kind 18, wherever it stands.
-- a table's member: a union is in place, a table is not, and there is no direct list
unfoldable pub older_member : List ℕ → ℕ → Bool
older_member b at =
    pick (eqb (kind_at b at) 17) (inplace_at b at)
    (pick (eqb (kind_at b at) 16) (not (inplace_at b at)) (not (eqb (kind_at b at) 18)))

-- a list's element is no union and no direct list
unfoldable pub older_element : List ℕ → ℕ → Bool
older_element b at = not (eqb (kind_at b at) 17) && not (eqb (kind_at b at) 18)

-- the cases of union i: none is a direct list
unfoldable pub older_union : List ℕ → ℕ → Bool
older_union b i = held_union b (union_place b i)

-- the members of table i
unfoldable pub older_table : List ℕ → ℕ → Bool
older_table b i = every (λ j. older_member b (record_place 4 (table_place b i) j)) (records b 4 (table_place b i))

-- every list, every union and every table
unfoldable pub older_ok : List ℕ → Bool
older_ok b =
    every (λ i. older_element b (list_place b i)) (list_count b)
    && (every (older_union b) (union_count b) && every (older_table b) (table_count b))

-- whether refusal 1, "schema not lawful", does not arise under the coding whose offsets have o bytes. There is no coding of
-- another width than the two, so no schema is lawful under one.
unfoldable pub lawful : ℕ → List ℕ → Bool
lawful o b = width_known o && (well_formed b && pick (eqb o u32) (older_ok b) true)
