-- What a schema is, once it is read. A union's case is an object, and a struct's member leads to none: a kind that is not
-- lawful there has no form here. All else that makes a schema lawful is in Lawful.
use Prim.Native.Nat.{ℕ}
use Rattle.std.specs.Prelude.{List, [], false, get_or}
use Rattle.coding.specs.declared.Flat.{Flat}
use Rattle.coding.specs.declared.Flat.TheVariants.{Boolean}
use Rattle.coding.specs.declared.Object.{Object}
use Rattle.coding.specs.declared.Object.TheVariants.{Text}
use Rattle.coding.specs.declared.Kind.{Kind}
use Rattle.coding.specs.declared.Kind.TheVariants.{OfFlat}
use Rattle.coding.specs.declared.Member.{Member}

-- "table: 32-bit id, 8-bit member count 0 to 64, records"
pub record Table : Type 0 where
  pub id : ℕ
  pub members : List Member

-- "Four 8-bit counts: structs, lists, unions (0 to 64 each), tables (1 to 64). 8-bit root table index.": each struct by its
-- members, each list by its element, each union by its cases
pub record Schema : Type 0 where
  pub structs : List (List Flat)
  pub lists : List Kind
  pub unions : List (List Object)
  pub tables : List Table
  pub root : ℕ

-- ---- what stands at an index; past the end something that no lawful schema reaches
-- the members of struct i: "struct: 8-bit member count 1 to 32, member records"
unfoldable pub struct_of : Schema → ℕ → List Flat
struct_of S i = get_or S.structs i []

-- the element of list i: "list: one record for its element"
unfoldable pub element_of : Schema → ℕ → Kind
element_of S i = get_or S.lists i (OfFlat Boolean)

-- the cases of union i: "union: 8-bit case count 1 to 32, records"
unfoldable pub cases_of : Schema → ℕ → List Object
cases_of S i = get_or S.unions i []

-- table i: "table: 32-bit id, 8-bit member count 0 to 64, records"
unfoldable pub table_of : Schema → ℕ → Table
table_of S i = get_or S.tables i (record { id = 0; members = [] })

-- ---- one record of each
-- member j of struct i, for "A path names a member, element or struct member per number"
unfoldable pub field_of : Schema → ℕ → ℕ → Flat
field_of S i j = get_or (struct_of S i) j Boolean

-- "choice 0 none, cases from 1": the object of choice c among a union's cases
unfoldable pub case_of : List Object → ℕ → Object
case_of cases c = get_or cases (Prim.Native.Nat.pred c) Text

-- "0 bool", not optional: what member_of gives past a table's end, which no lawful schema reaches
unfoldable pub plain_bool : Member
plain_bool = record { kind = OfFlat Boolean; optional = false; inplace = false }

-- member j of table i, for "A path names a member, element or struct member per number"
unfoldable pub member_of : Schema → ℕ → ℕ → Member
member_of S i j = get_or (table_of S i).members j plain_bool
