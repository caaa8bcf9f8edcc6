-- When one schema appends to another; a sheet without the appended members, and a sheet with the added ones.
-- `o` is the width of an offset in bytes.
use Rattle.std.specs.Prelude.{ℕ, zero, suc, ◌≤◌, List, [], ◌∷◌, Bool, true, ◌&&◌, not, ◌≡◌, length, drop, ltb, leb}
use Rattle.std.proofs.Math.Option.{Option}
use Rattle.std.proofs.Math.Option as Op
use Rattle.coding.specs.Lists.{pick}
use Rattle.coding.specs.Bytes.{deepest}
use Rattle.coding.specs.Schema.{Schema, Table, struct_of, element_of, cases_of, case_of, table_of}
use Rattle.coding.specs.Packed.{parse}
use Rattle.coding.specs.Lawful.{lawful}
use Rattle.coding.specs.Structs.{by_index}
use Rattle.coding.specs.Layout.{is_bool, begin, bit_byte, after_member}
use Rattle.coding.specs.Value.{Value, Values, absent, unknown, number, blob, row, chosen, none, ◌then◌, first, others}
use Rattle.coding.specs.Sheet.{sheet_of, tree_of}
use Rattle.coding.specs.declared.Flat.{Flat}
use Rattle.coding.specs.declared.Flat.TheVariants.{Boolean, Integer, Float, Enumerated, Struct}
use Rattle.coding.specs.declared.Object.{Object}
use Rattle.coding.specs.declared.Object.TheVariants as O
use Rattle.coding.specs.declared.Kind.{Kind}
use Rattle.coding.specs.declared.Kind.TheVariants.{OfFlat, OfObject, OfUnion}
use Rattle.coding.specs.declared.Member.{Member}
use Rattle.coding.specs.declared.Cursor.{Cursor}

-- ---- appending
-- the second list has an R for each of the first's, and perhaps more: "may have cases after the old ones"
pub data Extends {A : Type 0} (R : A → A → Type 0) : List A → List A → Type 0 where
  rest : {ys : List A} → Extends R [] ys
  more : {x y : A} {xs ys : List A} → R x y → Extends R xs ys → Extends R (x ∷ xs) (y ∷ ys)

-- the second list has an R for each of the first's, and no more: "structs none"
pub data Alike {A : Type 0} (R : A → A → Type 0) : List A → List A → Type 0 where
  done : Alike R [] []
  also : {x y : A} {xs ys : List A} → R x y → Alike R xs ys → Alike R (x ∷ xs) (y ∷ ys)

-- "any enum a larger count; no other old bit differs". A larger count is at least the old one.
pub data FlatAppends : Flat → Flat → Type 0 where
  boolean : FlatAppends Boolean Boolean
  integer : {s : Bool} {w : ℕ} → FlatAppends (Integer s w) (Integer s w)
  float : {w : ℕ} → FlatAppends (Float w) (Float w)
  enumerated : {n n' : ℕ} → n ≤ n' → FlatAppends (Enumerated n) (Enumerated n')
  struct : {i : ℕ} → FlatAppends (Struct i) (Struct i)

-- the same of any kind: "no other old bit differs", an index neither
pub data KindAppends : Kind → Kind → Type 0 where
  flat : {k k' : Flat} → FlatAppends k k' → KindAppends (OfFlat k) (OfFlat k')
  object : {ob : Object} → KindAppends (OfObject ob) (OfObject ob)
  union : {i : ℕ} → KindAppends (OfUnion i) (OfUnion i)

-- the same of a table's member, with its flags: "no other old bit differs"
pub record MemberAppends (r r' : Member) : Type 0 where
  pub kind : KindAppends r.kind r'.kind
  pub optional : r.optional ≡ r'.optional
  pub inplace : r.inplace ≡ r'.inplace

-- the same of a union's case, which is no enum: "no other old bit differs"
pub data SameObject : Object → Object → Type 0 where
  same : {ob : Object} → SameObject ob ob

-- "tables members after the old ones"; the table has "the same index and id in the newer"
pub record TableAppends (t t' : Table) : Type 0 where
  pub id : t.id ≡ t'.id
  pub members : Extends MemberAppends t.members t'.members

-- "Same root index. Every struct, list, union and table of the older has the same index and id in the newer; unions may
-- have cases after the old ones, tables members after the old ones, structs none". There may be more of each: "the counts
-- of what was added aside".
pub record SchemaAppends (older newer : Schema) : Type 0 where
  pub root : older.root ≡ newer.root
  pub structs : Extends (Alike FlatAppends) older.structs newer.structs
  pub lists : Extends KindAppends older.lists newer.lists
  pub unions : Extends (Extends SameObject) older.unions newer.unions
  pub tables : Extends TableAppends older.tables newer.tables

-- the older and the newer schema as bytes, under one coding: "Both are lawful."; 02, K1: "Demand 3 reads over these schemas too;
-- appending an in-place member there isn't lawful.": the newer schema is not, by Lawful.direct_table
pub record Appends (o : ℕ) (older newer : List ℕ) : Type 0 where
  pub older-lawful : lawful o older ≡ true
  pub newer-lawful : lawful o newer ≡ true
  pub schemas : SchemaAppends (parse older) (parse newer)

-- ---- a newer value without the appended members, by the older schema `S`
-- "a present enum at or above its old count ... becomes unknown with its number"
unfoldable pub without_enum : ℕ → Value → Value
without_enum n absent = absent
without_enum n (unknown x) = unknown x
without_enum n (number x) = pick (ltb x n) (number x) (unknown x)
without_enum n (blob l) = blob l
without_enum n (row vs) = row vs
without_enum n (chosen c v) = chosen c v

-- the parts of a struct, list or table changed; "All else stays."
unfoldable pub in_row : (Values → Values) → Value → Value
in_row f absent = absent
in_row f (unknown x) = unknown x
in_row f (number x) = number x
in_row f (blob l) = blob l
in_row f (row vs) = row (f vs)
in_row f (chosen c v) = chosen c v

-- the same of a value that is no object, which stays if it is no enum: "All else stays."
unfoldable pub without_flat : (ℕ → Value → Value) → Flat → Value → Value
without_flat inner Boolean v = v
without_flat inner (Integer s w) v = v
without_flat inner (Float w) v = v
without_flat inner (Enumerated n) v = without_enum n v
without_flat inner (Struct i) v = inner i v

-- a struct's members in order: "structs none" were added, and enums change as above
unfoldable pub without_fields : (ℕ → Value → Value) → List Flat → Values → Values
without_fields inner [] vs = none
without_fields inner (k ∷ ks) vs = without_flat inner k (first vs) then without_fields inner ks (others vs)

-- struct i, given the inner structs: "any enum a larger count", in an inner struct too
unfoldable pub without_by : Schema → (ℕ → Value → Value) → ℕ → Value → Value
without_by S inner i v = in_row (without_fields inner (struct_of S i)) v

-- what by_index gives for an index that is not lower, which "an inner struct having a lower index" excludes
abbrev pub same-value : Value → Value
same-value v = v

-- struct i and the structs inside it: "any enum a larger count"
unfoldable pub without_struct : Schema → ℕ → Value → Value
without_struct S i = by_index same-value (without_by S) i

-- what becomes of an object's value, in a sheet "without the appended members" or "with the added members"
abbrev pub Change : Type 0
Change = Object → Value → Value

-- "or union choice above the old cases, becomes unknown with its number, a union's object left out"
unfoldable pub without_choice : Change → List Object → Value → Value
without_choice child cases absent = absent
without_choice child cases (unknown x) = unknown x
without_choice child cases (number x) = number x
without_choice child cases (blob l) = blob l
without_choice child cases (row vs) = row vs
without_choice child cases (chosen c v) =
    pick (leb c (length cases)) (chosen c (child (case_of cases c) v)) (unknown c)

-- a member or element: an enum, an object or a union "without the appended members"; "All else stays."
unfoldable pub without_part : Change → Schema → Kind → Value → Value
without_part child S (OfFlat k) v = without_flat (without_struct S) k v
without_part child S (OfObject ob) v = child ob v
without_part child S (OfUnion i) v = without_choice child (cases_of S i) v

-- "every table in it loses the entries after its old ones"
unfoldable pub without_members : Change → Schema → List Member → Values → Values
without_members child S [] vs = none
without_members child S (r ∷ rs) vs = without_part child S r.kind (first vs) then without_members child S rs (others vs)

-- the elements of a list, each changed; a list loses none: "All else stays."
unfoldable pub without_elements : Change → Schema → Kind → Values → Values
without_elements child S k none = none
without_elements child S k (v then vs) = without_part child S k v then without_elements child S k vs

-- the elements of a direct list of table t, "without the appended members" or "with the added members": each is a table; "All else
-- stays."
unfoldable pub in_elements : Change → ℕ → Values → Values
in_elements child t none = none
in_elements child t (v then vs) = child (O.Table t) v then in_elements child t vs

-- an object's content; "All else stays."
unfoldable pub without_content : Change → Schema → Change
without_content child S O.Text v = v
without_content child S O.Bytes v = v
without_content child S (O.List i) v = in_row (without_elements child S (element_of S i)) v
without_content child S (O.Table i) v = in_row (without_members child S (table_of S i).members) v
without_content child S (O.DirectList t) v = in_row (in_elements child t) v

-- an object, with d objects of depth left, this one counted: "every table in it loses the entries after its old ones",
-- however deep it stands. No lawful sheet goes deeper.
unfoldable pub without : ℕ → Schema → Change
without zero S ob v = v
without (suc d) S ob v = without_content (without d S) S ob v

-- ---- an older value with the added members, by the older schema `S` and the newer `T`. It is what the newer schema reads
-- of a message that the writer made under the older, where every fixed part is full and no number is unknown.
-- "absent, but a plain bool whose bit falls in the older's full fixed part (a byte already written) is present and false":
-- an added member where the cursor stands, n bytes being the older's fixed part
unfoldable pub added_value : ℕ → Cursor → Member → Value
added_value n c r = pick (is_bool r.kind && (not r.optional && ltb (bit_byte c) n)) (number 0) absent

-- "every table gets their entries": the added members in order, from the cursor on
unfoldable pub added_values : ℕ → Schema → ℕ → Cursor → List Member → Values
added_values o T n c [] = none
added_values o T n c (r ∷ rs) = added_value n c r then added_values o T n (after_member o T r c) rs

-- a union's object is changed; "All else stays."
unfoldable pub with_choice : Change → List Object → Value → Value
with_choice child cases absent = absent
with_choice child cases (unknown x) = unknown x
with_choice child cases (number x) = number x
with_choice child cases (blob l) = blob l
with_choice child cases (row vs) = row vs
with_choice child cases (chosen c v) = chosen c (child (case_of cases c) v)

-- a member or element: an object or a union's object "with the added members"; "All else stays."
unfoldable pub with_part : Change → Schema → Kind → Value → Value
with_part child S (OfFlat k) v = v
with_part child S (OfObject ob) v = child ob v
with_part child S (OfUnion i) v = with_choice child (cases_of S i) v

-- "every table gets their entries": the older's members from the cursor on, and then the added ones
unfoldable pub with_members : Change → ℕ → Schema → Schema → List Member → Cursor → List Member → Values → Values
with_members child o S T [] c added vs = added_values o T c.end c added
with_members child o S T (r ∷ rs) c added vs =
    with_part child S r.kind (first vs) then with_members child o S T rs (after_member o S r c) added (others vs)

-- the elements of a list, each changed; a list gets none: "All else stays."
unfoldable pub with_elements : Change → Schema → Kind → Values → Values
with_elements child S k none = none
with_elements child S k (v then vs) = with_part child S k v then with_elements child S k vs

-- the members of table i that the newer has "after the old ones"
unfoldable pub added_members : Schema → Schema → ℕ → List Member
added_members S T i = drop (length (table_of S i).members) (table_of T i).members

-- an object's content; "All else stays."
unfoldable pub with_content : Change → ℕ → Schema → Schema → Change
with_content child o S T O.Text v = v
with_content child o S T O.Bytes v = v
with_content child o S T (O.List i) v = in_row (with_elements child S (element_of S i)) v
with_content child o S T (O.Table i) v =
    in_row (with_members child o S T (table_of S i).members begin (added_members S T i)) v
with_content child o S T (O.DirectList t) v = in_row (in_elements child t) v

-- an object, with d objects of depth left, this one counted: "every table gets their entries", however deep it stands. No
-- lawful sheet goes deeper.
unfoldable pub with_added : ℕ → ℕ → Schema → Schema → Change
with_added zero o S T ob v = v
with_added (suc d) o S T ob v = with_content (with_added d o S T) o S T ob v

-- ---- the same of sheets: "found from that sheet and the two schemas alone, never from the message"
-- the sheet of the changed tree; a sheet that has no tree is not lawful, and gives no bytes
unfoldable pub resheet : Schema → (Value → Value) → Option Value → List ℕ
resheet S change Op.none = []
resheet S change (Op.some v) = sheet_of S (change v)

-- "The newer sheet without the appended members"
unfoldable pub sheet_without : List ℕ → List ℕ → List ℕ → List ℕ
sheet_without older newer s =
    resheet (parse older) (without deepest (parse older) (O.Table (parse older).root)) (tree_of (parse newer) s)

-- "The older sheet with the added members"
unfoldable pub sheet_with : ℕ → List ℕ → List ℕ → List ℕ → List ℕ
sheet_with o older newer s =
    resheet (parse newer) (with_added deepest o (parse older) (parse newer) (O.Table (parse older).root)) (tree_of (parse older) s)
