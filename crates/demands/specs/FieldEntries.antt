-- What a value sheet shows at a path, by its tree of values and the schema alone; and what of a field's answer a sheet can
-- show, which is all but the places.
use Rattle.std.specs.Prelude.{ℕ, zero, suc, ◌*◌, List, [], ◌∷◌, Bool, false, length, ltb, eqb}
use Rattle.coding.specs.Lists.{pick}
use Rattle.coding.specs.Schema.{Schema, struct_of, field_of, element_of, cases_of, case_of, table_of, member_of}
use Rattle.coding.specs.Value as Tree
use Rattle.coding.specs.declared.Flat.{Flat}
use Rattle.coding.specs.declared.Flat.TheVariants as F
use Rattle.coding.specs.declared.Object.{Object}
use Rattle.coding.specs.declared.Object.TheVariants as O
use Rattle.coding.specs.declared.Kind.{Kind}
use Rattle.coding.specs.declared.Kind.TheVariants.{OfFlat, OfObject, OfUnion}
use Rattle.coding.specs.declared.Answer.{Answer}
use Rattle.coding.specs.declared.Answer.TheVariants as A

-- ---- entries
-- A boolean; a number's bits, its width in bits and whether it has a sign; a float's bits and its width; a text, bytes, a
-- list or a direct list with its record kind and its length; a table, whose sheet does not show the length of its fixed part; a struct; no
-- value; an unknown enum or choice; no such part; any other refusal, which is no entry of a sheet.
pub data Entry : Type 0 where
  boolean : Bool → Entry
  number : ℕ → ℕ → Bool → Entry
  float : ℕ → ℕ → Entry
  object : ℕ → ℕ → Entry
  table : Entry
  struct : Entry
  absent : Entry
  unknown : ℕ → Entry
  no_part : Entry
  refused : ℕ → Entry

-- a field's answer without its places: 15 is "path step has no such part", and 16 a table's record kind
unfoldable pub shown : Answer → Entry
shown (A.Boolean t) = boolean t
shown (A.Number x w s) = number x w s
shown (A.Float x w) = float x w
shown (A.Object k at n) = pick (eqb k 16) table (object k n)
shown (A.Struct at) = struct
shown A.Absent = absent
shown (A.Unknown x) = unknown x
shown (A.Refused r) = pick (eqb r.number 15) no_part (refused r.number)

-- ---- the parts of a tree
-- No such part; no value; an unknown enum or choice; a value's bits with its kind; a struct's index and its members; an
-- object and what it holds.
pub data Part : Type 0 where
  no_part : Part
  absent : Part
  unknown : ℕ → Part
  value : Flat → ℕ → Part
  struct : ℕ → Tree.Values → Part
  object : Object → Tree.Value → Part

unfoldable pub flat_part : Flat → Tree.Value → Part
flat_part F.Boolean v = Part.value F.Boolean (Tree.as_number v)
flat_part (F.Integer s w) v = Part.value (F.Integer s w) (Tree.as_number v)
flat_part (F.Float w) v = Part.value (F.Float w) (Tree.as_number v)
flat_part (F.Enumerated n) v = Part.value (F.Enumerated n) (Tree.as_number v)
flat_part (F.Struct i) v = Part.struct i (Tree.as_row v)

-- "unions are passed through without [a number]"
unfoldable pub kind_part : Schema → Kind → Tree.Value → Part
kind_part S (OfFlat k) v = flat_part k v
kind_part S (OfObject ob) v = Part.object ob v
kind_part S (OfUnion i) v = Part.object (case_of (cases_of S i) (Tree.as_number v)) (Tree.as_object v)

-- what a value of a kind is
unfoldable pub part_here : Schema → Kind → Tree.Value → Part
part_here S k Tree.absent = Part.absent
part_here S k (Tree.unknown x) = Part.unknown x
part_here S k (Tree.number x) = kind_part S k (Tree.number x)
part_here S k (Tree.blob l) = kind_part S k (Tree.blob l)
part_here S k (Tree.row vs) = kind_part S k (Tree.row vs)
part_here S k (Tree.chosen c v) = kind_part S k (Tree.chosen c v)

unfoldable pub value_at : Tree.Values → ℕ → Tree.Value
value_at Tree.none j = Tree.absent
value_at (Tree.◌then◌ v vs) zero = v
value_at (Tree.◌then◌ v vs) (suc j) = value_at vs j

-- "A path names a member, element or struct member per number"
unfoldable pub struct_part : Schema → ℕ → Tree.Values → ℕ → Part
struct_part S i vs j =
    pick (ltb j (length (struct_of S i))) (part_here S (OfFlat (field_of S i j)) (value_at vs j)) Part.no_part

unfoldable pub object_part : Schema → Object → Tree.Values → ℕ → Part
object_part S O.Text vs j = Part.no_part
object_part S O.Bytes vs j = Part.no_part
object_part S (O.List i) vs j = pick (ltb j (Tree.count vs)) (part_here S (element_of S i) (value_at vs j)) Part.no_part
object_part S (O.Table i) vs j =
    pick (ltb j (length (table_of S i).members)) (part_here S (member_of S i j).kind (value_at vs j)) Part.no_part
object_part S (O.DirectList t) vs j = pick (ltb j (Tree.count vs)) (Part.object (O.Table t) (value_at vs j)) Part.no_part

-- "An absent or unknown place ends it, whatever steps remain."
unfoldable pub part_of : Schema → Part → ℕ → Part
part_of S Part.no_part j = Part.no_part
part_of S Part.absent j = Part.absent
part_of S (Part.unknown x) j = Part.unknown x
part_of S (Part.value k x) j = Part.no_part
part_of S (Part.struct i vs) j = struct_part S i vs j
part_of S (Part.object ob v) j = object_part S ob (Tree.as_row v) j

unfoldable pub part_along : Schema → Part → List ℕ → Part
part_along S p [] = p
part_along S p (j ∷ js) = part_along S (part_of S p j) js

-- ---- the entry of a part. A struct is no value with bits.
unfoldable pub flat_entry : Flat → ℕ → Entry
flat_entry F.Boolean x = Entry.boolean (eqb x 1)
flat_entry (F.Integer s w) x = Entry.number x (8 * w) s
flat_entry (F.Float w) x = Entry.float x (8 * w)
flat_entry (F.Enumerated n) x = Entry.number x 8 false
flat_entry (F.Struct i) x = Entry.absent

-- "13 text, 14 bytes, 15 list, 16 table"; 02, K1: "kind 18"; a text's or bytes' length, a list's or a direct list's count
unfoldable pub object_entry : Object → Tree.Value → Entry
object_entry O.Text v = Entry.object 13 (length (Tree.as_blob v))
object_entry O.Bytes v = Entry.object 14 (length (Tree.as_blob v))
object_entry (O.List i) v = Entry.object 15 (Tree.count (Tree.as_row v))
object_entry (O.Table i) v = Entry.table
object_entry (O.DirectList t) v = Entry.object 18 (Tree.count (Tree.as_row v))

unfoldable pub entry_of : Part → Entry
entry_of Part.no_part = Entry.no_part
entry_of Part.absent = Entry.absent
entry_of (Part.unknown x) = Entry.unknown x
entry_of (Part.value k x) = flat_entry k x
entry_of (Part.struct i vs) = Entry.struct
entry_of (Part.object ob v) = object_entry ob v

-- the bytes of a text or bytes, else nothing
unfoldable pub text_of : Part → List ℕ
text_of Part.no_part = []
text_of Part.absent = []
text_of (Part.unknown x) = []
text_of (Part.value k x) = []
text_of (Part.struct i vs) = []
text_of (Part.object ob v) = Tree.as_blob v

-- ---- what the tree of an object shows at a path
unfoldable pub entry_at : Schema → Object → Tree.Value → List ℕ → Entry
entry_at S ob v path = entry_of (part_along S (Part.object ob v) path)

unfoldable pub text_at : Schema → Object → Tree.Value → List ℕ → List ℕ
text_at S ob v path = text_of (part_along S (Part.object ob v) path)
