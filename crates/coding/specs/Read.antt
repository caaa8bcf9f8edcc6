-- The values of a message, by the same steps as the walk: "From the root, members and elements in order". It is total: what
-- no accepted message has reads as something that no answer shows. `o` is the width of an offset in bytes.
use Rattle.std.specs.Prelude.{ℕ, zero, suc, ◌+◌, List, [], ◌∷◌, take, drop}
use Rattle.coding.specs.Bytes.{le, deepest}
use Rattle.coding.specs.Schema.{Schema, struct_of, element_of, table_of}
use Rattle.coding.specs.Structs.{by_index, flat_width, struct_size}
use Rattle.coding.specs.Layout.{begin, after_member}
use Rattle.coding.specs.Step.{field_step, member_step, element_step}
use Rattle.coding.specs.Walk.{header_size, element_size, root_place}
use Rattle.coding.specs.Value.{Value, Values, absent, unknown, number, blob, row, chosen, none, ◌then◌}
use Rattle.coding.specs.declared.Flat.{Flat}
use Rattle.coding.specs.declared.Object.{Object}
use Rattle.coding.specs.declared.Object.TheVariants as O
use Rattle.coding.specs.declared.Kind.{Kind}
use Rattle.coding.specs.declared.Member.{Member}
use Rattle.coding.specs.declared.Cursor.{Cursor}
use Rattle.coding.specs.declared.Place.{Place}
use Rattle.coding.specs.declared.Place.TheVariants.{ByOffset, InPlace}
use Rattle.coding.specs.declared.Step.{Step}
use Rattle.coding.specs.declared.Step.TheVariants as St

-- ---- what a step shows
-- what is read of an object at a place, "its offset as stored, or where its in-place content starts"
abbrev pub Child : Type 0
Child = Object → Place → Value

-- the value that a step shows: "0 absent, 1 present, 2 unknown". `inner` reads a struct, `child` an object. A refused step
-- does not arise in an accepted message.
unfoldable pub step_read : (ℕ → ℕ → Value) → Child → Step → Value
step_read inner child (St.Refused n) = absent
step_read inner child St.Absent = absent
step_read inner child (St.Value x) = number x
step_read inner child (St.Unknown x) = unknown x
step_read inner child (St.Struct i at) = inner i at
step_read inner child (St.Object ob p) = child ob p
step_read inner child (St.Choice c ob p) = chosen c (child ob p)

-- ---- structs
-- "Struct members: kinds 0 to 12": a struct leads to no object
abbrev pub no_object : Child
no_object ob p = absent

-- "members joined without padding": the members of a struct from a place on
unfoldable pub fields_read : (ℕ → ℕ → Value) → Schema → List ℕ → List Flat → ℕ → Values
fields_read inner S m [] at = none
fields_read inner S m (k ∷ ks) at =
    step_read inner no_object (field_step m k at) then fields_read inner S m ks (at + flat_width (struct_size S) k)

-- struct i at a place, given the inner structs: "a struct inside a struct is laid out the same way"
unfoldable pub read_by : Schema → List ℕ → (ℕ → ℕ → Value) → ℕ → ℕ → Value
read_by S m inner i at = row (fields_read inner S m (struct_of S i) at)

-- what by_index gives for an index that is not lower, which "an inner struct having a lower index" excludes
abbrev pub no_struct : ℕ → Value
no_struct at = absent

-- struct i at a place: "a struct inside a struct is laid out the same way"
unfoldable pub struct_read : Schema → List ℕ → ℕ → ℕ → Value
struct_read S m i = by_index no_struct (read_by S m) i

-- ---- objects
-- "Table members in order": the members, from the cursor on, of a table whose fixed part has n bytes from `start`
unfoldable pub members_read : Child → ℕ → Schema → List ℕ → ℕ → ℕ → Cursor → List Member → Values
members_read child o S m start n c [] = none
members_read child o S m start n c (r ∷ rs) =
    step_read (struct_read S m) child (member_step o S m start n c r) then
    members_read child o S m start n (after_member o S r c) rs

-- "List: length elements.": n elements of a list, from element i on
unfoldable pub elements_read : Child → ℕ → Schema → List ℕ → ℕ → Kind → ℕ → ℕ → Values
elements_read child o S m start k zero i = none
elements_read child o S m start k (suc n) i =
    step_read (struct_read S m) child (element_step o S m k start i) then elements_read child o S m start k n (i + 1)

-- 02, K1: "then the elements without headers": n elements of a direct list of table t, each of w bytes, the first at a place
unfoldable pub directs_read : Child → ℕ → ℕ → ℕ → ℕ → Values
directs_read child t w zero at = none
directs_read child t w (suc n) at = child (O.Table t) (InPlace at w) then directs_read child t w n (at + w)

-- the content of length n at `start` of the object at a place: "Text: length bytes and one zero byte. Bytes: length bytes."; a
-- text's value is "the bytes" without the zero byte
unfoldable pub content_read : Child → ℕ → Schema → List ℕ → Object → ℕ → ℕ → ℕ → Value
content_read child o S m O.Text at start n = blob (take n (drop start m))
content_read child o S m O.Bytes at start n = blob (take n (drop start m))
content_read child o S m (O.List i) at start n = row (elements_read child o S m start (element_of S i) n 0)
content_read child o S m (O.Table i) at start n = row (members_read child o S m start n begin (table_of S i).members)
content_read child o S m (O.DirectList t) at start n = row (directs_read child t (element_size o m at) n start)

-- an object at its place: behind its magic and "then U48 length", or in place "the content without magic and length"
unfoldable pub place_read : Child → ℕ → Schema → List ℕ → Child
place_read child o S m ob (ByOffset x) = content_read child o S m ob x (x + header_size o ob) (le m (x + 4) o)
place_read child o S m ob (InPlace a n) = content_read child o S m ob a a n

-- an object with d objects of depth left, this one counted: "Depth: 32 objects, the root being 1". No accepted message goes
-- deeper.
unfoldable pub read : ℕ → ℕ → Schema → List ℕ → Child
read zero o S m ob p = absent
read (suc d) o S m ob p = place_read (read d o S m) o S m ob p

-- "The root table's content": the values of the whole message
unfoldable pub message_read : ℕ → Schema → List ℕ → Value
message_read o S m = read deepest o S m (O.Table S.root) (root_place o m)
