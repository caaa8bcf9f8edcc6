-- The value sheet: a tree's bits, and back. Paper 01 defines it under "Value sheet, packed most significant bit first".
use Rattle.std.specs.Prelude.{ℕ, zero, suc, ◌*◌, List, [], ◌∷◌, ◌++◌, Bool, true, false, ◌&&◌, not, length, take, drop, ltb, leb, eqb}
use Rattle.std.proofs.Math.Option.{Option}
use Rattle.std.proofs.Math.Option as Op
use Rattle.coding.specs.Lists.{pick}
use Rattle.coding.specs.Bytes.{deepest, largest}
use Rattle.coding.specs.Schema.{Schema, struct_of, element_of, cases_of, case_of, table_of}
use Rattle.coding.specs.Structs.{by_index}
use Rattle.coding.specs.Value.{Value, Values, absent, unknown, number, blob, row, chosen, none, ◌then◌, as_number, as_blob, as_row, as_object, first, others, count}
use Rattle.coding.specs.Bits.{bits_of, bits, value, pack, packed, all_zero}
use Rattle.coding.specs.declared.Flat.{Flat}
use Rattle.coding.specs.declared.Flat.TheVariants.{Boolean, Integer, Float, Enumerated, Struct}
use Rattle.coding.specs.declared.Object.{Object}
use Rattle.coding.specs.declared.Object.TheVariants as O
use Rattle.coding.specs.declared.Kind.{Kind}
use Rattle.coding.specs.declared.Kind.TheVariants.{OfFlat, OfObject, OfUnion}
use Rattle.coding.specs.declared.Member.{Member}

-- ---- a tree's bits
-- "each with a 2-bit mark: 0 absent, 1 present, 2 unknown, 3 not lawful". "Unknown (enum, union only): the 8-bit or 16-bit
-- number": w bits.
unfoldable pub mark_bits : ℕ → (Value → List ℕ) → Value → List ℕ
mark_bits w body absent = bits_of 2 0
mark_bits w body (unknown x) = bits_of 2 2 ++ bits_of w x
mark_bits w body (number x) = bits_of 2 1 ++ body (number x)
mark_bits w body (blob l) = bits_of 2 1 ++ body (blob l)
mark_bits w body (row vs) = bits_of 2 1 ++ body (row vs)
mark_bits w body (chosen c v) = bits_of 2 1 ++ body (chosen c v)

-- "Present bool 1 bit; numbers at their width (floats as their bits); enum 8 bits"; a struct by `inner`
unfoldable pub flat_bits : (ℕ → Value → List ℕ) → Flat → Value → List ℕ
flat_bits inner Boolean v = bits_of 1 (as_number v)
flat_bits inner (Integer s w) v = bits_of (8 * w) (as_number v)
flat_bits inner (Float w) v = bits_of (8 * w) (as_number v)
flat_bits inner (Enumerated n) v = bits_of 8 (as_number v)
flat_bits inner (Struct i) v = inner i v

-- a struct's member: "enum struct members have a mark too ...; other struct members have none"
unfoldable pub field_bits : (ℕ → Value → List ℕ) → Flat → Value → List ℕ
field_bits inner Boolean v = flat_bits inner Boolean v
field_bits inner (Integer s w) v = flat_bits inner (Integer s w) v
field_bits inner (Float w) v = flat_bits inner (Float w) v
field_bits inner (Enumerated n) v = mark_bits 8 (flat_bits inner (Enumerated n)) v
field_bits inner (Struct i) v = flat_bits inner (Struct i) v

-- a struct's members in order. The paper gives a present struct no other content than its members: "enum struct members
-- have a mark too ...; other struct members have none".
unfoldable pub fields_bits : (ℕ → Value → List ℕ) → List Flat → Values → List ℕ
fields_bits inner [] vs = []
fields_bits inner (k ∷ ks) vs = field_bits inner k (first vs) ++ fields_bits inner ks (others vs)

-- struct i, given the inner structs, which have no mark of their own: "other struct members have none"
unfoldable pub bits_by : Schema → (ℕ → Value → List ℕ) → ℕ → Value → List ℕ
bits_by S inner i v = fields_bits inner (struct_of S i) (as_row v)

-- what by_index gives for an index that is not lower, which "an inner struct having a lower index" excludes
abbrev pub no_bits : Value → List ℕ
no_bits v = []

-- struct i, present: its members in order, by the same words
unfoldable pub struct_bits : Schema → ℕ → Value → List ℕ
struct_bits S i = by_index no_bits (bits_by S) i

-- the bits of an object's content, by its value, for "text or bytes", "list", "table"
abbrev pub Encoder : Type 0
Encoder = Object → Value → List ℕ

-- what follows the mark of a present member or element: flat parts as above; an object's content; "union a 16-bit choice
-- and the object"
unfoldable pub body_bits : Encoder → Schema → Kind → Value → List ℕ
body_bits child S (OfFlat k) v = flat_bits (struct_bits S) k v
body_bits child S (OfObject ob) v = child ob v
body_bits child S (OfUnion i) v = bits_of 16 (as_number v) ++ child (case_of (cases_of S i) (as_number v)) (as_object v)

-- how many bits an unknown number has: "Unknown (enum, union only): the 8-bit or 16-bit number"
unfoldable pub flat_unknown : Flat → ℕ
flat_unknown Boolean = 0
flat_unknown (Integer s w) = 0
flat_unknown (Float w) = 0
flat_unknown (Enumerated n) = 8
flat_unknown (Struct i) = 0

-- the same of any kind: "the 8-bit or 16-bit number"
unfoldable pub unknown_width : Kind → ℕ
unknown_width (OfFlat k) = flat_unknown k
unknown_width (OfObject ob) = 0
unknown_width (OfUnion i) = 16

-- a member or element with its mark: "each with a 2-bit mark"
unfoldable pub part_bits : Encoder → Schema → Kind → Value → List ℕ
part_bits child S k v = mark_bits (unknown_width k) (body_bits child S k) v

-- whether an element has no mark: "Elements ... have a mark too, except bool and integer elements"
unfoldable pub flat_unmarked : Flat → Bool
flat_unmarked Boolean = true
flat_unmarked (Integer s w) = true
flat_unmarked (Float w) = false
flat_unmarked (Enumerated n) = false
flat_unmarked (Struct i) = false

-- the same of any kind: "except bool and integer elements"
unfoldable pub unmarked : Kind → Bool
unmarked (OfFlat k) = flat_unmarked k
unmarked (OfObject ob) = false
unmarked (OfUnion i) = false

-- an element, with or without a mark: "Elements ... have a mark too, except bool and integer elements"
unfoldable pub element_bits : Encoder → Schema → Kind → Value → List ℕ
element_bits child S k v = pick (unmarked k) (body_bits child S k v) (part_bits child S k v)

-- "Table members in order, each with a 2-bit mark"
unfoldable pub members_bits : Encoder → Schema → List Member → Values → List ℕ
members_bits child S [] vs = []
members_bits child S (r ∷ rs) vs = part_bits child S r.kind (first vs) ++ members_bits child S rs (others vs)

-- the elements in order, of "list a 32-bit count and elements"
unfoldable pub elements_bits : Encoder → Schema → Kind → Values → List ℕ
elements_bits child S k none = []
elements_bits child S k (v then vs) = element_bits child S k v ++ elements_bits child S k vs

-- "text or bytes a 32-bit length and the bytes"
unfoldable pub blob_bits : List ℕ → List ℕ
blob_bits l = bits_of 32 (length l) ++ bits l

-- 02, K1: "A sheet holds a 32-bit count and the elements without marks.": the elements of a direct list of table t
unfoldable pub directs_bits : Encoder → ℕ → Values → List ℕ
directs_bits child t none = []
directs_bits child t (v then vs) = child (O.Table t) v ++ directs_bits child t vs

-- "text or bytes a 32-bit length and the bytes; list a 32-bit count and elements; table its members"; 02, K1: "a 32-bit count and
-- the elements without marks"
unfoldable pub content_bits : Encoder → Schema → Object → Value → List ℕ
content_bits child S O.Text v = blob_bits (as_blob v)
content_bits child S O.Bytes v = blob_bits (as_blob v)
content_bits child S (O.List i) v = bits_of 32 (count (as_row v)) ++ elements_bits child S (element_of S i) (as_row v)
content_bits child S (O.Table i) v = members_bits child S (table_of S i).members (as_row v)
content_bits child S (O.DirectList t) v = bits_of 32 (count (as_row v)) ++ directs_bits child t (as_row v)

-- an object's bits, with d objects of depth left, this one counted: "Depth: 32 objects, the root being 1". No lawful sheet
-- goes deeper.
unfoldable pub encode : ℕ → Schema → Object → Value → List ℕ
encode zero S ob v = []
encode (suc d) S ob v = content_bits (encode d S) S ob v

-- "The root table's content"
unfoldable pub sheet_bits : Schema → Value → List ℕ
sheet_bits S v = encode deepest S (O.Table S.root) v

-- the sheet of a tree: "The root table's content, then zero bits to the byte end, nothing more."
unfoldable pub sheet_of : Schema → Value → List ℕ
sheet_of S v = packed (sheet_bits S v)

-- ---- and back: each of the following takes from the first bits what one of the above puts there
-- what was taken and the bits that are left, or the failure that makes the sheet "not lawful"
pub data Parsed (A : Type 0) : Type 0 where
  fail : Parsed A
  got : A → List ℕ → Parsed A

-- one after the other; a failure of the first is a failure of both, and the sheet is "not lawful"
unfoldable pub bind : {A B : Type 0} → Parsed A → (A → List ℕ → Parsed B) → Parsed B
bind fail next = fail
bind (got a xs) next = next a xs

-- "numbers at their width": a number of w bits; too few bits are a failure
unfoldable pub take_number : ℕ → List ℕ → Parsed ℕ
take_number w xs = pick (leb w (length xs)) (got (value (take w xs)) (drop w xs)) fail

-- "the bytes" of a text or bytes, n of them; too few bits are a failure
unfoldable pub take_bytes : ℕ → List ℕ → Parsed (List ℕ)
take_bytes n xs = pick (leb (8 * n) (length xs)) (got (pack n xs) (drop (8 * n) xs)) fail

-- a present number of w bits: "Present bool 1 bit; numbers at their width"
unfoldable pub take_value : ℕ → List ℕ → Parsed Value
take_value w xs = bind (take_number w xs) (λ x ys. got (number x) ys)

-- a number of w bits that passes a test, as "A present enum is below its count", and the value that f makes of it
unfoldable pub take_if : ℕ → (ℕ → Bool) → (ℕ → Value) → List ℕ → Parsed Value
take_if w ok f xs = bind (take_number w xs) (λ x ys. pick (ok x) (got (f x) ys) fail)

-- "0 absent, 1 present, 2 unknown, 3 not lawful": `body` takes what is present, `lost` an unknown number
unfoldable pub take_mark : (List ℕ → Parsed Value) → (List ℕ → Parsed Value) → List ℕ → Parsed Value
take_mark lost body xs =
    bind (take_number 2 xs)
    (λ mark ys. pick (eqb mark 0) (got absent ys) (pick (eqb mark 1) (body ys) (pick (eqb mark 2) (lost ys) fail)))

-- "the 8-bit or 16-bit number, which must truly be unknown": at or above the count, and not 255, which is no value
unfoldable pub unknown_enum : ℕ → ℕ → Bool
unknown_enum n x = leb n x && not (eqb x 255)

-- an unknown enum of n values: "the 8-bit or 16-bit number, which must truly be unknown"
unfoldable pub take_unknown_enum : ℕ → List ℕ → Parsed Value
take_unknown_enum n xs = take_if 8 (unknown_enum n) unknown xs

-- "A present enum is below its count"
unfoldable pub take_enum : ℕ → List ℕ → Parsed Value
take_enum n xs = take_if 8 (λ x. ltb x n) number xs

-- "Present bool 1 bit; numbers at their width (floats as their bits); enum 8 bits"; a struct by `inner`
unfoldable pub take_flat : (ℕ → List ℕ → Parsed Value) → Flat → List ℕ → Parsed Value
take_flat inner Boolean xs = take_value 1 xs
take_flat inner (Integer s w) xs = take_value (8 * w) xs
take_flat inner (Float w) xs = take_value (8 * w) xs
take_flat inner (Enumerated n) xs = take_enum n xs
take_flat inner (Struct i) xs = inner i xs

-- a struct's member: "enum struct members have a mark too ...; other struct members have none"
unfoldable pub take_field : (ℕ → List ℕ → Parsed Value) → Flat → List ℕ → Parsed Value
take_field inner Boolean xs = take_flat inner Boolean xs
take_field inner (Integer s w) xs = take_flat inner (Integer s w) xs
take_field inner (Float w) xs = take_flat inner (Float w) xs
take_field inner (Enumerated n) xs = take_mark (take_unknown_enum n) (take_flat inner (Enumerated n)) xs
take_field inner (Struct i) xs = take_flat inner (Struct i) xs

-- a struct's members in order: "enum struct members have a mark too ...; other struct members have none"
unfoldable pub take_fields : (ℕ → List ℕ → Parsed Value) → List Flat → List ℕ → Parsed Values
take_fields inner [] xs = got none xs
take_fields inner (k ∷ ks) xs =
    bind (take_field inner k xs) (λ v ys. bind (take_fields inner ks ys) (λ vs zs. got (v then vs) zs))

-- struct i, given the inner structs, which have no mark of their own: "other struct members have none"
unfoldable pub take_by : Schema → (ℕ → List ℕ → Parsed Value) → ℕ → List ℕ → Parsed Value
take_by S inner i xs = bind (take_fields inner (struct_of S i) xs) (λ vs ys. got (row vs) ys)

-- a failure: what by_index gives for an index that is not lower, which "an inner struct having a lower index" excludes
abbrev pub take_nothing : List ℕ → Parsed Value
take_nothing xs = fail

-- struct i, present: its members in order, by the same words
unfoldable pub take_struct : Schema → ℕ → List ℕ → Parsed Value
take_struct S i = by_index take_nothing (take_by S) i

-- what takes an object's content, "text or bytes", "list", "table", from the first bits
abbrev pub Decoder : Type 0
Decoder = Object → List ℕ → Parsed Value

-- "union a 16-bit choice and the object", "a present choice known"
unfoldable pub take_choice : Decoder → List Object → List ℕ → Parsed Value
take_choice child cases xs =
    bind (take_number 16 xs)
    (λ c ys.
    pick (leb 1 c && leb c (length cases)) (bind (child (case_of cases c) ys) (λ v zs. got (chosen c v) zs)) fail)

-- what follows the mark of a present member or element: flat parts as above; an object's content; "union a 16-bit choice
-- and the object"
unfoldable pub take_body : Decoder → Schema → Kind → List ℕ → Parsed Value
take_body child S (OfFlat k) xs = take_flat (take_struct S) k xs
take_body child S (OfObject ob) xs = child ob xs
take_body child S (OfUnion i) xs = take_choice child (cases_of S i) xs

-- an unknown number: "Unknown (enum, union only)"
unfoldable pub take_unknown_flat : Flat → List ℕ → Parsed Value
take_unknown_flat Boolean xs = fail
take_unknown_flat (Integer s w) xs = fail
take_unknown_flat (Float w) xs = fail
take_unknown_flat (Enumerated n) xs = take_unknown_enum n xs
take_unknown_flat (Struct i) xs = fail

-- the same of any kind: "the 8-bit or 16-bit number, which must truly be unknown"; a choice above the case count
unfoldable pub take_unknown : Schema → Kind → List ℕ → Parsed Value
take_unknown S (OfFlat k) xs = take_unknown_flat k xs
take_unknown S (OfObject ob) xs = fail
take_unknown S (OfUnion i) xs = take_if 16 (λ c. ltb (length (cases_of S i)) c) unknown xs

-- a member or element with its mark: "each with a 2-bit mark"
unfoldable pub take_part : Decoder → Schema → Kind → List ℕ → Parsed Value
take_part child S k xs = take_mark (take_unknown S k) (take_body child S k) xs

-- an element, with or without a mark: "Elements ... have a mark too, except bool and integer elements"
unfoldable pub take_element : Decoder → Schema → Kind → List ℕ → Parsed Value
take_element child S k xs = pick (unmarked k) (take_body child S k xs) (take_part child S k xs)

-- "Table members in order, each with a 2-bit mark"
unfoldable pub take_members : Decoder → Schema → List Member → List ℕ → Parsed Values
take_members child S [] xs = got none xs
take_members child S (r ∷ rs) xs =
    bind (take_part child S r.kind xs) (λ v ys. bind (take_members child S rs ys) (λ vs zs. got (v then vs) zs))

-- n elements in order, of "list a 32-bit count and elements"
unfoldable pub take_elements : Decoder → Schema → Kind → ℕ → List ℕ → Parsed Values
take_elements child S k zero xs = got none xs
take_elements child S k (suc n) xs =
    bind (take_element child S k xs) (λ v ys. bind (take_elements child S k n ys) (λ vs zs. got (v then vs) zs))

-- "text or bytes a 32-bit length and the bytes"
unfoldable pub take_blob : List ℕ → Parsed Value
take_blob xs = bind (take_number 32 xs) (λ n ys. bind (take_bytes n ys) (λ l zs. got (blob l) zs))

-- 02, K1: "a 32-bit count and the elements without marks": n elements of a direct list of table t
unfoldable pub take_directs : Decoder → ℕ → ℕ → List ℕ → Parsed Values
take_directs child t zero xs = got none xs
take_directs child t (suc n) xs =
    bind (child (O.Table t) xs) (λ v ys. bind (take_directs child t n ys) (λ vs zs. got (v then vs) zs))

-- "text or bytes a 32-bit length and the bytes; list a 32-bit count and elements; table its members"; 02, K1: "a 32-bit count and
-- the elements without marks"
unfoldable pub take_content : Decoder → Schema → Object → List ℕ → Parsed Value
take_content child S O.Text xs = take_blob xs
take_content child S O.Bytes xs = take_blob xs
take_content child S (O.List i) xs =
    bind (take_number 32 xs) (λ n ys. bind (take_elements child S (element_of S i) n ys) (λ vs zs. got (row vs) zs))
take_content child S (O.Table i) xs = bind (take_members child S (table_of S i).members xs) (λ vs ys. got (row vs) ys)
take_content child S (O.DirectList t) xs =
    bind (take_number 32 xs) (λ n ys. bind (take_directs child t n ys) (λ vs zs. got (row vs) zs))

-- an object's content, with d objects of depth left, this one counted; refusal 11: "deeper than 32"
unfoldable pub decode : ℕ → Schema → Object → List ℕ → Parsed Value
decode zero S ob xs = fail
decode (suc d) S ob xs = take_content (decode d S) S ob xs

-- "then zero bits to the byte end, nothing more"
unfoldable pub closed : Parsed Value → Option Value
closed fail = Op.none
closed (got v xs) = pick (ltb (length xs) 8 && all_zero xs) (Op.some v) Op.none

-- the tree of a lawful sheet of any length, or nothing; refusal 11: "sheet not lawful, ... or deeper than 32"
unfoldable pub tree_of : Schema → List ℕ → Option Value
tree_of S s = closed (decode deepest S (O.Table S.root) (bits s))

-- the tree of a lawful sheet within the size, or nothing; refusal 11: "sheet not lawful, too long, or deeper than 32"
unfoldable pub sheet_tree : Schema → List ℕ → Option Value
sheet_tree S s = pick (leb (length s) largest) (tree_of S s) Op.none
