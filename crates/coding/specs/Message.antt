-- The writer: which trees can be written, and the one message of each; and reading to a sheet. `o` is the width of an
-- offset in bytes; where a sentence says U48, the older coding has a U32, and a union takes 6 bytes (02, K5).
use Rattle.std.specs.Prelude.{ℕ, zero, suc, ◌+◌, List, [], ◌∷◌, ◌++◌, Bool, true, false, ◌&&◌, not, length, drop, replicate, ltb, leb, eqb}
use Rattle.std.proofs.Math.Option.{Option}
use Rattle.std.proofs.Math.Option as Op
use Rattle.coding.specs.Lists.{pick}
use Rattle.coding.specs.Bytes.{le_bytes, is_nan, no_float, deepest, largest, u48}
use Rattle.coding.specs.Utf8.{is_text}
use Rattle.coding.specs.Schema.{Schema, struct_of, element_of, cases_of, case_of, table_of}
use Rattle.coding.specs.Structs.{by_index, struct_size}
use Rattle.coding.specs.Packed.{parse}
use Rattle.coding.specs.Lawful.{lawful}
use Rattle.coding.specs.Layout.{has_flag, fixed_size}
use Rattle.coding.specs.Walk.{magic, at_zero, spent_of, verdict, early}
use Rattle.coding.specs.Value.{Value, Values, none, ◌then◌, as_number, as_blob, as_row, as_object, present, known, first, others, count}
use Rattle.coding.specs.Read.{message_read}
use Rattle.coding.specs.Sheet.{sheet_of, sheet_tree}
use Rattle.coding.specs.Cells.{Slots, end, bytes, bit, reference, in_place, part, pack_bits, layout}
use Rattle.coding.specs.declared.Flat.{Flat}
use Rattle.coding.specs.declared.Flat.TheVariants.{Boolean, Integer, Float, Enumerated, Struct}
use Rattle.coding.specs.declared.Object.{Object}
use Rattle.coding.specs.declared.Object.TheVariants as O
use Rattle.coding.specs.declared.Kind.{Kind}
use Rattle.coding.specs.declared.Kind.TheVariants.{OfFlat, OfObject, OfUnion}
use Rattle.coding.specs.declared.Member.{Member}
use Rattle.coding.specs.declared.Budget.{Budget}
use Rattle.coding.specs.declared.Verdict.{Verdict}
use Rattle.coding.specs.declared.ReadAnswer.{ReadAnswer}
use Rattle.coding.specs.declared.WriteAnswer.{WriteAnswer}

-- the length that an object's header gives, or in place "the length (bytes, elements or fixed-part bytes)". "Fixed parts
-- have their full schema size."
unfoldable pub length_of : ℕ → Schema → Object → Value → ℕ
length_of o S O.Text v = length (as_blob v)
length_of o S O.Bytes v = length (as_blob v)
length_of o S (O.List i) v = count (as_row v)
length_of o S (O.Table i) v = fixed_size o S (table_of S i).members
length_of o S (O.DirectList t) v = count (as_row v)

-- ---- writable: "Not writable: an unknown mark; an absent plain bool, integer, struct or float member; a present NaN in an
-- optional float member or as a list element (not inside a struct); a present in-place text, bytes, list or table of length
-- 0."
-- whether a struct's member is without "an unknown mark"; only an enum can have one
unfoldable pub flat_known : (ℕ → Value → Bool) → Flat → Value → Bool
flat_known inner Boolean v = true
flat_known inner (Integer s w) v = true
flat_known inner (Float w) v = true
flat_known inner (Enumerated n) v = known v
flat_known inner (Struct i) v = inner i v

-- the same of a struct's members in order, for "an unknown mark"
unfoldable pub flats_known : (ℕ → Value → Bool) → List Flat → Values → Bool
flats_known inner [] vs = true
flats_known inner (k ∷ ks) vs = flat_known inner k (first vs) && flats_known inner ks (others vs)

-- struct i, given the inner structs, for "an unknown mark"
unfoldable pub known_by : Schema → (ℕ → Value → Bool) → ℕ → Value → Bool
known_by S inner i v = flats_known inner (struct_of S i) (as_row v)

-- what by_index gives for an index that is not lower, which "an inner struct having a lower index" excludes
abbrev pub all_known : Value → Bool
all_known v = true

-- whether struct i and the structs inside it are without "an unknown mark"
unfoldable pub struct_known : Schema → ℕ → Value → Bool
struct_known S i = by_index all_known (known_by S) i

-- "an unknown mark; an absent plain bool, integer, struct or float member; a present NaN in an optional float member or as
-- a list element". `optional`: there may be no value, and a NaN is none, as in a list too.
unfoldable pub flat_writable : Schema → Bool → Flat → Value → Bool
flat_writable S optional Boolean v = pick (present v) true optional
flat_writable S optional (Integer s w) v = pick (present v) true optional
flat_writable S optional (Float w) v = pick (present v) (not (optional && is_nan w (as_number v))) optional
flat_writable S optional (Enumerated n) v = known v
flat_writable S optional (Struct i) v = pick (present v) (struct_known S i v) optional

-- a test of an object's value, for "Not writable"
abbrev pub Test : Type 0
Test = Object → Value → Bool

-- 02, K12: "From now the writer refuses a present one under the 48-bit coding of document 000", an in-place union; "The 32-bit coding
-- keeps them."
unfoldable pub keeps_unions : ℕ → Bool
keeps_unions o = not (eqb o u48)

-- a member or element: "a present in-place text, bytes, list or table of length 0" cannot be written, nor "an unknown mark"
-- of a union, nor a present union in place where they are not `kept`; a present object by `child`
unfoldable pub value_writable : Test → Bool → ℕ → Schema → Kind → Bool → Bool → Value → Bool
value_writable child kept o S (OfFlat k) optional inplace v = flat_writable S optional k v
value_writable child kept o S (OfObject ob) optional inplace v =
    pick (present v) (pick inplace (ltb 0 (length_of o S ob v)) true && child ob v) true
value_writable child kept o S (OfUnion i) optional inplace v =
    pick (present v) (pick inplace kept true && child (case_of (cases_of S i) (as_number v)) (as_object v)) (known v)

-- every member of a table, in order: "Writing tries ... each over the whole sheet"
unfoldable pub members_writable : Test → Bool → ℕ → Schema → List Member → Values → Bool
members_writable child kept o S [] vs = true
members_writable child kept o S (r ∷ rs) vs =
    value_writable child kept o S r.kind r.optional r.inplace (first vs) && members_writable child kept o S rs (others vs)

-- every element of a list: "as a list element"
unfoldable pub elements_writable : Test → Bool → ℕ → Schema → Kind → Values → Bool
elements_writable child kept o S k none = true
elements_writable child kept o S k (v then vs) =
    value_writable child kept o S k true false v && elements_writable child kept o S k vs

-- every element of a direct list of table t: 02, K1, "the elements without marks"
unfoldable pub directs_writable : Test → ℕ → Values → Bool
directs_writable child t none = true
directs_writable child t (v then vs) = child (O.Table t) v && directs_writable child t vs

-- an object's content. 02, K2: "a sheet with such a text is 12", one that RFC 3629 does not allow; bytes may be any
unfoldable pub content_writable : Test → Bool → ℕ → Schema → Test
content_writable child kept o S O.Text v = is_text (as_blob v)
content_writable child kept o S O.Bytes v = true
content_writable child kept o S (O.List i) v = elements_writable child kept o S (element_of S i) (as_row v)
content_writable child kept o S (O.Table i) v = members_writable child kept o S (table_of S i).members (as_row v)
content_writable child kept o S (O.DirectList t) v = directs_writable child t (as_row v)

-- whether refusal 12, "sheet lawful but not writable", does not arise in an object, with d objects of depth left, this one
-- counted
unfoldable pub writable : ℕ → ℕ → Schema → Test
writable zero o S ob v = false
writable (suc d) o S ob v = content_writable (writable d o S) (keeps_unions o) o S ob v

-- ---- the layout of a tree
-- a present number, or else x, for "enum 255 and absent floats"
unfoldable pub number_or : Value → ℕ → ℕ
number_or v x = pick (present v) (as_number v) x

-- a struct's member: "a bool as a byte 0 or 1"; of what is absent in it, "except enum 255"
unfoldable pub flat_bytes : (ℕ → Value → List ℕ) → Flat → Value → List ℕ
flat_bytes inner Boolean v = as_number v ∷ []
flat_bytes inner (Integer s w) v = le_bytes w (as_number v)
flat_bytes inner (Float w) v = le_bytes w (as_number v)
flat_bytes inner (Enumerated n) v = number_or v 255 ∷ []
flat_bytes inner (Struct i) v = inner i v

-- "members joined without padding"
unfoldable pub flats_bytes : (ℕ → Value → List ℕ) → List Flat → Values → List ℕ
flats_bytes inner [] vs = []
flats_bytes inner (k ∷ ks) vs = flat_bytes inner k (first vs) ++ flats_bytes inner ks (others vs)

-- struct i, given the inner structs: "a struct inside a struct is laid out the same way"
unfoldable pub bytes_by : Schema → (ℕ → Value → List ℕ) → ℕ → Value → List ℕ
bytes_by S inner i v = flats_bytes inner (struct_of S i) (as_row v)

-- what by_index gives for an index that is not lower, which "an inner struct having a lower index" excludes
abbrev pub no_bytes : Value → List ℕ
no_bytes v = []

-- struct i, present: "members joined without padding, ... a struct inside a struct is laid out the same way, ... bytes in
-- turn"
unfoldable pub struct_bytes : Schema → ℕ → Value → List ℕ
struct_bytes S i = by_index no_bytes (bytes_by S) i

-- n zero bytes: "everything absent is zero"
abbrev pub zeros : ℕ → List ℕ
zeros n = replicate n 0

-- a value before the rest: "Every unused bit and everything absent is zero (an absent struct throughout), except enum 255
-- and absent floats, which are 0x7FC00000 or 0x7FF8000000000000."
unfoldable pub flat_slots : Schema → Flat → Value → Slots → Slots
flat_slots S Boolean v rest = bit (as_number v) rest
flat_slots S (Integer s w) v rest = bytes (le_bytes w (as_number v)) rest
flat_slots S (Float w) v rest = bytes (le_bytes w (number_or v (no_float w))) rest
flat_slots S (Enumerated n) v rest = bytes (number_or v 255 ∷ []) rest
flat_slots S (Struct i) v rest = bytes (pick (present v) (struct_bytes S i v) (zeros (struct_size S i))) rest

-- what is laid out for an object's content, by its value: "An object is written"
abbrev pub Planner : Type 0
Planner = Object → Value → Slots

-- an object with its header: "its own magic and header length ...; then U48 length". What a direct list's header says more stands
-- with its elements.
unfoldable pub object_slots : Planner → ℕ → Schema → Object → Value → Slots
object_slots child o S ob v = bytes (le_bytes 4 (magic S ob)) (bytes (le_bytes o (length_of o S ob v)) (child ob v))

-- the offset of an object, or "In place: the U48 is the length ..., and the content without magic and length starts where
-- its table's fixed part ends."
unfoldable pub refer_slots : Planner → ℕ → Schema → Bool → Object → Value → Slots → Slots
refer_slots child o S inplace ob v rest =
    pick inplace
    (bytes (le_bytes o (length_of o S ob v)) (in_place (child ob v) rest))
    (reference (object_slots child o S ob v) rest)

-- a value of any kind before the rest: "Text, bytes, list, table: U48 offset, 0 none. Union: 8 bytes as in lists, choice 0
-- none, cases from 1."
unfoldable pub value_slots : Planner → ℕ → Schema → Kind → Bool → Value → Slots → Slots
value_slots child o S (OfFlat k) inplace v rest = flat_slots S k v rest
value_slots child o S (OfObject ob) inplace v rest =
    pick (present v) (refer_slots child o S inplace ob v rest) (bytes (zeros o) rest)
value_slots child o S (OfUnion i) inplace v rest =
    pick (present v)
    (bytes (le_bytes 2 (as_number v)) (refer_slots child o S inplace (case_of (cases_of S i) (as_number v)) (as_object v) rest))
    (bytes (zeros (2 + o)) rest)

-- the flag of "a flag bool first": 1 if there is a value
unfoldable pub flag_of : Value → ℕ
flag_of v = pick (present v) 1 0

-- "a flag bool first, then the value"
unfoldable pub member_slots : Planner → ℕ → Schema → Member → Value → Slots → Slots
member_slots child o S r v rest =
    pick (has_flag r)
    (bit (flag_of v) (value_slots child o S r.kind r.inplace v rest))
    (value_slots child o S r.kind r.inplace v rest)

-- "Next the members of the table are encoded in turn" (000)
unfoldable pub members_slots : Planner → ℕ → Schema → List Member → Values → Slots
members_slots child o S [] vs = end
members_slots child o S (r ∷ rs) vs = member_slots child o S r (first vs) (members_slots child o S rs (others vs))

-- "Next the individual elements are encoded in order." (000)
unfoldable pub elements_slots : Planner → ℕ → Schema → Kind → Values → Slots
elements_slots child o S k none = end
elements_slots child o S k (v then vs) = value_slots child o S k false v (elements_slots child o S k vs)

-- 02, K1: "then the elements without headers": the elements of a direct list of table t, each a table's fixed part
unfoldable pub directs_slots : Planner → ℕ → Values → Slots
directs_slots child t none = end
directs_slots child t (v then vs) = part (child (O.Table t) v) (directs_slots child t vs)

-- what follows the count of a direct list: 02, K1, "U32 table id, U32 size, then the elements without headers"; "The writer uses
-- the full size."
unfoldable pub direct_slots : Planner → ℕ → Schema → ℕ → Values → Slots
direct_slots child o S t vs =
    bytes (le_bytes 4 (table_of S t).id) (bytes (le_bytes 4 (fixed_size o S (table_of S t).members)) (directs_slots child t vs))

-- an object's content: "Text: length bytes and one zero byte. Bytes: length bytes."; a list's elements; a table's members
unfoldable pub content_slots : Planner → ℕ → Schema → Planner
content_slots child o S O.Text v = bytes (as_blob v) (bytes (0 ∷ []) end)
content_slots child o S O.Bytes v = bytes (as_blob v) end
content_slots child o S (O.List i) v = elements_slots child o S (element_of S i) (as_row v)
content_slots child o S (O.Table i) v = members_slots child o S (table_of S i).members (as_row v)
content_slots child o S (O.DirectList t) v = direct_slots child o S t (as_row v)

-- an object's content, with d objects of depth left, this one counted: "Depth: 32 objects, the root being 1". No lawful
-- sheet goes deeper.
unfoldable pub plan : ℕ → ℕ → Schema → Planner
plan zero o S ob v = end
plan (suc d) o S ob v = content_slots (plan d o S) o S ob v

-- the message of a tree. "Start: magic 0xB5C0C4B3, U48 root offset."; "The writer puts the root at 10."; 02, K5: "the writer
-- puts the root at 8": behind the start, which refers to it
unfoldable pub message_of : ℕ → Schema → Value → List ℕ
message_of o S v =
    layout o
    (pack_bits 0
    (bytes (le_bytes 4 0xB5C0_C4B3) (reference (object_slots (plan deepest o S) o S (O.Table S.root) v) end)))

-- ---- the writer's answers
-- the number of "1, 11, 12, 13", or the message that is written if there is room
pub data Written : Type 0 where
  refused : ℕ → Written
  message : List ℕ → Written

-- 11, 12 and 13 of "Writing tries 1, 11, 12, 13, 14, each over the whole sheet": "sheet not lawful, too long, or deeper
-- than 32", which has no tree; "sheet lawful but not writable"; "message would be over the size"
unfoldable pub written_tree : ℕ → Schema → Option Value → Written
written_tree o S Op.none = refused 11
written_tree o S (Op.some v) =
    pick (writable deepest o S (O.Table S.root) v)
    (pick (leb (length (message_of o S v)) largest) (message (message_of o S v)) (refused 13))
    (refused 12)

-- "Writing tries 1, 11, 12, 13, 14, each over the whole sheet", all but 14
unfoldable pub written : ℕ → List ℕ → List ℕ → Written
written o b s = pick (lawful o b) (written_tree o (parse b) (sheet_tree (parse b) s)) (refused 1)

-- number and length: "On success a written length is given ...; on refusal the length is 0"; refusal 14: "no room in the
-- output"
unfoldable pub write_room : Written → ℕ → WriteAnswer
write_room (refused n) room = record { number = n; length = 0 }
write_room (message m) room =
    pick (leb (length m) room) (record { number = 0; length = length m }) (record { number = 14; length = 0 })

-- number, place, visits and content of the writer's answer: "with visits 0", and content 0; the table gives each of its refusals the
-- place 0
unfoldable pub write_verdict : WriteAnswer → Verdict
write_verdict a = early a.number

-- what the output holds after the call: "bytes after it keep what they held; on refusal ... the output is unchanged"
unfoldable pub write_over : Written → List ℕ → List ℕ
write_over (refused n) out = out
write_over (message m) out = pick (leb (length m) (length out)) (m ++ drop (length m) out) out

-- "Writing tries 1, 11, 12, 13, 14, each over the whole sheet": the answer for schema b, sheet s and an output
unfoldable pub write_answer : ℕ → List ℕ → List ℕ → List ℕ → WriteAnswer
write_answer o b s out = write_room (written o b s) (length out)

-- "bytes after it keep what they held": what the output holds after the call
unfoldable pub write_out : ℕ → List ℕ → List ℕ → List ℕ → List ℕ
write_out o b s out = write_over (written o b s) out

-- ---- reading to a sheet
-- the sheet of a message; "the rules give a sheet over the size too"
unfoldable pub message_sheet : ℕ → List ℕ → List ℕ → List ℕ
message_sheet o b m = sheet_of (parse b) (message_read o (parse b) m)

-- whether refusal 14, "no room in the output, or a sheet over the size", does not arise
unfoldable pub fits_room : List ℕ → List ℕ → Bool
fits_room s out = leb (length s) largest && leb (length s) (length out)

-- "Reading to a sheet gives the verdict's refusal first, then 14 with the full visits.", and with the full content (02, K7: "The
-- verdict record reports both."); "On success a written length is given ...; on refusal the length is 0"
unfoldable pub read_answer : ℕ → List ℕ → List ℕ → Budget → List ℕ → ReadAnswer
read_answer o b m budget out =
    pick (eqb (verdict o b m budget).number 0)
    (pick (fits_room (message_sheet o b m) out)
    (record { verdict = verdict o b m budget; length = length (message_sheet o b m) })
    (record { verdict = at_zero 14 (spent_of (verdict o b m budget)); length = 0 }))
    (record { verdict = verdict o b m budget; length = 0 })

-- what the output holds after the call: "bytes after it keep what they held; on refusal ... the output is unchanged"
unfoldable pub read_out : ℕ → List ℕ → List ℕ → Budget → List ℕ → List ℕ
read_out o b m budget out =
    pick (eqb (verdict o b m budget).number 0)
    (pick (fits_room (message_sheet o b m) out) (message_sheet o b m ++ drop (length (message_sheet o b m)) out) out)
    out
