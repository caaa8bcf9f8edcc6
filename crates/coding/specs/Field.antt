-- One field's answer at a path, through the same steps as the walk; a text as a part of the message; the list reader's
-- answers. `o` is the width of an offset in bytes.
use Rattle.std.specs.Prelude.{ℕ, zero, suc, ◌+◌, ◌*◌, ◌/◌, List, [], ◌∷◌, ◌++◌, Bool, true, false, length, take, drop, ltb, leb, eqb, Result, Ok, Err, Option, Some, None}
use Rattle.coding.specs.Lists.{pick}
use Rattle.coding.specs.Bytes.{deepest}
use Rattle.coding.specs.Schema.{Schema, struct_of, field_of, element_of, table_of, member_of}
use Rattle.coding.specs.Packed.{parse}
use Rattle.coding.specs.Lawful.{lawful}
use Rattle.coding.specs.Structs.{total, struct_size}
use Rattle.coding.specs.Layout.{begin, after_members}
use Rattle.coding.specs.Step.{field_step, member_step, element_step}
use Rattle.coding.specs.Walk.{placed, refusal, part_refusal, content_at, element_size, open_object, root_place, nothing, verdict_at, early, size_ok, start_ok}
use Rattle.coding.specs.declared.Flat.{Flat}
use Rattle.coding.specs.declared.Flat.TheVariants as F
use Rattle.coding.specs.declared.Object.{Object}
use Rattle.coding.specs.declared.Object.TheVariants as O
use Rattle.coding.specs.declared.Kind.{Kind}
use Rattle.coding.specs.declared.Kind.TheVariants.{OfFlat, OfObject, OfUnion}
use Rattle.coding.specs.declared.Place.{Place}
use Rattle.coding.specs.declared.Place.TheVariants.{ByOffset, InPlace}
use Rattle.coding.specs.declared.Step.{Step}
use Rattle.coding.specs.declared.Step.TheVariants as St
use Rattle.coding.specs.declared.Content.{Content}
use Rattle.coding.specs.declared.Found.{Found}
use Rattle.coding.specs.declared.Found.TheVariants as Fd
use Rattle.coding.specs.declared.Verdict.{Verdict}
use Rattle.coding.specs.declared.Answer.{Answer}
use Rattle.coding.specs.declared.Answer.TheVariants as A
use Rattle.coding.specs.declared.Case.{Case}

-- ---- where a path has come
-- refusal 15: "path step has no such part", at the "last object judged"
unfoldable pub no_part : ℕ → Found
no_part at = Fd.Refused (refusal 15 at)

-- what an arrival finds: its refusal at the "object", or the object with its content, and d objects of depth left below it
unfoldable pub opened : Object → ℕ → ℕ → Result Content ℕ → Found
opened ob at d (Err n) = Fd.Refused (refusal n at)
opened ob at d (Ok c) = Fd.Object ob at c.start c.length d

-- "Only objects and members on the path are judged (a struct as a whole), without budget": an arrival with d objects of
-- depth left, this one counted; refusal 5: "deeper than 32"
unfoldable pub arrived : ℕ → ℕ → Schema → List ℕ → Object → Place → Found
arrived zero o S m ob p = Fd.Refused (refusal 5 (placed p))
arrived (suc d) o S m ob p = opened ob (placed p) d (open_object o S m ob p)

-- a refusal of part j of the object at `holder`; 02, K6: "Field reading answers likewise."
unfoldable pub part_refused : ℕ → ℕ → ℕ → Found
part_refused n holder j = Fd.Refused (part_refusal n holder j)

-- "unions are passed through without one", a number of the path; refusal 9: "known union choice, not in place, offset 0"
unfoldable pub chosen : ℕ → ℕ → Schema → List ℕ → ℕ → ℕ → Object → Place → Found
chosen d o S m holder j ob (ByOffset x) = pick (eqb x 0) (part_refused 9 holder j) (arrived d o S m ob (ByOffset x))
chosen d o S m holder j ob (InPlace a n) = arrived d o S m ob (InPlace a n)

-- what the step of part j of a holder finds, with d objects of depth left below the holder: "Only objects and members on
-- the path are judged". A struct's member has no step that refuses.
unfoldable pub stepped : ℕ → ℕ → Schema → List ℕ → ℕ → ℕ → Kind → Step → Found
stepped d o S m holder j k (St.Refused n) = part_refused n holder j
stepped d o S m holder j k St.Absent = Fd.Absent
stepped d o S m holder j k (St.Value x) = Fd.Value k x holder
stepped d o S m holder j k (St.Unknown x) = Fd.Unknown x
stepped d o S m holder j k (St.Struct i at) = Fd.Struct i at holder
stepped d o S m holder j k (St.Object ob p) = arrived d o S m ob p
stepped d o S m holder j k (St.Choice c ob p) = chosen d o S m holder j ob p

-- "A path names a member, element or struct member per number": member j of struct i at a place, in the object at `holder`
unfoldable pub struct_part : ℕ → Schema → List ℕ → ℕ → ℕ → ℕ → ℕ → Found
struct_part o S m i at holder j =
    pick (ltb j (length (struct_of S i)))
    (stepped 0 o S m holder j (OfFlat (field_of S i j)) (field_step m (field_of S i j) (at + total (struct_size S) (take j (struct_of S i)))))
    (no_part holder)

-- member or element j of an object at a place. "A holder is judged before 15 is given at it." An element of a direct list is a table
-- "placed at its first byte" (02, K1).
unfoldable pub object_part : ℕ → Schema → List ℕ → Object → ℕ → ℕ → ℕ → ℕ → ℕ → Found
object_part o S m O.Text at start n d j = no_part at
object_part o S m O.Bytes at start n d j = no_part at
object_part o S m (O.List i) at start n d j =
    pick (ltb j n) (stepped d o S m at j (element_of S i) (element_step o S m (element_of S i) start j)) (no_part at)
object_part o S m (O.Table i) at start n d j =
    pick (ltb j (length (table_of S i).members))
    (stepped d o S m at j (member_of S i j).kind
    (member_step o S m start n (after_members o S (take j (table_of S i).members) begin) (member_of S i j)))
    (no_part at)
object_part o S m (O.DirectList t) at start n d j =
    pick (ltb j n) (arrived d o S m (O.Table t) (InPlace (start + element_size o m at * j) (element_size o m at))) (no_part at)

-- one number more. "An absent or unknown place ends it, whatever steps remain.", and so does a refusal. A value has no
-- part: refusal 15.
unfoldable pub part_of : ℕ → Schema → List ℕ → Found → ℕ → Found
part_of o S m (Fd.Refused r) j = Fd.Refused r
part_of o S m Fd.Absent j = Fd.Absent
part_of o S m (Fd.Unknown x) j = Fd.Unknown x
part_of o S m (Fd.Value k x holder) j = no_part holder
part_of o S m (Fd.Struct i at holder) j = struct_part o S m i at holder j
part_of o S m (Fd.Object ob at start n d) j = object_part o S m ob at start n d j

-- "A path names a member, element or struct member per number": all its numbers, one after the other
unfoldable pub along : ℕ → Schema → List ℕ → Found → List ℕ → Found
along o S m f [] = f
along o S m f (j ∷ js) = along o S m (part_of o S m f j) js

-- what a path comes to from the root: "Depth: 32 objects, the root being 1"
unfoldable pub found : ℕ → Schema → List ℕ → List ℕ → Found
found o S m path = along o S m (arrived deepest o S m (O.Table S.root) (root_place o m)) path

-- ---- "Otherwise the answer is one of: a boolean, a number with its width and sign, float bits, an object's kind, place
-- and length, a struct's place, absent, unknown with its number, or a refusal"
-- a value's answer. The paper names no answer for an enum: here it is a number of width 8 without sign. A struct is not
-- answered here.
unfoldable pub flat_answer : Flat → ℕ → Answer
flat_answer F.Boolean x = A.Boolean (eqb x 1)
flat_answer (F.Integer s w) x = A.Number x (8 * w) s
flat_answer (F.Float w) x = A.Float x (8 * w)
flat_answer (F.Enumerated n) x = A.Number x 8 false
flat_answer (F.Struct i) x = A.Absent

-- the same of any kind; "an object's kind, place and length" is not answered here
unfoldable pub value_answer : Kind → ℕ → Answer
value_answer (OfFlat k) x = flat_answer k x
value_answer (OfObject ob) x = A.Absent
value_answer (OfUnion i) x = A.Absent

-- the kind in "an object's kind, place and length": "13 text, 14 bytes, 15 list, 16 table"; 02, K1: "kind 18"
unfoldable pub record_kind : Object → ℕ
record_kind O.Text = 13
record_kind O.Bytes = 14
record_kind (O.List i) = 15
record_kind (O.Table i) = 16
record_kind (O.DirectList t) = 18

-- the answer for what a path has come to, in the sentence's words: "an object's kind, place and length, a struct's place,
-- absent, unknown with its number, or a refusal"
unfoldable pub answer_of : Found → Answer
answer_of (Fd.Refused r) = A.Refused r
answer_of Fd.Absent = A.Absent
answer_of (Fd.Unknown x) = A.Unknown x
answer_of (Fd.Value k x holder) = value_answer k x
answer_of (Fd.Struct i at holder) = A.Struct at
answer_of (Fd.Object ob at start n d) = A.Object (record_kind ob) at n

-- "Where an answer is an enum, a definition gives this paper's number and values for each of its cases.": number and place,
-- "without budget and with visits 0": 0 at 0 for every answer that is not a refusal
unfoldable pub answer_verdict : Answer → Verdict
answer_verdict (A.Boolean x) = early 0
answer_verdict (A.Number x w s) = early 0
answer_verdict (A.Float x w) = early 0
answer_verdict (A.Object k at n) = early 0
answer_verdict (A.Struct at) = early 0
answer_verdict A.Absent = early 0
answer_verdict (A.Unknown x) = early 0
answer_verdict (A.Refused r) = verdict_at r nothing

-- a refusal at place 0: "1, 15 for length, 2 and 3 come first"; and "any other answer is 15 at 0" of the list reader
unfoldable pub before : ℕ → Found
before n = Fd.Refused (refusal n 0)

-- "1, 15 for length, 2 and 3 come first"; refusal 15: "path over 96 numbers", at "0 for length"
unfoldable pub field_found : ℕ → List ℕ → List ℕ → List ℕ → Found
field_found o b m path =
    pick (lawful o b)
    (pick (leb (length path) 96)
    (pick (size_ok o m) (pick (start_ok m) (found o (parse b) m path) (before 3)) (before 2))
    (before 15))
    (before 1)

-- "Reading one field": the answer at a path, by schema b and message m
unfoldable pub field : ℕ → List ℕ → List ℕ → List ℕ → Answer
field o b m path = answer_of (field_found o b m path)

-- ---- "Where an answer is an enum, a definition gives this paper's number and values for each of its cases.": the values,
-- as four numbers for those who cannot be given an enum. The first is the library's own number of the case: 0 a boolean, 1
-- a number (its bits, its width in bits, 1 where it has a sign), 2 a float (its bits, its width), 3 an object (its record
-- kind, place and length), 4 a struct (its place), 5 absent, 6 unknown (its number), 7 refused (number, place, member)
unfoldable pub answer_case : Answer → Case
answer_case (A.Boolean x) = record { case = 0; a = pick x 1 0; b = 0; c = 0 }
answer_case (A.Number x w s) = record { case = 1; a = x; b = w; c = pick s 1 0 }
answer_case (A.Float x w) = record { case = 2; a = x; b = w; c = 0 }
answer_case (A.Object k at n) = record { case = 3; a = k; b = at; c = n }
answer_case (A.Struct at) = record { case = 4; a = at; b = 0; c = 0 }
answer_case A.Absent = record { case = 5; a = 0; b = 0; c = 0 }
answer_case (A.Unknown x) = record { case = 6; a = x; b = 0; c = 0 }
answer_case (A.Refused r) = record { case = 7; a = r.number; b = r.place; c = r.member }

-- ---- "texts and bytes can be had as a part of the message": the content where the answer is a text or bytes, else none
-- the part that an object is, n bytes from `start`: "texts and bytes", without header and end byte
unfoldable pub object_span : Object → ℕ → ℕ → Option Content
object_span O.Text start n = Some (content_at start n)
object_span O.Bytes start n = Some (content_at start n)
object_span (O.List i) start n = None
object_span (O.Table i) start n = None
object_span (O.DirectList t) start n = None

-- the part that a path has come to: "texts and bytes" only
unfoldable pub found_span : Found → Option Content
found_span (Fd.Refused r) = None
found_span Fd.Absent = None
found_span (Fd.Unknown x) = None
found_span (Fd.Value k x holder) = None
found_span (Fd.Struct i at holder) = None
found_span (Fd.Object ob at start n d) = object_span ob start n

-- "texts and bytes can be had as a part of the message": where it stands, at a path
unfoldable pub field_span : ℕ → List ℕ → List ℕ → List ℕ → Option Content
field_span o b m path = found_span (field_found o b m path)

-- the bytes of a "part of the message"; none where there is none
unfoldable pub text_of : List ℕ → Option Content → List ℕ
text_of m None = []
text_of m (Some c) = take c.length (drop c.start m)

-- "texts and bytes can be had as a part of the message": its bytes, at a path
unfoldable pub field_text : ℕ → List ℕ → List ℕ → List ℕ → List ℕ
field_text o b m path = text_of m (field_span o b m path)

-- ---- the list reader
-- "a list whose elements are of kinds 13 to 17": whether an element is of these; 02, K1: "direct lists and lists of them too"
unfoldable pub leads : Kind → Bool
leads (OfFlat k) = false
leads (OfObject ob) = true
leads (OfUnion i) = true

-- an object, if it is "a list whose elements are of kinds 13 to 17"; otherwise "any other answer is 15 at 0"; 02, K1: "The list reader
-- takes direct lists and lists of them too."
unfoldable pub list_found : Schema → Object → ℕ → ℕ → ℕ → ℕ → Found
list_found S O.Text at start n d = before 15
list_found S O.Bytes at start n d = before 15
list_found S (O.List i) at start n d = pick (leads (element_of S i)) (Fd.Object (O.List i) at start n d) (before 15)
list_found S (O.Table i) at start n d = before 15
list_found S (O.DirectList t) at start n d = Fd.Object (O.DirectList t) at start n d

-- "It starts from a path to a list whose elements are of kinds 13 to 17; a refused path gives its own refusal, any other
-- answer is 15 at 0."
unfoldable pub reader_of : Schema → Found → Found
reader_of S (Fd.Refused r) = Fd.Refused r
reader_of S Fd.Absent = before 15
reader_of S (Fd.Unknown x) = before 15
reader_of S (Fd.Value k x holder) = before 15
reader_of S (Fd.Struct i at holder) = before 15
reader_of S (Fd.Object ob at start n d) = list_found S ob at start n d

-- "It starts from a path to a list": the list that a reader goes over, or why there is none
unfoldable pub reader_start : ℕ → List ℕ → List ℕ → List ℕ → Found
reader_start o b m path = reader_of (parse b) (field_found o b m path)

-- "Each step answers as that element's path would ...; after the last it answers 15 at the list": the answer of a step at
-- element j of the list, or the refusal of the reader's start
unfoldable pub list_gives : ℕ → Schema → List ℕ → Found → ℕ → Answer
list_gives o S m list j = answer_of (part_of o S m list j)

-- "Each step answers as that element's path would": the same of the reader that starts from a path
unfoldable pub reader_gives : ℕ → List ℕ → List ℕ → List ℕ → ℕ → Answer
reader_gives o b m path j = list_gives o (parse b) m (reader_start o b m path) j

-- "and moves on, refused or not; after the last it answers 15 at the list and stays": where the reader of a list of n
-- elements stands after a step at element j
unfoldable pub reader_next : ℕ → ℕ → ℕ
reader_next n j = pick (ltb j n) (j + 1) j

-- how many elements the reader's list has, for "after the last it answers 15 at the list and stays"; none where there is no
-- list
unfoldable pub list_count : Found → ℕ
list_count (Fd.Refused r) = 0
list_count Fd.Absent = 0
list_count (Fd.Unknown x) = 0
list_count (Fd.Value k x holder) = 0
list_count (Fd.Struct i at holder) = 0
list_count (Fd.Object ob at start n d) = n

-- the same of the reader that "starts from a path to a list"
unfoldable pub reader_count : ℕ → List ℕ → List ℕ → List ℕ → ℕ
reader_count o b m path = list_count (reader_start o b m path)

-- ---- many steps at once. The papers do not ask for it; it serves callers that cannot keep a reader, and each step is the
-- one of "Each step answers as that element's path would".
-- the four numbers of a case, in order
unfoldable pub case_numbers : Case → List ℕ
case_numbers x = x.case ∷ x.a ∷ x.b ∷ x.c ∷ []

-- the numbers of k steps, one step after the other, from element j on, of a reader of n elements
unfoldable pub step_numbers : (ℕ → Answer) → ℕ → ℕ → ℕ → List ℕ
step_numbers gives n j zero = []
step_numbers gives n j (suc k) = case_numbers (answer_case (gives j)) ++ step_numbers gives n (reader_next n j) k

-- what the output holds then: as many steps as there is room for; the numbers left over, three at most, are as they were
unfoldable pub steps_over : (ℕ → Answer) → ℕ → ℕ → List ℕ → List ℕ
steps_over gives n j out = step_numbers gives n j (length out / 4) ++ drop (4 * (length out / 4)) out

-- the same of the reader that starts from a path
unfoldable pub reader_over : ℕ → List ℕ → List ℕ → List ℕ → ℕ → List ℕ → List ℕ
reader_over o b m path from out = steps_over (reader_gives o b m path) (reader_count o b m path) from out
