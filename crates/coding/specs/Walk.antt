-- The walk: which objects a message leads to, in which order, and the first refusal.
-- `o` is the width of an offset in bytes. Where a sentence says U48, the older coding has a U32 (02, K5).
use Rattle.std.specs.Prelude.{ℕ, zero, suc, ◌+◌, ◌*◌, List, [], ◌∷◌, Bool, true, false, ◌&&◌, length, get_or, take, drop, ltb, leb, eqb, Result, Ok, Err}
use Rattle.coding.specs.Lists.{pick}
use Rattle.coding.specs.Bytes.{le, largest, deepest}
use Rattle.coding.specs.Utf8.{is_text}
use Rattle.coding.specs.Schema.{Schema, element_of, table_of}
use Rattle.coding.specs.Packed.{parse}
use Rattle.coding.specs.Lawful.{lawful}
use Rattle.coding.specs.Layout.{begin, after_member}
use Rattle.coding.specs.Step.{member_step, element_step, elements_size}
use Rattle.coding.specs.declared.Object.{Object}
use Rattle.coding.specs.declared.Object.TheVariants as O
use Rattle.coding.specs.declared.Kind.{Kind}
use Rattle.coding.specs.declared.Member.{Member}
use Rattle.coding.specs.declared.Cursor.{Cursor}
use Rattle.coding.specs.declared.Place.{Place}
use Rattle.coding.specs.declared.Place.TheVariants.{ByOffset, InPlace}
use Rattle.coding.specs.declared.Step.{Step}
use Rattle.coding.specs.declared.Step.TheVariants as St
use Rattle.coding.specs.declared.Content.{Content}
use Rattle.coding.specs.declared.Budget.{Budget}
use Rattle.coding.specs.declared.Spent.{Spent}
use Rattle.coding.specs.declared.Refusal.{Refusal}
use Rattle.coding.specs.declared.Verdict.{Verdict}

-- ---- an arrival: header, magic, content, end byte, text
-- "An object's place is its offset as stored, or where its in-place content starts."
unfoldable pub placed : Place → ℕ
placed (ByOffset x) = x
placed (InPlace a n) = a

-- "Each kind of object owns its own magic and header length: text 0xD812C8F5, bytes 0xDCDBBE10, list 0x3400BB46, table
-- its id; then U48 length."; 02, K1: "magic 0xE2C6CC05"
unfoldable pub magic : Schema → Object → ℕ
magic S O.Text = 0xD812_C8F5
magic S O.Bytes = 0xDCDB_BE10
magic S (O.List i) = 0x3400_BB46
magic S (O.Table i) = (table_of S i).id
magic S (O.DirectList t) = 0xE2C6_CC05

-- "Each kind of object owns its own magic and header length": the magic and "then U48 length"; 02, K5: "8-byte headers"; 02, K1, of a
-- direct list: "magic 0xE2C6CC05, U48 count, U32 table id, U32 size, then the elements without headers, 18 bytes before the
-- first"
unfoldable pub header_size : ℕ → Object → ℕ
header_size o O.Text = 4 + o
header_size o O.Bytes = 4 + o
header_size o (O.List i) = 4 + o
header_size o (O.Table i) = 4 + o
header_size o (O.DirectList t) = 4 + o + 8

-- "U32 table id": what the header of the direct list at a place says of its elements' table
unfoldable pub element_id : ℕ → List ℕ → ℕ → ℕ
element_id o m at = le m (at + (4 + o)) 4

-- "U32 size": the bytes of each element of the direct list at a place. 02, K1: "The size comes from the message, so elements may
-- be shorter or longer than the schema."
unfoldable pub element_size : ℕ → List ℕ → ℕ → ℕ
element_size o m at = le m (at + (8 + o)) 4

-- the most elements of a direct list: "a count over 4,294,967,295 is 6"
unfoldable pub most_elements : ℕ
most_elements = 4294967295

-- the message's start: "magic 0xB5C0C4B3, U48 root offset"; 02, K5: "an 8-byte message start". An object stands behind it:
-- "An offset under 10 is not lawful where an object is required."; 02, K5: "Offsets under 8 are unlawful there (6)"
unfoldable pub start_size : ℕ → ℕ
start_size o = 4 + o

-- the bytes of an object's content, by its length. "Text: length bytes and one zero byte. Bytes: length bytes."; "List:
-- length elements."; "Table: length bytes of fixed part."; "A text keeps its zero byte unless it is absent.", in place too. Of the
-- direct list at a place, as many elements of the size that its header gives.
unfoldable pub content_size : ℕ → Schema → List ℕ → Object → ℕ → ℕ → ℕ
content_size o S m O.Text at n = n + 1
content_size o S m O.Bytes at n = n
content_size o S m (O.List i) at n = elements_size o S (element_of S i) n
content_size o S m (O.Table i) at n = n
content_size o S m (O.DirectList t) at n = n * element_size o m at

-- what an arrival adds to the content that is spent. 02, K7: "Each arrival whose content fits adds its content length: bytes,
-- text without its end byte, list element bytes, fixed part; a direct list itself adds 0"; bools are packed, and the bytes that
-- they take are charged
unfoldable pub content_length : ℕ → Schema → Object → ℕ → ℕ
content_length o S O.Text n = n
content_length o S O.Bytes n = n
content_length o S (O.List i) n = elements_size o S (element_of S i) n
content_length o S (O.Table i) n = n
content_length o S (O.DirectList t) n = 0

-- refusal 10: "text end byte not 0"
unfoldable pub end_ok : List ℕ → Object → ℕ → ℕ → Bool
end_ok m O.Text start n = eqb (get_or m (start + n) 0) 0
end_ok m O.Bytes start n = true
end_ok m (O.List i) start n = true
end_ok m (O.Table i) start n = true
end_ok m (O.DirectList t) start n = true

-- 02, K2: "The coding says UTF8, so a text is lawful only if RFC 3629 allows it: no overlong forms, no surrogates, nothing above
-- U+10FFFF.": refusal 16 is of a text's bytes, without its end byte; bytes may be any
unfoldable pub text_ok : List ℕ → Object → ℕ → ℕ → Bool
text_ok m O.Text start n = is_text (take n (drop start m))
text_ok m O.Bytes start n = true
text_ok m (O.List i) start n = true
text_ok m (O.Table i) start n = true
text_ok m (O.DirectList t) start n = true

-- content of length n at `start`
abbrev pub content_at : ℕ → ℕ → Content
content_at start n = record { start = start; length = n }

-- "content fit": content of length n at `start`, of the object at a place; refusal 6, "content does not fit"
unfoldable pub fit_content : ℕ → Schema → List ℕ → Object → ℕ → ℕ → ℕ → Result Content ℕ
fit_content o S m ob at start n =
    pick (leb (start + content_size o S m ob at n) (length m)) (Ok (content_at start n)) (Err 6)

-- what the header of a direct list of table t at a place says more. 02, K1: "wrong element id is 7, then a count over 4,294,967,295 is
-- 6, both at the list's arrival, after its magic and before content fit": `fit` is the content fit
unfoldable pub direct_header : ℕ → Schema → List ℕ → ℕ → ℕ → Result Content ℕ → Result Content ℕ
direct_header o S m t at fit =
    pick (eqb (element_id o m at) (table_of S t).id)
    (pick (leb (le m (at + 4) o) most_elements) fit (Err 6))
    (Err 7)

-- the same of any object at a place: only a direct list's header says more than magic and length
unfoldable pub header_tested : ℕ → Schema → List ℕ → Object → ℕ → Result Content ℕ → Result Content ℕ
header_tested o S m O.Text at fit = fit
header_tested o S m O.Bytes at fit = fit
header_tested o S m (O.List i) at fit = fit
header_tested o S m (O.Table i) at fit = fit
header_tested o S m (O.DirectList t) at fit = direct_header o S m t at fit

-- 02, K1: a direct list is "never in place"; no lawful schema leads to one there, and it would not fit
unfoldable pub stands_in_place : Object → Bool
stands_in_place O.Text = true
stands_in_place O.Bytes = true
stands_in_place (O.List i) = true
stands_in_place (O.Table i) = true
stands_in_place (O.DirectList t) = false

-- "offset and header fit, magic, content fit"; refusals 6 "offset under 10, or header or content does not fit" and 7 "wrong
-- object magic". "Offsets count from the message's first byte." In place there is no header.
unfoldable pub fit_object : ℕ → Schema → List ℕ → Object → Place → Result Content ℕ
fit_object o S m ob (ByOffset x) =
    pick (leb (start_size o) x && leb (x + header_size o ob) (length m))
    (pick (eqb (le m x 4) (magic S ob))
    (header_tested o S m ob x (fit_content o S m ob x (x + header_size o ob) (le m (x + 4) o)))
    (Err 7))
    (Err 6)
fit_object o S m ob (InPlace a n) = pick (stands_in_place ob) (fit_content o S m ob a a n) (Err 6)

-- "text's end byte": the test of an object's bytes once its content fits, of a text its end byte; refusal 10, "text end
-- byte not 0". Then, 02, K2: "16 at the text's place, after the end byte".
unfoldable pub bytes_tested : List ℕ → Object → Result Content ℕ → Result Content ℕ
bytes_tested m ob (Err n) = Err n
bytes_tested m ob (Ok c) =
    pick (end_ok m ob c.start c.length) (pick (text_ok m ob c.start c.length) (Ok c) (Err 16)) (Err 10)

-- "Judged at an arrival: ... offset and header fit, magic, content fit, text's end byte." and the text (02, K2), with nothing charged:
-- one field is read "without budget"
unfoldable pub open_object : ℕ → Schema → List ℕ → Object → Place → Result Content ℕ
open_object o S m ob p = bytes_tested m ob (fit_object o S m ob p)

-- ---- members, elements and the arrivals that they lead to
-- 02, K6: "a text's end byte and every other answer carry 4,294,967,295": the answer is about no member
unfoldable pub no_member : ℕ
no_member = 4294967295

-- a refusal with "No." and "Place" of the paper's table, about no member
abbrev pub refusal : ℕ → ℕ → Refusal
refusal n at = record { number = n; place = at; member = no_member }

-- 02, K6: "Refusals 8, 9 and 10 shall carry the member's or element's number in its holder, counted from 0": a refusal of part
-- j of the object at `holder`, where 8, 9 and 10 of a member or an element are placed
abbrev pub part_refusal : ℕ → ℕ → ℕ → Refusal
part_refusal n holder j = record { number = n; place = holder; member = j }

-- what the walk comes to: what was spent; or a refusal, and what was spent before it
abbrev pub Walked : Type 0
Walked = Result Spent (Refusal × Spent)

-- a refusal with its number and place, after what was spent: "Judging answers number, place and visits"; 02, K7: "The verdict
-- record reports both."
unfoldable pub refuse : ℕ → ℕ → Spent → Walked
refuse n at s = Err (refusal n at, s)

-- "The first failure ends the walk."
unfoldable pub and_then : Walked → (Spent → Walked) → Walked
and_then (Ok s) next = next s
and_then (Err (r, s)) next = Err (r, s)

-- what the walk does at an arrival at an object: "the arrival it leads to"
abbrev pub Child : Type 0
Child = Object → Place → Spent → Walked

-- a refusal of part j of the object at `holder`, after what was spent
unfoldable pub refuse_part : ℕ → ℕ → ℕ → Spent → Walked
refuse_part n holder j s = Err (part_refusal n holder j, s)

-- where a union's choice leads, of part j of a holder; refusal 9: "known union choice, not in place, offset 0", at the
-- "holder"
unfoldable pub follow_choice : Child → ℕ → ℕ → Object → Place → Spent → Walked
follow_choice child holder j ob (ByOffset x) s = pick (eqb x 0) (refuse_part 9 holder j s) (child ob (ByOffset x) s)
follow_choice child holder j ob (InPlace a n) s = child ob (InPlace a n) s

-- what the step of part j leads to, for a holder at a place. Refusal 8, "member cut, or flag without value", is at the
-- "table"; refusal 10, "struct boolean not 0 or 1", at the "object" that holds the struct; 02, K6: "A struct reports the table's
-- member." An unknown enum or choice: "Neither is refused."
unfoldable pub follow : Child → ℕ → ℕ → Step → Spent → Walked
follow child holder j (St.Refused n) s = refuse_part n holder j s
follow child holder j St.Absent s = Ok s
follow child holder j (St.Value x) s = Ok s
follow child holder j (St.Unknown x) s = Ok s
follow child holder j (St.Struct i at) s = Ok s
follow child holder j (St.Object ob p) s = child ob p s
follow child holder j (St.Choice c ob p) s = follow_choice child holder j ob p s

-- "Then each member or element in turn": the members of a table at `holder`, from member j on, whose fixed part has n bytes
-- from `start`
unfoldable pub members : Child → ℕ → Schema → List ℕ → ℕ → ℕ → ℕ → Cursor → ℕ → List Member → Spent → Walked
members child o S m holder start n c j [] s = Ok s
members child o S m holder start n c j (r ∷ rs) s =
    and_then (follow child holder j (member_step o S m start n c r) s)
    (members child o S m holder start n (after_member o S r c) (j + 1) rs)

-- "Then each member or element in turn": n elements of a list at `holder`, from element i on
unfoldable pub elements : Child → ℕ → Schema → List ℕ → ℕ → ℕ → Kind → ℕ → ℕ → Spent → Walked
elements child o S m holder start k zero i s = Ok s
elements child o S m holder start k (suc n) i s =
    and_then (follow child holder i (element_step o S m k start i) s) (elements child o S m holder start k n (i + 1))

-- 02, K1: "The list is one visit, each element one more and one deeper, placed at its first byte.": n elements of a direct list of
-- table t, each of w bytes, the first at a place. Each is a table's fixed part without a header.
unfoldable pub directs : Child → ℕ → ℕ → ℕ → ℕ → Spent → Walked
directs child t w zero at s = Ok s
directs child t w (suc n) at s = and_then (child (O.Table t) (InPlace at w) s) (directs child t w n (at + w))

-- "tables lead to lists and unions, and those lead back to tables": what the content of the object at `holder` leads to;
-- texts and bytes lead to nothing
unfoldable pub content : Child → ℕ → Schema → List ℕ → Object → ℕ → ℕ → ℕ → Spent → Walked
content child o S m O.Text holder start n s = Ok s
content child o S m O.Bytes holder start n s = Ok s
content child o S m (O.List i) holder start n s = elements child o S m holder start (element_of S i) n 0 s
content child o S m (O.Table i) holder start n s = members child o S m holder start n begin 0 (table_of S i).members s
content child o S m (O.DirectList t) holder start n s = directs child t (element_size o m holder) n start s

-- what the arrival found at the object at `holder`: a refusal, at the "object", or the content
unfoldable pub enter : Child → ℕ → Schema → List ℕ → Object → ℕ → Result Content ℕ → Spent → Walked
enter child o S m ob holder (Err n) s = refuse n holder s
enter child o S m ob holder (Ok c) s = content child o S m ob holder c.start c.length s

-- ---- an arrival: the two allowances
-- "Budget: any 32-bit unsigned number."; 02, K7: "a content allowance, any 64-bit unsigned number, beside visits": so many
-- visits, and so many bytes of content
abbrev pub allowing : ℕ → ℕ → Budget
allowing n c = record { visits = n; content = c }

-- 02, K7: "the counter's cases and the desk program hand in the largest content allowance"
unfoldable pub most_content : ℕ
most_content = 18446744073709551615

-- what is spent with so many visits and so many bytes of content
abbrev pub spending : ℕ → ℕ → Spent
spending n c = record { visits = n; content = c }

-- what is spent with one arrival more: "Every arrival at an object counts one visit"
unfoldable pub one_more : Spent → Spent
one_more s = spending (s.visits + 1) s.content

-- what is spent with so many bytes of content more: 02, K7, "adds its content length"
unfoldable pub with_content : ℕ → Spent → Spent
with_content c s = spending s.visits (s.content + c)

-- what the fit found at the object at `holder`: a refusal, at the "object"; or content, which is charged before its bytes are
-- tested. 02, K7: "17, exactly if the sum would pass the allowance, at the object, after content fits and before its bytes are
-- judged; such an arrival counts as a visit but adds no content". So a text refused by 10 or by 16 has added its length.
unfoldable pub admit : Child → ℕ → Schema → List ℕ → Budget → Object → ℕ → Result Content ℕ → Spent → Walked
admit child o S m b ob holder (Err n) s = refuse n holder s
admit child o S m b ob holder (Ok c) s =
    pick (leb (s.content + content_length o S ob c.length) b.content)
    (enter child o S m ob holder (bytes_tested m ob (Ok c)) (with_content (content_length o S ob c.length) s))
    (refuse 17 holder s)

-- an arrival after visits and depth: "offset and header fit, magic, content fit", the content allowance, "text's end byte. Then
-- each member or element in turn", and behind the end byte the text (02, K2)
unfoldable pub arrive : Child → ℕ → Schema → List ℕ → Budget → Child
arrive child o S m b ob p s = admit child o S m b ob (placed p) (fit_object o S m ob p) s

-- refusal 5: "deeper than 32", at the "object"
unfoldable pub too_deep : Child
too_deep ob p s = refuse 5 (placed p) s

-- "Every arrival at an object counts one visit"; refusal 4: "budget spent", at the "object not visited"; "an arrival refused
-- by 4 isn't counted"
unfoldable pub counted : Child → Budget → Child
counted child b ob p s =
    pick (ltb s.visits b.visits) (child ob p (one_more s)) (refuse 4 (placed p) s)

-- an arrival with d objects of depth left, this one counted: "budget, depth, offset and header fit, magic, content fit,
-- text's end byte. Then each member or element in turn", and before the end byte the content allowance (02, K7), behind it the
-- text (02, K2). "following a reference or entering in-place content adds 1".
unfoldable pub visit : ℕ → ℕ → Schema → List ℕ → Budget → Child
visit zero o S m b = counted too_deep b
visit (suc d) o S m b = counted (arrive (visit d o S m b) o S m b) b

-- "Start: magic 0xB5C0C4B3, U48 root offset."
unfoldable pub root_place : ℕ → List ℕ → Place
root_place o m = ByOffset (le m 4 o)

-- before the first arrival nothing is spent
unfoldable pub nothing : Spent
nothing = spending 0 0

-- "From the root, members and elements in order": the arrival at the root table, with nothing spent; "Depth: 32 objects,
-- the root being 1"
unfoldable pub walk : ℕ → Schema → List ℕ → Budget → Walked
walk o S m b = visit deepest o S m b (O.Table S.root) (root_place o m) nothing

-- ---- the verdict
-- "Judging answers number, place and visits", and the member (02, K6): of a refusal, after what was spent; 02, K7: "The verdict
-- record reports both."
abbrev pub verdict_at : Refusal → Spent → Verdict
verdict_at r s =
    record { number = r.number; place = r.place; member = r.member; visits = s.visits; content = s.content }

-- a number at place 0, about no member: "accepted", or a refusal at 0, after what was spent
abbrev pub at_zero : ℕ → Spent → Verdict
at_zero n s = verdict_at (refusal n 0) s

-- "Judging answers number, place and visits": of a walk that ended without a refusal, "accepted", 0 at 0
unfoldable pub verdict_of : Walked → Verdict
verdict_of (Ok s) = at_zero 0 s
verdict_of (Err (r, s)) = verdict_at r s

-- what a verdict says was spent: "Judging answers number, place and visits"; 02, K7: "The verdict record reports both."
abbrev pub spent_of : Verdict → Spent
spent_of v = spending v.visits v.content

-- a number with place 0, visits 0 and content 0: "Before the walk, 1, 2, 3 are tried in order with visits 0." The writer's and the
-- field's answers at place 0 have the same form.
unfoldable pub early : ℕ → Verdict
early n = at_zero n nothing

-- whether refusal 2, "message under 10 bytes or over the size", does not arise; 02, K5: "a message under 8 bytes is 2"
unfoldable pub size_ok : ℕ → List ℕ → Bool
size_ok o m = leb (start_size o) (length m) && leb (length m) largest

-- whether refusal 3, "wrong message magic", does not arise: "magic 0xB5C0C4B3"
unfoldable pub start_ok : List ℕ → Bool
start_ok m = eqb (le m 0 4) 0xB5C0_C4B3

-- "Before the walk, 1, 2, 3 are tried in order with visits 0."
unfoldable pub verdict : ℕ → List ℕ → List ℕ → Budget → Verdict
verdict o b m budget =
    pick (lawful o b)
    (pick (size_ok o m) (pick (start_ok m) (verdict_of (walk o (parse b) m budget)) (early 3)) (early 2))
    (early 1)
