-- 02, K1, "Direct lists": cases worked out by hand. A verdict is shown as number, place, member, visits and content, a field's answer
-- as its case and numbers. 4,294,967,295 is 0xFFFF_FFFF here.
use Rattle.std.specs.Prelude.{◌≡◌, refl, List, [], ◌∷◌, ◌++◌, map, ℕ, zero, suc, take, set}
use Rattle.coding.specs.Lists as Lists
use Rattle.coding.specs.Bytes as Bytes
use Rattle.coding.specs.Utf8 as Utf8
use Rattle.coding.specs.Schema as Schema
use Rattle.coding.specs.Structs as Structs
use Rattle.coding.specs.Packed as Packed
use Rattle.coding.specs.Lawful as Lawful
use Rattle.coding.specs.Layout as Layout
use Rattle.coding.specs.Step as Step
use Rattle.coding.specs.Walk as Walk
use Rattle.coding.specs.Value as Value
use Rattle.coding.specs.Read as Read
use Rattle.coding.specs.Bits as Bits
use Rattle.coding.specs.Sheet as Sheet
use Rattle.coding.specs.Cells as Cells
use Rattle.coding.specs.Message as Message
use Rattle.coding.specs.Field as Field
use Rattle.coding.specs.declared.Verdict.{Verdict}
use Rattle.coding.specs.declared.Answer.{Answer}
use Rattle.demands.specs.Counter.{Case}
use Rattle.demands.specs.Traps.{table, u48, rooted, case}

-- ---- schemas
-- the root has one member, by its first byte, with the argument 1; the second table has n members by their records
abbrev pub tables : ℕ → ℕ → List ℕ → List ℕ
tables first n records =
    0 ∷ 0 ∷ 0 ∷ 2 ∷ 0 ∷ 0x4C ∷ 0x49 ∷ 0x43 ∷ 0x45 ∷ 1 ∷ first ∷ 1 ∷ 0x53 ∷ 0x45 ∷ 0x41 ∷ 0x54 ∷ n ∷ records

-- a direct list of a U16 and a text
abbrev pub seats : List ℕ
seats = tables 0x90 2 (0x10 ∷ 0 ∷ 0x68 ∷ 0 ∷ [])

-- a direct list of a bool; of an optional U16
abbrev bools : List ℕ
bools = tables 0x90 1 (0x00 ∷ 0 ∷ [])

abbrev optional : List ℕ
optional = tables 0x90 1 (0x14 ∷ 0 ∷ [])

-- a direct list of the table itself
abbrev itself : List ℕ
itself = table 1 (0x90 ∷ 0 ∷ [])

-- a list of direct lists of a U16
abbrev lists : List ℕ
lists = 0 ∷ 1 ∷ 0 ∷ 2 ∷ 0 ∷ 0x90 ∷ 1 ∷ 0x4C ∷ 0x49 ∷ 0x43 ∷ 0x45 ∷ 1 ∷ 0x78 ∷ 0 ∷ 0x53 ∷ 0x45 ∷ 0x41 ∷ 0x54 ∷ 1 ∷ 0x10 ∷ 0 ∷ []

-- a union of a direct list of a U16: the root's member by its first byte; the same with a third table, and its member by its first byte
abbrev union : ℕ → List ℕ
union first =
    0 ∷ 0 ∷ 1 ∷ 2 ∷ 0 ∷ 1 ∷ 0x90 ∷ 1 ∷ 0x4C ∷ 0x49 ∷ 0x43 ∷ 0x45 ∷ 1 ∷ first ∷ 0 ∷ 0x53 ∷ 0x45 ∷ 0x41 ∷ 0x54 ∷ 1 ∷ 0x10 ∷ 0 ∷ []

abbrev unions : ℕ → List ℕ
unions third =
    0 ∷ 0 ∷ 1 ∷ 3 ∷ 0 ∷ 1 ∷ 0x90 ∷ 1 ∷ 0x4C ∷ 0x49 ∷ 0x43 ∷ 0x45 ∷ 1 ∷ 0x88 ∷ 0 ∷ 0x53 ∷ 0x45 ∷ 0x41 ∷ 0x54 ∷ 1 ∷ 0x10 ∷ 0
    ∷ 0x52 ∷ 0x4F ∷ 0x4F ∷ 0x4D ∷ 1 ∷ third ∷ 0 ∷ []

-- nothing refers to the list, nor to the union
abbrev lone_list : List ℕ
lone_list = 0 ∷ 1 ∷ 0 ∷ 1 ∷ 0 ∷ 0x90 ∷ 0 ∷ 0x4C ∷ 0x49 ∷ 0x43 ∷ 0x45 ∷ 1 ∷ 0x10 ∷ 0 ∷ []

abbrev lone_union : List ℕ
lone_union = 0 ∷ 0 ∷ 1 ∷ 1 ∷ 0 ∷ 1 ∷ 0x90 ∷ 0 ∷ 0x4C ∷ 0x49 ∷ 0x43 ∷ 0x45 ∷ 1 ∷ 0x10 ∷ 0 ∷ []

-- ---- messages
-- a direct list's header, its count, id and size under 256, and what follows it: "18 bytes before the first"
abbrev pub header : ℕ → ℕ → List ℕ → List ℕ
header n w rest = 0x05 ∷ 0xCC ∷ 0xC6 ∷ 0xE2 ∷ u48 n ++ (0x54 ∷ 0x41 ∷ 0x45 ∷ 0x53 ∷ w ∷ 0 ∷ 0 ∷ 0 ∷ rest)

-- the root at 10 with a fixed part of 6 bytes, and the direct list at 26: its elements from 44 on
abbrev pub listed : ℕ → ℕ → List ℕ → List ℕ
listed n w rest = rooted 6 (u48 26 ++ header n w rest)

-- two elements of 8 bytes, at 44 and 52: 3 and the text "a" at 60; 5 and no text
abbrev pub seated : List ℕ
seated =
    listed 2 8
    (3 ∷ 0 ∷ u48 60 ++ (5 ∷ 0 ∷ u48 0 ++ (0xF5 ∷ 0xC8 ∷ 0x12 ∷ 0xD8 ∷ u48 1 ++ (0x61 ∷ 0x00 ∷ []))))

-- elements of size 0, as many as four bytes of a count say, and a fifth
abbrev countless : ℕ → ℕ → List ℕ
countless low fifth =
    rooted 6
    (u48 26 ++ (0x05 ∷ 0xCC ∷ 0xC6 ∷ 0xE2 ∷ low ∷ low ∷ low ∷ low ∷ fifth ∷ 0 ∷ 0x54 ∷ 0x41 ∷ 0x45 ∷ 0x53 ∷ 0 ∷ 0 ∷ 0 ∷ 0 ∷ []))

-- an element whose direct list is at a place
abbrev nested : ℕ → List ℕ
nested x =
    rooted 6
    (u48 26 ++ (0x05 ∷ 0xCC ∷ 0xC6 ∷ 0xE2 ∷ u48 1 ++ (0x45 ∷ 0x43 ∷ 0x49 ∷ 0x4C ∷ 6 ∷ 0 ∷ 0 ∷ 0 ∷ u48 x)))

-- the list at 26, the direct list at 42, its element at 60; the union's choice 1, the direct list at 28, its element at 46
abbrev lists_message : List ℕ
lists_message = rooted 6 (u48 26 ++ (0x46 ∷ 0xBB ∷ 0x00 ∷ 0x34 ∷ u48 1 ++ (u48 42 ++ header 1 2 (3 ∷ 0 ∷ []))))

abbrev union_message : List ℕ
union_message = rooted 8 (1 ∷ 0 ∷ u48 28 ++ header 1 2 (3 ∷ 0 ∷ []))

-- n zeros
zeros : ℕ → List ℕ
zeros zero = []
zeros (suc n) = 0 ∷ zeros n

-- ---- what the definitions give
-- whether a schema is lawful: an empty message is 2 then, and 1 otherwise
tried : ℕ → List ℕ → List ℕ
tried o b = (Walk.verdict o b [] (Walk.allowing 1 1)).number ∷ []

told : Verdict → List ℕ
told v = v.number ∷ v.place ∷ v.member ∷ v.visits ∷ v.content ∷ []

judged : List ℕ → List ℕ → ℕ → ℕ → List ℕ
judged b m n c = told (Walk.verdict Bytes.u48 b m (Walk.allowing n c))

-- what a message's sheet is
read : List ℕ → List ℕ → List ℕ
read b m = Message.message_sheet Bytes.u48 b m

-- the number of the writer's answer; and behind it, where it is 0, the message
answer : Message.Written → List ℕ
answer (Message.Written.refused n) = n ∷ []
answer (Message.Written.message m) = 0 ∷ m

wrote : List ℕ → List ℕ → List ℕ
wrote b s = answer (Message.written Bytes.u48 b s)

answered : Answer → List ℕ
answered a = Field.case_numbers (Field.answer_case a)

field : List ℕ → List ℕ → List ℕ → List ℕ
field b m path = answered (Field.field Bytes.u48 b m path)

-- the list reader's step at element j
stepped : List ℕ → List ℕ → List ℕ → ℕ → List ℕ
stepped b m path j = answered (Field.reader_gives Bytes.u48 b m path j)

-- ---- schemas
pub schema_cases : List Case
schema_cases =
    -- "It may be a table member, list element or union case"
    case (tried Bytes.u48 seats) (2 ∷ [])
    ∷ case (tried Bytes.u48 lists) (2 ∷ [])
    ∷ case (tried Bytes.u48 (union 0x88)) (2 ∷ [])
    ∷ case (tried Bytes.u48 itself) (2 ∷ [])
    -- "its table must have at least one member and none in place (else 1)"
    ∷ case (tried Bytes.u48 (tables 0x90 0 [])) (1 ∷ [])
    ∷ case (tried Bytes.u48 (tables 0x90 1 (0x68 ∷ 0 ∷ []))) (2 ∷ [])
    ∷ case (tried Bytes.u48 (tables 0x90 1 (0x6A ∷ 0 ∷ []))) (1 ∷ [])
    -- "never in place"; nor optional
    ∷ case (tried Bytes.u48 (tables 0x92 1 (0x68 ∷ 0 ∷ []))) (1 ∷ [])
    ∷ case (tried Bytes.u48 (tables 0x94 1 (0x68 ∷ 0 ∷ []))) (1 ∷ [])
    -- "nor a case of a union that a table holds in place", also where another table holds it by offset
    ∷ case (tried Bytes.u48 (union 0x8A)) (1 ∷ [])
    ∷ case (tried Bytes.u48 (unions 0x88)) (2 ∷ [])
    ∷ case (tried Bytes.u48 (unions 0x8A)) (1 ∷ [])
    -- in a struct; of a table that is not there; kind 19
    ∷ case (tried Bytes.u48 (1 ∷ 0 ∷ 0 ∷ 1 ∷ 0 ∷ 1 ∷ 0x90 ∷ 0 ∷ 0x4C ∷ 0x49 ∷ 0x43 ∷ 0x45 ∷ 1 ∷ 0x10 ∷ 0 ∷ [])) (1 ∷ [])
    ∷ case (tried Bytes.u48 (table 1 (0x90 ∷ 1 ∷ []))) (1 ∷ [])
    ∷ case (tried Bytes.u48 (table 1 (0x98 ∷ 0 ∷ []))) (1 ∷ [])
    -- 02, K5: "a direct list is 1 under this coding", wherever it stands
    ∷ case (tried Bytes.u32 seats) (1 ∷ [])
    ∷ case (tried Bytes.u48 lone_list) (2 ∷ [])
    ∷ case (tried Bytes.u32 lone_list) (1 ∷ [])
    ∷ case (tried Bytes.u48 lone_union) (2 ∷ [])
    ∷ case (tried Bytes.u32 lone_union) (1 ∷ [])
    -- "appending an in-place member there isn't lawful"; another member may be appended
    ∷ case (tried Bytes.u48 (tables 0x90 3 (0x10 ∷ 0 ∷ 0x68 ∷ 0 ∷ 0x72 ∷ 0 ∷ []))) (1 ∷ [])
    ∷ case (tried Bytes.u48 (tables 0x90 3 (0x10 ∷ 0 ∷ 0x68 ∷ 0 ∷ 0x70 ∷ 0 ∷ []))) (2 ∷ [])
    ∷ []

-- ---- judging: the root's fixed part has 6 bytes, each element 8, the text 1
pub judge_cases : List Case
judge_cases =
    -- "The list is one visit, each element one more"; K7: "a direct list itself adds 0"
    case (judged seats seated 5 23) (0 ∷ 0 ∷ 0xFFFF_FFFF ∷ 5 ∷ 23 ∷ [])
    -- "18 bytes before the first": with 17 the header does not fit, with 18 a list without elements does
    ∷ case (judged seats (take 43 (listed 0 8 [])) 5 23) (6 ∷ 26 ∷ 0xFFFF_FFFF ∷ 2 ∷ 6 ∷ [])
    ∷ case (judged seats (listed 0 8 []) 5 23) (0 ∷ 0 ∷ 0xFFFF_FFFF ∷ 2 ∷ 6 ∷ [])
    -- a header that does not fit comes before its magic; then the magic, "wrong element id is 7, then a count over 4,294,967,295 is 6"
    ∷ case (judged seats (take 43 (set (listed 0 8 []) 26 0)) 5 23) (6 ∷ 26 ∷ 0xFFFF_FFFF ∷ 2 ∷ 6 ∷ [])
    ∷ case (judged seats (set seated 26 0) 5 23) (7 ∷ 26 ∷ 0xFFFF_FFFF ∷ 2 ∷ 6 ∷ [])
    ∷ case (judged seats (set seated 36 0) 5 23) (7 ∷ 26 ∷ 0xFFFF_FFFF ∷ 2 ∷ 6 ∷ [])
    ∷ case (judged seats (set seated 39 0) 5 23) (7 ∷ 26 ∷ 0xFFFF_FFFF ∷ 2 ∷ 6 ∷ [])
    ∷ case (judged seats (countless 0 1) 5 23) (6 ∷ 26 ∷ 0xFFFF_FFFF ∷ 2 ∷ 6 ∷ [])
    ∷ case (judged seats (set (countless 0 1) 36 0) 5 23) (7 ∷ 26 ∷ 0xFFFF_FFFF ∷ 2 ∷ 6 ∷ [])
    -- "before content fit": the id comes before it, and two elements of 8 bytes want 60
    ∷ case (judged seats (take 59 seated) 5 23) (6 ∷ 26 ∷ 0xFFFF_FFFF ∷ 2 ∷ 6 ∷ [])
    ∷ case (judged seats (take 59 (set seated 36 0)) 5 23) (7 ∷ 26 ∷ 0xFFFF_FFFF ∷ 2 ∷ 6 ∷ [])
    ∷ case (judged seats (set (take 60 seated) 46 0) 4 22) (0 ∷ 0 ∷ 0xFFFF_FFFF ∷ 4 ∷ 22 ∷ [])
    -- 4 at an element that is not visited; each element is walked whole before the next
    ∷ case (judged seats seated 2 23) (4 ∷ 44 ∷ 0xFFFF_FFFF ∷ 2 ∷ 6 ∷ [])
    ∷ case (judged seats seated 3 23) (4 ∷ 60 ∷ 0xFFFF_FFFF ∷ 3 ∷ 14 ∷ [])
    ∷ case (judged seats seated 4 23) (4 ∷ 52 ∷ 0xFFFF_FFFF ∷ 4 ∷ 15 ∷ [])
    -- 17 at an element, which is visited
    ∷ case (judged seats seated 5 13) (17 ∷ 44 ∷ 0xFFFF_FFFF ∷ 3 ∷ 6 ∷ [])
    ∷ case (judged seats seated 5 14) (17 ∷ 60 ∷ 0xFFFF_FFFF ∷ 4 ∷ 14 ∷ [])
    ∷ case (judged seats seated 5 22) (17 ∷ 52 ∷ 0xFFFF_FFFF ∷ 5 ∷ 15 ∷ [])
    -- elements of size 0 all stand behind the header, each a visit; 4,294,967,295 of them are as many as there may be
    ∷ case (judged seats (listed 3 0 []) 5 6) (0 ∷ 0 ∷ 0xFFFF_FFFF ∷ 5 ∷ 6 ∷ [])
    ∷ case (judged seats (listed 3 0 []) 4 6) (4 ∷ 44 ∷ 0xFFFF_FFFF ∷ 4 ∷ 6 ∷ [])
    ∷ case (judged seats (countless 255 0) 5 6) (4 ∷ 44 ∷ 0xFFFF_FFFF ∷ 5 ∷ 6 ∷ [])
    -- "The size comes from the message, so elements may be shorter or longer than the schema.": cut in the U16, and in the text's
    -- offset; K6: the holder is the element
    ∷ case (judged seats (listed 1 1 (3 ∷ [])) 3 7) (8 ∷ 44 ∷ 0 ∷ 3 ∷ 7 ∷ [])
    ∷ case (judged seats (listed 1 5 (3 ∷ 0 ∷ 0 ∷ 0 ∷ 0 ∷ [])) 3 11) (8 ∷ 44 ∷ 1 ∷ 3 ∷ 11 ∷ [])
    ∷ case (judged seats (listed 2 2 (3 ∷ 0 ∷ 5 ∷ 0 ∷ [])) 4 10) (0 ∷ 0 ∷ 0xFFFF_FFFF ∷ 4 ∷ 10 ∷ [])
    ∷ case (judged seats (listed 1 10 (3 ∷ 0 ∷ u48 0 ++ (255 ∷ 255 ∷ []))) 3 16) (0 ∷ 0 ∷ 0xFFFF_FFFF ∷ 3 ∷ 16 ∷ [])
    -- "placed at its first byte": the flag of the second element has no value
    ∷ case (judged optional (listed 2 1 (0 ∷ 1 ∷ [])) 4 8) (8 ∷ 45 ∷ 0 ∷ 4 ∷ 8 ∷ [])
    -- "one deeper": root, list, element, list and so on; the sixteenth element would be the 33rd object
    ∷ case (judged itself (nested 26) 100 1000) (5 ∷ 44 ∷ 0xFFFF_FFFF ∷ 33 ∷ 96 ∷ [])
    ∷ case (judged itself (nested 0) 3 12) (0 ∷ 0 ∷ 0xFFFF_FFFF ∷ 3 ∷ 12 ∷ [])
    -- in a list; in a union
    ∷ case (judged lists lists_message 4 14) (0 ∷ 0 ∷ 0xFFFF_FFFF ∷ 4 ∷ 14 ∷ [])
    ∷ case (judged (union 0x88) union_message 3 10) (0 ∷ 0 ∷ 0xFFFF_FFFF ∷ 3 ∷ 10 ∷ [])
    ∷ []

-- ---- sheets. "A sheet holds a 32-bit count and the elements without marks."
pub sheet_cases : List Case
sheet_cases =
    case (read seats seated)
    (0x40 ∷ 0x00 ∷ 0x00 ∷ 0x00 ∷ 0x90 ∷ 0x00 ∷ 0x34 ∷ 0x00 ∷ 0x00 ∷ 0x00 ∷ 0x05 ∷ 0x85 ∷ 0x00 ∷ 0x05 ∷ 0x00 ∷ [])
    -- no element; three of size 0, whose members are absent; shorter and longer ones
    ∷ case (read seats (listed 0 8 [])) (0x40 ∷ 0x00 ∷ 0x00 ∷ 0x00 ∷ 0x00 ∷ [])
    ∷ case (read seats (listed 3 0 [])) (0x40 ∷ 0x00 ∷ 0x00 ∷ 0x00 ∷ 0xC0 ∷ 0x00 ∷ [])
    ∷ case (read seats (listed 2 2 (3 ∷ 0 ∷ 5 ∷ 0 ∷ [])))
    (0x40 ∷ 0x00 ∷ 0x00 ∷ 0x00 ∷ 0x90 ∷ 0x00 ∷ 0x31 ∷ 0x00 ∷ 0x05 ∷ 0x00 ∷ [])
    ∷ case (read seats (listed 1 10 (3 ∷ 0 ∷ u48 0 ++ (255 ∷ 255 ∷ []))))
    (0x40 ∷ 0x00 ∷ 0x00 ∷ 0x00 ∷ 0x50 ∷ 0x00 ∷ 0x30 ∷ [])
    -- in an element, in a list and in a union
    ∷ case (read itself (nested 0)) (0x40 ∷ 0x00 ∷ 0x00 ∷ 0x00 ∷ 0x40 ∷ [])
    ∷ case (read lists lists_message)
    (0x40 ∷ 0x00 ∷ 0x00 ∷ 0x00 ∷ 0x50 ∷ 0x00 ∷ 0x00 ∷ 0x00 ∷ 0x14 ∷ 0x00 ∷ 0x0C ∷ [])
    ∷ case (read (union 0x88) union_message) (0x40 ∷ 0x00 ∷ 0x40 ∷ 0x00 ∷ 0x00 ∷ 0x00 ∷ 0x50 ∷ 0x00 ∷ 0x30 ∷ [])
    ∷ []

-- ---- writing
pub written_cases : List Case
written_cases =
    -- the elements behind the header, then what they refer to
    case
    (wrote seats
    (0x40 ∷ 0x00 ∷ 0x00 ∷ 0x00 ∷ 0x90 ∷ 0x00 ∷ 0x34 ∷ 0x00 ∷ 0x00 ∷ 0x00 ∷ 0x05 ∷ 0x85 ∷ 0x00 ∷ 0x05 ∷ 0x00 ∷ []))
    (0 ∷ seated)
    -- "The writer uses the full size.", without elements too
    ∷ case (wrote seats (0x40 ∷ 0x00 ∷ 0x00 ∷ 0x00 ∷ 0x00 ∷ [])) (0 ∷ listed 0 8 [])
    -- two elements of a bool, both true: each has a bool byte of its own
    ∷ case (wrote bools (0x40 ∷ 0x00 ∷ 0x00 ∷ 0x00 ∷ 0x9B ∷ [])) (0 ∷ listed 2 1 (1 ∷ 1 ∷ []))
    ∷ case (wrote lists (0x40 ∷ 0x00 ∷ 0x00 ∷ 0x00 ∷ 0x50 ∷ 0x00 ∷ 0x00 ∷ 0x00 ∷ 0x14 ∷ 0x00 ∷ 0x0C ∷ [])) (0 ∷ lists_message)
    ∷ case (wrote (union 0x88) (0x40 ∷ 0x00 ∷ 0x40 ∷ 0x00 ∷ 0x00 ∷ 0x00 ∷ 0x50 ∷ 0x00 ∷ 0x30 ∷ [])) (0 ∷ union_message)
    -- an element's U16 is absent: 12; there are fewer elements than the count says: 11
    ∷ case (wrote seats (0x40 ∷ 0x00 ∷ 0x00 ∷ 0x00 ∷ 0x40 ∷ [])) (12 ∷ [])
    ∷ case (wrote seats (0x40 ∷ 0x00 ∷ 0x00 ∷ 0x00 ∷ 0x80 ∷ [])) (11 ∷ [])
    ∷ []

-- ---- fields, and the list reader
pub field_cases : List Case
field_cases =
    -- a direct list is of kind 18 with its count, an element of kind 16 with its size
    case (field seats seated (0 ∷ [])) (3 ∷ 18 ∷ 26 ∷ 2 ∷ [])
    ∷ case (field seats seated (0 ∷ 1 ∷ [])) (3 ∷ 16 ∷ 52 ∷ 8 ∷ [])
    ∷ case (field seats seated (0 ∷ 1 ∷ 0 ∷ [])) (1 ∷ 5 ∷ 16 ∷ 0 ∷ [])
    ∷ case (field seats seated (0 ∷ 0 ∷ 1 ∷ [])) (3 ∷ 13 ∷ 60 ∷ 1 ∷ [])
    -- 15 at the list and at the element; the header's refusals; 8 of an element's member
    ∷ case (field seats seated (0 ∷ 2 ∷ [])) (7 ∷ 15 ∷ 26 ∷ 0xFFFF_FFFF ∷ [])
    ∷ case (field seats seated (0 ∷ 1 ∷ 2 ∷ [])) (7 ∷ 15 ∷ 52 ∷ 0xFFFF_FFFF ∷ [])
    ∷ case (field seats (set seated 36 0) (0 ∷ [])) (7 ∷ 7 ∷ 26 ∷ 0xFFFF_FFFF ∷ [])
    ∷ case (field seats (countless 0 1) (0 ∷ [])) (7 ∷ 6 ∷ 26 ∷ 0xFFFF_FFFF ∷ [])
    ∷ case (field seats (listed 1 5 (3 ∷ 0 ∷ 0 ∷ 0 ∷ 0 ∷ [])) (0 ∷ 0 ∷ 1 ∷ [])) (7 ∷ 8 ∷ 44 ∷ 1 ∷ [])
    -- the last of as many elements as there may be
    ∷ case (field seats (countless 255 0) (0 ∷ 4294967294 ∷ [])) (3 ∷ 16 ∷ 44 ∷ 0 ∷ [])
    -- each number goes one deeper: the 32nd object is a list, the 33rd an element
    ∷ case (field itself (nested 26) (zeros 31)) (3 ∷ 18 ∷ 26 ∷ 1 ∷ [])
    ∷ case (field itself (nested 26) (zeros 32)) (7 ∷ 5 ∷ 44 ∷ 0xFFFF_FFFF ∷ [])
    -- "The list reader takes direct lists and lists of them too."
    ∷ case (stepped seats seated (0 ∷ []) 0) (3 ∷ 16 ∷ 44 ∷ 8 ∷ [])
    ∷ case (stepped seats seated (0 ∷ []) 1) (3 ∷ 16 ∷ 52 ∷ 8 ∷ [])
    ∷ case (stepped seats seated (0 ∷ []) 2) (7 ∷ 15 ∷ 26 ∷ 0xFFFF_FFFF ∷ [])
    ∷ case (stepped lists lists_message (0 ∷ []) 0) (3 ∷ 18 ∷ 42 ∷ 1 ∷ [])
    ∷ case (stepped (union 0x88) union_message (0 ∷ []) 0) (3 ∷ 16 ∷ 46 ∷ 2 ∷ [])
    ∷ []

-- THE CLAIM: each case gives what the papers say.
pub schema_case : map (λ c. c.given) schema_cases ≡ map (λ c. c.expected) schema_cases
unfolding schema_cases tried Lists.every Lists.run Bytes.le Bytes.le_bytes Bytes.bit_at Bytes.is_nan Bytes.no_float Bytes.largest Bytes.deepest Bytes.u48 Bytes.u32 Bytes.width_known Utf8.within Utf8.after_first Utf8.after_octet Utf8.may_end Utf8.text_from Utf8.is_text Schema.struct_of Schema.element_of Schema.cases_of Schema.table_of Schema.field_of Schema.case_of Schema.plain_bool Schema.member_of Structs.lower Structs.by_index Structs.flat_width Structs.total Structs.size_by Structs.struct_size Structs.flat_ok Structs.flats_ok Structs.ok_by Structs.struct_ok Packed.kind_at Packed.optional_at Packed.inplace_at Packed.zero_at Packed.argument_at Packed.width_of Packed.flat_of Packed.object_of Packed.kind_of Packed.flat_at Packed.object_at Packed.element_at Packed.member_at Packed.records Packed.record_place Packed.blocks Packed.struct_place Packed.list_place Packed.union_place Packed.table_place Packed.id_at Packed.records_at Packed.table_at Packed.parse Lawful.counts_ok Lawful.blocks_ok Lawful.places_ok Lawful.shape_ok Lawful.argument_ok Lawful.kind_ok Lawful.optional_ok Lawful.inplace_ok Lawful.flags_ok Lawful.record_ok Lawful.first_ok Lawful.records_ok Lawful.inplaces Lawful.direct_table Lawful.held_union Lawful.direct_ok Lawful.struct_lawful Lawful.list_lawful Lawful.union_lawful Lawful.table_lawful Lawful.id_differs Lawful.id_lawful Lawful.rules_ok Lawful.well_formed Lawful.older_member Lawful.older_element Lawful.older_union Lawful.older_table Lawful.older_ok Lawful.lawful Layout.flat_is_bool Layout.is_bool Layout.width Layout.flat_takes_flag Layout.takes_flag Layout.has_flag Layout.begin Layout.bit_byte Layout.bit_index Layout.after_bit Layout.after_bytes Layout.after_flag Layout.bit_slot Layout.slot_of Layout.after_value Layout.member_slot Layout.placement_of Layout.after_member Layout.after_members Layout.fixed_size Step.enum_step Step.float_step Step.struct_tested Step.place_of Step.object_step Step.union_step Step.flat_step Step.field_step Step.value_step Step.inside Step.flagged Step.placed_step Step.member_step Step.element_place Step.element_step Step.elements_size Walk.placed Walk.magic Walk.header_size Walk.element_id Walk.element_size Walk.most_elements Walk.start_size Walk.content_size Walk.content_length Walk.end_ok Walk.text_ok Walk.fit_content Walk.direct_header Walk.header_tested Walk.stands_in_place Walk.fit_object Walk.bytes_tested Walk.open_object Walk.refuse Walk.and_then Walk.refuse_part Walk.follow_choice Walk.follow Walk.members Walk.elements Walk.directs Walk.content Walk.enter Walk.with_content Walk.admit Walk.arrive Walk.too_deep Walk.one_more Walk.most_content Walk.counted Walk.visit Walk.root_place Walk.nothing Walk.walk Walk.verdict_of Walk.early Walk.size_ok Walk.start_ok Walk.verdict
schema_case = refl

pub judge_case : map (λ c. c.given) judge_cases ≡ map (λ c. c.expected) judge_cases
unfolding judge_cases told judged Walk.no_member Lists.every Lists.run Bytes.le Bytes.le_bytes Bytes.bit_at Bytes.is_nan Bytes.no_float Bytes.largest Bytes.deepest Bytes.u48 Bytes.u32 Bytes.width_known Utf8.within Utf8.after_first Utf8.after_octet Utf8.may_end Utf8.text_from Utf8.is_text Schema.struct_of Schema.element_of Schema.cases_of Schema.table_of Schema.field_of Schema.case_of Schema.plain_bool Schema.member_of Structs.lower Structs.by_index Structs.flat_width Structs.total Structs.size_by Structs.struct_size Structs.flat_ok Structs.flats_ok Structs.ok_by Structs.struct_ok Packed.kind_at Packed.optional_at Packed.inplace_at Packed.zero_at Packed.argument_at Packed.width_of Packed.flat_of Packed.object_of Packed.kind_of Packed.flat_at Packed.object_at Packed.element_at Packed.member_at Packed.records Packed.record_place Packed.blocks Packed.struct_place Packed.list_place Packed.union_place Packed.table_place Packed.id_at Packed.records_at Packed.table_at Packed.parse Lawful.counts_ok Lawful.blocks_ok Lawful.places_ok Lawful.shape_ok Lawful.argument_ok Lawful.kind_ok Lawful.optional_ok Lawful.inplace_ok Lawful.flags_ok Lawful.record_ok Lawful.first_ok Lawful.records_ok Lawful.inplaces Lawful.direct_table Lawful.held_union Lawful.direct_ok Lawful.struct_lawful Lawful.list_lawful Lawful.union_lawful Lawful.table_lawful Lawful.id_differs Lawful.id_lawful Lawful.rules_ok Lawful.well_formed Lawful.older_member Lawful.older_element Lawful.older_union Lawful.older_table Lawful.older_ok Lawful.lawful Layout.flat_is_bool Layout.is_bool Layout.width Layout.flat_takes_flag Layout.takes_flag Layout.has_flag Layout.begin Layout.bit_byte Layout.bit_index Layout.after_bit Layout.after_bytes Layout.after_flag Layout.bit_slot Layout.slot_of Layout.after_value Layout.member_slot Layout.placement_of Layout.after_member Layout.after_members Layout.fixed_size Step.enum_step Step.float_step Step.struct_tested Step.place_of Step.object_step Step.union_step Step.flat_step Step.field_step Step.value_step Step.inside Step.flagged Step.placed_step Step.member_step Step.element_place Step.element_step Step.elements_size Walk.placed Walk.magic Walk.header_size Walk.element_id Walk.element_size Walk.most_elements Walk.start_size Walk.content_size Walk.content_length Walk.end_ok Walk.text_ok Walk.fit_content Walk.direct_header Walk.header_tested Walk.stands_in_place Walk.fit_object Walk.bytes_tested Walk.open_object Walk.refuse Walk.and_then Walk.refuse_part Walk.follow_choice Walk.follow Walk.members Walk.elements Walk.directs Walk.content Walk.enter Walk.with_content Walk.admit Walk.arrive Walk.too_deep Walk.one_more Walk.most_content Walk.counted Walk.visit Walk.root_place Walk.nothing Walk.walk Walk.verdict_of Walk.early Walk.size_ok Walk.start_ok Walk.verdict
judge_case = refl

pub sheet_case : map (λ c. c.given) sheet_cases ≡ map (λ c. c.expected) sheet_cases
unfolding sheet_cases read Lists.every Lists.run Bytes.le Bytes.le_bytes Bytes.bit_at Bytes.is_nan Bytes.no_float Bytes.largest Bytes.deepest Bytes.u48 Bytes.u32 Bytes.width_known Utf8.within Utf8.after_first Utf8.after_octet Utf8.may_end Utf8.text_from Utf8.is_text Schema.struct_of Schema.element_of Schema.cases_of Schema.table_of Schema.field_of Schema.case_of Schema.plain_bool Schema.member_of Structs.lower Structs.by_index Structs.flat_width Structs.total Structs.size_by Structs.struct_size Structs.flat_ok Structs.flats_ok Structs.ok_by Structs.struct_ok Packed.kind_at Packed.optional_at Packed.inplace_at Packed.zero_at Packed.argument_at Packed.width_of Packed.flat_of Packed.object_of Packed.kind_of Packed.flat_at Packed.object_at Packed.element_at Packed.member_at Packed.records Packed.record_place Packed.blocks Packed.struct_place Packed.list_place Packed.union_place Packed.table_place Packed.id_at Packed.records_at Packed.table_at Packed.parse Lawful.counts_ok Lawful.blocks_ok Lawful.places_ok Lawful.shape_ok Lawful.argument_ok Lawful.kind_ok Lawful.optional_ok Lawful.inplace_ok Lawful.flags_ok Lawful.record_ok Lawful.first_ok Lawful.records_ok Lawful.inplaces Lawful.direct_table Lawful.held_union Lawful.direct_ok Lawful.struct_lawful Lawful.list_lawful Lawful.union_lawful Lawful.table_lawful Lawful.id_differs Lawful.id_lawful Lawful.rules_ok Lawful.well_formed Lawful.older_member Lawful.older_element Lawful.older_union Lawful.older_table Lawful.older_ok Lawful.lawful Layout.flat_is_bool Layout.is_bool Layout.width Layout.flat_takes_flag Layout.takes_flag Layout.has_flag Layout.begin Layout.bit_byte Layout.bit_index Layout.after_bit Layout.after_bytes Layout.after_flag Layout.bit_slot Layout.slot_of Layout.after_value Layout.member_slot Layout.placement_of Layout.after_member Layout.after_members Layout.fixed_size Step.enum_step Step.float_step Step.struct_tested Step.place_of Step.object_step Step.union_step Step.flat_step Step.field_step Step.value_step Step.inside Step.flagged Step.placed_step Step.member_step Step.element_place Step.element_step Step.elements_size Walk.placed Walk.magic Walk.header_size Walk.element_id Walk.element_size Walk.most_elements Walk.start_size Walk.content_size Walk.content_length Walk.end_ok Walk.text_ok Walk.fit_content Walk.direct_header Walk.header_tested Walk.stands_in_place Walk.fit_object Walk.bytes_tested Walk.open_object Walk.refuse Walk.and_then Walk.refuse_part Walk.follow_choice Walk.follow Walk.members Walk.elements Walk.directs Walk.content Walk.enter Walk.with_content Walk.admit Walk.arrive Walk.too_deep Walk.one_more Walk.most_content Walk.counted Walk.visit Walk.root_place Walk.nothing Walk.walk Walk.verdict_of Walk.early Walk.size_ok Walk.start_ok Walk.verdict Value.as_number Value.as_blob Value.as_row Value.as_object Value.present Value.known Value.first Value.others Value.count Read.step_read Read.fields_read Read.read_by Read.struct_read Read.members_read Read.elements_read Read.directs_read Read.content_read Read.place_read Read.read Read.message_read Bits.bits_of Bits.bits Bits.value Bits.pack Bits.byte_count Bits.packed Bits.all_zero Sheet.mark_bits Sheet.flat_bits Sheet.field_bits Sheet.fields_bits Sheet.bits_by Sheet.struct_bits Sheet.body_bits Sheet.flat_unknown Sheet.unknown_width Sheet.part_bits Sheet.flat_unmarked Sheet.unmarked Sheet.element_bits Sheet.members_bits Sheet.elements_bits Sheet.directs_bits Sheet.blob_bits Sheet.content_bits Sheet.encode Sheet.sheet_bits Sheet.sheet_of Sheet.bind Sheet.take_number Sheet.take_bytes Sheet.take_value Sheet.take_if Sheet.take_mark Sheet.unknown_enum Sheet.take_unknown_enum Sheet.take_enum Sheet.take_flat Sheet.take_field Sheet.take_fields Sheet.take_by Sheet.take_struct Sheet.take_choice Sheet.take_body Sheet.take_unknown_flat Sheet.take_unknown Sheet.take_part Sheet.take_element Sheet.take_members Sheet.take_elements Sheet.take_directs Sheet.take_blob Sheet.take_content Sheet.decode Sheet.closed Sheet.tree_of Sheet.sheet_tree Message.message_sheet
sheet_case = refl

pub written_case : map (λ c. c.given) written_cases ≡ map (λ c. c.expected) written_cases
unfolding written_cases wrote answer Lists.every Lists.run Bytes.le Bytes.le_bytes Bytes.bit_at Bytes.is_nan Bytes.no_float Bytes.largest Bytes.deepest Bytes.u48 Bytes.u32 Bytes.width_known Utf8.within Utf8.after_first Utf8.after_octet Utf8.may_end Utf8.text_from Utf8.is_text Schema.struct_of Schema.element_of Schema.cases_of Schema.table_of Schema.field_of Schema.case_of Schema.plain_bool Schema.member_of Structs.lower Structs.by_index Structs.flat_width Structs.total Structs.size_by Structs.struct_size Structs.flat_ok Structs.flats_ok Structs.ok_by Structs.struct_ok Packed.kind_at Packed.optional_at Packed.inplace_at Packed.zero_at Packed.argument_at Packed.width_of Packed.flat_of Packed.object_of Packed.kind_of Packed.flat_at Packed.object_at Packed.element_at Packed.member_at Packed.records Packed.record_place Packed.blocks Packed.struct_place Packed.list_place Packed.union_place Packed.table_place Packed.id_at Packed.records_at Packed.table_at Packed.parse Lawful.counts_ok Lawful.blocks_ok Lawful.places_ok Lawful.shape_ok Lawful.argument_ok Lawful.kind_ok Lawful.optional_ok Lawful.inplace_ok Lawful.flags_ok Lawful.record_ok Lawful.first_ok Lawful.records_ok Lawful.inplaces Lawful.direct_table Lawful.held_union Lawful.direct_ok Lawful.struct_lawful Lawful.list_lawful Lawful.union_lawful Lawful.table_lawful Lawful.id_differs Lawful.id_lawful Lawful.rules_ok Lawful.well_formed Lawful.older_member Lawful.older_element Lawful.older_union Lawful.older_table Lawful.older_ok Lawful.lawful Layout.flat_is_bool Layout.is_bool Layout.width Layout.flat_takes_flag Layout.takes_flag Layout.has_flag Layout.begin Layout.bit_byte Layout.bit_index Layout.after_bit Layout.after_bytes Layout.after_flag Layout.bit_slot Layout.slot_of Layout.after_value Layout.member_slot Layout.placement_of Layout.after_member Layout.after_members Layout.fixed_size Step.enum_step Step.float_step Step.struct_tested Step.place_of Step.object_step Step.union_step Step.flat_step Step.field_step Step.value_step Step.inside Step.flagged Step.placed_step Step.member_step Step.element_place Step.element_step Step.elements_size Walk.placed Walk.magic Walk.header_size Walk.element_id Walk.element_size Walk.most_elements Walk.start_size Walk.content_size Walk.content_length Walk.end_ok Walk.text_ok Walk.fit_content Walk.direct_header Walk.header_tested Walk.stands_in_place Walk.fit_object Walk.bytes_tested Walk.open_object Walk.refuse Walk.and_then Walk.refuse_part Walk.follow_choice Walk.follow Walk.members Walk.elements Walk.directs Walk.content Walk.enter Walk.with_content Walk.admit Walk.arrive Walk.too_deep Walk.one_more Walk.most_content Walk.counted Walk.visit Walk.root_place Walk.nothing Walk.walk Walk.verdict_of Walk.early Walk.size_ok Walk.start_ok Walk.verdict Value.as_number Value.as_blob Value.as_row Value.as_object Value.present Value.known Value.first Value.others Value.count Read.step_read Read.fields_read Read.read_by Read.struct_read Read.members_read Read.elements_read Read.directs_read Read.content_read Read.place_read Read.read Read.message_read Bits.bits_of Bits.bits Bits.value Bits.pack Bits.byte_count Bits.packed Bits.all_zero Sheet.mark_bits Sheet.flat_bits Sheet.field_bits Sheet.fields_bits Sheet.bits_by Sheet.struct_bits Sheet.body_bits Sheet.flat_unknown Sheet.unknown_width Sheet.part_bits Sheet.flat_unmarked Sheet.unmarked Sheet.element_bits Sheet.members_bits Sheet.elements_bits Sheet.directs_bits Sheet.blob_bits Sheet.content_bits Sheet.encode Sheet.sheet_bits Sheet.sheet_of Sheet.bind Sheet.take_number Sheet.take_bytes Sheet.take_value Sheet.take_if Sheet.take_mark Sheet.unknown_enum Sheet.take_unknown_enum Sheet.take_enum Sheet.take_flat Sheet.take_field Sheet.take_fields Sheet.take_by Sheet.take_struct Sheet.take_choice Sheet.take_body Sheet.take_unknown_flat Sheet.take_unknown Sheet.take_part Sheet.take_element Sheet.take_members Sheet.take_elements Sheet.take_directs Sheet.take_blob Sheet.take_content Sheet.decode Sheet.closed Sheet.tree_of Sheet.sheet_tree Cells.width Cells.chain Cells.below Cells.width_bytes Cells.chain_bytes Cells.below_bytes Cells.layout Cells.gather Cells.pack_bits Message.length_of Message.flat_known Message.flats_known Message.known_by Message.struct_known Message.flat_writable Message.keeps_unions Message.value_writable Message.members_writable Message.elements_writable Message.directs_writable Message.content_writable Message.writable Message.number_or Message.flat_bytes Message.flats_bytes Message.bytes_by Message.struct_bytes Message.flat_slots Message.object_slots Message.refer_slots Message.value_slots Message.flag_of Message.member_slots Message.members_slots Message.elements_slots Message.directs_slots Message.direct_slots Message.content_slots Message.plan Message.message_of Message.written_tree Message.written Message.write_room Message.write_over Message.write_answer Message.write_out Message.message_sheet Message.fits_room Message.read_answer Message.read_out
written_case = refl

pub field_case : map (λ c. c.given) field_cases ≡ map (λ c. c.expected) field_cases
unfolding field_cases field stepped answered zeros Walk.no_member Lists.every Lists.run Bytes.le Bytes.le_bytes Bytes.bit_at Bytes.is_nan Bytes.no_float Bytes.largest Bytes.deepest Bytes.u48 Bytes.u32 Bytes.width_known Utf8.within Utf8.after_first Utf8.after_octet Utf8.may_end Utf8.text_from Utf8.is_text Schema.struct_of Schema.element_of Schema.cases_of Schema.table_of Schema.field_of Schema.case_of Schema.plain_bool Schema.member_of Structs.lower Structs.by_index Structs.flat_width Structs.total Structs.size_by Structs.struct_size Structs.flat_ok Structs.flats_ok Structs.ok_by Structs.struct_ok Packed.kind_at Packed.optional_at Packed.inplace_at Packed.zero_at Packed.argument_at Packed.width_of Packed.flat_of Packed.object_of Packed.kind_of Packed.flat_at Packed.object_at Packed.element_at Packed.member_at Packed.records Packed.record_place Packed.blocks Packed.struct_place Packed.list_place Packed.union_place Packed.table_place Packed.id_at Packed.records_at Packed.table_at Packed.parse Lawful.counts_ok Lawful.blocks_ok Lawful.places_ok Lawful.shape_ok Lawful.argument_ok Lawful.kind_ok Lawful.optional_ok Lawful.inplace_ok Lawful.flags_ok Lawful.record_ok Lawful.first_ok Lawful.records_ok Lawful.inplaces Lawful.direct_table Lawful.held_union Lawful.direct_ok Lawful.struct_lawful Lawful.list_lawful Lawful.union_lawful Lawful.table_lawful Lawful.id_differs Lawful.id_lawful Lawful.rules_ok Lawful.well_formed Lawful.older_member Lawful.older_element Lawful.older_union Lawful.older_table Lawful.older_ok Lawful.lawful Layout.flat_is_bool Layout.is_bool Layout.width Layout.flat_takes_flag Layout.takes_flag Layout.has_flag Layout.begin Layout.bit_byte Layout.bit_index Layout.after_bit Layout.after_bytes Layout.after_flag Layout.bit_slot Layout.slot_of Layout.after_value Layout.member_slot Layout.placement_of Layout.after_member Layout.after_members Layout.fixed_size Step.enum_step Step.float_step Step.struct_tested Step.place_of Step.object_step Step.union_step Step.flat_step Step.field_step Step.value_step Step.inside Step.flagged Step.placed_step Step.member_step Step.element_place Step.element_step Step.elements_size Walk.placed Walk.magic Walk.header_size Walk.element_id Walk.element_size Walk.most_elements Walk.start_size Walk.content_size Walk.content_length Walk.end_ok Walk.text_ok Walk.fit_content Walk.direct_header Walk.header_tested Walk.stands_in_place Walk.fit_object Walk.bytes_tested Walk.open_object Walk.refuse Walk.and_then Walk.refuse_part Walk.follow_choice Walk.follow Walk.members Walk.elements Walk.directs Walk.content Walk.enter Walk.with_content Walk.admit Walk.arrive Walk.too_deep Walk.one_more Walk.most_content Walk.counted Walk.visit Walk.root_place Walk.nothing Walk.walk Walk.verdict_of Walk.early Walk.size_ok Walk.start_ok Walk.verdict Field.no_part Field.opened Field.arrived Field.part_refused Field.chosen Field.stepped Field.struct_part Field.object_part Field.part_of Field.along Field.found Field.flat_answer Field.value_answer Field.record_kind Field.answer_of Field.answer_verdict Field.before Field.field_found Field.field Field.answer_case Field.case_numbers Field.list_found Field.leads Field.reader_of Field.reader_start Field.list_gives Field.reader_gives Field.list_count Field.reader_count
field_case = refl
