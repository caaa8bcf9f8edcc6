-- 02, K2, "Names that are not text": cases worked out by hand. A verdict is shown as number, place, member, visits and content, a field's
-- answer as its case and numbers. 4,294,967,295 is 0xFFFF_FFFF here.
use Rattle.std.specs.Prelude.{◌≡◌, refl, List, [], ◌∷◌, ◌++◌, map, ℕ, take, set}
use Rattle.coding.specs.Lists as Lists
use Rattle.coding.specs.Bytes as Bytes
use Rattle.coding.specs.Utf8 as Utf8
use Rattle.coding.specs.Schema as Schema
use Rattle.coding.specs.Structs as Structs
use Rattle.coding.specs.Packed as Packed
use Rattle.coding.specs.Lawful as Lawful
use Rattle.coding.specs.Layout as Layout
use Rattle.coding.specs.Step as Step
use Rattle.coding.specs.Walk as Walk
use Rattle.coding.specs.Value as Value
use Rattle.coding.specs.Read as Read
use Rattle.coding.specs.Bits as Bits
use Rattle.coding.specs.Sheet as Sheet
use Rattle.coding.specs.Cells as Cells
use Rattle.coding.specs.Message as Message
use Rattle.coding.specs.Field as Field
use Rattle.coding.specs.declared.Verdict.{Verdict}
use Rattle.coding.specs.declared.ReadAnswer.{ReadAnswer}
use Rattle.coding.specs.declared.WriteAnswer.{WriteAnswer}
use Rattle.coding.specs.declared.Answer.{Answer}
use Rattle.demands.specs.Counter.{Case}
use Rattle.demands.specs.Traps.{table, u48, rooted, in_place, case}
use Rattle.demands.specs.DirectLists.{seats, listed}
use Rattle.demands.specs.TreeTexts as TreeTexts
use Rattle.demands.specs.OnlyText.{root_texts, option_texts, sheet_texts}

-- ---- schemas
-- a text; two texts; bytes, and bytes in place. A text in place is `in_place`, a direct list of a U16 and a text `seats`.
abbrev named : List ℕ
named = table 1 (0x68 ∷ 0 ∷ [])

abbrev twice : List ℕ
twice = table 2 (0x68 ∷ 0 ∷ 0x68 ∷ 0 ∷ [])

abbrev blob : List ℕ
blob = table 1 (0x70 ∷ 0 ∷ [])

abbrev blob_in_place : List ℕ
blob_in_place = table 1 (0x72 ∷ 0 ∷ [])

-- a union of a text, by the first byte of its record: 0x88 by offset, 0x8A in place
abbrev union : ℕ → List ℕ
union first = 0 ∷ 0 ∷ 1 ∷ 1 ∷ 0 ∷ 1 ∷ 0x68 ∷ 0 ∷ 0x4C ∷ 0x49 ∷ 0x43 ∷ 0x45 ∷ 1 ∷ first ∷ 0 ∷ []

-- a list of texts; a list of unions of a text
abbrev names : List ℕ
names = 0 ∷ 1 ∷ 0 ∷ 1 ∷ 0 ∷ 0x68 ∷ 0 ∷ 0x4C ∷ 0x49 ∷ 0x43 ∷ 0x45 ∷ 1 ∷ 0x78 ∷ 0 ∷ []

abbrev choices : List ℕ
choices = 0 ∷ 1 ∷ 1 ∷ 1 ∷ 0 ∷ 0x88 ∷ 0 ∷ 1 ∷ 0x68 ∷ 0 ∷ 0x4C ∷ 0x49 ∷ 0x43 ∷ 0x45 ∷ 1 ∷ 0x78 ∷ 0 ∷ []

-- ---- octets
-- U+0000 in two octets, which RFC 3629 does not allow; "ü"
abbrev overlong : List ℕ
overlong = 0xC0 ∷ 0x80 ∷ []

abbrev umlaut : List ℕ
umlaut = 0xC3 ∷ 0xBC ∷ []

-- ---- messages
-- a text of n octets and its end byte
abbrev text : ℕ → List ℕ → ℕ → List ℕ
text n octets end = 0xF5 ∷ 0xC8 ∷ 0x12 ∷ 0xD8 ∷ u48 n ++ (octets ++ (end ∷ []))

-- the root's fixed part has 6 bytes, and the text is at 26; the same with bytes
abbrev text_at : ℕ → List ℕ → ℕ → List ℕ
text_at n octets end = rooted 6 (u48 26 ++ text n octets end)

abbrev of : ℕ → List ℕ → List ℕ
of n octets = text_at n octets 0

abbrev blob_at : ℕ → List ℕ → List ℕ
blob_at n octets = rooted 6 (u48 26 ++ (0x10 ∷ 0xBE ∷ 0xDB ∷ 0xDC ∷ u48 n ++ octets))

-- a text of two octets in place at 26; in a union at 28, by offset and in place
abbrev standing : List ℕ → ℕ → List ℕ
standing octets end = rooted 6 (u48 2 ++ (octets ++ (end ∷ [])))

abbrev chosen : ℕ → List ℕ → ℕ → List ℕ
chosen c octets end = rooted 8 (c ∷ 0 ∷ u48 28 ++ text 2 octets end)

abbrev chosen_in_place : List ℕ → ℕ → List ℕ
chosen_in_place octets end = rooted 8 (1 ∷ 0 ∷ u48 2 ++ (octets ++ (end ∷ [])))

-- a list at 26 of two texts: "a" at 48, and two octets at 60; a list at 26 of a union, its text at 44
abbrev listed_names : List ℕ → List ℕ
listed_names octets =
    rooted 6
    (u48 26 ++ (0x46 ∷ 0xBB ∷ 0x00 ∷ 0x34 ∷ u48 2 ++ (u48 48 ++ (u48 60 ++ (text 1 (0x61 ∷ []) 0 ++ text 2 octets 0)))))

abbrev listed_choice : List ℕ → List ℕ
listed_choice octets =
    rooted 6 (u48 26 ++ (0x46 ∷ 0xBB ∷ 0x00 ∷ 0x34 ∷ u48 1 ++ (1 ∷ 0 ∷ u48 44 ++ text 2 octets 0)))

-- a direct list at 26 of one element at 44: 3, and a text of two octets at 52
abbrev seated : List ℕ → ℕ → List ℕ
seated octets end = listed 1 8 (3 ∷ 0 ∷ u48 52 ++ text 2 octets end)

-- under the older coding: the root at 8, and all bytes from 16 on; a text; the text at 20
abbrev rooted_older : ℕ → List ℕ → List ℕ
rooted_older n rest = 0xB3 ∷ 0xC4 ∷ 0xC0 ∷ 0xB5 ∷ 8 ∷ 0 ∷ 0 ∷ 0 ∷ 0x45 ∷ 0x43 ∷ 0x49 ∷ 0x4C ∷ n ∷ 0 ∷ 0 ∷ 0 ∷ rest

abbrev text_older : ℕ → List ℕ → ℕ → List ℕ
text_older n octets end = 0xF5 ∷ 0xC8 ∷ 0x12 ∷ 0xD8 ∷ n ∷ 0 ∷ 0 ∷ 0 ∷ octets ++ (end ∷ [])

abbrev of_older : ℕ → List ℕ → List ℕ
of_older n octets = rooted_older 4 (20 ∷ 0 ∷ 0 ∷ 0 ∷ text_older n octets 0)

-- ---- sheets of a text or bytes of two octets: `overlong` and "ü"
abbrev overlong_sheet : List ℕ
overlong_sheet = 0x40 ∷ 0x00 ∷ 0x00 ∷ 0x00 ∷ 0xB0 ∷ 0x20 ∷ 0x00 ∷ []

abbrev umlaut_sheet : List ℕ
umlaut_sheet = 0x40 ∷ 0x00 ∷ 0x00 ∷ 0x00 ∷ 0xB0 ∷ 0xEF ∷ 0x00 ∷ []

-- ---- what the definitions give
told : Verdict → List ℕ
told v = v.number ∷ v.place ∷ v.member ∷ v.visits ∷ v.content ∷ []

judged : List ℕ → List ℕ → ℕ → ℕ → List ℕ
judged b m n c = told (Walk.verdict Bytes.u48 b m (Walk.allowing n c))

judged_older : List ℕ → List ℕ → ℕ → ℕ → List ℕ
judged_older b m n c = told (Walk.verdict Bytes.u32 b m (Walk.allowing n c))

-- reading to a sheet, into an output: the verdict and the length
read : ReadAnswer → List ℕ
read a = told a.verdict ++ (a.length ∷ [])

answered : Answer → List ℕ
answered a = Field.case_numbers (Field.answer_case a)

field : List ℕ → List ℕ → List ℕ → List ℕ
field b m path = answered (Field.field Bytes.u48 b m path)

field_older : List ℕ → List ℕ → List ℕ → List ℕ
field_older b m path = answered (Field.field Bytes.u32 b m path)

-- the texts of a message's sheet
unfoldable pub texts : ℕ → List ℕ → List ℕ → List (List ℕ)
texts o b m = sheet_texts (Packed.parse b) (Message.message_sheet o b m)

-- the list reader's step at element j
stepped : List ℕ → List ℕ → List ℕ → ℕ → List ℕ
stepped b m path j = answered (Field.reader_gives Bytes.u48 b m path j)

-- the number of the writer's answer; and behind it, where it is 0, the message
answer : Message.Written → List ℕ
answer (Message.Written.refused n) = n ∷ []
answer (Message.Written.message m) = 0 ∷ m

wrote : ℕ → List ℕ → List ℕ → List ℕ
wrote o b s = answer (Message.written o b s)

-- writing into an output: number and length
room : WriteAnswer → List ℕ
room a = a.number ∷ a.length ∷ []

-- ---- which octets are text
pub text_cases : List Case
text_cases =
    -- "no overlong forms": U+0000 in two octets and in three; "no surrogates": U+D800; "nothing above U+10FFFF": U+110000. The text's
    -- length is added (02, K7)
    case (judged named (of 2 overlong) 9 99) (16 ∷ 26 ∷ 0xFFFF_FFFF ∷ 2 ∷ 8 ∷ [])
    ∷ case (judged named (of 3 (0xE0 ∷ 0x80 ∷ 0x80 ∷ [])) 9 99) (16 ∷ 26 ∷ 0xFFFF_FFFF ∷ 2 ∷ 9 ∷ [])
    ∷ case (judged named (of 3 (0xED ∷ 0xA0 ∷ 0x80 ∷ [])) 9 99) (16 ∷ 26 ∷ 0xFFFF_FFFF ∷ 2 ∷ 9 ∷ [])
    ∷ case (judged named (of 4 (0xF4 ∷ 0x90 ∷ 0x80 ∷ 0x80 ∷ [])) 9 99) (16 ∷ 26 ∷ 0xFFFF_FFFF ∷ 2 ∷ 10 ∷ [])
    -- a tail is cut: of two octets, of three and of four; the last text begins with "a"
    ∷ case (judged named (of 1 (0xC3 ∷ [])) 9 99) (16 ∷ 26 ∷ 0xFFFF_FFFF ∷ 2 ∷ 7 ∷ [])
    ∷ case (judged named (of 2 (0xE2 ∷ 0x82 ∷ [])) 9 99) (16 ∷ 26 ∷ 0xFFFF_FFFF ∷ 2 ∷ 8 ∷ [])
    ∷ case (judged named (of 4 (0x61 ∷ 0xF0 ∷ 0x9F ∷ 0x98 ∷ [])) 9 99) (16 ∷ 26 ∷ 0xFFFF_FFFF ∷ 2 ∷ 10 ∷ [])
    -- a tail alone; an octet that begins nothing
    ∷ case (judged named (of 1 (0x80 ∷ [])) 9 99) (16 ∷ 26 ∷ 0xFFFF_FFFF ∷ 2 ∷ 7 ∷ [])
    ∷ case (judged named (of 3 (0x61 ∷ 0xFF ∷ 0x62 ∷ [])) 9 99) (16 ∷ 26 ∷ 0xFFFF_FFFF ∷ 2 ∷ 9 ∷ [])
    -- text: none; U+0000; "ü", the euro sign and an emoji
    ∷ case (judged named (of 0 []) 9 99) (0 ∷ 0 ∷ 0xFFFF_FFFF ∷ 2 ∷ 6 ∷ [])
    ∷ case (judged named (of 1 (0x00 ∷ [])) 9 99) (0 ∷ 0 ∷ 0xFFFF_FFFF ∷ 2 ∷ 7 ∷ [])
    ∷ case (judged named (of 2 umlaut) 9 99) (0 ∷ 0 ∷ 0xFFFF_FFFF ∷ 2 ∷ 8 ∷ [])
    ∷ case (judged named (of 3 (0xE2 ∷ 0x82 ∷ 0xAC ∷ [])) 9 99) (0 ∷ 0 ∷ 0xFFFF_FFFF ∷ 2 ∷ 9 ∷ [])
    ∷ case (judged named (of 4 (0xF0 ∷ 0x9F ∷ 0x98 ∷ 0x80 ∷ [])) 9 99) (0 ∷ 0 ∷ 0xFFFF_FFFF ∷ 2 ∷ 10 ∷ [])
    -- next to what is not allowed: U+0080, U+0800, U+D7FF, U+E000, U+10000, U+10FFFF
    ∷ case (judged named (of 2 (0xC2 ∷ 0x80 ∷ [])) 9 99) (0 ∷ 0 ∷ 0xFFFF_FFFF ∷ 2 ∷ 8 ∷ [])
    ∷ case (judged named (of 3 (0xE0 ∷ 0xA0 ∷ 0x80 ∷ [])) 9 99) (0 ∷ 0 ∷ 0xFFFF_FFFF ∷ 2 ∷ 9 ∷ [])
    ∷ case (judged named (of 3 (0xED ∷ 0x9F ∷ 0xBF ∷ [])) 9 99) (0 ∷ 0 ∷ 0xFFFF_FFFF ∷ 2 ∷ 9 ∷ [])
    ∷ case (judged named (of 3 (0xEE ∷ 0x80 ∷ 0x80 ∷ [])) 9 99) (0 ∷ 0 ∷ 0xFFFF_FFFF ∷ 2 ∷ 9 ∷ [])
    ∷ case (judged named (of 4 (0xF0 ∷ 0x90 ∷ 0x80 ∷ 0x80 ∷ [])) 9 99) (0 ∷ 0 ∷ 0xFFFF_FFFF ∷ 2 ∷ 10 ∷ [])
    ∷ case (judged named (of 4 (0xF4 ∷ 0x8F ∷ 0xBF ∷ 0xBF ∷ [])) 9 99) (0 ∷ 0 ∷ 0xFFFF_FFFF ∷ 2 ∷ 10 ∷ [])
    -- bytes may be any, in place too
    ∷ case (judged blob (blob_at 2 overlong) 9 99) (0 ∷ 0 ∷ 0xFFFF_FFFF ∷ 2 ∷ 8 ∷ [])
    ∷ case (judged blob_in_place (rooted 6 (u48 2 ++ overlong)) 9 99) (0 ∷ 0 ∷ 0xFFFF_FFFF ∷ 2 ∷ 8 ∷ [])
    ∷ []

-- ---- where the text stands, and what comes first
pub place_cases : List Case
place_cases =
    -- "after the end byte": 10 where both are wrong. The last octet of the euro sign stands behind the length: it is the end byte
    case (judged named (text_at 2 overlong 1) 9 99) (10 ∷ 26 ∷ 0xFFFF_FFFF ∷ 2 ∷ 8 ∷ [])
    ∷ case (judged named (text_at 2 (0xE2 ∷ 0x82 ∷ []) 0xAC) 9 99) (10 ∷ 26 ∷ 0xFFFF_FFFF ∷ 2 ∷ 8 ∷ [])
    -- 17 before 16: with an allowance of 7 the text does not fit in it, with 8 it does; so with 4, 6 and 7
    ∷ case (judged named (of 2 overlong) 9 7) (17 ∷ 26 ∷ 0xFFFF_FFFF ∷ 2 ∷ 6 ∷ [])
    ∷ case (judged named (of 2 overlong) 9 8) (16 ∷ 26 ∷ 0xFFFF_FFFF ∷ 2 ∷ 8 ∷ [])
    ∷ case (judged named (of 2 overlong) 1 99) (4 ∷ 26 ∷ 0xFFFF_FFFF ∷ 1 ∷ 6 ∷ [])
    ∷ case (judged named (take 38 (of 2 overlong)) 9 99) (6 ∷ 26 ∷ 0xFFFF_FFFF ∷ 2 ∷ 6 ∷ [])
    ∷ case (judged named (set (of 2 overlong) 26 0) 9 99) (7 ∷ 26 ∷ 0xFFFF_FFFF ∷ 2 ∷ 6 ∷ [])
    -- "The first failure ends the walk.": the second text, at 45, has a wrong end byte
    ∷ case (judged twice (rooted 12 (u48 32 ++ (u48 45 ++ (text 2 overlong 0 ++ text 1 (0x61 ∷ []) 1)))) 9 99)
    (16 ∷ 32 ∷ 0xFFFF_FFFF ∷ 2 ∷ 14 ∷ [])
    ∷ case (judged twice (rooted 12 (u48 32 ++ (u48 45 ++ (text 2 umlaut 0 ++ text 1 (0x61 ∷ []) 1)))) 9 99)
    (10 ∷ 45 ∷ 0xFFFF_FFFF ∷ 3 ∷ 15 ∷ [])
    -- in place: "where its in-place content starts"
    ∷ case (judged in_place (standing overlong 0) 9 99) (16 ∷ 26 ∷ 0xFFFF_FFFF ∷ 2 ∷ 8 ∷ [])
    ∷ case (judged in_place (standing overlong 1) 9 99) (10 ∷ 26 ∷ 0xFFFF_FFFF ∷ 2 ∷ 8 ∷ [])
    ∷ case (judged in_place (standing overlong 0) 9 7) (17 ∷ 26 ∷ 0xFFFF_FFFF ∷ 2 ∷ 6 ∷ [])
    ∷ case (judged in_place (standing umlaut 0) 9 99) (0 ∷ 0 ∷ 0xFFFF_FFFF ∷ 2 ∷ 8 ∷ [])
    -- in a union, by offset and in place; what an unknown choice has is not followed
    ∷ case (judged (union 0x88) (chosen 1 overlong 0) 9 99) (16 ∷ 28 ∷ 0xFFFF_FFFF ∷ 2 ∷ 10 ∷ [])
    ∷ case (judged (union 0x88) (chosen 1 overlong 1) 9 99) (10 ∷ 28 ∷ 0xFFFF_FFFF ∷ 2 ∷ 10 ∷ [])
    ∷ case (judged (union 0x88) (chosen 2 overlong 0) 9 99) (0 ∷ 0 ∷ 0xFFFF_FFFF ∷ 1 ∷ 8 ∷ [])
    ∷ case (judged (union 0x8A) (chosen_in_place overlong 0) 9 99) (16 ∷ 28 ∷ 0xFFFF_FFFF ∷ 2 ∷ 10 ∷ [])
    ∷ case (judged (union 0x8A) (chosen_in_place overlong 1) 9 99) (10 ∷ 28 ∷ 0xFFFF_FFFF ∷ 2 ∷ 10 ∷ [])
    -- in a list, and in a list of unions; 02, K6: "every other answer" than 8, 9 and 10 is about no element
    ∷ case (judged names (listed_names overlong) 9 99) (16 ∷ 60 ∷ 0xFFFF_FFFF ∷ 4 ∷ 21 ∷ [])
    ∷ case (judged names (listed_names umlaut) 9 99) (0 ∷ 0 ∷ 0xFFFF_FFFF ∷ 4 ∷ 21 ∷ [])
    ∷ case (judged choices (listed_choice overlong) 9 99) (16 ∷ 44 ∷ 0xFFFF_FFFF ∷ 3 ∷ 16 ∷ [])
    -- in an element of a direct list
    ∷ case (judged seats (seated overlong 0) 9 99) (16 ∷ 52 ∷ 0xFFFF_FFFF ∷ 4 ∷ 16 ∷ [])
    ∷ case (judged seats (seated overlong 1) 9 99) (10 ∷ 52 ∷ 0xFFFF_FFFF ∷ 4 ∷ 16 ∷ [])
    ∷ case (judged seats (seated overlong 0) 9 15) (17 ∷ 52 ∷ 0xFFFF_FFFF ∷ 4 ∷ 14 ∷ [])
    ∷ case (judged seats (seated umlaut 0) 9 99) (0 ∷ 0 ∷ 0xFFFF_FFFF ∷ 4 ∷ 16 ∷ [])
    -- reading to a sheet: 16 before 14
    ∷ case (read (Message.read_answer Bytes.u48 named (of 2 overlong) (Walk.allowing 9 99) [])) (16 ∷ 26 ∷ 0xFFFF_FFFF ∷ 2 ∷ 8 ∷ 0 ∷ [])
    ∷ []

-- ---- under the older coding
pub older_cases : List Case
older_cases =
    case (judged_older named (of_older 2 overlong) 9 99) (16 ∷ 20 ∷ 0xFFFF_FFFF ∷ 2 ∷ 6 ∷ [])
    ∷ case (judged_older named (of_older 3 (0xE0 ∷ 0x80 ∷ 0x80 ∷ [])) 9 99) (16 ∷ 20 ∷ 0xFFFF_FFFF ∷ 2 ∷ 7 ∷ [])
    ∷ case (judged_older named (of_older 3 (0xED ∷ 0xA0 ∷ 0x80 ∷ [])) 9 99) (16 ∷ 20 ∷ 0xFFFF_FFFF ∷ 2 ∷ 7 ∷ [])
    ∷ case (judged_older named (of_older 4 (0xF4 ∷ 0x90 ∷ 0x80 ∷ 0x80 ∷ [])) 9 99) (16 ∷ 20 ∷ 0xFFFF_FFFF ∷ 2 ∷ 8 ∷ [])
    ∷ case (judged_older named (of_older 2 (0xE2 ∷ 0x82 ∷ [])) 9 99) (16 ∷ 20 ∷ 0xFFFF_FFFF ∷ 2 ∷ 6 ∷ [])
    ∷ case (judged_older named (of_older 0 []) 9 99) (0 ∷ 0 ∷ 0xFFFF_FFFF ∷ 2 ∷ 4 ∷ [])
    ∷ case (judged_older named (of_older 1 (0x00 ∷ [])) 9 99) (0 ∷ 0 ∷ 0xFFFF_FFFF ∷ 2 ∷ 5 ∷ [])
    ∷ case (judged_older named (of_older 2 umlaut) 9 99) (0 ∷ 0 ∷ 0xFFFF_FFFF ∷ 2 ∷ 6 ∷ [])
    -- 10 and 17 come first
    ∷ case (judged_older named (rooted_older 4 (20 ∷ 0 ∷ 0 ∷ 0 ∷ text_older 2 overlong 1)) 9 99) (10 ∷ 20 ∷ 0xFFFF_FFFF ∷ 2 ∷ 6 ∷ [])
    ∷ case (judged_older named (of_older 2 overlong) 9 5) (17 ∷ 20 ∷ 0xFFFF_FFFF ∷ 2 ∷ 4 ∷ [])
    -- in place at 20; in a union, in place at 22; in a list, at 32
    ∷ case (judged_older in_place (rooted_older 4 (2 ∷ 0 ∷ 0 ∷ 0 ∷ overlong ++ (0 ∷ []))) 9 99) (16 ∷ 20 ∷ 0xFFFF_FFFF ∷ 2 ∷ 6 ∷ [])
    ∷ case (judged_older (union 0x8A) (rooted_older 6 (1 ∷ 0 ∷ 2 ∷ 0 ∷ 0 ∷ 0 ∷ overlong ++ (0 ∷ []))) 9 99)
    (16 ∷ 22 ∷ 0xFFFF_FFFF ∷ 2 ∷ 8 ∷ [])
    ∷ case
    (judged_older names
    (rooted_older 4 (20 ∷ 0 ∷ 0 ∷ 0 ∷ 0x46 ∷ 0xBB ∷ 0x00 ∷ 0x34 ∷ 1 ∷ 0 ∷ 0 ∷ 0 ∷ 32 ∷ 0 ∷ 0 ∷ 0 ∷ text_older 2 overlong 0)) 9 99)
    (16 ∷ 32 ∷ 0xFFFF_FFFF ∷ 3 ∷ 10 ∷ [])
    -- bytes may be any
    ∷ case (judged_older blob (rooted_older 4 (20 ∷ 0 ∷ 0 ∷ 0 ∷ 0x10 ∷ 0xBE ∷ 0xDB ∷ 0xDC ∷ 2 ∷ 0 ∷ 0 ∷ 0 ∷ overlong)) 9 99)
    (0 ∷ 0 ∷ 0xFFFF_FFFF ∷ 2 ∷ 6 ∷ [])
    ∷ []

-- ---- fields, and the list reader
pub field_cases : List Case
field_cases =
    case (field named (of 2 overlong) (0 ∷ [])) (7 ∷ 16 ∷ 26 ∷ 0xFFFF_FFFF ∷ [])
    ∷ case (field named (text_at 2 overlong 1) (0 ∷ [])) (7 ∷ 10 ∷ 26 ∷ 0xFFFF_FFFF ∷ [])
    ∷ case (field named (of 2 umlaut) (0 ∷ [])) (3 ∷ 13 ∷ 26 ∷ 2 ∷ [])
    ∷ case (field named (of 0 []) (0 ∷ [])) (3 ∷ 13 ∷ 26 ∷ 0 ∷ [])
    ∷ case (field blob (blob_at 2 overlong) (0 ∷ [])) (3 ∷ 14 ∷ 26 ∷ 2 ∷ [])
    -- "A holder is judged before 15 is given at it."
    ∷ case (field named (of 2 overlong) (0 ∷ 0 ∷ [])) (7 ∷ 16 ∷ 26 ∷ 0xFFFF_FFFF ∷ [])
    ∷ case (field named (of 2 umlaut) (0 ∷ 0 ∷ [])) (7 ∷ 15 ∷ 26 ∷ 0xFFFF_FFFF ∷ [])
    -- in place, in a union, in a list and in an element of a direct list
    ∷ case (field in_place (standing overlong 0) (0 ∷ [])) (7 ∷ 16 ∷ 26 ∷ 0xFFFF_FFFF ∷ [])
    ∷ case (field (union 0x88) (chosen 1 overlong 0) (0 ∷ [])) (7 ∷ 16 ∷ 28 ∷ 0xFFFF_FFFF ∷ [])
    ∷ case (field (union 0x8A) (chosen_in_place overlong 0) (0 ∷ [])) (7 ∷ 16 ∷ 28 ∷ 0xFFFF_FFFF ∷ [])
    ∷ case (field names (listed_names overlong) (0 ∷ 1 ∷ [])) (7 ∷ 16 ∷ 60 ∷ 0xFFFF_FFFF ∷ [])
    ∷ case (field seats (seated overlong 0) (0 ∷ 0 ∷ 1 ∷ [])) (7 ∷ 16 ∷ 52 ∷ 0xFFFF_FFFF ∷ [])
    -- "Only objects and members on the path are judged": its neighbours are read
    ∷ case (field names (listed_names overlong) (0 ∷ 0 ∷ [])) (3 ∷ 13 ∷ 48 ∷ 1 ∷ [])
    ∷ case (field seats (seated overlong 0) (0 ∷ 0 ∷ 0 ∷ [])) (1 ∷ 3 ∷ 16 ∷ 0 ∷ [])
    -- the list reader: "Each step answers as that element's path would"
    ∷ case (stepped names (listed_names overlong) (0 ∷ []) 0) (3 ∷ 13 ∷ 48 ∷ 1 ∷ [])
    ∷ case (stepped names (listed_names overlong) (0 ∷ []) 1) (7 ∷ 16 ∷ 60 ∷ 0xFFFF_FFFF ∷ [])
    -- the part of the message: "ü", and none where the text is refused
    ∷ case (Field.field_text Bytes.u48 named (of 2 umlaut) (0 ∷ [])) umlaut
    ∷ case (Field.field_text Bytes.u48 named (of 2 overlong) (0 ∷ [])) []
    ∷ case (Field.field_text Bytes.u48 blob (blob_at 2 overlong) (0 ∷ [])) overlong
    -- under the older coding
    ∷ case (field_older named (of_older 2 overlong) (0 ∷ [])) (7 ∷ 16 ∷ 20 ∷ 0xFFFF_FFFF ∷ [])
    ∷ case (field_older named (of_older 2 umlaut) (0 ∷ [])) (3 ∷ 13 ∷ 20 ∷ 2 ∷ [])
    ∷ []

-- ---- writing. "a sheet with such a text is 12"
pub written_cases : List Case
written_cases =
    case (wrote Bytes.u48 named overlong_sheet) (12 ∷ [])
    -- E0 80 80, ED A0 80, F4 90 80 80, and E2 82 without its tail
    ∷ case (wrote Bytes.u48 named (0x40 ∷ 0x00 ∷ 0x00 ∷ 0x00 ∷ 0xF8 ∷ 0x20 ∷ 0x20 ∷ 0x00 ∷ [])) (12 ∷ [])
    ∷ case (wrote Bytes.u48 named (0x40 ∷ 0x00 ∷ 0x00 ∷ 0x00 ∷ 0xFB ∷ 0x68 ∷ 0x20 ∷ 0x00 ∷ [])) (12 ∷ [])
    ∷ case (wrote Bytes.u48 named (0x40 ∷ 0x00 ∷ 0x00 ∷ 0x01 ∷ 0x3D ∷ 0x24 ∷ 0x20 ∷ 0x20 ∷ 0x00 ∷ [])) (12 ∷ [])
    ∷ case (wrote Bytes.u48 named (0x40 ∷ 0x00 ∷ 0x00 ∷ 0x00 ∷ 0xB8 ∷ 0xA0 ∷ 0x80 ∷ [])) (12 ∷ [])
    -- "ü", U+0000 and the empty text are written
    ∷ case (wrote Bytes.u48 named umlaut_sheet) (0 ∷ of 2 umlaut)
    ∷ case (wrote Bytes.u48 named (0x40 ∷ 0x00 ∷ 0x00 ∷ 0x00 ∷ 0x40 ∷ 0x00 ∷ [])) (0 ∷ of 1 (0x00 ∷ []))
    ∷ case (wrote Bytes.u48 named (0x40 ∷ 0x00 ∷ 0x00 ∷ 0x00 ∷ 0x00 ∷ [])) (0 ∷ of 0 [])
    -- bytes may be any
    ∷ case (wrote Bytes.u48 blob overlong_sheet) (0 ∷ blob_at 2 overlong)
    -- in place; in a union; in a list; in an element of a direct list
    ∷ case (wrote Bytes.u48 in_place overlong_sheet) (12 ∷ [])
    ∷ case (wrote Bytes.u48 in_place umlaut_sheet) (0 ∷ standing umlaut 0)
    ∷ case (wrote Bytes.u48 (union 0x88) (0x40 ∷ 0x00 ∷ 0x40 ∷ 0x00 ∷ 0x00 ∷ 0x00 ∷ 0xB0 ∷ 0x20 ∷ 0x00 ∷ [])) (12 ∷ [])
    ∷ case (wrote Bytes.u48 names (0x40 ∷ 0x00 ∷ 0x00 ∷ 0x00 ∷ 0x50 ∷ 0x00 ∷ 0x00 ∷ 0x00 ∷ 0x2C ∷ 0x08 ∷ 0x00 ∷ [])) (12 ∷ [])
    ∷ case
    (wrote Bytes.u48 seats
    (0x40 ∷ 0x00 ∷ 0x00 ∷ 0x00 ∷ 0x50 ∷ 0x00 ∷ 0x34 ∷ 0x00 ∷ 0x00 ∷ 0x00 ∷ 0x0B ∷ 0x02 ∷ 0x00 ∷ []))
    (12 ∷ [])
    -- 11 comes first, where the padding is not zero; 12 before 14
    ∷ case (wrote Bytes.u48 named (0x40 ∷ 0x00 ∷ 0x00 ∷ 0x00 ∷ 0xB0 ∷ 0x20 ∷ 0x01 ∷ [])) (11 ∷ [])
    ∷ case (room (Message.write_answer Bytes.u48 named overlong_sheet [])) (12 ∷ 0 ∷ [])
    ∷ case (room (Message.write_answer Bytes.u48 named umlaut_sheet [])) (14 ∷ 0 ∷ [])
    -- the sheet of an accepted message is the same again
    ∷ case (Message.message_sheet Bytes.u48 named (of 2 umlaut)) umlaut_sheet
    -- under the older coding
    ∷ case (wrote Bytes.u32 named overlong_sheet) (12 ∷ [])
    ∷ case (wrote Bytes.u32 named umlaut_sheet) (0 ∷ of_older 2 umlaut)
    ∷ case (wrote Bytes.u32 in_place overlong_sheet) (12 ∷ [])
    -- and there in a union in place, which the other coding does not write (02, K12)
    ∷ case (wrote Bytes.u32 (union 0x8A) (0x40 ∷ 0x00 ∷ 0x40 ∷ 0x00 ∷ 0x00 ∷ 0x00 ∷ 0xB0 ∷ 0x20 ∷ 0x00 ∷ [])) (12 ∷ [])
    ∷ case (wrote Bytes.u32 (union 0x8A) (0x40 ∷ 0x00 ∷ 0x40 ∷ 0x00 ∷ 0x00 ∷ 0x00 ∷ 0xB0 ∷ 0xEF ∷ 0x00 ∷ []))
    (0 ∷ rooted_older 6 (1 ∷ 0 ∷ 2 ∷ 0 ∷ 0 ∷ 0 ∷ umlaut ++ (0 ∷ [])))
    ∷ []

-- THE CLAIM: each case gives what the papers say.
pub text_case : map (λ c. c.given) text_cases ≡ map (λ c. c.expected) text_cases
unfolding text_cases told judged Walk.no_member Lists.every Lists.run Bytes.le Bytes.le_bytes Bytes.bit_at Bytes.is_nan Bytes.no_float Bytes.largest Bytes.deepest Bytes.u48 Bytes.u32 Bytes.width_known Utf8.within Utf8.after_first Utf8.after_octet Utf8.may_end Utf8.text_from Utf8.is_text Schema.struct_of Schema.element_of Schema.cases_of Schema.table_of Schema.field_of Schema.case_of Schema.plain_bool Schema.member_of Structs.lower Structs.by_index Structs.flat_width Structs.total Structs.size_by Structs.struct_size Structs.flat_ok Structs.flats_ok Structs.ok_by Structs.struct_ok Packed.kind_at Packed.optional_at Packed.inplace_at Packed.zero_at Packed.argument_at Packed.width_of Packed.flat_of Packed.object_of Packed.kind_of Packed.flat_at Packed.object_at Packed.element_at Packed.member_at Packed.records Packed.record_place Packed.blocks Packed.struct_place Packed.list_place Packed.union_place Packed.table_place Packed.id_at Packed.records_at Packed.table_at Packed.parse Lawful.counts_ok Lawful.blocks_ok Lawful.places_ok Lawful.shape_ok Lawful.argument_ok Lawful.kind_ok Lawful.optional_ok Lawful.inplace_ok Lawful.flags_ok Lawful.record_ok Lawful.first_ok Lawful.records_ok Lawful.inplaces Lawful.direct_table Lawful.held_union Lawful.direct_ok Lawful.struct_lawful Lawful.list_lawful Lawful.union_lawful Lawful.table_lawful Lawful.id_differs Lawful.id_lawful Lawful.rules_ok Lawful.well_formed Lawful.older_member Lawful.older_element Lawful.older_union Lawful.older_table Lawful.older_ok Lawful.lawful Layout.flat_is_bool Layout.is_bool Layout.width Layout.flat_takes_flag Layout.takes_flag Layout.has_flag Layout.begin Layout.bit_byte Layout.bit_index Layout.after_bit Layout.after_bytes Layout.after_flag Layout.bit_slot Layout.slot_of Layout.after_value Layout.member_slot Layout.placement_of Layout.after_member Layout.after_members Layout.fixed_size Step.enum_step Step.float_step Step.struct_tested Step.place_of Step.object_step Step.union_step Step.flat_step Step.field_step Step.value_step Step.inside Step.flagged Step.placed_step Step.member_step Step.element_place Step.element_step Step.elements_size Walk.placed Walk.magic Walk.header_size Walk.element_id Walk.element_size Walk.most_elements Walk.start_size Walk.content_size Walk.content_length Walk.end_ok Walk.text_ok Walk.fit_content Walk.direct_header Walk.header_tested Walk.stands_in_place Walk.fit_object Walk.bytes_tested Walk.open_object Walk.refuse Walk.and_then Walk.refuse_part Walk.follow_choice Walk.follow Walk.members Walk.elements Walk.directs Walk.content Walk.enter Walk.with_content Walk.admit Walk.arrive Walk.too_deep Walk.one_more Walk.most_content Walk.counted Walk.visit Walk.root_place Walk.nothing Walk.walk Walk.verdict_of Walk.early Walk.size_ok Walk.start_ok Walk.verdict
text_case = refl

pub place_case : map (λ c. c.given) place_cases ≡ map (λ c. c.expected) place_cases
unfolding place_cases told judged read Walk.no_member Lists.every Lists.run Bytes.le Bytes.le_bytes Bytes.bit_at Bytes.is_nan Bytes.no_float Bytes.largest Bytes.deepest Bytes.u48 Bytes.u32 Bytes.width_known Utf8.within Utf8.after_first Utf8.after_octet Utf8.may_end Utf8.text_from Utf8.is_text Schema.struct_of Schema.element_of Schema.cases_of Schema.table_of Schema.field_of Schema.case_of Schema.plain_bool Schema.member_of Structs.lower Structs.by_index Structs.flat_width Structs.total Structs.size_by Structs.struct_size Structs.flat_ok Structs.flats_ok Structs.ok_by Structs.struct_ok Packed.kind_at Packed.optional_at Packed.inplace_at Packed.zero_at Packed.argument_at Packed.width_of Packed.flat_of Packed.object_of Packed.kind_of Packed.flat_at Packed.object_at Packed.element_at Packed.member_at Packed.records Packed.record_place Packed.blocks Packed.struct_place Packed.list_place Packed.union_place Packed.table_place Packed.id_at Packed.records_at Packed.table_at Packed.parse Lawful.counts_ok Lawful.blocks_ok Lawful.places_ok Lawful.shape_ok Lawful.argument_ok Lawful.kind_ok Lawful.optional_ok Lawful.inplace_ok Lawful.flags_ok Lawful.record_ok Lawful.first_ok Lawful.records_ok Lawful.inplaces Lawful.direct_table Lawful.held_union Lawful.direct_ok Lawful.struct_lawful Lawful.list_lawful Lawful.union_lawful Lawful.table_lawful Lawful.id_differs Lawful.id_lawful Lawful.rules_ok Lawful.well_formed Lawful.older_member Lawful.older_element Lawful.older_union Lawful.older_table Lawful.older_ok Lawful.lawful Layout.flat_is_bool Layout.is_bool Layout.width Layout.flat_takes_flag Layout.takes_flag Layout.has_flag Layout.begin Layout.bit_byte Layout.bit_index Layout.after_bit Layout.after_bytes Layout.after_flag Layout.bit_slot Layout.slot_of Layout.after_value Layout.member_slot Layout.placement_of Layout.after_member Layout.after_members Layout.fixed_size Step.enum_step Step.float_step Step.struct_tested Step.place_of Step.object_step Step.union_step Step.flat_step Step.field_step Step.value_step Step.inside Step.flagged Step.placed_step Step.member_step Step.element_place Step.element_step Step.elements_size Walk.placed Walk.magic Walk.header_size Walk.element_id Walk.element_size Walk.most_elements Walk.start_size Walk.content_size Walk.content_length Walk.end_ok Walk.text_ok Walk.fit_content Walk.direct_header Walk.header_tested Walk.stands_in_place Walk.fit_object Walk.bytes_tested Walk.open_object Walk.refuse Walk.and_then Walk.refuse_part Walk.follow_choice Walk.follow Walk.members Walk.elements Walk.directs Walk.content Walk.enter Walk.with_content Walk.admit Walk.arrive Walk.too_deep Walk.one_more Walk.most_content Walk.counted Walk.visit Walk.root_place Walk.nothing Walk.walk Walk.verdict_of Walk.early Walk.size_ok Walk.start_ok Walk.verdict Value.as_number Value.as_blob Value.as_row Value.as_object Value.present Value.known Value.first Value.others Value.count Read.step_read Read.fields_read Read.read_by Read.struct_read Read.members_read Read.elements_read Read.directs_read Read.content_read Read.place_read Read.read Read.message_read Bits.bits_of Bits.bits Bits.value Bits.pack Bits.byte_count Bits.packed Bits.all_zero Sheet.mark_bits Sheet.flat_bits Sheet.field_bits Sheet.fields_bits Sheet.bits_by Sheet.struct_bits Sheet.body_bits Sheet.flat_unknown Sheet.unknown_width Sheet.part_bits Sheet.flat_unmarked Sheet.unmarked Sheet.element_bits Sheet.members_bits Sheet.elements_bits Sheet.directs_bits Sheet.blob_bits Sheet.content_bits Sheet.encode Sheet.sheet_bits Sheet.sheet_of Sheet.bind Sheet.take_number Sheet.take_bytes Sheet.take_value Sheet.take_if Sheet.take_mark Sheet.unknown_enum Sheet.take_unknown_enum Sheet.take_enum Sheet.take_flat Sheet.take_field Sheet.take_fields Sheet.take_by Sheet.take_struct Sheet.take_choice Sheet.take_body Sheet.take_unknown_flat Sheet.take_unknown Sheet.take_part Sheet.take_element Sheet.take_members Sheet.take_elements Sheet.take_directs Sheet.take_blob Sheet.take_content Sheet.decode Sheet.closed Sheet.tree_of Sheet.sheet_tree Cells.width Cells.chain Cells.below Cells.width_bytes Cells.chain_bytes Cells.below_bytes Cells.layout Cells.gather Cells.pack_bits Message.length_of Message.flat_known Message.flats_known Message.known_by Message.struct_known Message.flat_writable Message.keeps_unions Message.value_writable Message.members_writable Message.elements_writable Message.directs_writable Message.content_writable Message.writable Message.number_or Message.flat_bytes Message.flats_bytes Message.bytes_by Message.struct_bytes Message.flat_slots Message.object_slots Message.refer_slots Message.value_slots Message.flag_of Message.member_slots Message.members_slots Message.elements_slots Message.directs_slots Message.direct_slots Message.content_slots Message.plan Message.message_of Message.written_tree Message.written Message.write_room Message.write_over Message.write_answer Message.write_out Message.message_sheet Message.fits_room Message.read_answer Message.read_out
place_case = refl

pub older_case : map (λ c. c.given) older_cases ≡ map (λ c. c.expected) older_cases
unfolding older_cases told judged_older Walk.no_member Lists.every Lists.run Bytes.le Bytes.le_bytes Bytes.bit_at Bytes.is_nan Bytes.no_float Bytes.largest Bytes.deepest Bytes.u48 Bytes.u32 Bytes.width_known Utf8.within Utf8.after_first Utf8.after_octet Utf8.may_end Utf8.text_from Utf8.is_text Schema.struct_of Schema.element_of Schema.cases_of Schema.table_of Schema.field_of Schema.case_of Schema.plain_bool Schema.member_of Structs.lower Structs.by_index Structs.flat_width Structs.total Structs.size_by Structs.struct_size Structs.flat_ok Structs.flats_ok Structs.ok_by Structs.struct_ok Packed.kind_at Packed.optional_at Packed.inplace_at Packed.zero_at Packed.argument_at Packed.width_of Packed.flat_of Packed.object_of Packed.kind_of Packed.flat_at Packed.object_at Packed.element_at Packed.member_at Packed.records Packed.record_place Packed.blocks Packed.struct_place Packed.list_place Packed.union_place Packed.table_place Packed.id_at Packed.records_at Packed.table_at Packed.parse Lawful.counts_ok Lawful.blocks_ok Lawful.places_ok Lawful.shape_ok Lawful.argument_ok Lawful.kind_ok Lawful.optional_ok Lawful.inplace_ok Lawful.flags_ok Lawful.record_ok Lawful.first_ok Lawful.records_ok Lawful.inplaces Lawful.direct_table Lawful.held_union Lawful.direct_ok Lawful.struct_lawful Lawful.list_lawful Lawful.union_lawful Lawful.table_lawful Lawful.id_differs Lawful.id_lawful Lawful.rules_ok Lawful.well_formed Lawful.older_member Lawful.older_element Lawful.older_union Lawful.older_table Lawful.older_ok Lawful.lawful Layout.flat_is_bool Layout.is_bool Layout.width Layout.flat_takes_flag Layout.takes_flag Layout.has_flag Layout.begin Layout.bit_byte Layout.bit_index Layout.after_bit Layout.after_bytes Layout.after_flag Layout.bit_slot Layout.slot_of Layout.after_value Layout.member_slot Layout.placement_of Layout.after_member Layout.after_members Layout.fixed_size Step.enum_step Step.float_step Step.struct_tested Step.place_of Step.object_step Step.union_step Step.flat_step Step.field_step Step.value_step Step.inside Step.flagged Step.placed_step Step.member_step Step.element_place Step.element_step Step.elements_size Walk.placed Walk.magic Walk.header_size Walk.element_id Walk.element_size Walk.most_elements Walk.start_size Walk.content_size Walk.content_length Walk.end_ok Walk.text_ok Walk.fit_content Walk.direct_header Walk.header_tested Walk.stands_in_place Walk.fit_object Walk.bytes_tested Walk.open_object Walk.refuse Walk.and_then Walk.refuse_part Walk.follow_choice Walk.follow Walk.members Walk.elements Walk.directs Walk.content Walk.enter Walk.with_content Walk.admit Walk.arrive Walk.too_deep Walk.one_more Walk.most_content Walk.counted Walk.visit Walk.root_place Walk.nothing Walk.walk Walk.verdict_of Walk.early Walk.size_ok Walk.start_ok Walk.verdict
older_case = refl

pub field_case : map (λ c. c.given) field_cases ≡ map (λ c. c.expected) field_cases
unfolding field_cases field field_older stepped answered Walk.no_member Lists.every Lists.run Bytes.le Bytes.le_bytes Bytes.bit_at Bytes.is_nan Bytes.no_float Bytes.largest Bytes.deepest Bytes.u48 Bytes.u32 Bytes.width_known Utf8.within Utf8.after_first Utf8.after_octet Utf8.may_end Utf8.text_from Utf8.is_text Schema.struct_of Schema.element_of Schema.cases_of Schema.table_of Schema.field_of Schema.case_of Schema.plain_bool Schema.member_of Structs.lower Structs.by_index Structs.flat_width Structs.total Structs.size_by Structs.struct_size Structs.flat_ok Structs.flats_ok Structs.ok_by Structs.struct_ok Packed.kind_at Packed.optional_at Packed.inplace_at Packed.zero_at Packed.argument_at Packed.width_of Packed.flat_of Packed.object_of Packed.kind_of Packed.flat_at Packed.object_at Packed.element_at Packed.member_at Packed.records Packed.record_place Packed.blocks Packed.struct_place Packed.list_place Packed.union_place Packed.table_place Packed.id_at Packed.records_at Packed.table_at Packed.parse Lawful.counts_ok Lawful.blocks_ok Lawful.places_ok Lawful.shape_ok Lawful.argument_ok Lawful.kind_ok Lawful.optional_ok Lawful.inplace_ok Lawful.flags_ok Lawful.record_ok Lawful.first_ok Lawful.records_ok Lawful.inplaces Lawful.direct_table Lawful.held_union Lawful.direct_ok Lawful.struct_lawful Lawful.list_lawful Lawful.union_lawful Lawful.table_lawful Lawful.id_differs Lawful.id_lawful Lawful.rules_ok Lawful.well_formed Lawful.older_member Lawful.older_element Lawful.older_union Lawful.older_table Lawful.older_ok Lawful.lawful Layout.flat_is_bool Layout.is_bool Layout.width Layout.flat_takes_flag Layout.takes_flag Layout.has_flag Layout.begin Layout.bit_byte Layout.bit_index Layout.after_bit Layout.after_bytes Layout.after_flag Layout.bit_slot Layout.slot_of Layout.after_value Layout.member_slot Layout.placement_of Layout.after_member Layout.after_members Layout.fixed_size Step.enum_step Step.float_step Step.struct_tested Step.place_of Step.object_step Step.union_step Step.flat_step Step.field_step Step.value_step Step.inside Step.flagged Step.placed_step Step.member_step Step.element_place Step.element_step Step.elements_size Walk.placed Walk.magic Walk.header_size Walk.element_id Walk.element_size Walk.most_elements Walk.start_size Walk.content_size Walk.content_length Walk.end_ok Walk.text_ok Walk.fit_content Walk.direct_header Walk.header_tested Walk.stands_in_place Walk.fit_object Walk.bytes_tested Walk.open_object Walk.refuse Walk.and_then Walk.refuse_part Walk.follow_choice Walk.follow Walk.members Walk.elements Walk.directs Walk.content Walk.enter Walk.with_content Walk.admit Walk.arrive Walk.too_deep Walk.one_more Walk.most_content Walk.counted Walk.visit Walk.root_place Walk.nothing Walk.walk Walk.verdict_of Walk.early Walk.size_ok Walk.start_ok Walk.verdict Field.no_part Field.opened Field.arrived Field.part_refused Field.chosen Field.stepped Field.struct_part Field.object_part Field.part_of Field.along Field.found Field.flat_answer Field.value_answer Field.record_kind Field.answer_of Field.answer_verdict Field.before Field.field_found Field.field Field.answer_case Field.case_numbers Field.list_found Field.leads Field.reader_of Field.reader_start Field.list_gives Field.reader_gives Field.list_count Field.reader_count Field.field_text Field.field_span Field.found_span Field.object_span Field.text_of
field_case = refl

pub written_case : map (λ c. c.given) written_cases ≡ map (λ c. c.expected) written_cases
unfolding written_cases answer wrote room Lists.every Lists.run Bytes.le Bytes.le_bytes Bytes.bit_at Bytes.is_nan Bytes.no_float Bytes.largest Bytes.deepest Bytes.u48 Bytes.u32 Bytes.width_known Utf8.within Utf8.after_first Utf8.after_octet Utf8.may_end Utf8.text_from Utf8.is_text Schema.struct_of Schema.element_of Schema.cases_of Schema.table_of Schema.field_of Schema.case_of Schema.plain_bool Schema.member_of Structs.lower Structs.by_index Structs.flat_width Structs.total Structs.size_by Structs.struct_size Structs.flat_ok Structs.flats_ok Structs.ok_by Structs.struct_ok Packed.kind_at Packed.optional_at Packed.inplace_at Packed.zero_at Packed.argument_at Packed.width_of Packed.flat_of Packed.object_of Packed.kind_of Packed.flat_at Packed.object_at Packed.element_at Packed.member_at Packed.records Packed.record_place Packed.blocks Packed.struct_place Packed.list_place Packed.union_place Packed.table_place Packed.id_at Packed.records_at Packed.table_at Packed.parse Lawful.counts_ok Lawful.blocks_ok Lawful.places_ok Lawful.shape_ok Lawful.argument_ok Lawful.kind_ok Lawful.optional_ok Lawful.inplace_ok Lawful.flags_ok Lawful.record_ok Lawful.first_ok Lawful.records_ok Lawful.inplaces Lawful.direct_table Lawful.held_union Lawful.direct_ok Lawful.struct_lawful Lawful.list_lawful Lawful.union_lawful Lawful.table_lawful Lawful.id_differs Lawful.id_lawful Lawful.rules_ok Lawful.well_formed Lawful.older_member Lawful.older_element Lawful.older_union Lawful.older_table Lawful.older_ok Lawful.lawful Layout.flat_is_bool Layout.is_bool Layout.width Layout.flat_takes_flag Layout.takes_flag Layout.has_flag Layout.begin Layout.bit_byte Layout.bit_index Layout.after_bit Layout.after_bytes Layout.after_flag Layout.bit_slot Layout.slot_of Layout.after_value Layout.member_slot Layout.placement_of Layout.after_member Layout.after_members Layout.fixed_size Step.enum_step Step.float_step Step.struct_tested Step.place_of Step.object_step Step.union_step Step.flat_step Step.field_step Step.value_step Step.inside Step.flagged Step.placed_step Step.member_step Step.element_place Step.element_step Step.elements_size Walk.placed Walk.magic Walk.header_size Walk.element_id Walk.element_size Walk.most_elements Walk.start_size Walk.content_size Walk.content_length Walk.end_ok Walk.text_ok Walk.fit_content Walk.direct_header Walk.header_tested Walk.stands_in_place Walk.fit_object Walk.bytes_tested Walk.open_object Walk.refuse Walk.and_then Walk.refuse_part Walk.follow_choice Walk.follow Walk.members Walk.elements Walk.directs Walk.content Walk.enter Walk.with_content Walk.admit Walk.arrive Walk.too_deep Walk.one_more Walk.most_content Walk.counted Walk.visit Walk.root_place Walk.nothing Walk.walk Walk.verdict_of Walk.early Walk.size_ok Walk.start_ok Walk.verdict Value.as_number Value.as_blob Value.as_row Value.as_object Value.present Value.known Value.first Value.others Value.count Read.step_read Read.fields_read Read.read_by Read.struct_read Read.members_read Read.elements_read Read.directs_read Read.content_read Read.place_read Read.read Read.message_read Bits.bits_of Bits.bits Bits.value Bits.pack Bits.byte_count Bits.packed Bits.all_zero Sheet.mark_bits Sheet.flat_bits Sheet.field_bits Sheet.fields_bits Sheet.bits_by Sheet.struct_bits Sheet.body_bits Sheet.flat_unknown Sheet.unknown_width Sheet.part_bits Sheet.flat_unmarked Sheet.unmarked Sheet.element_bits Sheet.members_bits Sheet.elements_bits Sheet.directs_bits Sheet.blob_bits Sheet.content_bits Sheet.encode Sheet.sheet_bits Sheet.sheet_of Sheet.bind Sheet.take_number Sheet.take_bytes Sheet.take_value Sheet.take_if Sheet.take_mark Sheet.unknown_enum Sheet.take_unknown_enum Sheet.take_enum Sheet.take_flat Sheet.take_field Sheet.take_fields Sheet.take_by Sheet.take_struct Sheet.take_choice Sheet.take_body Sheet.take_unknown_flat Sheet.take_unknown Sheet.take_part Sheet.take_element Sheet.take_members Sheet.take_elements Sheet.take_directs Sheet.take_blob Sheet.take_content Sheet.decode Sheet.closed Sheet.tree_of Sheet.sheet_tree Cells.width Cells.chain Cells.below Cells.width_bytes Cells.chain_bytes Cells.below_bytes Cells.layout Cells.gather Cells.pack_bits Message.length_of Message.flat_known Message.flats_known Message.known_by Message.struct_known Message.flat_writable Message.keeps_unions Message.value_writable Message.members_writable Message.elements_writable Message.directs_writable Message.content_writable Message.writable Message.number_or Message.flat_bytes Message.flats_bytes Message.bytes_by Message.struct_bytes Message.flat_slots Message.object_slots Message.refer_slots Message.value_slots Message.flag_of Message.member_slots Message.members_slots Message.elements_slots Message.directs_slots Message.direct_slots Message.content_slots Message.plan Message.message_of Message.written_tree Message.written Message.write_room Message.write_over Message.write_answer Message.write_out Message.message_sheet Message.fits_room Message.read_answer Message.read_out
written_case = refl

-- ---- the texts of a sheet, of which OnlyText speaks: a text, in place, in a union, two in a list, in a list of unions, in an element of a
-- direct list, and under the older coding; bytes are none
pub texts_case :
    texts Bytes.u48 named (of 2 umlaut)
    ∷ texts Bytes.u48 in_place (standing umlaut 0)
    ∷ texts Bytes.u48 (union 0x88) (chosen 1 umlaut 0)
    ∷ texts Bytes.u48 (union 0x8A) (chosen_in_place umlaut 0)
    ∷ texts Bytes.u48 names (listed_names umlaut)
    ∷ texts Bytes.u48 choices (listed_choice umlaut)
    ∷ texts Bytes.u48 seats (seated umlaut 0)
    ∷ texts Bytes.u32 named (of_older 2 umlaut)
    ∷ texts Bytes.u48 blob (blob_at 2 overlong)
    ∷ []
    ≡ (umlaut ∷ [])
    ∷ (umlaut ∷ [])
    ∷ (umlaut ∷ [])
    ∷ (umlaut ∷ [])
    ∷ ((0x61 ∷ []) ∷ umlaut ∷ [])
    ∷ (umlaut ∷ [])
    ∷ (umlaut ∷ [])
    ∷ (umlaut ∷ [])
    ∷ []
    ∷ []
unfolding texts sheet_texts option_texts root_texts TreeTexts.part_texts TreeTexts.members_texts TreeTexts.elements_texts TreeTexts.directs_texts TreeTexts.content_texts TreeTexts.tree_texts Lists.every Lists.run Bytes.le Bytes.le_bytes Bytes.bit_at Bytes.is_nan Bytes.no_float Bytes.largest Bytes.deepest Bytes.u48 Bytes.u32 Bytes.width_known Utf8.within Utf8.after_first Utf8.after_octet Utf8.may_end Utf8.text_from Utf8.is_text Schema.struct_of Schema.element_of Schema.cases_of Schema.table_of Schema.field_of Schema.case_of Schema.plain_bool Schema.member_of Structs.lower Structs.by_index Structs.flat_width Structs.total Structs.size_by Structs.struct_size Structs.flat_ok Structs.flats_ok Structs.ok_by Structs.struct_ok Packed.kind_at Packed.optional_at Packed.inplace_at Packed.zero_at Packed.argument_at Packed.width_of Packed.flat_of Packed.object_of Packed.kind_of Packed.flat_at Packed.object_at Packed.element_at Packed.member_at Packed.records Packed.record_place Packed.blocks Packed.struct_place Packed.list_place Packed.union_place Packed.table_place Packed.id_at Packed.records_at Packed.table_at Packed.parse Lawful.counts_ok Lawful.blocks_ok Lawful.places_ok Lawful.shape_ok Lawful.argument_ok Lawful.kind_ok Lawful.optional_ok Lawful.inplace_ok Lawful.flags_ok Lawful.record_ok Lawful.first_ok Lawful.records_ok Lawful.inplaces Lawful.direct_table Lawful.held_union Lawful.direct_ok Lawful.struct_lawful Lawful.list_lawful Lawful.union_lawful Lawful.table_lawful Lawful.id_differs Lawful.id_lawful Lawful.rules_ok Lawful.well_formed Lawful.older_member Lawful.older_element Lawful.older_union Lawful.older_table Lawful.older_ok Lawful.lawful Layout.flat_is_bool Layout.is_bool Layout.width Layout.flat_takes_flag Layout.takes_flag Layout.has_flag Layout.begin Layout.bit_byte Layout.bit_index Layout.after_bit Layout.after_bytes Layout.after_flag Layout.bit_slot Layout.slot_of Layout.after_value Layout.member_slot Layout.placement_of Layout.after_member Layout.after_members Layout.fixed_size Step.enum_step Step.float_step Step.struct_tested Step.place_of Step.object_step Step.union_step Step.flat_step Step.field_step Step.value_step Step.inside Step.flagged Step.placed_step Step.member_step Step.element_place Step.element_step Step.elements_size Walk.placed Walk.magic Walk.header_size Walk.element_id Walk.element_size Walk.most_elements Walk.start_size Walk.content_size Walk.content_length Walk.end_ok Walk.text_ok Walk.fit_content Walk.direct_header Walk.header_tested Walk.stands_in_place Walk.fit_object Walk.bytes_tested Walk.open_object Walk.refuse Walk.and_then Walk.refuse_part Walk.follow_choice Walk.follow Walk.members Walk.elements Walk.directs Walk.content Walk.enter Walk.with_content Walk.admit Walk.arrive Walk.too_deep Walk.one_more Walk.most_content Walk.counted Walk.visit Walk.root_place Walk.nothing Walk.walk Walk.verdict_of Walk.early Walk.size_ok Walk.start_ok Walk.verdict Value.as_number Value.as_blob Value.as_row Value.as_object Value.present Value.known Value.first Value.others Value.count Read.step_read Read.fields_read Read.read_by Read.struct_read Read.members_read Read.elements_read Read.directs_read Read.content_read Read.place_read Read.read Read.message_read Bits.bits_of Bits.bits Bits.value Bits.pack Bits.byte_count Bits.packed Bits.all_zero Sheet.mark_bits Sheet.flat_bits Sheet.field_bits Sheet.fields_bits Sheet.bits_by Sheet.struct_bits Sheet.body_bits Sheet.flat_unknown Sheet.unknown_width Sheet.part_bits Sheet.flat_unmarked Sheet.unmarked Sheet.element_bits Sheet.members_bits Sheet.elements_bits Sheet.directs_bits Sheet.blob_bits Sheet.content_bits Sheet.encode Sheet.sheet_bits Sheet.sheet_of Sheet.bind Sheet.take_number Sheet.take_bytes Sheet.take_value Sheet.take_if Sheet.take_mark Sheet.unknown_enum Sheet.take_unknown_enum Sheet.take_enum Sheet.take_flat Sheet.take_field Sheet.take_fields Sheet.take_by Sheet.take_struct Sheet.take_choice Sheet.take_body Sheet.take_unknown_flat Sheet.take_unknown Sheet.take_part Sheet.take_element Sheet.take_members Sheet.take_elements Sheet.take_directs Sheet.take_blob Sheet.take_content Sheet.decode Sheet.closed Sheet.tree_of Sheet.sheet_tree Cells.width Cells.chain Cells.below Cells.width_bytes Cells.chain_bytes Cells.below_bytes Cells.layout Cells.gather Cells.pack_bits Message.length_of Message.flat_known Message.flats_known Message.known_by Message.struct_known Message.flat_writable Message.keeps_unions Message.value_writable Message.members_writable Message.elements_writable Message.directs_writable Message.content_writable Message.writable Message.number_or Message.flat_bytes Message.flats_bytes Message.bytes_by Message.struct_bytes Message.flat_slots Message.object_slots Message.refer_slots Message.value_slots Message.flag_of Message.member_slots Message.members_slots Message.elements_slots Message.directs_slots Message.direct_slots Message.content_slots Message.plan Message.message_of Message.written_tree Message.written Message.write_room Message.write_over Message.write_answer Message.write_out Message.message_sheet Message.fits_room Message.read_answer Message.read_out
texts_case = refl
