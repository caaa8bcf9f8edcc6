-- Words for the contracts of this crate: what a parameter holds, and the definitions by the bytes of a schema, which they parse.
-- `o` is the width of an offset in bytes, b a schema's bytes, m a message's, s a sheet's.
use Rattle.std.specs.Prelude.{◌≡◌, Bool, true, false, List, ◌⊎◌, ℕ, ◌+◌, ◌*◌, ◌<◌, ◌≤◌, length, take, drop}
use Rattle.std.proofs.Math.Option.{Option, some}
use Rattle.std.specs.Borrow.{Bor}
use denote.Triple.Both.{Both}
use Rattle.coding.specs.Bytes.{deepest, largest}
use Rattle.coding.specs.Schema.{Schema, element_of, table_of, member_of}
use Rattle.coding.specs.Packed.{parse}
use Rattle.coding.specs.Lawful.{lawful}
use Rattle.coding.specs.Layout.{placement_of, begin, after_members}
use Rattle.coding.specs.Positions.{positions_of, with_table}
use Rattle.coding.specs.Walk.{verdict}
use Rattle.coding.specs.Value.{Value}
use Rattle.coding.specs.Read.{message_read}
use Rattle.coding.specs.Sheet.{sheet_tree}
use Rattle.coding.specs.Message.{writable, message_of}
use Rattle.coding.specs.Append.{sheet_without}
use Rattle.coding.specs.Field.{field_found, leads, answer_case, case_numbers}
use Rattle.coding.specs.declared.Object.{Object}
use Rattle.coding.specs.declared.Object.TheVariants as O
use Rattle.coding.specs.declared.Member.{Member}
use Rattle.coding.specs.declared.Placement.{Placement}
use Rattle.coding.specs.declared.Found.TheVariants as Fd
use Rattle.coding.specs.declared.Answer.{Answer}
use Rattle.coding.specs.declared.Budget.{Budget}
use Rattle.coding.specs.declared.ReadAnswer.{ReadAnswer}
use Rattle.coding.specs.declared.Spent.{Spent}
use Rattle.demands.specs.Arrivals.{message_cost}
use Rattle.demands.specs.FieldEntries.{Entry}
use Rattle.demands.specs.Fields.{sheet_entry}
use Rattle.demands.specs.SheetText.{sheet_text}
use Rattle.demands.specs.UnionsInPlace.{writable_before, tree_free}
use Rattle.laws.specs.PositionRows.{member_total}

-- ---- the table of member positions (02, K10)
-- the schema that a reader goes by, of a schema's bytes and the table that is lent with them: with the table that is built from it the
-- schema itself, with any other no bytes, which are lawful under no coding
abbrev pub lent : {X Y : Type 0} → ℕ → Both (Bor (List ℕ)) X → Both (Bor (List ℕ)) Y → List ℕ
lent o schema rows = with_table o schema.entry.now rows.entry.now

-- t is the table that is built from schema b
abbrev pub TableOf : ℕ → List ℕ → List ℕ → Type 0
TableOf o b t = t ≡ positions_of o b

-- the members of table i
abbrev pub members_of : List ℕ → ℕ → List Member
members_of b i = (table_of (parse b) i).members

-- "for each table member in schema order three little-endian U32s": where the row of member j of table i stands
abbrev pub row_place : List ℕ → ℕ → ℕ → ℕ
row_place b i j = 12 * (member_total (take i (parse b).tables) + j)

-- "what the old rule gives": where that member stands, behind the members before it
abbrev pub old_placement : ℕ → List ℕ → ℕ → ℕ → Placement
old_placement o b i j = placement_of o (parse b) (member_of (parse b) i j) (after_members o (parse b) (take j (members_of b i)) begin)

-- ---- judging and reading
-- the message is accepted: number 0 of judging
abbrev pub Accepts : ℕ → List ℕ → List ℕ → Budget → Type 0
Accepts o b m budget = (verdict o b m budget).number ≡ 0

-- what the arrivals of the walk cost: how many there are, and their content
abbrev pub costs : ℕ → List ℕ → List ℕ → Spent
costs o b m = message_cost o (parse b) m

abbrev pub arrivals : ℕ → List ℕ → List ℕ → ℕ
arrivals o b m = (costs o b m).visits

abbrev pub contents : ℕ → List ℕ → List ℕ → ℕ
contents o b m = (costs o b m).content

-- the tree of values that a message holds
abbrev pub values : ℕ → List ℕ → List ℕ → Value
values o b m = message_read o (parse b) m

-- the tree of values that a lawful sheet packs
abbrev pub tree_of : List ℕ → List ℕ → Option Value
tree_of b s = sheet_tree (parse b) s

-- a sheet is within the size and has room in an output
abbrev pub Fits : List ℕ → List ℕ → Type 0
Fits s out = (length s ≤ largest) × (length s ≤ length out)

-- "no room in the output, or a sheet over the size"
abbrev pub NoRoom : List ℕ → List ℕ → Type 0
NoRoom s out = (largest < length s) ⊎ (length out < length s)

-- where an answer has number 0, what stands in the output, up to the answer's length, is this sheet
abbrev pub HandsOut : ReadAnswer → List ℕ → List ℕ → Type 0
HandsOut r out s = r.verdict.number ≡ 0 → take r.length out ≡ s

-- "on refusal the length is 0 and the output is unchanged": of an answer's number and length, and of the output before and after
abbrev pub KeepsOnRefusal : ℕ → ℕ → List ℕ → List ℕ → Type 0
KeepsOnRefusal number len out out' = (number ≡ 0 → ⊥) → (len ≡ 0) × (out' ≡ out)

-- ---- three schemas
-- an accepted message is read, or there is no room
abbrev pub Reads : ReadAnswer → Type 0
Reads r = (r.verdict.number ≡ 0) ⊎ (r.verdict.number ≡ 14)

-- 02, K13: of the newest sheet s, and of what the oldest and the middle reader answer and leave in their outputs
pub record CutDown (a : ReadAnswer) (first : List ℕ) (b : ReadAnswer) (second oldest middle newest s : List ℕ) : Type 0 where
  pub oldest_reads : Reads a
  pub middle_reads : Reads b
  -- "the newest sheet cut down to the middle schema": it is the middle reader's
  pub to-middle : HandsOut b second (sheet_without middle newest s)
  -- "and then to the oldest, as demand 3 does it, equals the newest cut down to the oldest at once"
  pub twice : sheet_without oldest middle (sheet_without middle newest s) ≡ sheet_without oldest newest s
  -- "and both are the oldest reader's sheet"
  pub to_oldest : HandsOut a first (sheet_without oldest newest s)

-- ---- one field
-- the entry of a sheet at a path
abbrev pub entry_at : List ℕ → List ℕ → List ℕ → Entry
entry_at b s path = sheet_entry (parse b) s path

-- the text or bytes of a sheet at a path
abbrev pub text_at : List ℕ → List ℕ → List ℕ → List ℕ
text_at b s path = sheet_text (parse b) s path

-- ---- the list reader
-- a list reader goes over an object: "a list whose elements are of kinds 13 to 17"; 02, K1: "direct lists and lists of them too"
abbrev pub Listed : Schema → Object → Type 0
Listed S O.Text = ⊥
Listed S O.Bytes = ⊥
Listed S (O.List i) = leads (element_of S i) ≡ true
Listed S (O.Table i) = ⊥
Listed S (O.DirectList t) = Unit {0}

-- the path leads to such a list, at a place: where its content starts, its length, and how many objects of depth are left
abbrev pub LeadsToList : ℕ → List ℕ → List ℕ → List ℕ → Object → ℕ → ℕ → ℕ → ℕ → Type 0
LeadsToList o b m path ob at start n left = (field_found o b m path ≡ Fd.Object ob at start n left) × Listed (parse b) ob

-- an output holds the four numbers of each of n answers in turn
abbrev pub HoldsAnswers : List ℕ → ℕ → (ℕ → Answer) → Type 0
HoldsAnswers out n answer = (k : ℕ) → k < n → take 4 (drop (4 * k) out) ≡ case_numbers (answer_case (answer k))

-- ---- writing
-- the sheet is lawful by a lawful schema, and this is its tree
abbrev pub LawfulSheet : ℕ → List ℕ → List ℕ → Value → Type 0
LawfulSheet o b s v = (lawful o b ≡ true) × (sheet_tree (parse b) s ≡ some v)

-- the sheet is lawful by a lawful schema, and its tree is writable
abbrev pub Writable : ℕ → List ℕ → List ℕ → Value → Type 0
Writable o b s v =
    (lawful o b ≡ true) × (sheet_tree (parse b) s ≡ some v) × (writable deepest o (parse b) (O.Table (parse b).root) v ≡ true)

-- whether a tree was writable before 02, K12
abbrev pub was_writable : ℕ → List ℕ → Value → Bool
was_writable o b v = writable_before deepest o (parse b) (O.Table (parse b).root) v

-- the tree has a present union in place, or none
abbrev pub UnionInPlace : List ℕ → Value → Type 0
UnionInPlace b v = tree_free deepest (parse b) (O.Table (parse b).root) v ≡ false

abbrev pub NoUnionInPlace : List ℕ → Value → Type 0
NoUnionInPlace b v = tree_free deepest (parse b) (O.Table (parse b).root) v ≡ true

-- the message of a tree
abbrev pub layout_of : ℕ → List ℕ → Value → List ℕ
layout_of o b v = message_of o (parse b) v
