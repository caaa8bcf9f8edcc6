-- Records by their first byte; where a member leads. `o` is the width of an offset in bytes.
use Rattle.std.specs.Prelude.{◌≡◌, Bool, ℕ, ◌+◌, ◌*◌, ◌/◌, ◌%◌, ◌<◌, ◌≤◌, List, length, get_or, eqb}
use Rattle.coding.specs.Lists.{pick}
use Rattle.coding.specs.Schema.{Schema, member_of, table_of}
use Rattle.coding.specs.Packed.{parse, member_at, width_of, records, table_count, table_place}
use Rattle.coding.specs.Layout.{after_member}
use Rattle.coding.specs.Step.{member_step}
use Rattle.coding.specs.declared.Object.{Object}
use Rattle.coding.specs.declared.Object.TheVariants as O
use Rattle.coding.specs.declared.Cursor.{Cursor}
use Rattle.coding.specs.declared.Step.{Step}
use Rattle.message_layout.specs.Bounds.{Laid}
use Rattle.message_step.specs.Lead.{lead_of, StepSmall, Stepped}
use Rattle.outcome.specs.declared.Content.{Content}
use Rattle.judge_member.specs.declared.Rows.{Rows}

-- ---- a record's first byte: eight times the kind, and flags that are 0 where the member is neither optional nor in place
-- a number, a float or an enum, neither optional nor in place
pub record Plain (h : ℕ) : Type 0 where
  pub low : 0 < h / 8
  pub high : h / 8 < 12
  pub flags : h % 8 ≡ 0

-- the bytes of a number, a float or an enum, by the kind
unfoldable pub plain_width : ℕ → ℕ
plain_width k = pick (eqb k 11) 1 (width_of k)

-- a text by its offset, neither optional nor in place
unfoldable pub is_text_reference : ℕ → Bool
is_text_reference h = eqb h 104

-- an object by its offset, neither optional nor in place
pub record Refers (h : ℕ) : Type 0 where
  pub low : 13 ≤ h / 8
  pub other : h / 8 ≡ 17 → ⊥
  pub flags : h % 8 ≡ 0

-- ---- row tables
-- a number, a float, an enum or a text by its offset, neither optional nor in place
pub record RowMember (h : ℕ) : Type 0 where
  pub low : 0 < h / 8
  pub high : h / 8 ≤ 13
  pub flags : h % 8 ≡ 0
  pub other : h / 8 ≡ 12 → ⊥

-- the bytes of such a member
unfoldable pub row_width : ℕ → ℕ → ℕ
row_width o h = pick (is_text_reference h) o (plain_width (h / 8))

-- the first `count` members of the table whose block stands at `first` are such
pub record RowMembers (b : List ℕ) (first count : ℕ) : Type 0 where
  pub each : (j : ℕ) → j < count → RowMember (get_or b (first + 4 + 1 + 2 * j) 0)

-- a table of such members, by what was looked up of it
pub record RowTable (b : List ℕ) (k : Rows) : Type 0 where
  pub counted : k.table < table_count b
  pub id : k.id ≡ (table_of (parse b) k.table).id
  pub is : k.first ≡ table_place b k.table
  pub inside : k.first + 4 + 1 + 2 * k.count ≤ length b
  pub small : k.first < 65536
  pub few : k.count < 256
  pub all : k.count ≡ records b 4 k.first
  pub rows : RowMembers b k.first k.count

-- an object that is a table of such members
abbrev pub RowObject : List ℕ → Object → Type 0
RowObject b O.Text = ⊥
RowObject b O.Bytes = ⊥
RowObject b (O.List i) = ⊥
RowObject b (O.Table t) = RowMembers b (table_place b t) (records b 4 (table_place b t))
RowObject b (O.DirectList t) = ⊥

-- a cursor with no bool before it
abbrev pub no_bool : ℕ → Cursor
no_bool e = record { end = e; byte = 0; bit = 8 }

-- ---- where a member leads
-- the member of the record at `at`, before which the cursor stands, and the cursor behind it
pub record LedAt (o : ℕ) (b m : List ℕ) (at : ℕ) (x : Content) (c : Cursor) (s : Step) (next : Cursor) : Type 0 where
  pub stepped : Stepped (lead_of (member_step o (parse b) m x.start x.length c (member_at b at))) (after_member o (parse b) (member_at b at) c) c.end s next
  pub small : StepSmall (parse b) s

-- member j of table t, before which the cursor stands, and the cursor behind it
pub record Led (o : ℕ) (S : Schema) (m : List ℕ) (t j : ℕ) (x : Content) (c : Cursor) (s : Step) (next : Cursor) : Type 0 where
  pub step_is : s ≡ lead_of (member_step o S m x.start x.length c (member_of S t j))
  pub next_is : next ≡ after_member o S (member_of S t j) c
  pub laid : Laid (4097 * (j + 1)) next
  pub small : StepSmall S s
