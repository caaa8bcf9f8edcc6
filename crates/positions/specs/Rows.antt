-- What the contracts say of rows, and of the tables that are made of them.
use Rattle.std.specs.Prelude.{ℕ, ◌+◌, ◌≤◌, ◌≡◌, drop}
use mathlib.Core.List.{List, flat_map}
use Rattle.coding.specs.Schema.{Schema, table_of}
use Rattle.coding.specs.Packed.{parse}
use Rattle.coding.specs.Layout.{placement_of, after_member}
use Rattle.coding.specs.Positions.{row_of, row_bytes, member_rows, table_rows, positions_of}
use Rattle.coding.specs.declared.Member.{Member}
use Rattle.coding.specs.declared.Cursor.{Cursor}
use Rattle.coding.specs.declared.Row.{Row}
use Rattle.laws.specs.RowBounds.{RowSmall}
use Rattle.message_layout.specs.Bounds.{Laid}

-- a cursor behind 256 members at most: each takes no more than 4,097 bytes
abbrev pub Low : Cursor → Type 0
Low c = (c.end ≤ 1048832) × (c.byte ≤ c.end) × (c.bit ≤ 8)

-- the row of the member r at the cursor c, and the cursor behind it
pub record Next (o : ℕ) (S : Schema) (r : Member) (c : Cursor) (row : Row) (next : Cursor) : Type 0 where
  pub row_is : row ≡ row_of r (placement_of o S r c)
  pub small : RowSmall row
  pub next_is : next ≡ after_member o S r c
  pub laid : Laid (c.end + 4097) next

-- the bytes of the rows of table t
abbrev pub table_bytes : ℕ → List ℕ → ℕ → List ℕ
table_bytes o b t = flat_map row_bytes (table_rows o (parse b) (table_of (parse b) t))

-- of those, the bytes from member j on, which stands at the cursor c
abbrev pub rest_bytes : ℕ → List ℕ → ℕ → ℕ → Cursor → List ℕ
rest_bytes o b t j c = flat_map row_bytes (member_rows o (parse b) c (drop j (table_of (parse b) t).members))

-- the bytes of the rows of all tables from t on
abbrev pub tables_bytes : ℕ → List ℕ → ℕ → List ℕ
tables_bytes o b t = flat_map row_bytes (flat_map (table_rows o (parse b)) (drop t (parse b).tables))
