-- What the layout cursor keeps to, so that places in a fixed part are small numbers.
use Rattle.std.specs.Prelude.{◌≡◌, ℕ, ◌+◌, ◌<◌, ◌≤◌}
use Rattle.coding.specs.declared.Cursor.{Cursor}
use Rattle.coding.specs.declared.Slot.{Slot}

-- at most e bytes are laid out, and the last bool byte is one of them
pub record Laid (e : ℕ) (c : Cursor) : Type 0 where
  pub end : c.end ≤ e
  pub byte : c.byte ≤ c.end
  pub bit : c.bit ≤ 8

-- the slot and the cursor behind it are those of the definition; the value starts at e or before, and is no longer than a
-- struct may be
pub record Stands (slot : Slot) (next : Cursor) (e : ℕ) (s : Slot) (c : Cursor) : Type 0 where
  pub slot_is : s ≡ slot
  pub next_is : c ≡ next
  pub at : s.at ≤ e
  pub bit : s.bit < 8
  pub some : 0 < s.size
  pub size : s.size ≤ 4096
  pub laid : Laid (e + 4096) c
