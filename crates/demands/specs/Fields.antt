-- "On an accepted message it equals the sheet's entry.": on an accepted message, the answer at a path is the sheet's entry
-- there, for every path: a value, absent, unknown, an object, or 15 where the sheet has no such part. A sheet says no places
-- and no length of a table's fixed part: `shown` leaves these out of the answer, and nothing else.
-- `o` is the width of an offset in bytes.
use Rattle.std.specs.Prelude.{◌≡◌, List, ℕ, ◌<◌, ◌≤◌, length, get_or}
use Rattle.std.proofs.Common.{sym, ap, ◌∙◌}
use Rattle.std.proofs.Math.Option.{Option}
use Rattle.std.proofs.Math.Option as Op
use Rattle.coding.specs.Schema.{Schema}
use Rattle.coding.specs.Packed.{parse}
use Rattle.coding.specs.Walk.{verdict}
use Rattle.coding.specs.Value.{Value}
use Rattle.coding.specs.Read.{message_read}
use Rattle.coding.specs.Sheet.{tree_of}
use Rattle.coding.specs.Message.{message_sheet}
use Rattle.coding.specs.Field.{field, field_text}
use Rattle.laws.specs.LawfulSound.{lawful_sound}
use Rattle.demands.specs.Reached.{verdict_walks}
use Rattle.demands.specs.Sheets.{verdict-sheet_tree}
use Rattle.demands.specs.FieldEntries.{Entry, shown, entry_at, text_at}
use Rattle.demands.specs.FieldsWalked.{walked_entry, walked-text, walked-refusal}
use Rattle.coding.specs.declared.Object.TheVariants as O
use Rattle.coding.specs.declared.Answer.TheVariants as A
use Rattle.coding.specs.declared.Budget.{Budget}
use Rattle.coding.specs.declared.Refusal.{Refusal}

-- the entry of a sheet at a path: of the tree that the sheet packs. A sheet that is not lawful has no entry: 11.
unfoldable pub tree_entry : Schema → Option Value → List ℕ → Entry
tree_entry S Op.none path = Entry.refused 11
tree_entry S (Op.some v) path = entry_at S (O.Table S.root) v path

unfoldable pub sheet_entry : Schema → List ℕ → List ℕ → Entry
sheet_entry S s path = tree_entry S (tree_of S s) path

-- ---- at every offset width, of the values that the message has
module _ (o : ℕ) (b : List ℕ) (schema_bytes : (i : ℕ) → get_or b i 0 < 256) (m : List ℕ) (budget : Budget)
    (accepted : (verdict o b m budget).number ≡ 0) (path : List ℕ) (short : length path ≤ 96) where
  -- THE CLAIM, of the values
  pub field_entry : shown (field o b m path) ≡ entry_at (parse b) (O.Table (parse b).root) (message_read o (parse b) m) path
  field_entry =
      let w = verdict_walks o b m budget accepted in
      walked_entry o b m budget path (lawful_sound o b schema_bytes w.schema) w.schema w.size w.start w.spent w.walks short

  -- "texts and bytes can be had as a part of the message": it is the text of the sheet there
  pub field-text : field_text o b m path ≡ text_at (parse b) (O.Table (parse b).root) (message_read o (parse b) m) path
  field-text =
      let w = verdict_walks o b m budget accepted in
      walked-text o b m budget path (lawful_sound o b schema_bytes w.schema) w.schema w.size w.start w.spent w.walks short

  -- no field of an accepted message is refused but by 15
  pub field-refusal : (r : Refusal) → field o b m path ≡ A.Refused r → r.number ≡ 15
  field-refusal =
      let w = verdict_walks o b m budget accepted in
      walked-refusal o b m budget path (lawful_sound o b schema_bytes w.schema) w.schema w.size w.start w.spent w.walks short

-- THE CLAIM, of the sheet's bytes
pub sheet_entry_lem : (o : ℕ) (b m : List ℕ) → ((i : ℕ) → get_or b i 0 < 256) → ((i : ℕ) → get_or m i 0 < 256) → (budget : Budget)
    → (verdict o b m budget).number ≡ 0 → (path : List ℕ) → length path ≤ 96
    → shown (field o b m path) ≡ sheet_entry (parse b) (message_sheet o b m) path
unfolding sheet_entry tree_entry
sheet_entry_lem o b m schema_bytes message_bytes budget accepted path short =
    field_entry o b schema_bytes m budget accepted path short
    ∙ sym (ap (λ (t : Option Value). tree_entry (parse b) t path) (verdict-sheet_tree o b m schema_bytes message_bytes budget accepted))
