-- "texts and bytes can be had as a part of the message": on an accepted message that part is the text which the sheet has there.
-- The sheet is the one that the rules give, within the size or over it, whether a reader hands it out or not.
use Rattle.std.specs.Prelude.{◌≡◌, List, [], ℕ, ◌<◌, ◌≤◌, length, get_or}
use Rattle.std.proofs.Common.{sym, ap, ◌∙◌}
use Rattle.std.proofs.Math.Option.{Option}
use Rattle.std.proofs.Math.Option as Op
use Rattle.coding.specs.Schema.{Schema}
use Rattle.coding.specs.Packed.{parse}
use Rattle.coding.specs.Walk.{verdict}
use Rattle.coding.specs.Value.{Value}
use Rattle.coding.specs.Sheet.{tree_of}
use Rattle.coding.specs.Message.{message_sheet}
use Rattle.coding.specs.Field.{field_text}
use Rattle.coding.specs.declared.Object.TheVariants as O
use Rattle.coding.specs.declared.Budget.{Budget}
use Rattle.demands.specs.Sheets.{verdict-sheet_tree}
use Rattle.demands.specs.FieldEntries.{text_at}
use Rattle.demands.specs.Fields.{field-text}

-- the text or bytes of a sheet at a path: of the tree that the sheet packs. A sheet that is not lawful has none.
unfoldable pub tree_text : Schema → Option Value → List ℕ → List ℕ
tree_text S Op.none path = []
tree_text S (Op.some v) path = text_at S (O.Table S.root) v path

unfoldable pub sheet_text : Schema → List ℕ → List ℕ → List ℕ
sheet_text S s path = tree_text S (tree_of S s) path

-- THE CLAIM, of the sheet's bytes: "U48 is six bytes"
pub sheet-text : (o : ℕ) (b m : List ℕ) → ((i : ℕ) → get_or b i 0 < 256) → ((i : ℕ) → get_or m i 0 < 256) → (budget : Budget)
    → (verdict o b m budget).number ≡ 0 → (path : List ℕ) → length path ≤ 96
    → field_text o b m path ≡ sheet_text (parse b) (message_sheet o b m) path
unfolding sheet_text tree_text
sheet-text o b m schema_bytes message_bytes budget accepted path short =
    field-text o b schema_bytes m budget accepted path short
    ∙ sym (ap (λ (t : Option Value). tree_text (parse b) t path) (verdict-sheet_tree o b m schema_bytes message_bytes budget accepted))
