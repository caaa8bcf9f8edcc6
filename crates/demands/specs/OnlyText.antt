-- 02, K2: "a text is lawful only if RFC 3629 allows it": whatever is read or written as a text has the grammar, `Characters` in
-- `coding`'s Utf8. The texts of a tree are said in TreeTexts, by the schema. `o` is the width of an offset in bytes.
use Rattle.std.specs.Prelude.{◌≡◌, refl, Bool, true, false, List, [], ℕ, ◌<◌, leb, length, get_or, take, drop}
use Rattle.std.proofs.Common.{sym, subst, arith}
use Rattle.std.proofs.Math.Option.{Option, some}
use Rattle.std.proofs.Math.Option as Op
use Rattle.coding.specs.Lists.{pick}
use Rattle.coding.specs.Bytes.{deepest, largest}
use Rattle.coding.specs.Utf8.{Characters}
use Rattle.coding.specs.Schema.{Schema}
use Rattle.coding.specs.Packed.{parse}
use Rattle.coding.specs.Lawful.{lawful}
use Rattle.coding.specs.Walk.{text_ok, root_place, nothing, walk, verdict}
use Rattle.coding.specs.Value.{Value}
use Rattle.coding.specs.Read.{message_read}
use Rattle.coding.specs.Sheet.{tree_of, sheet_tree}
use Rattle.coding.specs.Message.{writable, message_of, refused, message, written_tree, written, message_sheet}
use Rattle.coding.specs.Field as Field
use Rattle.coding.specs.Field.{field, field_text}
use Rattle.coding.specs.declared.Object.{Object}
use Rattle.coding.specs.declared.Object.TheVariants as O
use Rattle.coding.specs.declared.Budget.{Budget}
use Rattle.coding.specs.declared.Found.{Found}
use Rattle.coding.specs.declared.Found.TheVariants as Fd
use Rattle.coding.specs.declared.Answer.TheVariants as A
use Rattle.demands.specs.Reached.{verdict_walks}
use Rattle.demands.specs.Sheets.{verdict-sheet_tree}
use Rattle.demands.specs.Texts.{value-object}
use Rattle.demands.specs.TreeTexts.{tree_texts}
use Rattle.demands.specs.TextsWalked.{AllText, visit-texts}
use Rattle.demands.specs.TextsWritten.{writable-texts}
use Rattle.demands.specs.TextsFound.{Tested, field_tested}
use Rattle.demands.specs.Utf8.{text-exactly}

-- the texts of a message's values, from the root on
unfoldable pub root_texts : Schema → Value → List (List ℕ)
root_texts S v = tree_texts deepest S (O.Table S.root) v

-- the texts of a sheet: of the tree that the sheet packs. A sheet that is not lawful has none.
unfoldable pub option_texts : Schema → Option Value → List (List ℕ)
option_texts S Op.none = []
option_texts S (Op.some v) = root_texts S v

unfoldable pub sheet_texts : Schema → List ℕ → List (List ℕ)
sheet_texts S s = option_texts S (tree_of S s)

-- THE CLAIM: all texts of an accepted message are text;
pub accepted-texts : (o : ℕ) (b m : List ℕ) (budget : Budget) → (verdict o b m budget).number ≡ 0
    → AllText (root_texts (parse b) (message_read o (parse b) m))
unfolding root_texts message_read walk
accepted-texts o b m budget accepted =
    let w = verdict_walks o b m budget accepted in
    visit-texts o (parse b) m budget deepest (O.Table (parse b).root) (root_place o m) nothing w.spent w.walks

-- and so are all texts of its sheet, within the size or over it
pub accepted-sheet-texts : (o : ℕ) (b m : List ℕ) → ((i : ℕ) → get_or b i 0 < 256) → ((i : ℕ) → get_or m i 0 < 256) → (budget : Budget)
    → (verdict o b m budget).number ≡ 0 → AllText (sheet_texts (parse b) (message_sheet o b m))
unfolding sheet_texts option_texts
accepted-sheet-texts o b m schema_bytes message_bytes budget accepted =
    subst (λ (t : Option Value). AllText (option_texts (parse b) t))
    (sym (verdict-sheet_tree o b m schema_bytes message_bytes budget accepted)) (accepted-texts o b m budget accepted)

object_characters : (m : List ℕ) (ob : Object) (at start n d : ℕ) → text_ok m ob start n ≡ true → Field.record_kind ob ≡ 13
    → Characters (Field.text_of m (Field.found_span (Fd.Object ob at start n d)))
unfolding text_ok Field.record_kind Field.text_of Field.found_span Field.object_span
object_characters m O.Text at start n d h k = (text-exactly (take n (drop start m))).0 h
object_characters m O.Bytes at start n d h k = absurd (omega arith)
object_characters m (O.List i) at start n d h k = absurd (omega arith)
object_characters m (O.Table i) at start n d h k = absurd (omega arith)
object_characters m (O.DirectList t) at start n d h k = absurd (omega arith)

found_characters : (m : List ℕ) (f : Found) (at n : ℕ) → Tested m f → Field.answer_of f ≡ A.Object 13 at n
    → Characters (Field.text_of m (Field.found_span f))
unfolding Field.answer_of
found_characters m (Fd.Refused r) at n h e = absurd (let z : ◌≡◌ {A = ℕ} 0 1 = cc in omega arith)
found_characters m Fd.Absent at n h e = absurd (let z : ◌≡◌ {A = ℕ} 0 1 = cc in omega arith)
found_characters m (Fd.Unknown x) at n h e = absurd (let z : ◌≡◌ {A = ℕ} 0 1 = cc in omega arith)
found_characters m (Fd.Value k x holder) at n h e = let z = value-object k x 13 at n e in absurd (omega arith)
found_characters m (Fd.Struct i p holder) at n h e = absurd (let z : ◌≡◌ {A = ℕ} 0 1 = cc in omega arith)
found_characters m (Fd.Object ob p start z d) at n h e =
    let k : Field.record_kind ob ≡ 13 = cc in object_characters m ob p start z d h k

-- THE CLAIM: a field that answers a text (kind 13) gives text, of any message
pub field_characters : (o : ℕ) (b m path : List ℕ) (at n : ℕ) → field o b m path ≡ A.Object 13 at n
    → Characters (field_text o b m path)
unfolding field field_text Field.field_span
field_characters o b m path at n e = found_characters m (Field.field_found o b m path) at n (field_tested o b m path) e

tree_refused : (o : ℕ) (S : Schema) (v : Value) → (AllText (root_texts S v) → ⊥) → written_tree o S (some v) ≡ refused 12
unfolding written_tree root_texts
tree_refused o S v other = by (writable deepest o S (O.Table S.root) v) refl
  where
    by : (t : Bool) → writable deepest o S (O.Table S.root) v ≡ t
        → pick t (pick (leb (length (message_of o S v)) largest) (message (message_of o S v)) (refused 13)) (refused 12) ≡ refused 12
    by true e = absurd (other (writable-texts deepest o S (O.Table S.root) v e))
    by false e = refl

-- THE CLAIM: "a sheet with such a text is 12": a lawful sheet, of which not all texts are text
pub no-text_refused : (o : ℕ) (b s : List ℕ) (v : Value) → lawful o b ≡ true → sheet_tree (parse b) s ≡ some v
    → (AllText (root_texts (parse b) v) → ⊥) → written o b s ≡ refused 12
unfolding written
no-text_refused o b s v schema tree other = rw (schema, tree) (tree_refused o (parse b) v other)
