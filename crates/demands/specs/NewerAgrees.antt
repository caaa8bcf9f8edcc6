-- Demand 3, second half: whatever message the writer made under the older schema, the newer accepts with every budget with
-- which the older does (and spends the same of both); the newer's sheet is the older's with the added members, as bytes.
-- What a sheet is with the added members is said in coding's Append; which messages are plain in PlainMessage.
use Rattle.std.specs.Prelude.{ℕ, List, ◌≡◌, length, leb}
use Rattle.std.proofs.Common.{ap}
use Rattle.std.proofs.Math.Option.{some}
use borrow.Author.Tests.{leb-true}
use Rattle.coding.specs.Bytes.{deepest, largest}
use Rattle.coding.specs.Packed.{parse}
use Rattle.coding.specs.Read.{message_read}
use Rattle.coding.specs.Sheet.{sheet_of, tree_of}
use Rattle.coding.specs.Walk.{start_size, size_ok, verdict}
use Rattle.coding.specs.Message.{message, written, message_sheet}
use Rattle.coding.specs.Append.{Appends, with_added, resheet, sheet_with}
use Rattle.coding.specs.declared.Object.TheVariants as Ob
use Rattle.coding.specs.declared.Budget.{Budget}
use Rattle.laws.specs.Lists.{both_right}
use Rattle.laws.specs.LawfulSound.{lawful_sound}
use Rattle.laws.specs.Rules.{lawful-wide}
use Rattle.demands.specs.Appending.{AreBytes}
use Rattle.demands.specs.Reached.{verdict_walks}
use Rattle.demands.specs.Sheets.{decode-encode}
use Rattle.demands.specs.AcceptedShown.{walk_ends, ends_going}
use Rattle.demands.specs.PlainMessage.{message_plain}
use Rattle.demands.specs.NewerAccepts.{newer_judges}
use Rattle.demands.specs.NewerReads.{newer_reads}
use Rattle.demands.specs.RoundTrip.{written-sheet}
use Rattle.demands.specs.WrittenPlain.{written-plain, written_tree_lem}

-- ---- of every plain message, at every offset width
module _ (o : ℕ) (older newer : List ℕ) (older-bytes : AreBytes older) (appends : Appends o older newer) (m : List ℕ)
    (is_plain : message_plain o (parse older) m) where
  -- the whole verdict is the same, with every budget
  pub plain-verdict : (b : Budget) → verdict o newer m b ≡ verdict o older m b
  unfolding verdict
  plain-verdict b =
      rw (appends.older-lawful, appends.newer-lawful, newer_judges o (parse older) (parse newer) (lawful_sound o older older-bytes appends.older-lawful) appends.schemas m b is_plain)

  pub plain_reads : message_read o (parse newer) m
      ≡ with_added deepest o (parse older) (parse newer) (Ob.Table (parse older).root) (message_read o (parse older) m)
  plain_reads =
      newer_reads o (parse older) (parse newer) (lawful_sound o older older-bytes appends.older-lawful) appends.schemas m is_plain

  -- the sheet, from any sheet of the older's tree
  pub plain-sheet-of : (s : List ℕ) → tree_of (parse older) s ≡ some (message_read o (parse older) m)
      → message_sheet o newer m ≡ sheet_with o older newer s
  unfolding message_sheet sheet_with resheet
  plain-sheet-of s e = rw e (ap (sheet_of (parse newer)) plain_reads)

  -- from the older's own, if it accepts
  pub plain-sheet : AreBytes m → (b : Budget) → (verdict o older m b).number ≡ 0
      → message_sheet o newer m ≡ sheet_with o older newer (message_sheet o older m)
  unfolding message_sheet size_ok
  plain-sheet message_bytes b h =
      let x = verdict_walks o older m b h in
      let sound = lawful_sound o older older-bytes appends.older-lawful in
      let sized = leb-true (length m) largest (both_right (leb (start_size o) (length m)) (leb (length m) largest) x.size) in
      let shown = ends_going x.walks (walk_ends (parse older) sound m message_bytes sized o (lawful-wide o older appends.older-lawful) b) in
      plain-sheet-of (message_sheet o older m) (decode-encode (parse older) sound (message_read o (parse older) m) shown)

-- ---- of every message that the writer made under the older schema: m is the message of the sheet s
pub record NewerAgrees (o : ℕ) (older newer s m : List ℕ) : Type 0 where
  -- the same number, place, member, visits and content with every budget: what the older accepts, the newer does too
  pub verdicts : (b : Budget) → verdict o newer m b ≡ verdict o older m b
  -- the older's sheet is the one that was written, and the newer's is that one with the added members
  pub older-sheet : message_sheet o older m ≡ s
  pub newer-sheet : message_sheet o newer m ≡ sheet_with o older newer s

-- THE CLAIM: the newer gives a message that was written under the older the same verdict with every budget, and reads the
-- sheet that was written, with the added members
pub newer_agrees : (o : ℕ) (older newer s m : List ℕ) → AreBytes older → AreBytes s → Appends o older newer → written o older s ≡ message m
    → NewerAgrees o older newer s m
newer_agrees o older newer s m older-bytes sheet_bytes appends made =
    let is_plain = written-plain o older s m older-bytes sheet_bytes made in
    record {
      verdicts = plain-verdict o older newer older-bytes appends m is_plain;
      older-sheet = written-sheet o older s m older-bytes sheet_bytes made;
      newer-sheet = plain-sheet-of o older newer older-bytes appends m is_plain s (written_tree_lem o older s m older-bytes sheet_bytes made);
    }
