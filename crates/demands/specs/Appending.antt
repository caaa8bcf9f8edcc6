-- Demand 3, first half: whatever bytes the newer accepts with a budget, the older accepts with the same budget and spends no more
-- of either allowance; the older's sheet is the newer's sheet without the appended members, as bytes.
-- When one schema appends to another, and what a sheet is without the appended members, is said in coding's Append. The
-- second half is in NewerAgrees.
use Rattle.std.specs.Prelude.{ℕ, ◌<◌, ◌≤◌, List, ◌≡◌, get_or, length, leb}
use Rattle.std.proofs.Common.{sym}
use Rattle.std.proofs.Math.Path.{ap, subst}
use borrow.Author.Tests.{leb-true}
use Rattle.coding.specs.Bytes.{deepest, largest}
use Rattle.coding.specs.Packed.{parse}
use Rattle.coding.specs.Read.{message_read}
use Rattle.coding.specs.Sheet.{sheet_of}
use Rattle.coding.specs.Walk.{start_size, size_ok, verdict_of, spent_of, verdict}
use Rattle.coding.specs.Message.{message_sheet}
use Rattle.coding.specs.Append.{Appends, without, resheet, sheet_without}
use Rattle.coding.specs.declared.Object.TheVariants as Ob
use Rattle.coding.specs.declared.Budget.{Budget}
use Rattle.coding.specs.declared.Verdict.{Verdict}
use Rattle.laws.specs.Lists.{both_right}
use Rattle.laws.specs.LawfulSound.{lawful_sound}
use Rattle.laws.specs.Rules.{lawful-wide}
use Rattle.demands.specs.Spending.{NoMore}
use Rattle.demands.specs.OlderAccepts as A
use Rattle.demands.specs.OlderReads as R
use Rattle.demands.specs.Reached.{verdict_walks, walks-verdict}
use Rattle.demands.specs.Sheets.{decode-encode}
use Rattle.demands.specs.AcceptedShown.{walk_ends, ends_going}

-- the numbers of a list are bytes
abbrev pub AreBytes : List ℕ → Type 0
AreBytes l = (i : ℕ) → get_or l i 0 < 256

-- ---- at every offset width: the verdict; and the values, of any bytes
module _ (o : ℕ) (older newer : List ℕ) (older-bytes : AreBytes older) (appends : Appends o older newer) (m : List ℕ) where
  pub older_accepts : (b : Budget) → (verdict o newer m b).number ≡ 0
      → ((verdict o older m b).number ≡ 0) × NoMore (spent_of (verdict o older m b)) (spent_of (verdict o newer m b))
  unfolding verdict_of
  older_accepts b h =
      let x = verdict_walks o newer m b h in
      let y = A.older_accepts o (parse older) (parse newer) (lawful_sound o older older-bytes appends.older-lawful) appends.schemas m b x.spent x.walks in
      let e = walks-verdict o older m b appends.older-lawful x.size x.start y.0 y.1 in (
        ap (λ (v : Verdict). v.number) e,
        subst (λ (v : Verdict). NoMore (spent_of v) (spent_of (verdict o newer m b))) (sym e)
            (subst (λ (v : Verdict). NoMore y.0 (spent_of v)) (sym x.answer) y.2),
      )

  pub older_reads :
      message_read o (parse older) m ≡ without deepest (parse older) (Ob.Table (parse older).root) (message_read o (parse newer) m)
  older_reads = R.older_reads o (parse older) (parse newer) (lawful_sound o older older-bytes appends.older-lawful) appends.schemas m

-- ---- the sheet too, as bytes
pub record OlderAgrees (o : ℕ) (older newer m : List ℕ) (b : Budget) : Type 0 where
  pub accepts : (verdict o older m b).number ≡ 0
  pub visits : (verdict o older m b).visits ≤ (verdict o newer m b).visits
  pub content : (verdict o older m b).content ≤ (verdict o newer m b).content
  pub sheet : message_sheet o older m ≡ sheet_without older newer (message_sheet o newer m)

module _ (o : ℕ) (older newer m : List ℕ) (older-bytes : AreBytes older) (newer-bytes : AreBytes newer) (message_bytes : AreBytes m)
    (appends : Appends o older newer) (b : Budget) where
  -- THE CLAIM: what the newer accepts, the older accepts with the same budget, no more visits and no more content, and its sheet
  -- is the newer's without the appended members
  pub older_agrees : (verdict o newer m b).number ≡ 0 → OlderAgrees o older newer m b
  unfolding message_sheet sheet_without resheet size_ok
  older_agrees h =
      let x = verdict_walks o newer m b h in
      let y = older_accepts o older newer older-bytes appends m b h in
      let sound = lawful_sound o newer newer-bytes appends.newer-lawful in
      let wide = lawful-wide o newer appends.newer-lawful in
      let sized = leb-true (length m) largest (both_right (leb (start_size o) (length m)) (leb (length m) largest) x.size) in
      let shown = ends_going x.walks (walk_ends (parse newer) sound m message_bytes sized o wide b) in
      record {
        accepts = y.0;
        visits = y.1.visits;
        content = y.1.content;
        sheet =
            rw (decode-encode (parse newer) sound (message_read o (parse newer) m) shown)
            (ap (sheet_of (parse older)) (older_reads o older newer older-bytes appends m));
      }
