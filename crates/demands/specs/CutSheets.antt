-- Cutting sheets down, of every lawful sheet, whatever it was read from: the older's sheet has a tree, and a sheet cut down twice is
-- the sheet cut down at once. A message that was written under the oldest of three schemas: the sheet with all added members, cut down
-- to the middle schema, has the middle's; cut down to the oldest it is the sheet that was written.
use Rattle.std.specs.Prelude.{ℕ, ◌<◌, List, true, ◌≡◌, length}
use Rattle.std.proofs.Common.{arith, sym, ap, ◌∙◌, subst}
use Rattle.std.proofs.Math.Option.{some}
use Rattle.coding.specs.Bytes.{deepest}
use Rattle.coding.specs.Schema.{cases_of}
use Rattle.coding.specs.Packed.{union_count, parse}
use Rattle.coding.specs.Lawful.{lawful}
use Rattle.coding.specs.Value.{Value}
use Rattle.coding.specs.Sheet.{sheet_of, tree_of}
use Rattle.coding.specs.Walk.{allowing, verdict}
use Rattle.coding.specs.Message.{message, written}
use Rattle.coding.specs.Append.{Appends, without, resheet, sheet_without, sheet_with}
use Rattle.coding.specs.declared.Object.TheVariants as Ob
use Rattle.coding.specs.declared.Budget.{Budget}
use Rattle.coding.specs.declared.Spent.{Spent}
use Rattle.coding.specs.declared.Verdict.{Verdict}
use Rattle.laws.specs.Parsed.{unions-length, cases-length}
use Rattle.laws.specs.Rules.{lawful_formed, union-records}
use Rattle.laws.specs.LawfulSound.{lawful_sound}
use Rattle.demands.specs.Spending.{no_more_refl}
use Rattle.demands.specs.Sheets.{decode-encode, encode-decode}
use Rattle.demands.specs.RoundTrip.{enough, written-verdict, written_bytes}
use Rattle.demands.specs.Appending.{AreBytes, older_agrees}
use Rattle.demands.specs.NewerAgrees.{newer_agrees}
use Rattle.demands.specs.AppendsTwice.{appends-twice}
use Rattle.demands.specs.CutTwice.{without-twice}
use Rattle.demands.specs.CutShown.{cut-shown}
use Rattle.demands.specs.ThreeSchemas.{cut}

-- the budget that allows just so much
abbrev exactly : Spent → Budget
exactly k = allowing k.visits k.content

-- "union: 8-bit case count 1 to 32"
some-case : (o : ℕ) (b : List ℕ) → lawful o b ≡ true → (i : ℕ) → i < length (parse b).unions → 0 < length (cases_of (parse b) i)
some-case o b e i h =
    let l : i < union_count b = omega (arith, unions-length b) in
    omega (arith, cases-length b i l, (union-records b (lawful_formed o b e) i l).0)

-- ---- a lawful sheet s of the newer schema, whose tree is v: its cut is the sheet of the tree's cut, and has that tree
cut-sheet : (older newer s : List ℕ) (v : Value) → tree_of (parse newer) s ≡ some v
    → sheet_without older newer s ≡ sheet_of (parse older) (cut older v)
unfolding sheet_without resheet
cut-sheet older newer s v tree = rw tree

pub cut_tree : (o : ℕ) (older newer : List ℕ) → AreBytes older → AreBytes newer → Appends o older newer → (s : List ℕ) → AreBytes s
    → (v : Value) → tree_of (parse newer) s ≡ some v → tree_of (parse older) (sheet_without older newer s) ≡ some (cut older v)
cut_tree o older newer older-bytes newer-bytes appends s sheet_bytes v tree =
    let O = lawful_sound o older older-bytes appends.older-lawful in
    let N = lawful_sound o newer newer-bytes appends.newer-lawful in
    let shown = (encode-decode (parse newer) N s v sheet_bytes tree).0 in
    ap (tree_of (parse older)) (cut-sheet older newer s v tree)
    ∙ decode-encode (parse older) O (cut older v)
    (cut-shown (parse older) (parse newer) O N appends.schemas deepest (Ob.Table (parse older).root) O.root v
    (rw appends.schemas.root shown))

-- ---- three schemas, each appending to the one before
module _ (o : ℕ) (oldest middle newest : List ℕ) (oldest-bytes : AreBytes oldest) (middle-bytes : AreBytes middle)
    (newest-bytes : AreBytes newest) (first : Appends o oldest middle) (second : Appends o middle newest) where
  -- every tree, cut down twice
  pub trees-cut : (v : Value) → cut oldest (cut middle v) ≡ cut oldest v
  trees-cut v =
      let O = lawful_sound o oldest oldest-bytes first.older-lawful in
      subst (λ (r : ℕ). without deepest (parse oldest) (Ob.Table (parse oldest).root) (without deepest (parse middle) (Ob.Table r) v) ≡ cut oldest v)
      first.schemas.root
      (without-twice (parse oldest) (parse middle) O first.schemas (some-case o oldest first.older-lawful) deepest
      (Ob.Table (parse oldest).root) O.root v)

  -- THE CLAIM: every lawful sheet of the newest, cut down twice
  pub sheets-cut : (s : List ℕ) → AreBytes s → (v : Value) → tree_of (parse newest) s ≡ some v
      → sheet_without oldest middle (sheet_without middle newest s) ≡ sheet_without oldest newest s
  sheets-cut s sheet_bytes v tree =
      cut-sheet oldest middle (sheet_without middle newest s) (cut middle v)
      (cut_tree o middle newest middle-bytes newest-bytes second s sheet_bytes v tree)
      ∙ ap (sheet_of (parse oldest)) (trees-cut v)
      ∙ sym (cut-sheet oldest newest s v tree)

  -- ---- m is the message of the sheet s that was written under the oldest
  module _ (s m : List ℕ) (sheet_bytes : AreBytes s) (made : written o oldest s ≡ message m) where
    newest_accepts : (verdict o newest m (exactly (enough o oldest s))).number ≡ 0
    newest_accepts =
        let both = appends-twice o oldest middle newest first second in
        ap (λ (w : Verdict). w.number)
        ((newer_agrees o oldest newest s m oldest-bytes sheet_bytes both made).verdicts (exactly (enough o oldest s))
        ∙ written-verdict o oldest s m oldest-bytes sheet_bytes made (exactly (enough o oldest s)) (no_more_refl (enough o oldest s)))

    -- with all added members, and then down to the middle: with the middle's
    pub added_then-middle : sheet_without middle newest (sheet_with o oldest newest s) ≡ sheet_with o oldest middle s
    added_then-middle =
        let both = appends-twice o oldest middle newest first second in
        let message_bytes = written_bytes o oldest s m oldest-bytes sheet_bytes made in
        let x = newer_agrees o oldest middle s m oldest-bytes sheet_bytes first made in
        let y = newer_agrees o oldest newest s m oldest-bytes sheet_bytes both made in
        let z = older_agrees o middle newest m middle-bytes newest-bytes message_bytes second (exactly (enough o oldest s)) newest_accepts in
        ap (sheet_without middle newest) (sym y.newer-sheet) ∙ sym z.sheet ∙ x.newer-sheet

    -- and then down to the oldest: what was written
    pub added_then_oldest : sheet_without oldest newest (sheet_with o oldest newest s) ≡ s
    added_then_oldest =
        let both = appends-twice o oldest middle newest first second in
        let message_bytes = written_bytes o oldest s m oldest-bytes sheet_bytes made in
        let y = newer_agrees o oldest newest s m oldest-bytes sheet_bytes both made in
        let z = older_agrees o oldest newest m oldest-bytes newest-bytes message_bytes both (exactly (enough o oldest s)) newest_accepts in
        ap (sheet_without oldest newest) (sym y.newer-sheet) ∙ sym z.sheet ∙ y.older-sheet
