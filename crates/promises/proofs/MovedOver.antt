-- Moving a stored message over (02, K12), of what the running functions answer.
use mathlib.Core.Path.{◌≡◌, refl, sym, ap, ap₂, ◌∙◌, subst}
use mathlib.Core.Bool.{Bool, true, false}
use mathlib.Core.List.{List, [], ◌++◌}
use Prim.Native.Nat.{ℕ, ◌<◌, ◌≤◌}
use native.Mathlib.Omega.{arith}
use lib.ListN.{length, take, drop}
use lib.Seq.{length-take-le}
use borrow.Author.Tests.{le-leb}
use Rattle.coding.specs.Lists.{pick}
use Rattle.coding.specs.Bytes.{u48}
use Rattle.coding.specs.Lawful.{lawful}
use Rattle.coding.specs.Walk.{at_zero, verdict}
use Rattle.coding.specs.Message.{Written, refused, message, message_sheet, written, write_room, write_over, write_answer, write_out, read_answer, read_out}
use Rattle.coding.specs.Positions.{positions_of, with_table}
use Rattle.coding.specs.Moving.{without_inplace_unions, clearing, moved}
use Rattle.coding.specs.declared.Budget.{Budget}
use Rattle.coding.specs.declared.ReadAnswer.{ReadAnswer}
use Rattle.coding.specs.declared.WriteAnswer.{WriteAnswer}
use Rattle.demands.specs.Appending.{AreBytes}
use Rattle.demands.specs.ClearedBytes as Cb
use Rattle.demands.specs.Moved.{ReadsBack, MovedAs, moved_reads, moved_over}
use Rattle.demands.specs.Reached.{verdict_walks}
use Rattle.demands.specs.RoundTrip.{enough}
use Rattle.demands.specs.Spending.{Affords}
use Rattle.promises.proofs.Reading.{handed, read-within}
use Rattle.promises.specs.Words.{TableOf}
use Rattle.promises.proofs.Tables.{read_own, old-read}
use Rattle.promises.proofs.Writing.{Refuses, room-length, room-made, made}

-- ---- the cleared schema
abbrev bytes_in : Written → List ℕ
bytes_in (refused n) = []
bytes_in (message m) = m

module _ (b out out' : List ℕ) (a : WriteAnswer) (ea : a ≡ write_room (clearing b) (length out)) (eo : out' ≡ write_over (clearing b) out) where
  pub clear_within : a.length ≤ length out'
  clear_within = rw (ea, eo) (room-length (clearing b) out)

  pub clear-part : a.length ≡ length (take a.length out')
  clear-part = sym (length-take-le a.length out' clear_within)

  -- a lawful schema is cleared if there is room
  module _ (l : lawful u48 b ≡ true) where
    is_cleared : clearing b ≡ message (without_inplace_unions b)
    unfolding clearing
    is_cleared = rw l

    clears : length b ≤ length out → a ≡ record { number = 0; length = length b }
    unfolding write_room
    clears r =
        ea ∙ rw (is_cleared, (Cb.is_cleared b).long, le-leb (length b) (length out) r)

    cleared-schema : a.number ≡ 0 → take a.length out' ≡ without_inplace_unions b
    cleared-schema h =
        let e : clearing b ≡ message (take a.length out') =
        rw (ea, eo) (room-made (clearing b) (subst Refuses (sym is_cleared) tt) out (ap (λ (x : WriteAnswer). x.number) (sym ea) ∙ h)) in
        sym (ap bytes_in (sym is_cleared ∙ e))

-- ---- the whole
module _ (b t m : List ℕ) (schema_bytes : AreBytes b) (message_bytes : AreBytes m) (first : Budget) (sheet sheet' : List ℕ) (stored : ReadAnswer)
    (ea : stored ≡ read_answer 6 (with_table 6 b t) m first sheet) (eo : sheet' ≡ read_out 6 (with_table 6 b t) m first sheet)
    (h : stored.verdict.number ≡ 0) where
  -- the table that was lent is the schema's, since the message was read
  by-schema : (stored ≡ read_answer 6 b m first sheet) × (sheet' ≡ read_out 6 b m first sheet)
  by-schema = read_own 6 b t m first sheet sheet' stored ea eo h

  sheet_is : take stored.length sheet' ≡ message_sheet 6 b m
  sheet_is = (handed 6 b m first sheet stored sheet' by-schema.0 by-schema.1 h).sheet

  accepted : (verdict 6 b m first).number ≡ 0
  accepted = (handed 6 b m first sheet stored sheet' by-schema.0 by-schema.1 h).accepted

  -- its schema is lawful
  read-lawful : lawful u48 b ≡ true
  unfolding u48
  read-lawful = (verdict_walks 6 b m first accepted).schema

  module _ (newer newer' : List ℕ) (cleared : WriteAnswer) (ec : cleared ≡ write_room (clearing b) (length newer))
      (en : newer' ≡ write_over (clearing b) newer) where
    pub schema_clears : length b ≤ length newer → cleared ≡ record { number = 0; length = length b }
    schema_clears = clears b newer newer' cleared ec en read-lawful

    pub schema_cleared : cleared.number ≡ 0 → take cleared.length newer' ≡ without_inplace_unions b
    schema_cleared = cleared-schema b newer newer' cleared ec en read-lawful

    module _ (g : cleared.number ≡ 0) (room room' : List ℕ) (w : WriteAnswer)
        (ew : w ≡ write_answer 6 (take cleared.length newer') (take stored.length sheet') room)
        (er : room' ≡ write_out 6 (take cleared.length newer') (take stored.length sheet') room) where
      -- what is written is what the definition moves over
      is-moved : written 6 (take cleared.length newer') (take stored.length sheet') ≡ moved b m
      unfolding moved u48
      is-moved = rw (schema_cleared g, sheet_is)

      pub move_reasons : (w ≡ write_room (moved b m) (length room)) × MovedAs b m (moved b m)
      unfolding write_answer u48
      move_reasons = (
        ew ∙ ap (λ (x : Written). write_room x (length room)) is-moved,
        moved_over b m schema_bytes message_bytes first accepted,
      )

      module _ (z : w.number ≡ 0) where
        reads_back : ReadsBack (without_inplace_unions b) (message_sheet u48 b m) (take w.length room')
        unfolding u48
        reads_back =
            moved_reads b m schema_bytes message_bytes first accepted (take w.length room')
            (sym is-moved ∙ made 6 (take cleared.length newer') (take stored.length sheet') room w ew room' er z)

        pub back-sheet : message_sheet 6 (take cleared.length newer') (take w.length room') ≡ take stored.length sheet'
        unfolding u48
        back-sheet =
            ap (λ (c : List ℕ). message_sheet 6 c (take w.length room')) (schema_cleared g)
            ∙ reads_back.sheet ∙ sym sheet_is

        back-same : (second : Budget) (out out' : List ℕ) (a : ReadAnswer)
            → a ≡ read_answer 6 (take cleared.length newer') (take w.length room') second out
            → out' ≡ read_out 6 (take cleared.length newer') (take w.length room') second out
            → Affords second (enough 6 (without_inplace_unions b) (take stored.length sheet')) → stored.length ≤ length out
            → (a ≡ record {
              verdict = at_zero 0 (enough 6 (without_inplace_unions b) (take stored.length sheet'));
              length = stored.length;
            })
            × (out' ≡ take stored.length sheet' ++ drop stored.length out)
        unfolding u48
        back-same second out out' a e f l r =
            let s = sheet_is in
            let k : stored.length ≡ length (message_sheet 6 b m) =
            sym (length-take-le stored.length sheet' (read-within 6 b m first sheet stored sheet' by-schema.0 by-schema.1)) ∙ ap length s in
            let l' : Affords second (enough 6 (without_inplace_unions b) (message_sheet 6 b m)) =
            subst (λ (x : List ℕ). Affords second (enough 6 (without_inplace_unions b) x)) s l in
            let r' : length (message_sheet 6 b m) ≤ length out = subst (λ (x : ℕ). x ≤ length out) k r in
            rw (s, k) (
              e ∙ ap (λ (c : List ℕ). read_answer 6 c (take w.length room') second out) (schema_cleared g) ∙ reads_back.answer second out l' r',
              f ∙ ap (λ (c : List ℕ). read_out 6 c (take w.length room') second out) (schema_cleared g) ∙ reads_back.output second out l' r',
            )

        -- the same, read with the cleared schema's table
        pub back-lent : (rows : List ℕ) → TableOf 6 (without_inplace_unions b) rows → (second : Budget) (out out' : List ℕ) (a : ReadAnswer)
            → a ≡ read_answer 6 (with_table 6 (take cleared.length newer') rows) (take w.length room') second out
            → out' ≡ read_out 6 (with_table 6 (take cleared.length newer') rows) (take w.length room') second out
            → Affords second (enough 6 (without_inplace_unions b) (take stored.length sheet')) → stored.length ≤ length out
            → (a ≡ record {
              verdict = at_zero 0 (enough 6 (without_inplace_unions b) (take stored.length sheet'));
              length = stored.length;
            })
            × (out' ≡ take stored.length sheet' ++ drop stored.length out)
        back-lent rows table second out out' a e f =
            let own = table ∙ ap (positions_of 6) (sym (schema_cleared g)) in
            let y = old-read 6 (take cleared.length newer') rows own (take w.length room') second out out' a e f in
            back-same second out out' a y.0 y.1
