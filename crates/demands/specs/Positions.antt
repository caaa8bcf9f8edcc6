-- 02, K10: "Each row equals what the old rule gives, and with that table every public answer is equal to the old one; ... Any other table
-- handed in gets refusal 1, tried with the schema."
use Rattle.std.specs.Prelude.{◌≡◌, refl, Bool, true, false, List, [], ◌∷◌, ◌++◌, ℕ, suc, ◌+◌, ◌*◌, ◌<◌, ◌≤◌, length, get_or, take, drop, leb, None}
use Rattle.std.proofs.Common.{sym, ◌∙◌, arith, length-append}
use Rattle.std.proofs.Math.Path.{ap, subst}
use Rattle.std.proofs.Math.Seq.{take-append_seam}
use borrow.Author.Tests.{le-leb, lt-leb, leb-true, leb-false}
use Rattle.coding.specs.Lists.{same}
use Rattle.coding.specs.Bytes.{le}
use Rattle.coding.specs.Schema.{Schema, Table, table_of, member_of}
use Rattle.coding.specs.Packed.{table_count, parse}
use Rattle.coding.specs.Lawful as L
use Rattle.coding.specs.Layout.{width, is_bool, has_flag, slot_of, member_slot, placement_of, begin, after_members}
use Rattle.coding.specs.Walk as W
use Rattle.coding.specs.Message as M
use Rattle.coding.specs.Field as F
use Rattle.coding.specs.Positions.{first_bit, no_flag, flag_bit, bit_size, row_of, table_rows, schema_rows, positions_of, positions_made, positions_answer, positions_out, table_right, with_table}
use Rattle.coding.specs.declared.Member.{Member}
use Rattle.coding.specs.declared.Placement.{Placement}
use Rattle.coding.specs.declared.Budget.{Budget}
use Rattle.coding.specs.declared.WriteAnswer.{WriteAnswer}
use Rattle.coding.specs.declared.Answer.TheVariants as A
use Rattle.coding.specs.declared.Found.{Found}
use Rattle.coding.specs.declared.Found.TheVariants as Fd
use Rattle.laws.specs.Lists.{both_left, both_right}
use Rattle.laws.specs.Rules.{lawful_narrow}
use Rattle.laws.specs.LawfulSound.{lawful_sound}
use Rattle.laws.specs.LentTables.{right-schema, wrong-schema, no-schema}
use Rattle.laws.specs.Parsed.{tables-length}
use Rattle.laws.specs.SameLists.{same_is, same_self}
use Rattle.laws.specs.PositionRows.{member_total, RowIn, table_bytes-length, member-rows-at, row_in}
use Rattle.laws.specs.RowBounds.{RowSmall, row_small, placed_small-at}
use Rattle.laws.specs.RowReads.{value_read, flag-read, size-read}

-- ---- the rows
-- "its value's first bit in the fixed part, its flag's (4,294,967,295 if none) and its size in bits": what the three little-endian U32s
-- from byte `at` on of a table t say of a member r that stands by the old rule where p says
pub record RowSays (o : ℕ) (S : Schema) (t : List ℕ) (at : ℕ) (r : Member) (p : Placement) : Type 0 where
  pub value : le t at 4 ≡ 8 * p.value.at + p.value.bit
  pub flag : has_flag r ≡ true → le t (at + 4) 4 ≡ 8 * p.flag.at + p.flag.bit
  pub none : has_flag r ≡ false → le t (at + 4) 4 ≡ 4294967295
  pub bool : is_bool r.kind ≡ true → le t (at + 8) 4 ≡ 1
  pub bytes : is_bool r.kind ≡ false → le t (at + 8) 4 ≡ 8 * width o S r.kind

-- a row in the sentence's words, of a member by its placement
module _ (o : ℕ) (S : Schema) (t : List ℕ) (at : ℕ) (r : Member) (p : Placement) where
  says-value : RowIn t at (row_of r p) → RowSmall (row_of r p) → le t at 4 ≡ 8 * p.value.at + p.value.bit
  unfolding row_of first_bit
  says-value h small = value_read t at (row_of r p) h small

  says_flag : RowIn t at (row_of r p) → RowSmall (row_of r p) → has_flag r ≡ true → le t (at + 4) 4 ≡ 8 * p.flag.at + p.flag.bit
  unfolding row_of flag_bit first_bit
  says_flag h small e = flag-read t at (row_of r p) h small ∙ rw e

  says_none : RowIn t at (row_of r p) → RowSmall (row_of r p) → has_flag r ≡ false → le t (at + 4) 4 ≡ 4294967295
  unfolding row_of flag_bit no_flag
  says_none h small e = flag-read t at (row_of r p) h small ∙ rw e

  says_bool : RowIn t at (row_of r p) → RowSmall (row_of r p) → is_bool r.kind ≡ true → le t (at + 8) 4 ≡ 1
  unfolding row_of bit_size
  says_bool h small e = size-read t at (row_of r p) h small ∙ rw e

  says-size : RowIn t at (row_of r p) → RowSmall (row_of r p) → is_bool r.kind ≡ false → le t (at + 8) 4 ≡ 8 * p.value.size
  unfolding row_of bit_size
  says-size h small e = size-read t at (row_of r p) h small ∙ rw e

module _ (o : ℕ) (b : List ℕ) where
  -- twelve bytes for each member of each table
  pub table-length : length (positions_of o b) ≡ 12 * member_total (parse b).tables
  unfolding positions_of schema_rows
  table-length = table_bytes-length o (parse b) (parse b).tables

  module _ (bytes : (i : ℕ) → get_or b i 0 < 256) (lawful : L.lawful o b ≡ true) (i j : ℕ) (l : i < table_count b)
      (k : j < length (table_of (parse b) i).members) where
    -- "Each row equals what the old rule gives": where member j of table i stands by the old rule, behind the members before it
    abbrev placed : Placement
    placed = placement_of o (parse b) (member_of (parse b) i j) (after_members o (parse b) (take j (table_of (parse b) i).members) begin)

    -- "for each table member in schema order": its row stands behind those of the tables before, and of the members before it
    abbrev place : ℕ
    place = 12 * (member_total (take i (parse b).tables) + j)

    small : RowSmall (row_of (member_of (parse b) i j) placed)
    small =
        row_small (member_of (parse b) i j) placed
        (placed_small-at o (lawful_narrow o b lawful) (parse b) (lawful_sound o b bytes lawful) i j k)

    stands : RowIn (positions_of o b) place (row_of (member_of (parse b) i j) placed)
    unfolding positions_of schema_rows table_rows table_of member_of
    stands =
        subst (RowIn (positions_of o b) place)
        (member-rows-at o (parse b) _ begin (table_of (parse b) i).members j k)
        (row_in o (parse b) _ (record { value = 0; flag = 0; size = 0 }) (parse b).tables i j (omega (arith, tables-length b)) k)

    pub rows_say : RowSays o (parse b) (positions_of o b) place (member_of (parse b) i j) placed
    unfolding placement_of member_slot slot_of
    rows_say =
        let S = parse b in
        let r = member_of (parse b) i j in
        record {
          value = says-value o S (positions_of o b) place r placed stands small;
          flag = says_flag o S (positions_of o b) place r placed stands small;
          none = says_none o S (positions_of o b) place r placed stands small;
          bool = says_bool o S (positions_of o b) place r placed stands small;
          bytes = λ e. says-size o S (positions_of o b) place r placed stands small e ∙ rw e;
        }

    -- a U32 holds each number of the row, so that nothing is cut off
    pub rows_small : RowSmall (row_of (member_of (parse b) i j) placed)
    rows_small = small

-- ---- making it: "(else 1, then 14, nothing written)"
module _ (o : ℕ) (b out : List ℕ) where
  pub made-unlawful : L.lawful o b ≡ false
      → (positions_answer o b out ≡ record { number = 1; length = 0 }) × (positions_out o b out ≡ out)
  unfolding positions_answer positions_out positions_made M.write_room M.write_over
  made-unlawful e = (rw e, rw e)

  pub made_no_room : L.lawful o b ≡ true → length out < length (positions_of o b)
      → (positions_answer o b out ≡ record { number = 14; length = 0 }) × (positions_out o b out ≡ out)
  unfolding positions_answer positions_out positions_made M.write_room M.write_over
  made_no_room e l = (rw (e, lt-leb _ _ l), rw (e, lt-leb _ _ l))

  pub made : L.lawful o b ≡ true → length (positions_of o b) ≤ length out
      → (positions_answer o b out ≡ record { number = 0; length = length (positions_of o b) })
      × (positions_out o b out ≡ positions_of o b ++ drop (length (positions_of o b)) out)
  unfolding positions_answer positions_out positions_made M.write_room M.write_over
  made e l = (rw (e, le-leb _ _ l), rw (e, le-leb _ _ l))

-- ---- the readers that it is lent to
-- the table that was made is the right one
pub made-right : (o : ℕ) (b : List ℕ) → L.lawful o b ≡ true → table_right o b (positions_of o b) ≡ true
unfolding table_right
made-right o b e = rw (e, same_self (positions_of o b))

-- it is right only of a lawful schema, and only byte for byte
pub right-lawful : (o : ℕ) (b t : List ℕ) → table_right o b t ≡ true → L.lawful o b ≡ true
unfolding table_right
right-lawful o b t e = both_left (L.lawful o b) (same t (positions_of o b)) e

pub right_is : (o : ℕ) (b t : List ℕ) → table_right o b t ≡ true → t ≡ positions_of o b
unfolding table_right
right_is o b t e = same_is t (positions_of o b) (both_right (L.lawful o b) (same t (positions_of o b)) e)

-- ---- what every public reader answers where refusal 1 arises
pub record SchemaRefused (o : ℕ) (b : List ℕ) : Type 0 where
  pub verdict : (m : List ℕ) (budget : Budget) → W.verdict o b m budget ≡ W.early 1
  pub read_answer : (m : List ℕ) (budget : Budget) (out : List ℕ) → M.read_answer o b m budget out ≡ record { verdict = W.early 1; length = 0 }
  pub read_out : (m : List ℕ) (budget : Budget) (out : List ℕ) → M.read_out o b m budget out ≡ out
  pub field : (m path : List ℕ) → F.field o b m path ≡ A.Refused (W.refusal 1 0)
  pub field_span : (m path : List ℕ) → F.field_span o b m path ≡ None
  pub field_text : (m path : List ℕ) → F.field_text o b m path ≡ []
  pub reader_start : (m path : List ℕ) → F.reader_start o b m path ≡ Fd.Refused (W.refusal 1 0)
  pub reader_gives : (m path : List ℕ) (j : ℕ) → F.reader_gives o b m path j ≡ A.Refused (W.refusal 1 0)
  pub reader_count : (m path : List ℕ) → F.reader_count o b m path ≡ 0
  pub reader_over : (m path : List ℕ) (from : ℕ) (out : List ℕ)
      → F.reader_over o b m path from out ≡ F.steps_over (λ j. A.Refused (W.refusal 1 0)) 0 from out

module _ (o : ℕ) (b : List ℕ) (e : L.lawful o b ≡ false) where
  found_refused : (m path : List ℕ) → F.field_found o b m path ≡ Fd.Refused (W.refusal 1 0)
  unfolding F.field_found F.before
  found_refused m path = rw e

  verdict_refused : (m : List ℕ) (budget : Budget) → W.verdict o b m budget ≡ W.early 1
  unfolding W.verdict
  verdict_refused m budget = rw e

  read_refused : (m : List ℕ) (budget : Budget) (out : List ℕ) → M.read_answer o b m budget out ≡ record { verdict = W.early 1; length = 0 }
  unfolding M.read_answer
  read_refused m budget out = rw (verdict_refused m budget) (unfold W.early in refl)

  out_refused : (m : List ℕ) (budget : Budget) (out : List ℕ) → M.read_out o b m budget out ≡ out
  unfolding M.read_out
  out_refused m budget out = rw (verdict_refused m budget) (unfold W.early in refl)

  start_refused : (m path : List ℕ) → F.reader_start o b m path ≡ Fd.Refused (W.refusal 1 0)
  unfolding F.reader_start F.reader_of
  start_refused m path = rw (found_refused m path)

  pub unlawful_refused : SchemaRefused o b
  unfolding F.field F.field_span F.found_span F.field_text F.text_of F.answer_of F.reader_gives F.list_gives F.part_of F.reader_count F.list_count F.reader_over
  unlawful_refused =
      record {
        verdict = verdict_refused;
        read_answer = read_refused;
        read_out = out_refused;
        field = λ m path. rw (found_refused m path);
        field_span = λ m path. rw (found_refused m path);
        field_text = λ m path. rw (found_refused m path);
        reader_start = start_refused;
        reader_gives = λ m path j. rw (start_refused m path);
        reader_count = λ m path. rw (start_refused m path);
        reader_over = λ m path from out.
            ap (λ (f : Found). F.steps_over (λ j. F.answer_of (F.part_of o (parse b) m f j)) (F.list_count f) from out) (start_refused m path);
      }

-- "Any other table handed in gets refusal 1": whatever its length, and however near it comes
pub other-table : (o : ℕ) (b t : List ℕ) → (t ≡ positions_of o b → ⊥) → SchemaRefused o (with_table o b t)
other-table o b t other = by (table_right o b t) refl
  where
    by : (r : Bool) → table_right o b t ≡ r → SchemaRefused o (with_table o b t)
    by true e = absurd (other (right_is o b t e))
    by false e = subst (SchemaRefused o) (sym (wrong-schema o b t e)) (unlawful_refused o [] (no-schema o))

-- so does every table of a schema that is not lawful
pub unlawful-table : (o : ℕ) (b t : List ℕ) → L.lawful o b ≡ false → SchemaRefused o (with_table o b t)
unfolding table_right
unlawful-table o b t e =
    let wrong : table_right o b t ≡ false = rw e in
    subst (SchemaRefused o) (sym (wrong-schema o b t wrong)) (unlawful_refused o [] (no-schema o))

-- ---- "with that table every public answer is equal to the old one"
-- every public reader answers by the schema b as it does by c
pub record SameAnswers (o : ℕ) (b c : List ℕ) : Type 0 where
  pub verdict : (m : List ℕ) (budget : Budget) → W.verdict o b m budget ≡ W.verdict o c m budget
  pub read_answer : (m : List ℕ) (budget : Budget) (out : List ℕ) → M.read_answer o b m budget out ≡ M.read_answer o c m budget out
  pub read_out : (m : List ℕ) (budget : Budget) (out : List ℕ) → M.read_out o b m budget out ≡ M.read_out o c m budget out
  pub field : (m path : List ℕ) → F.field o b m path ≡ F.field o c m path
  pub field_span : (m path : List ℕ) → F.field_span o b m path ≡ F.field_span o c m path
  pub field_text : (m path : List ℕ) → F.field_text o b m path ≡ F.field_text o c m path
  pub reader_start : (m path : List ℕ) → F.reader_start o b m path ≡ F.reader_start o c m path
  pub reader_gives : (m path : List ℕ) (j : ℕ) → F.reader_gives o b m path j ≡ F.reader_gives o c m path j
  pub reader_count : (m path : List ℕ) → F.reader_count o b m path ≡ F.reader_count o c m path
  pub reader_over : (m path : List ℕ) (from : ℕ) (out : List ℕ) → F.reader_over o b m path from out ≡ F.reader_over o c m path from out

same-schema : (o : ℕ) (b : List ℕ) → SameAnswers o b b
same-schema o b =
    record {
      verdict = λ m budget. refl;
      read_answer = λ m budget out. refl;
      read_out = λ m budget out. refl;
      field = λ m path. refl;
      field_span = λ m path. refl;
      field_text = λ m path. refl;
      reader_start = λ m path. refl;
      reader_gives = λ m path j. refl;
      reader_count = λ m path. refl;
      reader_over = λ m path from out. refl;
    }

same_refusals : (o : ℕ) (b c : List ℕ) → SchemaRefused o b → SchemaRefused o c → SameAnswers o b c
same_refusals o b c x y =
    record {
      verdict = λ m budget. x.verdict m budget ∙ sym (y.verdict m budget);
      read_answer = λ m budget out. x.read_answer m budget out ∙ sym (y.read_answer m budget out);
      read_out = λ m budget out. x.read_out m budget out ∙ sym (y.read_out m budget out);
      field = λ m path. x.field m path ∙ sym (y.field m path);
      field_span = λ m path. x.field_span m path ∙ sym (y.field_span m path);
      field_text = λ m path. x.field_text m path ∙ sym (y.field_text m path);
      reader_start = λ m path. x.reader_start m path ∙ sym (y.reader_start m path);
      reader_gives = λ m path j. x.reader_gives m path j ∙ sym (y.reader_gives m path j);
      reader_count = λ m path. x.reader_count m path ∙ sym (y.reader_count m path);
      reader_over = λ m path from out. x.reader_over m path from out ∙ sym (y.reader_over m path from out);
    }

-- THE CLAIM, for all bytes: of a schema that is not lawful both are refusal 1
pub same_answers : (o : ℕ) (b : List ℕ) → SameAnswers o (with_table o b (positions_of o b)) b
same_answers o b = by (L.lawful o b) refl
  where
    by : (t : Bool) → L.lawful o b ≡ t → SameAnswers o (with_table o b (positions_of o b)) b
    by true e =
        subst (λ (c : List ℕ). SameAnswers o c b) (sym (right-schema o b (positions_of o b) (made-right o b e))) (same-schema o b)
    by false e =
        same_refusals o (with_table o b (positions_of o b)) b (unlawful-table o b (positions_of o b) e) (unlawful_refused o b e)

-- ---- the table that was made, where it stands: at the start of the output
module _ (o : ℕ) (b out : List ℕ) (a : WriteAnswer) (ea : a ≡ positions_answer o b out) (out' : List ℕ) (eo : out' ≡ positions_out o b out) where
  by_cases : (P : WriteAnswer → List ℕ → Type 0) → (L.lawful o b ≡ false → P (record { number = 1; length = 0 }) out)
      → (L.lawful o b ≡ true → length out < length (positions_of o b) → P (record { number = 14; length = 0 }) out)
      → (L.lawful o b ≡ true → length (positions_of o b) ≤ length out
      → P (record { number = 0; length = length (positions_of o b) }) (positions_of o b ++ drop (length (positions_of o b)) out))
      → P a out'
  by_cases P unlawful short made-it = by (L.lawful o b) (leb (length (positions_of o b)) (length out)) refl refl
    where
      be : (x : WriteAnswer) (y : List ℕ) → (positions_answer o b out ≡ x) × (positions_out o b out ≡ y) → P x y → P a out'
      be x y e h = subst (λ (q : WriteAnswer). P q out') (sym (ea ∙ e.0)) (subst (P x) (sym (eo ∙ e.1)) h)

      by : (t u : Bool) → L.lawful o b ≡ t → leb (length (positions_of o b)) (length out) ≡ u → P a out'
      by false u e f = be _ _ (made-unlawful o b out e) (unlawful e)
      by true false e f = be _ _ (made_no_room o b out e (leb-false _ _ f)) (short e (leb-false _ _ f))
      by true true e f = be _ _ (made o b out e (leb-true _ _ f)) (made-it e (leb-true _ _ f))

  -- it is within the output
  pub made-within : a.length ≤ length out'
  made-within =
      by_cases (λ (x : WriteAnswer) (y : List ℕ). x.length ≤ length y) (λ e. omega arith) (λ e l. omega arith)
      (λ e l. omega (arith, length-append (positions_of o b) (drop (length (positions_of o b)) out)))

  -- number 0 comes only of a lawful schema
  pub made-lawful : a.number ≡ 0 → L.lawful o b ≡ true
  made-lawful =
      by_cases (λ (x : WriteAnswer) (y : List ℕ). x.number ≡ 0 → L.lawful o b ≡ true) (λ e h. absurd (omega arith)) (λ e l h. e) (λ e l h. e)

  pub made-rows : a.number ≡ 0 → take a.length out' ≡ positions_of o b
  made-rows =
      by_cases (λ (x : WriteAnswer) (y : List ℕ). x.number ≡ 0 → take x.length y ≡ positions_of o b) (λ e h. absurd (omega arith))
      (λ e l h. absurd (omega arith)) (λ e l h. take-append_seam (positions_of o b) (drop (length (positions_of o b)) out))

  -- with it every public answer is the old one, unless there was no room for it
  pub made_answers : (a.number ≡ 14 → ⊥) → SameAnswers o (with_table o b (take a.length out')) b
  made_answers =
      by_cases (λ (x : WriteAnswer) (y : List ℕ). (x.number ≡ 14 → ⊥) → SameAnswers o (with_table o b (take x.length y)) b)
      (λ e h. same_refusals o (with_table o b (take 0 out)) b (unlawful-table o b (take 0 out) e) (unlawful_refused o b e))
      (λ e l h. absurd (h refl))
      (λ e l h.
      subst (λ (t : List ℕ). SameAnswers o (with_table o b t) b)
      (sym (take-append_seam (positions_of o b) (drop (length (positions_of o b)) out))) (same_answers o b))

-- ---- the room that every table fits into: 64 tables of 64 members, twelve bytes each
total_few : (ts : List Table) (d : Table) → ((i : ℕ) → length (get_or ts i d).members ≤ 64) → member_total ts ≤ 64 * length ts
unfolding member_total
total_few [] d h = omega arith
total_few (t ∷ ts) d h =
    let first : length t.members ≤ 64 = h 0 in
    let rest = total_few ts d (λ i. h (suc i)) in
    let long : length (t ∷ ts) ≡ suc (length ts) = refl in
    omega arith

pub table_most : (o : ℕ) (b : List ℕ) → ((i : ℕ) → get_or b i 0 < 256) → L.lawful o b ≡ true → length (positions_of o b) ≤ 49152
unfolding table_of
table_most o b bytes e =
    let G = lawful_sound o b bytes e in
    let few = total_few (parse b).tables _ (λ i. (G.tables i).few) in
    omega (arith, table-length o b, G.few_tables)

-- there 14 does not come
pub made_room : (o : ℕ) (b out : List ℕ) → ((i : ℕ) → get_or b i 0 < 256) → 49152 ≤ length out → (a : WriteAnswer) → a ≡ positions_answer o b out
    → a.number ≡ 14 → ⊥
made_room o b out bytes room a ea =
    by_cases o b out a ea (positions_out o b out) refl (λ (x : WriteAnswer) (y : List ℕ). x.number ≡ 14 → ⊥) (λ e h. omega arith)
    (λ e l h. let most = table_most o b bytes e in omega arith) (λ e l h. omega arith)
