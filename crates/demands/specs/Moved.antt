-- 02, K12: "A stored message is moved over by reading its sheet and writing that with a schema in which only the in-place flag of those
-- unions is cleared; where that write is not refused (12 for an older reason, 13 or 14), the sheet read back with enough allowance and
-- room is the same. That change of schema isn't an append, so demand 3 makes no claim across it."
use Rattle.std.specs.Prelude.{◌≡◌, refl, Bool, true, false, ◌&&◌, List, [], ◌∷◌, ◌++◌, map, ℕ, zero, suc, ◌<◌, ◌≤◌, length, get_or, drop, leb}
use Rattle.std.proofs.Common.{sym, ◌∙◌, subst, leb-true, leb-false}
use Rattle.std.proofs.Math.Path.{ap}
use Rattle.std.proofs.lemmas.Bool.{lt-leb}
use Rattle.coding.specs.Lists.{pick}
use Rattle.coding.specs.Bytes.{u48, deepest, largest}
use Rattle.coding.specs.Schema.{Schema, Table, table_of}
use Rattle.coding.specs.Packed.{parse}
use Rattle.coding.specs.Walk.{at_zero, verdict}
use Rattle.coding.specs.Value.{Value}
use Rattle.coding.specs.Read.{message_read}
use Rattle.coding.specs.Sheet.{sheet_tree}
use Rattle.coding.specs.Message.{writable, message_of, Written, refused, message, written_tree, written, message_sheet, read_answer, read_out}
use Rattle.coding.specs.Append.{Extends, more, MemberAppends, TableAppends, SchemaAppends, Appends}
use Rattle.coding.specs.Moving.{without_inplace_unions, moved}
use Rattle.coding.specs.declared.Object.TheVariants as O
use Rattle.coding.specs.declared.Member.{Member}
use Rattle.coding.specs.declared.Budget.{Budget}
use Rattle.laws.specs.Sound.{All}
use Rattle.demands.specs.Spending.{Affords}
use Rattle.demands.specs.Reached.{verdict_walks}
use Rattle.demands.specs.Sheets.{verdict-sheet-lawful, verdict-sheet_bytes}
use Rattle.demands.specs.RoundTrip.{enough, written-verdict, written-sheet, written_answer, written_out}
use Rattle.demands.specs.UnionsInPlace.{writable_before}
use Rattle.demands.specs.ClearedSchema.{is_union, cleared_member, cleared_table, cleared_schema, sheet_tree-same, NotInplaceUnion, NoInplaceUnions, cleared_none, cleared-writable}
use Rattle.demands.specs.ClearedBytes.{cleared-parse, cleared_bytes}
use Rattle.demands.specs.ClearedLawful.{cleared-lawful}

-- the message m reads as the sheet s by schema c: by the rules; with enough of both allowances; and, given room, from the output, the
-- bytes behind it kept
pub record ReadsBack (c s m : List ℕ) : Type 0 where
  pub sheet : message_sheet u48 c m ≡ s
  pub accepted : (budget : Budget) → Affords budget (enough u48 c s) → verdict u48 c m budget ≡ at_zero 0 (enough u48 c s)
  pub answer : (budget : Budget) (out : List ℕ) → Affords budget (enough u48 c s) → length s ≤ length out
      → read_answer u48 c m budget out ≡ record { verdict = at_zero 0 (enough u48 c s); length = length s }
  pub output : (budget : Budget) (out : List ℕ) → Affords budget (enough u48 c s) → length s ≤ length out
      → read_out u48 c m budget out ≡ s ++ drop (length s) out

-- whether schema b could write what the message m holds, before K12
unfoldable pub could_be_written : List ℕ → List ℕ → Bool
could_be_written b m = writable_before deepest u48 (parse b) (O.Table (parse b).root) (message_read u48 (parse b) m)

-- what comes of moving the message m over from schema b. There is no other refusal:
pub data MovedAs (b m : List ℕ) : Written → Type 0 where
  -- 11 for a sheet over the size, which the rules give and no reader hands out
  too_long : largest < length (message_sheet u48 b m) → MovedAs b m (refused 11)
  -- "12 for an older reason": where schema b itself gave 12 before K12
  not-writable : length (message_sheet u48 b m) ≤ largest → could_be_written b m ≡ false → MovedAs b m (refused 12)
  -- 13: the message of the new form would be over the size
  over-size : length (message_sheet u48 b m) ≤ largest → could_be_written b m ≡ true
      → largest < length (message_of u48 (parse (without_inplace_unions b)) (message_read u48 (parse b) m)) → MovedAs b m (refused 13)
  -- else a message, which reads as the same sheet
  in_new_form_lem : (n : List ℕ) → length (message_sheet u48 b m) ≤ largest → could_be_written b m ≡ true
      → ReadsBack (without_inplace_unions b) (message_sheet u48 b m) n → MovedAs b m (message n)

-- the schema that it is moved over to has no union in place: no refusal by it is for K12's own reason
pub moved_none : (b : List ℕ) → NoInplaceUnions (parse (without_inplace_unions b))
moved_none b = subst NoInplaceUnions (sym (cleared-parse b)) (cleared_none (parse b))

module _ (b m : List ℕ) (schema_bytes : (i : ℕ) → get_or b i 0 < 256) (message_bytes : (i : ℕ) → get_or m i 0 < 256) (budget : Budget)
    (accepted : (verdict u48 b m budget).number ≡ 0) where
  abbrev c : List ℕ
  c = without_inplace_unions b

  abbrev s : List ℕ
  s = message_sheet u48 b m

  abbrev v : Value
  v = message_read u48 (parse b) m

  -- THE CLAIM: a message that was made reads as the same sheet
  pub moved_reads : (n : List ℕ) → moved b m ≡ message n → ReadsBack c s n
  unfolding moved
  moved_reads n made =
      let cb = cleared_bytes b schema_bytes in
      let sb = verdict-sheet_bytes u48 b m schema_bytes message_bytes budget accepted in
      record {
        sheet = written-sheet u48 c s n cb sb made;
        accepted = written-verdict u48 c s n cb sb made;
        answer = written_answer u48 c s n cb sb made;
        output = written_out u48 c s n cb sb made;
      }

  -- ---- the write, step by step: the schema is lawful, and the sheet has the same tree
  by_tree : moved b m ≡ written_tree u48 (parse c) (sheet_tree (parse b) s)
  unfolding moved written
  by_tree =
      rw (cleared-lawful b (verdict_walks u48 b m budget accepted).schema)
      (ap (written_tree u48 (parse c)) (ap (λ (S : Schema). sheet_tree S s) (cleared-parse b) ∙ sheet_tree-same (parse b) s))

  by_size : largest < length s → moved b m ≡ refused 11
  unfolding sheet_tree written_tree
  by_size l = by_tree ∙ rw (lt-leb (length s) largest l)

  writable_is : writable deepest u48 (parse c) (O.Table (parse c).root) v ≡ could_be_written b m
  unfolding could_be_written cleared_schema
  writable_is =
      ap (λ (S : Schema). writable deepest u48 S (O.Table S.root) v) (cleared-parse b)
      ∙ cleared-writable deepest u48 (parse b) (O.Table (parse b).root) v

  module _ (sized : length s ≤ largest) where
    by_test : moved b m
        ≡ pick (could_be_written b m)
        (pick (leb (length (message_of u48 (parse c) v)) largest) (message (message_of u48 (parse c) v)) (refused 13)) (refused 12)
    unfolding written_tree
    by_test =
        by_tree ∙ ap (written_tree u48 (parse c)) (verdict-sheet-lawful u48 b m schema_bytes message_bytes budget accepted sized)
        ∙ ap (λ (t : Bool). pick t
        (pick (leb (length (message_of u48 (parse c) v)) largest) (message (message_of u48 (parse c) v)) (refused 13)) (refused 12)) writable_is

    moved_by : (t u : Bool) → could_be_written b m ≡ t → leb (length (message_of u48 (parse c) v)) largest ≡ u
        → moved b m ≡ pick t (pick u (message (message_of u48 (parse c) v)) (refused 13)) (refused 12) → MovedAs b m (moved b m)
    moved_by false u e f h = subst (MovedAs b m) (sym h) (not-writable sized e)
    moved_by true false e f h =
        subst (MovedAs b m) (sym h) (over-size sized e (leb-false (length (message_of u48 (parse c) v)) largest f))
    moved_by true true e f h =
        let n = message_of u48 (parse c) v in subst (MovedAs b m) (sym h) (in_new_form_lem n sized e (moved_reads n h))

  -- THE CLAIM: every accepted message is moved over, or refused for one of these reasons
  pub moved_over : MovedAs b m (moved b m)
  moved_over = by (leb (length s) largest) refl
    where
      by : (t : Bool) → leb (length s) largest ≡ t → MovedAs b m (moved b m)
      by true l =
          let sized = leb-true (length s) largest l in
          moved_by sized (could_be_written b m) (leb (length (message_of u48 (parse c) v)) largest) refl refl (by_test sized)
      by false l =
          let long = leb-false (length s) largest l in subst (MovedAs b m) (sym (by_size long)) (too_long long)

-- ---- "That change of schema isn't an append"
member_free : (r : Member) → MemberAppends r (cleared_member r) → NotInplaceUnion r
unfolding cleared_member
member_free r h = by (is_union r.kind) h.inplace
  where
    by : (t : Bool) → r.inplace ≡ pick t false r.inplace → (t && r.inplace) ≡ false
    by true e = e
    by false e = refl

members_free_lem : (rs : List Member) → Extends MemberAppends rs (map cleared_member rs) → All NotInplaceUnion rs
members_free_lem [] h = tt
members_free_lem (r ∷ rs) (more h hs) = (member_free r h, members_free_lem rs hs)

tables_free : (ts : List Table) → Extends TableAppends ts (map cleared_table ts) → (i : ℕ)
    → All NotInplaceUnion (get_or ts i (record { id = 0; members = [] })).members
unfolding cleared_table
tables_free [] h i = tt
tables_free (t ∷ ts) (more h hs) zero = members_free_lem t.members h.members
tables_free (t ∷ ts) (more h hs) (suc i) = tables_free ts hs i

-- THE CLAIM: it appends to the first schema only where that has no union in place
pub moved_no-append : (b : List ℕ) → Appends u48 b (without_inplace_unions b) → NoInplaceUnions (parse b)
unfolding table_of cleared_schema
moved_no-append b h =
    let e = subst (SchemaAppends (parse b)) (cleared-parse b) h.schemas in
    record { tables = tables_free (parse b).tables e.tables }
