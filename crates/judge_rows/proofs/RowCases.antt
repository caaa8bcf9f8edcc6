-- Row tables: the ways out of a member, and the turns through the members.
use Rattle.std.specs.Prelude.{Ok}
use mathlib.Core.Path.{◌≡◌, refl, sym, ap, ◌∙◌, subst}
use mathlib.Core.Bool.{Bool, true, false}
use mathlib.Core.List.{List}
use Prim.Native.Nat.{ℕ, ◌+◌, ◌*◌, ◌/◌, ◌%◌, ◌<◌, ◌≤◌}
use native.Mathlib.Omega.{arith}
use lib.ListN.{length, get_or, drop}
use lib.Dec.{eqb}
use borrow.Author.Tests.{le-leb, lt-leb}
use Rattle.coding.specs.Bytes.{le}
use Rattle.coding.specs.Schema as Sc
use Rattle.coding.specs.Schema.{Schema}
use Rattle.coding.specs.Packed as P
use Rattle.coding.specs.Layout as L
use Rattle.coding.specs.Step as T
use Rattle.coding.specs.Walk as W
use Rattle.coding.specs.Walk.{Walked}
use Rattle.coding.specs.declared.Object.{Object}
use Rattle.coding.specs.declared.Object.TheVariants as O
use Rattle.coding.specs.declared.Kind.TheVariants.{OfObject}
use Rattle.coding.specs.declared.Member.{Member}
use Rattle.coding.specs.declared.Step.{Step}
use Rattle.coding.specs.declared.Step.TheVariants as St
use Rattle.coding.specs.declared.Spent.{Spent}
use Rattle.laws.specs.Sound.{ObjectSound}
use Rattle.laws.specs.Parsed.{members-length}
use Rattle.message_step.specs.Lead.{lead_of}
use Rattle.outcome.specs.declared.Content.{Content}
use Rattle.outcome.specs.declared.Outcome.{Outcome}
use Rattle.outcome.specs.Answers.{walked_of, left_of, referred}
use Rattle.judge_text.proofs.ElementCases.{follow_offset}
use Rattle.message_layout.specs.Bounds.{Laid}
use Rattle.judge_member.specs.declared.Rows.{Rows}
use Rattle.judge_member.specs.Records.{is_text_reference, RowMember, row_width, RowTable, RowObject, no_bool}
use Rattle.judge_member.proofs.PlainCases.{number_past, number_here, number_cut}
use Rattle.schema.specs.Records.{record-member}
use Rattle.judge_member.proofs.RowRecords.{text_byte, plain-of-row, width-text, width_is}
use Rattle.judge_rows.proofs.MemberCases.{lead_follows, members_ended, members_done, members_stopped, members_turn}

-- ---- a text's record
abbrev text-member : Member
text-member = record { kind = OfObject O.Text; optional = false; inplace = false }

text_is : (b : List ℕ) (at : ℕ) → get_or b at 0 ≡ 104 → P.member_at b at ≡ text-member
unfolding P.member_at P.element_at P.kind_of P.object_of P.optional_at P.inplace_at P.kind_at
text_is b at e = ap (λ (h : ℕ). record { kind = P.kind_of (h / 8) (P.argument_at b at); optional = eqb (h / 4 % 2) 1; inplace = eqb (h / 2 % 2) 1 }) e

module _ (n at size : ℕ) (past here : Step) (l : at < n) where
  inside_here : at + size ≤ n → T.inside n (record { at = at; bit = 0; size = size }) past here ≡ here
  unfolding T.inside
  inside_here g = simp (lt-leb _ _ l, le-leb _ _ g)

  inside-cut : n < at + size → T.inside n (record { at = at; bit = 0; size = size }) past here ≡ St.Refused 8
  unfolding T.inside
  inside-cut g = simp (lt-leb _ _ l, lt-leb _ _ g)

text_step : (o : ℕ) (S : Schema) (m : List ℕ) (start n end : ℕ)
    → T.member_step o S m start n (no_bool end) text-member
    ≡ T.struct_tested S m (T.inside n (record { at = end; bit = 0; size = o }) St.Absent (T.object_step O.Text false 0 (le m (start + end) o)))
unfolding T.member_step T.placed_step L.placement_of L.member_slot L.slot_of L.after_flag L.has_flag L.is_bool L.width T.value_step T.object_step T.place_of
text_step o S m start n end = refl

text_next : (o : ℕ) (S : Schema) (end : ℕ) → no_bool (end + o) ≡ L.after_member o S text-member (no_bool end)
unfolding L.after_member L.after_value L.after_flag L.has_flag L.is_bool L.width L.after_bytes
text_next o S end = refl

-- ---- the ways out of a member
-- the first byte h of the record at `at`
module _ (b : List ℕ) (at x : ℕ) (ex : x ≡ get_or b at 0) (h : ℕ) (eh : h ≡ x) (t : Bool) (et : t ≡ is_text_reference h) where
  of-text : t ≡ true → P.member_at b at ≡ text-member
  of-text e = text_is b at (sym (eh ∙ ex) ∙ text_byte h t et e)

  -- a plain member: its step where the cursor stands, and the cursor behind it
  module _ (o : ℕ) (lf : RowMember h) (z : t ≡ false) (w : ℕ) (ew : w ≡ row_width o h) (lw : w < 256) (m : List ℕ) (c : Content) (end : ℕ) where
    laid-row : Laid (end + w) (no_bool (end + w))
    laid-row = record { end = omega arith; byte = omega arith; bit = omega arith }

    behind_is : no_bool (end + w) ≡ L.after_bytes w (no_bool end)
    unfolding L.after_bytes
    behind_is = refl

    plain_past : c.length ≤ end → no_bool (end + w) ≡ L.after_member o (P.parse b) (P.member_at b at) (no_bool end)
    plain_past l =
        (number_past o b m at c (no_bool end) h (eh ∙ ex) (plain-of-row h t et z lf) (h / 8) refl w (ew ∙ width_is h t et z o) lw (no_bool (end + w)) behind_is laid-row l).stepped.next_is

    plain_here : end < c.length → end + w ≤ c.length → St.Absent ≡ lead_of (T.member_step o (P.parse b) m c.start c.length (no_bool end) (P.member_at b at))
    plain_here l g =
        (number_here o b m at c (no_bool end) h (eh ∙ ex) (plain-of-row h t et z lf) (h / 8) refl w (ew ∙ width_is h t et z o) lw (no_bool (end + w)) behind_is laid-row l g).stepped.step_is

    plain-cut : end < c.length → c.length < end + w → St.Refused 8 ≡ lead_of (T.member_step o (P.parse b) m c.start c.length (no_bool end) (P.member_at b at))
    plain-cut l g =
        (number_cut o b m at c (no_bool end) h (eh ∙ ex) (plain-of-row h t et z lf) (h / 8) refl w (ew ∙ width_is h t et z o) lw (no_bool (end + w)) behind_is laid-row l g).stepped.step_is

module _ (o : ℕ) (child : W.Child) (b m : List ℕ) (at j : ℕ) (c : Content) (end : ℕ) (s : Spent) (l : end < c.length) (lf : RowMember (get_or b at 0)) (x : ℕ) (ex : x ≡ get_or b at 0)
    (h : ℕ) (eh : h ≡ x) (w : ℕ) (ew : w ≡ row_width o h) (lw : w < 256) (r : Walked) where
  here : RowMember h
  here = subst RowMember (sym (eh ∙ ex)) lf

  by-text : P.member_at b at ≡ text-member → (q : Step) → T.member_step o (P.parse b) m c.start c.length (no_bool end) text-member ≡ q
      → r ≡ W.follow child c.holder j q s
      → r ≡ W.follow child c.holder j (T.member_step o (P.parse b) m c.start c.length (no_bool end) (P.member_at b at)) s
  by-text e q f g =
      g ∙ ap (λ (k : Step). W.follow child c.holder j k s)
      (sym (ap (T.member_step o (P.parse b) m c.start c.length (no_bool end)) e ∙ f))

  by_lead : (q : Step) → q ≡ lead_of (T.member_step o (P.parse b) m c.start c.length (no_bool end) (P.member_at b at)) → r ≡ W.follow child c.holder j q s
      → r ≡ W.follow child c.holder j (T.member_step o (P.parse b) m c.start c.length (no_bool end) (P.member_at b at)) s
  by_lead q f g =
      g ∙ ap (λ (k : Step). W.follow child c.holder j k s) f
      ∙ lead_follows child c.holder j (T.member_step o (P.parse b) m c.start c.length (no_bool end) (P.member_at b at)) s

  pub row_cut : c.length < end + w → r ≡ W.refuse_part 8 c.holder j s
      → r ≡ W.follow child c.holder j (T.member_step o (P.parse b) m c.start c.length (no_bool end) (P.member_at b at)) s
  unfolding W.follow T.struct_tested
  row_cut g f = by (is_text_reference h) refl
    where
      by : (t : Bool) → t ≡ is_text_reference h → r ≡ W.follow child c.holder j (T.member_step o (P.parse b) m c.start c.length (no_bool end) (P.member_at b at)) s
      by true q =
          let k : w ≡ o = ew ∙ sym (width-text o h true q refl) in
          by-text (of-text b at x ex h eh true q refl) (St.Refused 8)
          (text_step o (P.parse b) m c.start c.length end
          ∙ ap (T.struct_tested (P.parse b) m) (inside-cut c.length end o St.Absent (T.object_step O.Text false 0 (le m (c.start + end) o)) l (omega arith))) f
      by false q = by_lead (St.Refused 8) (plain-cut b at x ex h eh false q o here refl w ew lw m c end l g) f

  module _ (g : end + w ≤ c.length) (t : Bool) (et : t ≡ is_text_reference h) where
    pub row-text : t ≡ true → (y : ℕ) → y ≡ le m (c.start + end) o → r ≡ referred child O.Text y s
        → r ≡ W.follow child c.holder j (T.member_step o (P.parse b) m c.start c.length (no_bool end) (P.member_at b at)) s
    row-text e y ey f =
        let k : w ≡ o = ew ∙ sym (width-text o h t et e) in
        by-text (of-text b at x ex h eh t et e) (T.struct_tested (P.parse b) m (T.object_step O.Text false 0 (le m (c.start + end) o)))
        (text_step o (P.parse b) m c.start c.length end
        ∙ ap (T.struct_tested (P.parse b) m) (inside_here c.length end o St.Absent (T.object_step O.Text false 0 (le m (c.start + end) o)) l (omega arith)))
        (f ∙ ap (λ (q : ℕ). referred child O.Text q s) ey ∙ follow_offset child (P.parse b) m c.holder j O.Text (le m (c.start + end) o) s)

    pub row_number : t ≡ false → r ≡ Ok s
        → r ≡ W.follow child c.holder j (T.member_step o (P.parse b) m c.start c.length (no_bool end) (P.member_at b at)) s
    unfolding W.follow
    row_number z f = by_lead St.Absent (plain_here b at x ex h eh t et o here z w ew lw m c end l g) f

-- the cursor behind a member
row_next : (o : ℕ) (b : List ℕ) (at end x : ℕ) → x ≡ get_or b at 0 → (h : ℕ) → h ≡ x → RowMember h → (w : ℕ) → w ≡ row_width o h → w < 256
    → no_bool (end + w) ≡ L.after_member o (P.parse b) (P.member_at b at) (no_bool end)
row_next o b at end x ex h eh lf w ew lw = by (is_text_reference h) refl
  where
    by : (t : Bool) → t ≡ is_text_reference h → no_bool (end + w) ≡ L.after_member o (P.parse b) (P.member_at b at) (no_bool end)
    by true q =
        ap (λ (k : ℕ). no_bool (end + k)) (ew ∙ sym (width-text o h true q refl)) ∙ text_next o (P.parse b) end
        ∙ ap (λ (r : Member). L.after_member o (P.parse b) r (no_bool end)) (sym (of-text b at x ex h eh true q refl))
    by false q = plain_past b at x ex h eh false q o lf refl w ew lw b (record { holder = 0; start = 0; length = 0 }) end (omega arith)

-- ---- the members of a row table, from member j on
row_count : (b : List ℕ) (k : Rows) → RowTable b k → k.count ≡ length (Sc.table_of (P.parse b) k.table).members
row_count b k lt = lt.all ∙ ap (P.records b 4) lt.is ∙ sym (members-length b k.table lt.counted)

pub row_here : (b : List ℕ) (k : Rows) → RowTable b k → (j : ℕ) → j < k.count → (at : ℕ) → at ≡ k.first + 4 + 1 + 2 * j → RowMember (get_or b at 0)
row_here b k lt j h at ea = subst (λ (i : ℕ). RowMember (get_or b i 0)) (sym ea) (lt.rows.each j h)

pub row_read : (b : List ℕ) (k : Rows) → RowTable b k → (j : ℕ) → j < k.count → (at : ℕ) → at ≡ k.first + 4 + 1 + 2 * j → (x : ℕ) → x ≡ get_or b at 0 → (h : ℕ) → h ≡ x → RowMember h
row_read b k lt j l at ea x ex h eh = subst RowMember (sym (eh ∙ ex)) (row_here b k lt j l at ea)

module _ (o : ℕ) (child : W.Child) (b m : List ℕ) (x : Content) (k : Rows) (s : Spent) where
  pub row_start : W.members child o (P.parse b) m x.holder x.start x.length L.begin 0 (Sc.table_of (P.parse b) k.table).members s
      ≡ W.members child o (P.parse b) m x.holder x.start x.length (no_bool 0) 0 (drop 0 (Sc.table_of (P.parse b) k.table).members) s
  unfolding L.begin
  row_start = refl

  module _ (lt : RowTable b k) (end j : ℕ) (v : Spent)
      (inv : W.members child o (P.parse b) m x.holder x.start x.length L.begin 0 (Sc.table_of (P.parse b) k.table).members s
      ≡ W.members child o (P.parse b) m x.holder x.start x.length (no_bool end) j (drop j (Sc.table_of (P.parse b) k.table).members) v) (r : Walked) where
    no_bool_lem : end ≡ L.bit_byte (no_bool end)
    unfolding L.bit_byte
    no_bool_lem = refl

    pub row_ended : x.length ≤ end → r ≡ Ok v
        → r ≡ W.members child o (P.parse b) m x.holder x.start x.length L.begin 0 (Sc.table_of (P.parse b) k.table).members s
    row_ended h f = members_ended child o (P.parse b) m x.holder x.start x.length k.table s (no_bool end) j v inv end no_bool_lem (omega arith) h r f

    pub row_done : k.count ≤ j → r ≡ Ok v
        → r ≡ W.members child o (P.parse b) m x.holder x.start x.length L.begin 0 (Sc.table_of (P.parse b) k.table).members s
    row_done h f = members_done child o (P.parse b) m x.holder x.start x.length k.table s (no_bool end) j v inv k.count (row_count b k lt) h r f

  module _ (lt : RowTable b k) (end j : ℕ) (v : Spent)
      (inv : W.members child o (P.parse b) m x.holder x.start x.length L.begin 0 (Sc.table_of (P.parse b) k.table).members s
      ≡ W.members child o (P.parse b) m x.holder x.start x.length (no_bool end) j (drop j (Sc.table_of (P.parse b) k.table).members) v)
      (h : j < k.count) (at : ℕ) (ea : at ≡ P.record_place 4 k.first j) (g : Outcome)
      (eg : walked_of g ≡ W.follow child x.holder j (T.member_step o (P.parse b) m x.start x.length (no_bool end) (P.member_at b at)) v) where
    is_member : P.member_at b at ≡ Sc.member_of (P.parse b) k.table j
    is_member =
        let l : j < length (Sc.table_of (P.parse b) k.table).members = subst (λ (i : ℕ). j < i) (row_count b k lt) h in
        record-member b k.table j k.first lt.counted l lt.is at ea

    led : walked_of g ≡ W.follow child x.holder j (lead_of (T.member_step o (P.parse b) m x.start x.length (no_bool end) (Sc.member_of (P.parse b) k.table j))) v
    led =
        eg ∙ ap (λ (r : Member). W.follow child x.holder j (T.member_step o (P.parse b) m x.start x.length (no_bool end) r) v) is_member
        ∙ sym (lead_follows child x.holder j (T.member_step o (P.parse b) m x.start x.length (no_bool end) (Sc.member_of (P.parse b) k.table j)) v)

    pub row_stopped : (g.code ≡ 0 → ⊥)
        → walked_of g ≡ W.members child o (P.parse b) m x.holder x.start x.length L.begin 0 (Sc.table_of (P.parse b) k.table).members s
    row_stopped f =
        members_stopped child o (P.parse b) m x.holder x.start x.length k.table s (no_bool end) j v inv k.count (row_count b k lt) h
        (lead_of (T.member_step o (P.parse b) m x.start x.length (no_bool end) (Sc.member_of (P.parse b) k.table j))) refl g led f

    pub row_turn : g.code ≡ 0 → at ≡ k.first + 4 + 1 + 2 * j → (z : ℕ) → z ≡ get_or b at 0 → (y : ℕ) → y ≡ z → (w : ℕ) → w ≡ row_width o y → w < 256
        → W.members child o (P.parse b) m x.holder x.start x.length L.begin 0 (Sc.table_of (P.parse b) k.table).members s
        ≡ W.members child o (P.parse b) m x.holder x.start x.length (no_bool (end + w)) (j + 1) (drop (j + 1) (Sc.table_of (P.parse b) k.table).members) (left_of g)
    row_turn f e z ez y ey w ew lw =
        let lf : RowMember y = row_read b k lt j h at e z ez y ey in
        members_turn child o (P.parse b) m x.holder x.start x.length k.table s (no_bool end) j v inv k.count (row_count b k lt) h
        (lead_of (T.member_step o (P.parse b) m x.start x.length (no_bool end) (Sc.member_of (P.parse b) k.table j))) refl g led f (no_bool (end + w))
        (row_next o b at end z ez y ey lf w ew lw ∙ ap (λ (r : Member). L.after_member o (P.parse b) r (no_bool end)) is_member)

-- ---- a list of a row table
module _ (o : ℕ) (child : W.Child) (b m : List ℕ) (holder start : ℕ) (ob : Object) (n : ℕ) (s : Spent) (r : Walked) where
  pub row_list : (t : ℕ) → ob ≡ O.Table t → (k : ℕ) → k ≡ t → r ≡ W.elements child o (P.parse b) m holder start (OfObject (O.Table k)) n 0 s
      → r ≡ W.elements child o (P.parse b) m holder start (OfObject ob) n 0 s
  row_list t e k ek f = rw e (f ∙ ap (λ (i : ℕ). W.elements child o (P.parse b) m holder start (OfObject (O.Table i)) n 0 s) ek)

  -- no other object is one
  module _ (lf : RowObject b ob) where
    pub row_no-text : ob ≡ O.Text → r ≡ W.elements child o (P.parse b) m holder start (OfObject ob) n 0 s
    row_no-text e = absurd (subst (RowObject b) e lf)

    pub row_no_bytes : ob ≡ O.Bytes → r ≡ W.elements child o (P.parse b) m holder start (OfObject ob) n 0 s
    row_no_bytes e = absurd (subst (RowObject b) e lf)

    pub row_no_list : (i : ℕ) → ob ≡ O.List i → r ≡ W.elements child o (P.parse b) m holder start (OfObject ob) n 0 s
    row_no_list i e = absurd (subst (RowObject b) e lf)

    pub row_no-direct : (t : ℕ) → ob ≡ O.DirectList t → r ≡ W.elements child o (P.parse b) m holder start (OfObject ob) n 0 s
    row_no-direct t e = absurd (subst (RowObject b) e lf)

pub row_sound : (b : List ℕ) (ob : Object) (t : ℕ) → ob ≡ O.Table t → ObjectSound (P.parse b) ob → ObjectSound (P.parse b) (O.Table t)
row_sound b ob t e h = subst (ObjectSound (P.parse b)) e h

pub row_is : (b : List ℕ) (ob : Object) (t : ℕ) → ob ≡ O.Table t → RowObject b ob → RowObject b (O.Table t)
row_is b ob t e h = subst (RowObject b) e h
