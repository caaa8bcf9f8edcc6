-- Members that are objects by their offset, neither optional nor in place, by the first byte of their record.
use Rattle.std.specs.Prelude.{Ok}
use mathlib.Core.Path.{◌≡◌, refl, sym, ap, ◌∙◌, subst}
use mathlib.Core.Bool.{Bool, true, false}
use mathlib.Core.List.{List}
use Prim.Native.Nat.{ℕ, ◌+◌, ◌*◌, ◌/◌, ◌%◌, ◌<◌, ◌≤◌}
use native.Mathlib.Omega.{arith}
use lib.ListN.{length, get_or, drop}
use lib.Dec.{eqb}
use borrow.Author.Tests.{ne_eqb, le-leb, lt-leb}
use Rattle.coding.specs.Bytes.{le}
use Rattle.coding.specs.Schema as Sc
use Rattle.coding.specs.Schema.{Schema}
use Rattle.coding.specs.Packed as P
use Rattle.coding.specs.Layout as L
use Rattle.coding.specs.Step as T
use Rattle.coding.specs.Walk as W
use Rattle.coding.specs.Walk.{Walked}
use Rattle.coding.specs.declared.Object.{Object}
use Rattle.coding.specs.declared.Object.TheVariants as O
use Rattle.coding.specs.declared.Kind.{Kind}
use Rattle.coding.specs.declared.Kind.TheVariants.{OfObject}
use Rattle.coding.specs.declared.Member.{Member}
use Rattle.coding.specs.declared.Cursor.{Cursor}
use Rattle.coding.specs.declared.Step.{Step}
use Rattle.coding.specs.declared.Step.TheVariants as St
use Rattle.coding.specs.declared.Spent.{Spent}
use Rattle.laws.specs.Sound.{ObjectSound, MemberSound}
use Rattle.message_layout.specs.Bounds.{Laid}
use Rattle.schema.specs.Directory.{Accepted, Block}
use Rattle.message_step.specs.Lead.{lead_of}
use Rattle.outcome.specs.declared.Content.{Content}
use Rattle.outcome.specs.declared.Outcome.{Outcome}
use Rattle.outcome.specs.Answers.{walked_of, left_of, referred}
use Rattle.judge_text.specs.Texts.{is_text}
use Rattle.judge_text.proofs.ElementCases.{follow_offset}
use Rattle.judge_member.specs.Records.{Refers}
use Rattle.message_header.proofs.SizeCases.{element-object}
use Rattle.message_object.proofs.OpenCases.{member_sound-of}
use Rattle.judge_text.proofs.TextCases.{text_only}
use Rattle.schema.specs.Records.{record-member}
use Rattle.judge_rows.proofs.MemberCases.{lead_follows, members_stopped, members_turn}

abbrev reference-member : Object → Member
reference-member ob = record { kind = OfObject ob; optional = false; inplace = false }

reference_is : (b : List ℕ) (at : ℕ) → Refers (get_or b at 0) → P.member_at b at ≡ reference-member (P.object_at b at)
unfolding P.member_at P.optional_at P.inplace_at P.kind_at
reference_is b at p =
    let f = p.flags in
    let o : eqb (get_or b at 0 / 4 % 2) 1 ≡ false = ne_eqb (get_or b at 0 / 4 % 2) 1 (λ (z : get_or b at 0 / 4 % 2 ≡ 1). absurd (omega arith)) in
    let i : eqb (get_or b at 0 / 2 % 2) 1 ≡ false = ne_eqb (get_or b at 0 / 2 % 2) 1 (λ (z : get_or b at 0 / 2 % 2 ≡ 1). absurd (omega arith)) in
    let q : P.element_at b at ≡ OfObject (P.object_at b at) = element-object b at (get_or b at 0 / 8) refl p.low p.other (P.object_at b at) refl in
    ap (λ (k : Kind). record { kind = k; optional = eqb (get_or b at 0 / 4 % 2) 1; inplace = eqb (get_or b at 0 / 2 % 2) 1 }) q
    ∙ ap (λ (k : Bool). record { kind = OfObject (P.object_at b at); optional = k; inplace = eqb (get_or b at 0 / 2 % 2) 1 }) o
    ∙ ap (λ (k : Bool). record { kind = OfObject (P.object_at b at); optional = false; inplace = k }) i

reference_step : (o : ℕ) (S : Schema) (m : List ℕ) (start n : ℕ) (c : Cursor) (ob : Object)
    → T.member_step o S m start n c (reference-member ob)
    ≡ T.struct_tested S m (T.inside n (record { at = c.end; bit = 0; size = o }) St.Absent (T.object_step ob false 0 (le m (start + c.end) o)))
unfolding T.member_step T.placed_step L.placement_of L.member_slot L.slot_of L.after_flag L.has_flag L.is_bool L.width T.value_step T.object_step T.place_of
reference_step o S m start n c ob = refl

reference_next : (o : ℕ) (S : Schema) (c : Cursor) (ob : Object) → L.after_bytes o c ≡ L.after_member o S (reference-member ob) c
unfolding L.after_member L.after_value L.after_flag L.has_flag L.is_bool L.width
reference_next o S c ob = refl

-- ---- the ways out
module _ (o : ℕ) (child : W.Child) (b m : List ℕ) (at j : ℕ) (x : Content) (c : Cursor) (s : Spent) (p : Refers (get_or b at 0)) (r : Walked) where
  by_step : (q : Step)
      → T.struct_tested (P.parse b) m (T.inside x.length (record { at = c.end; bit = 0; size = o }) St.Absent (T.object_step (P.object_at b at) false 0 (le m (x.start + c.end) o))) ≡ q
      → r ≡ W.follow child x.holder j q s → r ≡ W.follow child x.holder j (T.member_step o (P.parse b) m x.start x.length c (P.member_at b at)) s
  by_step q f g =
      g ∙ ap (λ (k : Step). W.follow child x.holder j k s)
      (sym (ap (T.member_step o (P.parse b) m x.start x.length c) (reference_is b at p) ∙ reference_step o (P.parse b) m x.start x.length c (P.object_at b at) ∙ f))

  pub reference_past : x.length ≤ c.end → r ≡ Ok s
      → r ≡ W.follow child x.holder j (T.member_step o (P.parse b) m x.start x.length c (P.member_at b at)) s
  unfolding W.follow T.inside T.struct_tested
  reference_past h f = by_step St.Absent (simp (le-leb _ _ h)) f

  module _ (l : c.end < x.length) where
    pub reference-cut : x.length < c.end + o → r ≡ W.refuse_part 8 x.holder j s
        → r ≡ W.follow child x.holder j (T.member_step o (P.parse b) m x.start x.length c (P.member_at b at)) s
    unfolding W.follow T.inside T.struct_tested
    reference-cut h f = by_step (St.Refused 8) (simp (lt-leb _ _ l, lt-leb _ _ h)) f

    module _ (h : c.end + o ≤ x.length) (y : ℕ) (ey : y ≡ le m (x.start + c.end) o) (ob : Object) (eo : ob ≡ P.object_at b at) where
      pub reference_here : r ≡ referred child ob y s
          → r ≡ W.follow child x.holder j (T.member_step o (P.parse b) m x.start x.length c (P.member_at b at)) s
      unfolding T.inside
      reference_here f =
          by_step (T.struct_tested (P.parse b) m (T.object_step (P.object_at b at) false 0 (le m (x.start + c.end) o))) (simp (lt-leb _ _ l, le-leb _ _ h))
          (f ∙ ap (λ (q : ℕ). referred child ob q s) ey ∙ ap (λ (q : Object). referred child q (le m (x.start + c.end) o) s) eo
          ∙ follow_offset child (P.parse b) m x.holder j (P.object_at b at) (le m (x.start + c.end) o) s)

      pub reference-text : (t : Bool) → t ≡ is_text ob → t ≡ true → r ≡ referred child O.Text y s
          → r ≡ W.follow child x.holder j (T.member_step o (P.parse b) m x.start x.length c (P.member_at b at)) s
      reference-text t et e f = reference_here (f ∙ ap (λ (q : Object). referred child q y s) (sym (text_only ob t et e)))

-- ---- member j of a table
module _ (b : List ℕ) (t j : ℕ) (l : t < P.table_count b) (count : ℕ) (ec : count ≡ length (Sc.table_of (P.parse b) t).members) (h : j < count) (first : ℕ)
    (bl : Block b 4 (P.table_place b t) first) (at : ℕ) where
  counted : j < length (Sc.table_of (P.parse b) t).members
  counted = subst (λ (k : ℕ). j < k) ec h

  pub reference_sound : (dir : List ℕ) → Accepted b dir → at ≡ P.record_place 4 first j → Refers (get_or b at 0) → ObjectSound (P.parse b) (P.object_at b at)
  reference_sound dir a ea p =
      let e = record-member b t j first l counted bl.is at ea in
      (subst (λ (r : Member). MemberSound (P.parse b) r) (reference_is b at p) (member_sound-of b dir a t j (P.member_at b at) e counted)).kind

-- ---- the members of a table, from such a member j on
module _ (o : ℕ) (child : W.Child) (b m : List ℕ) (holder start n t : ℕ) (s : Spent) (c : Cursor) (j : ℕ) (v : Spent)
    (inv : W.members child o (P.parse b) m holder start n L.begin 0 (Sc.table_of (P.parse b) t).members s
    ≡ W.members child o (P.parse b) m holder start n c j (drop j (Sc.table_of (P.parse b) t).members) v) (count : ℕ)
    (ec : count ≡ length (Sc.table_of (P.parse b) t).members) (h : j < count) (l : t < P.table_count b) (first : ℕ) (bl : Block b 4 (P.table_place b t) first) (at : ℕ)
    (ea : at ≡ P.record_place 4 first j) (g : Outcome) (eg : walked_of g ≡ W.follow child holder j (T.member_step o (P.parse b) m start n c (P.member_at b at)) v) where
  is_member : P.member_at b at ≡ Sc.member_of (P.parse b) t j
  is_member = record-member b t j first l (subst (λ (k : ℕ). j < k) ec h) bl.is at ea

  led : walked_of g ≡ W.follow child holder j (lead_of (T.member_step o (P.parse b) m start n c (Sc.member_of (P.parse b) t j))) v
  led =
      eg ∙ ap (λ (r : Member). W.follow child holder j (T.member_step o (P.parse b) m start n c r) v) is_member
      ∙ sym (lead_follows child holder j (T.member_step o (P.parse b) m start n c (Sc.member_of (P.parse b) t j)) v)

  pub reference_stopped : (g.code ≡ 0 → ⊥) → walked_of g ≡ W.members child o (P.parse b) m holder start n L.begin 0 (Sc.table_of (P.parse b) t).members s
  reference_stopped f =
      members_stopped child o (P.parse b) m holder start n t s c j v inv count ec h
      (lead_of (T.member_step o (P.parse b) m start n c (Sc.member_of (P.parse b) t j))) refl g led f

  pub reference_turn : g.code ≡ 0 → Refers (get_or b at 0) → (next : Cursor) → next ≡ L.after_bytes o c
      → W.members child o (P.parse b) m holder start n L.begin 0 (Sc.table_of (P.parse b) t).members s
      ≡ W.members child o (P.parse b) m holder start n next (j + 1) (drop (j + 1) (Sc.table_of (P.parse b) t).members) (left_of g)
  reference_turn f p next en =
      members_turn child o (P.parse b) m holder start n t s c j v inv count ec h
      (lead_of (T.member_step o (P.parse b) m start n c (Sc.member_of (P.parse b) t j))) refl g led f next
      (en ∙ reference_next o (P.parse b) c (P.object_at b at) ∙ ap (λ (r : Member). L.after_member o (P.parse b) r c) (sym (reference_is b at p) ∙ is_member))

pub reference_laid : (o j : ℕ) (c next : Cursor) → o ≤ 6 → Laid (4097 * j) c → Laid (c.end + o) next → Laid (4097 * (j + 1)) next
reference_laid o j c next w p q =
    let x = p.end in
    let y = q.end in
    record { end = omega arith; byte = q.byte; bit = q.bit }

pub same_sound : (S : Schema) (ob ob' : Object) → ob ≡ ob' → ObjectSound S ob' → ObjectSound S ob
same_sound S ob ob' e h = subst (ObjectSound S) (sym e) h
