-- The ways out of the survey of simple members, one lemma for each.
use mathlib.Core.Path.{◌≡◌, refl, sym, ap, ◌∙◌, subst}
use mathlib.Core.Bool.{Bool, true, false, ◌&&◌, not}
use mathlib.Core.List.{List}
use Prim.Native.Nat.{ℕ, zero, suc, ◌+◌, ◌-◌, ◌*◌, ◌<◌, ◌≤◌}
use Rattle.std.specs.Prelude.{Option}
use native.Mathlib.Omega.{arith}
use native.Mathlib.Numerals.{add-one}
use lib.ListN.{length, drop}
use lib.Seq.{drop-cons}
use lib.Dec.{ltb, eqb}
use borrow.Author.Tests.{eq-eqb, ne_eqb, lt-ltb, le-ltb}
use Rattle.coding.specs.Lists.{pick}
use Rattle.coding.specs.Bits.{bits, pack}
use Rattle.coding.specs.Schema as Sc
use Rattle.coding.specs.Schema.{Schema}
use Rattle.coding.specs.Packed as P
use Rattle.coding.specs.Layout as L
use Rattle.coding.specs.Structs.{flat_width}
use Rattle.coding.specs.Sheet.{Parsed, fail, got, bind}
use Rattle.coding.specs.declared.Cursor.{Cursor}
use Rattle.coding.specs.declared.Slot.{Slot}
use Rattle.message_layout.specs.Bounds.{Laid, Stands}
use Rattle.coding.specs.declared.Flat.{Flat}
use Rattle.coding.specs.declared.Flat.TheVariants.{Boolean, Integer, Float, Enumerated, Struct}
use Rattle.coding.specs.declared.Object.TheVariants as O
use Rattle.coding.specs.declared.Kind.{Kind}
use Rattle.coding.specs.declared.Kind.TheVariants.{OfFlat, OfObject, OfUnion}
use Rattle.coding.specs.declared.Member.{Member}
use Rattle.laws.specs.Sound.{FlatSound, MemberSound}
use Rattle.laws.specs.RecordSound.{width_range}
use Rattle.write_measure.specs.Survey.{test_number, test_if, any_number, float_fine, below_count, survey_mark, survey_flat, survey_struct, survey_unknown, flat_may_lack, may_lack, plain, joined, referred, Surveyor, plain_of, survey_blob, survey_body, survey_part, survey_members, survey_content, survey}
use Rattle.write_measure.specs.Surveyed.{TestedAt, TestedIn, Small, Fits, SurveyedAt, SurveyedIn}
use Rattle.write_measure.specs.BlobReferred.{BlobEnd, blob_referred}
use Rattle.write_measure.specs.SimpleMembers.{flat_part, joined_part, LeftAt, WholeBytes, flat-part_is, members-joined}
use Rattle.write_measure.specs.Marks.{MarkedAt}
use Rattle.write_measure.specs.declared.Extent.{Extent}
use Rattle.write_measure.specs.declared.Tested.{Tested}
use Rattle.write_measure.specs.declared.Surveyed.{Surveyed}
use Rattle.write_measure.specs.declared.Left.{Left}
use Rattle.write_measure.specs.declared.Mark.TheVariants.{Present}
use Rattle.write_measure.specs.declared.Marked.{Marked}
use Rattle.write_measure.proofs.MarkCases.{bind_fails, surveyed_present}
use Rattle.write_measure.proofs.FlatCases.{integer_short, float_short}
use Rattle.write_measure.proofs.PartCases.{flat_boolean, flat_integer_lem, flat_float, flat-enum, flat-struct, struct-counted, kind-flat, refer-blob, body_object}
use Rattle.write_measure.proofs.ObjectCases.{members_done, members_fail, members_turn}

no_flag : (t : Bool) → (t && false) ≡ false
no_flag true = refl
no_flag false = refl

-- ---- what stands at a record, by its kind
module _ (b : List ℕ) (at k : ℕ) (ek : k ≡ P.kind_at b at) where
  boolean-at : k ≡ 0 → P.flat_at b at ≡ Boolean
  unfolding P.flat_at P.flat_of
  boolean-at e = simp (← ek, eq-eqb _ _ e)

  integer-at : (k ≡ 0 → ⊥) → k < 9 → P.flat_at b at ≡ Integer (not (ltb k 5)) (P.width_of k)
  unfolding P.flat_at P.flat_of
  integer-at h l = simp (← ek, ne_eqb _ _ h, lt-ltb _ _ l) (by (ltb k 5))
    where
      by : (t : Bool) → pick t (Integer false (P.width_of k)) (Integer true (P.width_of k)) ≡ Integer (not t) (P.width_of k)
      by true = refl
      by false = refl

  float_at : (k ≡ 0 → ⊥) → 9 ≤ k → k < 11 → P.flat_at b at ≡ Float (P.width_of k)
  unfolding P.flat_at P.flat_of
  float_at h g l = let m : 5 ≤ k = omega arith in simp (← ek, ne_eqb _ _ h, le-ltb _ _ m, le-ltb _ _ g, lt-ltb _ _ l)

  enum-at : k ≡ 11 → P.flat_at b at ≡ Enumerated (P.argument_at b at)
  unfolding P.flat_at P.flat_of
  enum-at e = simp (← ek, e)

  struct_at : (k ≡ 0 → ⊥) → 11 ≤ k → (k ≡ 11 → ⊥) → P.flat_at b at ≡ Struct (P.argument_at b at)
  unfolding P.flat_at P.flat_of
  struct_at h g l =
      let m : 5 ≤ k = omega arith in
      let n : 9 ≤ k = omega arith in
      simp (← ek, ne_eqb _ _ h, le-ltb _ _ m, le-ltb _ _ n, le-ltb _ _ g, ne_eqb _ _ l)

  pub lack-enum : k ≡ 11 → eqb k 11 ≡ flat_may_lack (P.optional_at b at) (P.flat_at b at)
  unfolding flat_may_lack
  lack-enum e = eq-eqb k 11 e ∙ sym (ap (flat_may_lack (P.optional_at b at)) (enum-at e))

  pub lack-other : (k ≡ 11 → ⊥) → (may : Bool) → may ≡ P.optional_at b at → may ≡ flat_may_lack (P.optional_at b at) (P.flat_at b at)
  unfolding P.flat_at P.flat_of flat_may_lack
  lack-other h may e = e ∙ simp (← ek, ne_eqb _ _ h) (by (eqb k 0) (ltb k 5) (ltb k 9) (ltb k 11))
    where
      by : (t u v w : Bool)
          → P.optional_at b at
          ≡ flat_may_lack (P.optional_at b at) (pick t Boolean (pick u (Integer false (P.width_of k)) (pick v (Integer true (P.width_of k)) (pick w (Float (P.width_of k)) (Struct (P.argument_at b at))))))
      by true u v w = refl
      by false true v w = refl
      by false false true w = refl
      by false false false true = refl
      by false false false false = refl

  -- what is there
  module _ (s : List ℕ) (pos : ℕ) (r : Option Tested) where
    pub body_boolean : k ≡ 0 → TestedIn s (test_number 1 any_number (drop pos (bits s))) r
        → TestedIn s (survey_flat (survey_struct (P.parse b)) (P.optional_at b at) (P.flat_at b at) (drop pos (bits s))) r
    body_boolean e t = flat_boolean (P.parse b) s (P.optional_at b at) (P.flat_at b at) pos r (boolean-at e) t

    module _ (h : k ≡ 0 → ⊥) where
      pub body_integer : k < 9 → (j : ℕ) → j ≡ P.width_of k → TestedIn s (test_number (8 * j) any_number (drop pos (bits s))) r
          → TestedIn s (survey_flat (survey_struct (P.parse b)) (P.optional_at b at) (P.flat_at b at) (drop pos (bits s))) r
      body_integer l j ej t = flat_integer_lem (P.parse b) s (P.optional_at b at) (P.flat_at b at) pos r (not (ltb k 5)) (P.width_of k) j (integer-at h l) ej t

      pub body_float : 9 ≤ k → k < 11 → (v : ℕ) → v ≡ P.width_of k → (may : Bool) → may ≡ P.optional_at b at
          → TestedIn s (test_number (8 * v) (float_fine may v) (drop pos (bits s))) r
          → TestedIn s (survey_flat (survey_struct (P.parse b)) (P.optional_at b at) (P.flat_at b at) (drop pos (bits s))) r
      body_float g l v ev may em t =
          flat_float (P.parse b) s (P.optional_at b at) (P.flat_at b at) pos r v (float_at h g l ∙ ap Float (sym ev))
          (subst (λ (q : Bool). TestedIn s (test_number (8 * v) (float_fine q v) (drop pos (bits s))) r) em t)

      module _ (n : ℕ) (en : n ≡ P.argument_at b at) where
        pub body-struct : 11 ≤ k → (k ≡ 11 → ⊥) → TestedIn s (survey_struct (P.parse b) n (drop pos (bits s))) r
            → TestedIn s (survey_flat (survey_struct (P.parse b)) (P.optional_at b at) (P.flat_at b at) (drop pos (bits s))) r
        body-struct g l t = flat-struct (P.parse b) s (P.optional_at b at) (P.flat_at b at) pos r (P.argument_at b at) n (struct_at h g l) en t

    pub body-enum : k ≡ 11 → (n : ℕ) → n ≡ P.argument_at b at → TestedIn s (test_if 8 (below_count n) true (drop pos (bits s))) r
        → TestedIn s (survey_flat (survey_struct (P.parse b)) (P.optional_at b at) (P.flat_at b at) (drop pos (bits s))) r
    body-enum e n en t = flat-enum (P.parse b) s (P.optional_at b at) (P.flat_at b at) pos r n (enum-at e ∙ ap Enumerated (sym en)) t

  -- bounds
  module _ (sound : FlatSound (length (P.parse b).structs) (P.flat_at b at)) (h : k ≡ 0 → ⊥) where
    pub integer_fits : k < 9 → (j : ℕ) → j ≡ P.width_of k → 8 * j ≤ 64
    integer_fits l j ej = integer_short (length (P.parse b).structs) (P.flat_at b at) (not (ltb k 5)) (P.width_of k) j (integer-at h l) ej sound

    pub float_fits : 9 ≤ k → k < 11 → (v : ℕ) → v ≡ P.width_of k → v ≤ 8
    float_fits g l v ev = float_short (length (P.parse b).structs) (P.flat_at b at) v (float_at h g l ∙ ap Float (sym ev)) sound

    pub struct_fits : 11 ≤ k → (k ≡ 11 → ⊥) → (n : ℕ) → n ≡ P.argument_at b at → n < P.struct_count b
    struct_fits g l n en = struct-counted b (P.flat_at b at) (P.argument_at b at) n (struct_at h g l) en sound

  -- the kinds
  flat_kind : k < 13 → P.element_at b at ≡ OfFlat (P.flat_at b at)
  unfolding P.element_at P.kind_of P.flat_at
  flat_kind l = simp (← ek, lt-ltb _ _ l)

  object_kind : 13 ≤ k → (k ≡ 17 → ⊥) → P.element_at b at ≡ OfObject (P.object_at b at)
  unfolding P.element_at P.kind_of P.object_at
  object_kind g l = simp (← ek, le-ltb _ _ g, ne_eqb _ _ l)

  union_kind : k ≡ 17 → P.element_at b at ≡ OfUnion (P.argument_at b at)
  unfolding P.element_at P.kind_of
  union_kind e = simp (← ek, e)

  -- the bytes that a member takes
  module _ (o : ℕ) (S : Schema) where
    member_bytes : (q : Kind) → P.element_at b at ≡ q → (P.optional_at b at && L.takes_flag q) ≡ false → L.is_bool q ≡ false → (w : ℕ) → L.width o S q ≡ w
        → WholeBytes o S (P.member_at b at) w
    unfolding P.member_at L.after_member L.after_value L.after_flag L.has_flag
    member_bytes q e f g w h =
        record {
          next = λ c.
              ap (λ (y : Kind). pick (L.is_bool y) (L.after_bit (pick (P.optional_at b at && L.takes_flag y) (L.after_bit c) c)) (L.after_bytes (L.width o S y) (pick (P.optional_at b at && L.takes_flag y) (L.after_bit c) c))) e
              ∙ ap (λ (u : Bool). pick (L.is_bool q) (L.after_bit (pick u (L.after_bit c) c)) (L.after_bytes (L.width o S q) (pick u (L.after_bit c) c))) f
              ∙ ap (λ (u : Bool). pick u (L.after_bit c) (L.after_bytes (L.width o S q) c)) g
              ∙ ap (λ (n : ℕ). L.after_bytes n c) h;
        }

    pub number_bytes : (k ≡ 0 → ⊥) → k < 9 → (may : Bool) → may ≡ P.optional_at b at → may ≡ false → (w : ℕ) → w ≡ P.width_of k → WholeBytes o S (P.member_at b at) w
    unfolding L.is_bool L.flat_is_bool L.width flat_width
    number_bytes h l may em f w ew =
        let m : k < 13 = omega arith in
        member_bytes (OfFlat (Integer (not (ltb k 5)) (P.width_of k))) (flat_kind m ∙ ap OfFlat (integer-at h l))
        (ap (λ (u : Bool). u && L.takes_flag (OfFlat (Integer (not (ltb k 5)) (P.width_of k)))) (sym em ∙ f)) refl w (sym ew)

    pub float_bytes : (k ≡ 0 → ⊥) → 9 ≤ k → k < 11 → (w : ℕ) → w ≡ P.width_of k → WholeBytes o S (P.member_at b at) w
    unfolding L.is_bool L.flat_is_bool L.width flat_width L.takes_flag L.flat_takes_flag
    float_bytes h g l w ew =
        let m : k < 13 = omega arith in
        member_bytes (OfFlat (Float (P.width_of k))) (flat_kind m ∙ ap OfFlat (float_at h g l)) (no_flag (P.optional_at b at)) refl w (sym ew)

    pub enum_bytes : k ≡ 11 → WholeBytes o S (P.member_at b at) 1
    unfolding L.is_bool L.flat_is_bool L.width flat_width L.takes_flag L.flat_takes_flag
    enum_bytes e =
        let m : k < 13 = omega arith in
        member_bytes (OfFlat (Enumerated (P.argument_at b at))) (flat_kind m ∙ ap OfFlat (enum-at e)) (no_flag (P.optional_at b at)) refl 1 refl

    pub object_bytes : 13 ≤ k → (k ≡ 17 → ⊥) → WholeBytes o S (P.member_at b at) o
    unfolding L.is_bool L.width L.takes_flag
    object_bytes g l = member_bytes (OfObject (P.object_at b at)) (object_kind g l) (no_flag (P.optional_at b at)) refl o refl

    pub union_bytes : k ≡ 17 → (w : ℕ) → w ≡ 2 + o → WholeBytes o S (P.member_at b at) w
    unfolding L.is_bool L.width L.takes_flag
    union_bytes g w ew = member_bytes (OfUnion (P.argument_at b at)) (union_kind g) (no_flag (P.optional_at b at)) refl w (sym ew)

  blob_kind : 13 ≤ k → k < 15 → BlobEnd (P.object_at b at) (14 - k)
  unfolding P.object_at P.object_of
  blob_kind g l =
      record {
        bytes = λ e. let z : k ≡ 14 = omega arith in let y : (k ≡ 13 → ⊥) = λ q. absurd (omega arith) in simp (← ek, ne_eqb _ _ y, eq-eqb _ _ z);
        text = λ e. let z : k ≡ 13 = omega arith in simp (← ek, eq-eqb _ _ z);
      }

  pub flat_sound : k < 13 → MemberSound (P.parse b) (P.member_at b at) → FlatSound (length (P.parse b).structs) (P.flat_at b at)
  unfolding P.member_at
  flat_sound l m = kind-flat (P.parse b) (P.element_at b at) (P.flat_at b at) (flat_kind l) m.kind

  -- ---- a member, with what stands before it
  module _ (o : ℕ) (child : Surveyor) (s : List ℕ) (a : Extent) (pos : ℕ) where
    abbrev join : Extent → List ℕ → Parsed Extent
    join x ys = got (joined a x) ys

    flat_opened : k < 13 → joined_part child o (P.parse b) (P.member_at b at) a (drop pos (bits s))
        ≡ bind (plain_of (flat_part (survey_struct (P.parse b)) (P.optional_at b at) (P.flat_at b at) (drop pos (bits s)))) join
    unfolding joined_part P.member_at
    flat_opened l =
        ap (λ (q : Kind). bind (survey_part child o (P.parse b) q (P.optional_at b at) (P.inplace_at b at) (drop pos (bits s))) join) (flat_kind l)
        ∙ ap (λ p. bind p join) (flat-part_is child o (P.parse b) (P.flat_at b at) (P.optional_at b at) (P.inplace_at b at) (drop pos (bits s)))

    pub simple_flat_fails : k < 13 → flat_part (survey_struct (P.parse b)) (P.optional_at b at) (P.flat_at b at) (drop pos (bits s)) ≡ fail
        → joined_part child o (P.parse b) (P.member_at b at) a (drop pos (bits s)) ≡ fail
    unfolding plain_of bind
    simple_flat_fails l h = flat_opened l ∙ ap (λ p. bind (plain_of p) join) h

    pub simple_flat : k < 13 → (t : Tested) → TestedAt s (flat_part (survey_struct (P.parse b)) (P.optional_at b at) (P.flat_at b at) (drop pos (bits s))) t
        → (e : Extent) → Fits (joined a (plain t.fine)) e → SurveyedAt s (joined_part child o (P.parse b) (P.member_at b at) a (drop pos (bits s))) (record { extent = e; next = t.next })
    unfolding plain_of bind
    simple_flat l t h e f =
        record {
          is = flat_opened l ∙ ap (λ p. bind (plain_of p) join) h.is ∙ ap (λ (y : Extent). got y (drop t.next (bits s))) (sym f.is);
          inside = h.inside;
          small = f.small;
        }

    text_opened : 13 ≤ k → P.kind_at b at < 15 → joined_part child o (P.parse b) (P.member_at b at) a (drop pos (bits s))
        ≡ bind (survey_part child o (P.parse b) (OfObject (P.object_at b at)) false (P.inplace_at b at) (drop pos (bits s))) join
    unfolding joined_part P.member_at
    text_opened g l =
        let m : (k ≡ 17 → ⊥) = λ q. absurd (omega arith) in
        ap (λ (q : Kind). bind (survey_part child o (P.parse b) q (P.optional_at b at) (P.inplace_at b at) (drop pos (bits s))) join) (object_kind g m)
        ∙ ap (λ p. bind p join) (same (P.optional_at b at))
      where
        same : (may : Bool) → survey_part child o (P.parse b) (OfObject (P.object_at b at)) may (P.inplace_at b at) (drop pos (bits s))
            ≡ survey_part child o (P.parse b) (OfObject (P.object_at b at)) false (P.inplace_at b at) (drop pos (bits s))
        same may = unfold survey_part survey_mark survey_body may_lack in refl

    pub simple_blob_fails : 13 ≤ k → P.kind_at b at < 15
        → survey_part child o (P.parse b) (OfObject (P.object_at b at)) false (P.inplace_at b at) (drop pos (bits s)) ≡ fail
        → joined_part child o (P.parse b) (P.member_at b at) a (drop pos (bits s)) ≡ fail
    simple_blob_fails g l h = text_opened g l ∙ bind_fails (survey_part child o (P.parse b) (OfObject (P.object_at b at)) false (P.inplace_at b at) (drop pos (bits s))) join h

    pub simple_blob : 13 ≤ k → P.kind_at b at < 15 → (x : Surveyed)
        → SurveyedAt s (survey_part child o (P.parse b) (OfObject (P.object_at b at)) false (P.inplace_at b at) (drop pos (bits s))) x
        → (e : Extent) → Fits (joined a x.extent) e → SurveyedAt s (joined_part child o (P.parse b) (P.member_at b at) a (drop pos (bits s))) (record { extent = e; next = x.next })
    unfolding bind
    simple_blob g l x h e f =
        record {
          is = text_opened g l ∙ ap (λ p. bind p join) h.is ∙ ap (λ (y : Extent). got y (drop x.next (bits s))) (sym f.is);
          inside = h.inside;
          small = f.small;
        }

  -- a text or bytes that is present behind its mark
  pub marked_blob : (o : ℕ) → 13 ≤ P.kind_at b at → P.kind_at b at < 15 → (d : ℕ) (s : List ℕ) (pos : ℕ) (m : Marked) → MarkedAt s pos m → m.mark ≡ Present
      → (i : Bool) → i ≡ P.inplace_at b at → (r : Option Surveyed) → SurveyedIn s (blob_referred d o i false (14 - k) (drop m.next (bits s))) r
      → SurveyedIn s (survey_part (survey d o (P.parse b)) o (P.parse b) (OfObject (P.object_at b at)) false (P.inplace_at b at) (drop pos (bits s))) r
  unfolding survey_part
  marked_blob o g l d s pos m h e i ei r q =
      let u : 13 ≤ k = omega arith in
      let v : k < 15 = omega arith in
      let w : 14 - k < 2 = omega arith in
      surveyed_present s pos m h (plain (may_lack false (OfObject (P.object_at b at)))) (survey_unknown (P.parse b) (OfObject (P.object_at b at)))
      (survey_body (survey d o (P.parse b)) o (P.parse b) (OfObject (P.object_at b at)) false (P.inplace_at b at)) e r
      (body_object o (survey d o (P.parse b)) (P.parse b) s (OfObject (P.object_at b at)) false (P.inplace_at b at) m.next r (P.object_at b at) refl
      (refer-blob o d (P.parse b) s (P.inplace_at b at) false (P.object_at b at) m.next (14 - k) (blob_kind u v) w r
      (subst (λ (y : Bool). SurveyedIn s (blob_referred d o y false (14 - k) (drop m.next (bits s))) r) ei q)))

-- ---- the record of a simple member
pub simple-member-counted : (b : List ℕ) (r k : ℕ) → k ≡ P.kind_at b r → k < 15 → P.kind_at b r < 15
simple-member-counted b r k e l = omega arith

-- ---- the members from j on
module _ (o : ℕ) (child : Surveyor) (S : Schema) (t : ℕ) (s : List ℕ) (p : Parsed Extent) (a : Extent) (pos j : ℕ)
    (inv : p ≡ survey_members child o S (drop j (Sc.table_of S t).members) a (drop pos (bits s))) (count : ℕ) (ec : count ≡ length (Sc.table_of S t).members) where
  pub left_here : j < count → (from : ℕ) → from ≤ j → pos ≤ 8 * length s → Small a → LeftAt child o S (Sc.table_of S t).members s from p (record { extent = a; next = pos; index = j })
  left_here h from g l sm = record { is = inv; on = g; few = omega arith; inside = l; small = sm }

  pub left_ended : count ≤ j → (from : ℕ) → (from ≤ count → j ≤ count) → from ≤ length (Sc.table_of S t).members → pos ≤ 8 * length s → Small a
      → LeftAt child o S (Sc.table_of S t).members s from p (record { extent = a; next = pos; index = count })
  left_ended h from f g l sm =
      let m : from ≤ count = omega arith in
      let n = f m in
      let e : j ≡ count = omega arith in
      record {
        is = inv ∙ ap (λ (i : ℕ). survey_members child o S (drop i (Sc.table_of S t).members) a (drop pos (bits s))) e;
        on = m;
        few = omega arith;
        inside = l;
        small = sm;
      }

  module _ (h : j < count) (m : Member) (em : m ≡ Sc.member_of S t j) where
    abbrev rest : Extent → List ℕ → Parsed Extent
    rest e ys = survey_members child o S (drop (suc j) (Sc.table_of S t).members) e ys

    opened : p ≡ bind (joined_part child o S m a (drop pos (bits s))) rest
    unfolding Sc.member_of
    opened =
        let l : j < length (Sc.table_of S t).members = omega arith in
        inv ∙ ap (λ (ms : List Member). survey_members child o S ms a (drop pos (bits s))) (drop-cons (Sc.table_of S t).members j Sc.plain_bool l)
        ∙ members-joined child o S (Sc.member_of S t j) (drop (suc j) (Sc.table_of S t).members) a (drop pos (bits s))
        ∙ ap (λ (r : Member). bind (joined_part child o S r a (drop pos (bits s))) rest) (sym em)

    pub left_fails : joined_part child o S m a (drop pos (bits s)) ≡ fail → p ≡ fail
    left_fails e = opened ∙ bind_fails (joined_part child o S m a (drop pos (bits s))) rest e

    pub left_turn : (x : Surveyed) → SurveyedAt s (joined_part child o S m a (drop pos (bits s))) x
        → p ≡ survey_members child o S (drop (j + 1) (Sc.table_of S t).members) x.extent (drop x.next (bits s))
    unfolding bind
    left_turn x q =
        opened ∙ ap (λ r. bind r rest) q.is
        ∙ ap (λ (n : ℕ). survey_members child o S (drop n (Sc.table_of S t).members) x.extent (drop x.next (bits s))) (sym (add-one j))

pub members_few : (S : Schema) (t j count : ℕ) → count ≡ length (Sc.table_of S t).members → j ≤ count → j ≤ length (Sc.table_of S t).members
members_few S t j count e h = omega arith

-- ---- a table's content, once its members are gone over up to one that is not simple
module _ (o : ℕ) (child : Surveyor) (S : Schema) (s : List ℕ) (t at : ℕ) (a : Extent) (pos j : ℕ)
    (inv : survey_content child o S (O.Table t) (drop at (bits s)) ≡ survey_members child o S (drop j (Sc.table_of S t).members) a (drop pos (bits s))) where
  pub table_fails : survey_members child o S (drop j (Sc.table_of S t).members) a (drop pos (bits s)) ≡ fail → survey_content child o S (O.Table t) (drop at (bits s)) ≡ fail
  table_fails e = inv ∙ e

  module _ (g : Left) (left : LeftAt child o S (Sc.table_of S t).members s j (survey_members child o S (drop j (Sc.table_of S t).members) a (drop pos (bits s))) g)
      (count : ℕ) (ec : count ≡ length (Sc.table_of S t).members) where
    pub table_ended : count ≤ g.index → SurveyedAt s (survey_content child o S (O.Table t) (drop at (bits s))) (record { extent = g.extent; next = g.next })
    table_ended l = members_done o child S s t at g.extent g.next g.index (inv ∙ left.is) count ec l left.inside left.small

    module _ (l : g.index < count) (r : Member) (er : r ≡ Sc.member_of S t g.index) where
      pub table_stops : survey_part child o S r.kind r.optional r.inplace (drop g.next (bits s)) ≡ fail → survey_content child o S (O.Table t) (drop at (bits s)) ≡ fail
      table_stops = members_fail o child S s t at g.extent g.next g.index (inv ∙ left.is) count ec l r er

      pub table_turn : (x : Surveyed) → SurveyedAt s (survey_part child o S r.kind r.optional r.inplace (drop g.next (bits s))) x → (e : Extent) → Fits (joined g.extent x.extent) e
          → survey_content child o S (O.Table t) (drop at (bits s)) ≡ survey_members child o S (drop (g.index + 1) (Sc.table_of S t).members) e (drop x.next (bits s))
      table_turn = members_turn o child S s t at g.extent g.next g.index (inv ∙ left.is) count ec l r er

-- ---- a struct by its number
pub struct_index-same : (b : List ℕ) (n i : ℕ) → i ≡ n → n < P.struct_count b → i < P.struct_count b
struct_index-same b n i e h = rw e h

pub struct-same : (S : Schema) (s : List ℕ) (pos n i : ℕ) → i ≡ n → (r : Option Tested) → TestedIn s (survey_struct S i (drop pos (bits s))) r
    → TestedIn s (survey_struct S n (drop pos (bits s))) r
struct-same S s pos n i e r t = subst (λ (a : ℕ). TestedIn s (survey_struct S a (drop pos (bits s))) r) e t

-- ---- the cursor behind a member
module _ (o : ℕ) (S : Schema) (t j : ℕ) (c : Cursor) where
  pub behind_bytes : (m : Member) → m ≡ Sc.member_of S t j → (w : ℕ) → WholeBytes o S m w → (r : Cursor) → r ≡ L.after_bytes w c
      → r ≡ L.after_member o S (Sc.member_of S t j) c
  behind_bytes m em w f r er = er ∙ sym (f.next c) ∙ ap (λ (q : Member). L.after_member o S q c) em

  pub behind-placed : (r : Member) → r ≡ Sc.member_of S t j → (e : ℕ) (slot : Slot) (next : Cursor)
      → Stands (L.member_slot o S r c) (L.after_member o S r c) e slot next → next ≡ L.after_member o S (Sc.member_of S t j) c
  behind-placed r er e slot next st = st.next_is ∙ ap (λ (q : Member). L.after_member o S q c) er

pub behind_laid : (j : ℕ) (c : Cursor) (w : ℕ) → w < 256 → Laid (4097 * j) c → (r : Cursor) → Laid (c.end + w) r → Laid (4097 * (j + 1)) r
behind_laid j c w h l r q =
    let p = l.end in
    let e = q.end in
    record { end = omega arith; byte = q.byte; bit = q.bit }

-- ---- the bytes of an integer or a float
module _ (k w r : ℕ) (er : r ≡ w) (ew : w ≡ P.width_of k) where
  pub width-found : r ≡ P.width_of k
  width-found = er ∙ ew

  pub width_small : k < 11 → r ≤ 8
  width_small h = let l = (width_range k h).1 in rw (er, ew) l
