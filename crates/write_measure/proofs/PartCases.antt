-- The ways out of the survey of members and elements, one lemma for each.
use mathlib.Core.Path.{◌≡◌, refl, sym, ap, ◌∙◌, subst}
use mathlib.Core.Bool.{Bool, true, false, ◌&&◌, not, false≢true}
use mathlib.Core.List.{List}
use Prim.Native.Nat.{ℕ, zero, suc, ◌+◌, ◌-◌, ◌*◌, ◌<◌, ◌≤◌}
use Rattle.std.specs.Prelude.{Option, None, Some, MatchOption, IsSomeAnd}
use native.Mathlib.Omega.{arith}
use native.Mathlib.Nat.{mul_comm}
use lib.ListN.{length, drop, length-drop}
use lib.Seq.{drop-drop}
use lib.Dec.{ltb, leb, eqb}
use borrow.Author.Tests.{le-leb, lt-leb, leb-true}
use Rattle.coding.specs.Lists.{pick}
use Rattle.coding.specs.Bits.{bits, pack}
use Rattle.coding.specs.Schema as Sc
use Rattle.coding.specs.Schema.{Schema}
use Rattle.coding.specs.Packed as P
use Rattle.coding.specs.Sheet.{Parsed, fail, got, bind, unknown_enum, take_bytes}
use Rattle.coding.specs.declared.Flat.{Flat}
use Rattle.coding.specs.declared.Flat.TheVariants.{Boolean, Integer, Float, Enumerated, Struct}
use Rattle.coding.specs.declared.Object.{Object}
use Rattle.coding.specs.declared.Object.TheVariants as O
use Rattle.coding.specs.declared.Kind.{Kind}
use Rattle.coding.specs.declared.Kind.TheVariants.{OfFlat, OfObject, OfUnion}
use Rattle.laws.specs.Sound.{FlatSound, ObjectSound, KindSound}
use Rattle.laws.specs.SoundAt.{case_sound-at, struct_index, union_index}
use Rattle.schema.specs.Directory.{Accepted, accepted_sound}
use Rattle.bitio.specs.Taken.{NumberAt, BytesAt}
use Rattle.bitio.specs.declared.Number.{Number}
use Rattle.write_measure.specs.Survey.{test_number, test_if, any_number, float_fine, below_count, above_count, survey_mark, survey_flat, survey_struct, survey_unknown_flat, plain, blob_opened, referred, Surveyor, plain_of, survey_object, survey_choice, survey_body, survey_unknown, may_lack, survey_part, survey_blob, survey}
use Rattle.laws.specs.Bits.{bits-length}
use Rattle.write_measure.specs.UnmarkedElements.{unmarked_bits, flat_unmarked_bits, passed}
use Rattle.write_measure.specs.BlobReferred.{BlobEnd, blob_referred, blob_is}
use Rattle.write_measure.specs.Surveyed.{TestedAt, TestedIn, Small, Fits, SurveyedAt, SurveyedIn}
use Rattle.write_measure.specs.declared.Extent.{Extent}
use Rattle.write_measure.specs.declared.Tested.{Tested}
use Rattle.write_measure.specs.declared.Surveyed.{Surveyed}
use Rattle.write_measure.proofs.MarkCases.{bind_fails, surveyed_absent}
use Rattle.write_measure.specs.Marks.{MarkedAt}
use Rattle.write_measure.specs.declared.Mark.TheVariants.{Absent}
use Rattle.write_measure.specs.declared.Marked.{Marked}

-- ---- what leads to no object
module _ (S : Schema) (s : List ℕ) (optional : Bool) (k : Flat) (pos : ℕ) (r : Option Tested) where
  pub flat_boolean : k ≡ Boolean → TestedIn s (test_number 1 any_number (drop pos (bits s))) r
      → TestedIn s (survey_flat (survey_struct S) optional k (drop pos (bits s))) r
  unfolding survey_flat
  flat_boolean e t = rw e t

  pub flat_integer_lem : (g : Bool) (w j : ℕ) → k ≡ Integer g w → j ≡ w → TestedIn s (test_number (8 * j) any_number (drop pos (bits s))) r
      → TestedIn s (survey_flat (survey_struct S) optional k (drop pos (bits s))) r
  unfolding survey_flat
  flat_integer_lem g w j e ej t = rw (e, ← ej) t

  pub flat_float : (w : ℕ) → k ≡ Float w → TestedIn s (test_number (8 * w) (float_fine optional w) (drop pos (bits s))) r
      → TestedIn s (survey_flat (survey_struct S) optional k (drop pos (bits s))) r
  unfolding survey_flat
  flat_float w e t = rw e t

  pub flat-enum : (n : ℕ) → k ≡ Enumerated n → TestedIn s (test_if 8 (below_count n) true (drop pos (bits s))) r
      → TestedIn s (survey_flat (survey_struct S) optional k (drop pos (bits s))) r
  unfolding survey_flat
  flat-enum n e t = rw e t

  pub flat-struct : (i j : ℕ) → k ≡ Struct i → j ≡ i → TestedIn s (survey_struct S j (drop pos (bits s))) r
      → TestedIn s (survey_flat (survey_struct S) optional k (drop pos (bits s))) r
  unfolding survey_flat
  flat-struct i j e ej t = rw (e, ← ej) t

pub struct-counted : (b : List ℕ) (k : Flat) (i j : ℕ) → k ≡ Struct i → j ≡ i → FlatSound (length (P.parse b).structs) k → j < P.struct_count b
struct-counted b k i j e ej h = rw ej (struct_index b i (subst (FlatSound (length (P.parse b).structs)) e h))

module _ (s : List ℕ) (k : Flat) (pos : ℕ) where
  pub unknown_known : (n : ℕ) → k ≡ Enumerated n → (r : Option Tested) → TestedIn s (test_if 8 (unknown_enum n) false (drop pos (bits s))) r
      → TestedIn s (survey_unknown_flat k (drop pos (bits s))) r
  unfolding survey_unknown_flat
  unknown_known n e r t = rw e t

  pub unknown_other : ((n : ℕ) → k ≡ Enumerated n → ⊥) → survey_unknown_flat k (drop pos (bits s)) ≡ fail
  unfolding survey_unknown_flat
  unknown_other h = by k h
    where
      by : (q : Flat) → ((n : ℕ) → q ≡ Enumerated n → ⊥) → survey_unknown_flat q (drop pos (bits s)) ≡ fail
      by Boolean g = refl
      by (Integer v w) g = refl
      by (Float w) g = refl
      by (Enumerated n) g = absurd (g n refl)
      by (Struct i) g = refl

-- ---- extents of what was tested
-- r is the answer of the test p, and x that answer as a part of an object
plain_surveyed : (s : List ℕ) (p : Parsed Bool) (r : Option Tested) → TestedIn s p r → (x : Option Surveyed)
    → MatchOption r (x ≡ None) (λ t. IsSomeAnd x (λ y. (y.next ≡ t.next) × Fits (plain t.fine) y.extent)) → SurveyedIn s (plain_of p) x
unfolding plain_of bind
plain_surveyed s p None h x e = rw e (ap (λ q. bind q (λ t ys. got (plain t) ys)) h)
plain_surveyed s p (Some t) h None e = absurd e
plain_surveyed s p (Some t) h (Some x) e = record { is = rw h.is (rw (e.0, e.1.is)); inside = rw e.0 h.inside; small = e.1.small }

module _ (S : Schema) (s : List ℕ) (k : Kind) (pos : ℕ) where
  module _ (r : Option Tested) (x : Option Surveyed) (e : MatchOption r (x ≡ None) (λ t. IsSomeAnd x (λ y. (y.next ≡ t.next) × Fits (plain t.fine) y.extent))) where
    pub unknown_flat : (f : Flat) → k ≡ OfFlat f → TestedIn s (survey_unknown_flat f (drop pos (bits s))) r → SurveyedIn s (survey_unknown S k (drop pos (bits s))) x
    unfolding survey_unknown
    unknown_flat f q h = rw q (plain_surveyed s (survey_unknown_flat f (drop pos (bits s))) r h x e)

    pub unknown_union : (u j : ℕ) → k ≡ OfUnion u → j ≡ u → TestedIn s (test_if 16 (above_count (length (Sc.cases_of S j))) false (drop pos (bits s))) r
        → SurveyedIn s (survey_unknown S k (drop pos (bits s))) x
    unfolding survey_unknown
    unknown_union u j q ej h = rw (q, ← ej) (plain_surveyed s (test_if 16 (above_count (length (Sc.cases_of S j))) false (drop pos (bits s))) r h x e)

  pub unknown_object : (ob : Object) → k ≡ OfObject ob → survey_unknown S k (drop pos (bits s)) ≡ fail
  unfolding survey_unknown
  unknown_object ob q = rw q

pub union-counted : (b : List ℕ) (k : Kind) (u j : ℕ) → k ≡ OfUnion u → j ≡ u → KindSound (P.parse b) k → j < P.union_count b
union-counted b k u j e ej h = rw ej (union_index b u (subst (KindSound (P.parse b)) e h))

pub kind-flat : (S : Schema) (k : Kind) (f : Flat) → k ≡ OfFlat f → KindSound S k → FlatSound (length S.structs) f
kind-flat S k f e h = subst (KindSound S) e h

pub kind-object : (S : Schema) (k : Kind) (ob : Object) → k ≡ OfObject ob → KindSound S k → ObjectSound S ob
kind-object S k ob e h = subst (KindSound S) e h

-- ---- a text or bytes
module _ (s : List ℕ) (pos more : ℕ) (x : Number) (taken : NumberAt s pos 32 x) where
  pub blob_short : take_bytes x.value (drop x.next (bits s)) ≡ fail → survey_blob more (drop pos (bits s)) ≡ fail
  unfolding survey_blob bind
  blob_short h = rw (taken.number, h)

  pub blob_there : (next : ℕ) → BytesAt s x.next x.value next → (e : Extent) → Fits (blob_opened more x.value (pack x.value (drop x.next (bits s)))) e
      → SurveyedAt s (survey_blob more (drop pos (bits s))) (record { extent = e; next = next })
  unfolding survey_blob bind
  blob_there next t e f = record { is = rw (taken.number, t.bytes) (rw f.is); inside = t.inside; small = f.small }

-- bytes that were taken behind a number stand in the sheet
pub bytes_inside : (s : List ℕ) (from w : ℕ) (x : Number) → NumberAt s from w x → (n next : ℕ) → BytesAt s x.next n next → x.next + 8 * n ≤ 8 * length s
unfolding take_bytes
bytes_inside s from w x k n next t =
    let i = k.inside in
    let e : length (drop x.next (bits s)) ≡ length (bits s) - x.next = length-drop x.next (bits s) in
    let f : length (bits s) ≡ 8 * length s = bits-length s in
    let r : 8 * n ≤ length (drop x.next (bits s)) = room (leb (8 * n) (length (drop x.next (bits s)))) refl t.bytes in
    omega (arith, e, f, r, i)
  where
    whole_bytes : Parsed (List ℕ) → Bool
    whole_bytes fail = false
    whole_bytes (got a xs) = true

    room : (u : Bool) → leb (8 * n) (length (drop x.next (bits s))) ≡ u
        → pick u (got (pack n (drop x.next (bits s))) (drop (8 * n) (drop x.next (bits s)))) fail ≡ got (pack n (drop x.next (bits s))) (drop next (bits s))
        → 8 * n ≤ length (drop x.next (bits s))
    room true e q = leb-true _ _ e
    room false e q = absurd (false≢true (ap whole_bytes q))

-- ---- an object, and a union
pub refer_surveyed : (o : ℕ) (child : Surveyor) (s : List ℕ) (inplace union : Bool) (ob : Object) (pos : ℕ) (x : Surveyed) → SurveyedAt s (child ob (drop pos (bits s))) x
    → (e : Extent) → Fits (referred o inplace union x.extent) e → SurveyedAt s (survey_object child o inplace union ob (drop pos (bits s))) (record { extent = e; next = x.next })
unfolding survey_object bind
refer_surveyed o child s inplace union ob pos x t e f = record { is = rw t.is (rw f.is); inside = t.inside; small = f.small }

-- a text or bytes
pub end_text : (ob : Object) → ob ≡ O.Text → BlobEnd ob 1
end_text ob e = record { bytes = λ h. absurd (let z : ⊥ = omega arith in z); text = λ h. e }

pub end_bytes : (ob : Object) → ob ≡ O.Bytes → BlobEnd ob 0
end_bytes ob e = record { bytes = λ h. e; text = λ h. absurd (let z : ⊥ = omega arith in z) }

module _ (o : ℕ) (s : List ℕ) (d more : ℕ) (inplace union : Bool) (pos : ℕ) where
  pub blob_deep : d ≡ 0 → blob_referred d o inplace union more (drop pos (bits s)) ≡ fail
  unfolding blob_referred
  blob_deep z = rw z

  module _ (h : d ≡ 0 → ⊥) where
    begun : blob_referred d o inplace union more (drop pos (bits s)) ≡ bind (survey_blob more (drop pos (bits s))) (λ y ys. got (referred o inplace union y) ys)
    unfolding blob_referred
    begun = by d h
      where
        by : (k : ℕ) → (k ≡ 0 → ⊥) → blob_referred k o inplace union more (drop pos (bits s)) ≡ bind (survey_blob more (drop pos (bits s))) (λ y ys. got (referred o inplace union y) ys)
        by zero g = absurd (g refl)
        by (suc k) g = refl

    pub blob_fails : survey_blob more (drop pos (bits s)) ≡ fail → blob_referred d o inplace union more (drop pos (bits s)) ≡ fail
    blob_fails e = begun ∙ bind_fails (survey_blob more (drop pos (bits s))) _ e

    pub blob_surveyed : (x : Surveyed) → SurveyedAt s (survey_blob more (drop pos (bits s))) x → (e : Extent) → Fits (referred o inplace union x.extent) e
        → SurveyedAt s (blob_referred d o inplace union more (drop pos (bits s))) (record { extent = e; next = x.next })
    unfolding bind
    blob_surveyed x t e f = record { is = begun ∙ rw t.is (rw f.is); inside = t.inside; small = f.small }

pub refer-blob : (o : ℕ) (d : ℕ) (S : Schema) (s : List ℕ) (inplace union : Bool) (ob : Object) (pos more : ℕ) → BlobEnd ob more → more < 2 → (r : Option Surveyed)
    → SurveyedIn s (blob_referred d o inplace union more (drop pos (bits s))) r
    → SurveyedIn s (survey_object (survey d o S) o inplace union ob (drop pos (bits s))) r
refer-blob o d S s inplace union ob pos more b h r q =
    subst (λ (p : Parsed Extent). SurveyedIn s p r) (sym (blob_is o S inplace union (drop pos (bits s)) d ob more b h)) q

module _ (o : ℕ) (child : Surveyor) (S : Schema) (s : List ℕ) (inplace : Bool) (u pos : ℕ) (x : Number) (taken : NumberAt s pos 16 x) where
  pub choice-zero : x.value ≡ 0 → survey_choice child o inplace (Sc.cases_of S u) (drop pos (bits s)) ≡ fail
  unfolding survey_choice bind
  choice-zero z = rw (taken.number, z)

  module _ (h0 : x.value ≡ 0 → ⊥) (c : ℕ) (ec : c ≡ length (Sc.cases_of S u)) where
    one : 1 ≤ x.value
    one = omega (arith, h0)

    pub choice_above : c < x.value → survey_choice child o inplace (Sc.cases_of S u) (drop pos (bits s)) ≡ fail
    unfolding survey_choice bind
    choice_above g =
        let lt : length (Sc.cases_of S u) < x.value = omega arith in
        rw taken.number (simp (le-leb 1 x.value one, lt-leb x.value (length (Sc.cases_of S u)) lt))

    pub choice-known : x.value ≤ c → (ob : Object) → ob ≡ Sc.case_of (Sc.cases_of S u) x.value → (r : Option Surveyed)
        → SurveyedIn s (survey_object child o inplace true ob (drop x.next (bits s))) r
        → SurveyedIn s (survey_choice child o inplace (Sc.cases_of S u) (drop pos (bits s))) r
    choice-known g ob eo r t =
        let le : x.value ≤ length (Sc.cases_of S u) = omega arith in
        subst (λ (p : Parsed Extent). SurveyedIn s p r) (sym (is le)) t
      where
        is : x.value ≤ length (Sc.cases_of S u)
            → survey_choice child o inplace (Sc.cases_of S u) (drop pos (bits s)) ≡ survey_object child o inplace true ob (drop x.next (bits s))
        is le = unfold survey_choice bind in
            rw taken.number (simp (le-leb 1 x.value one, le-leb x.value (length (Sc.cases_of S u)) le)
            (ap (λ (q : Object). survey_object child o inplace true q (drop x.next (bits s))) (sym eo)))

pub case_sound : (b dir : List ℕ) → Accepted b dir → (u x c : ℕ) → (x ≡ 0 → ⊥) → c ≡ length (Sc.cases_of (P.parse b) u) → x ≤ c → (ob : Object)
    → ob ≡ Sc.case_of (Sc.cases_of (P.parse b) u) x → ObjectSound (P.parse b) ob
case_sound b dir a u zero c h ec l ob e = absurd (h refl)
case_sound b dir a u (suc x) c h ec l ob e = rw e (case_sound-at (P.parse b) (accepted_sound b dir a) u (suc x) (omega arith) (omega arith))

pub case-counted : (S : Schema) (u x c : ℕ) → c ≡ length (Sc.cases_of S u) → x ≤ c → x ≤ length (Sc.cases_of S u)
case-counted S u x c e l = omega arith

-- ---- what is there
module _ (o : ℕ) (child : Surveyor) (S : Schema) (s : List ℕ) (k : Kind) (optional inplace : Bool) (pos : ℕ) where
  pub body_flat : (f : Flat) → k ≡ OfFlat f → (t : Option Tested) → TestedIn s (survey_flat (survey_struct S) optional f (drop pos (bits s))) t
      → (x : Option Surveyed) → MatchOption t (x ≡ None) (λ y. IsSomeAnd x (λ z. (z.next ≡ y.next) × Fits (plain y.fine) z.extent))
      → SurveyedIn s (survey_body child o S k optional inplace (drop pos (bits s))) x
  unfolding survey_body
  body_flat f q t h x e = rw q (plain_surveyed s (survey_flat (survey_struct S) optional f (drop pos (bits s))) t h x e)

  module _ (r : Option Surveyed) where
    pub body_object : (ob : Object) → k ≡ OfObject ob → SurveyedIn s (survey_object child o inplace false ob (drop pos (bits s))) r
        → SurveyedIn s (survey_body child o S k optional inplace (drop pos (bits s))) r
    unfolding survey_body
    body_object ob q t = rw q t

    pub body_union : (u j : ℕ) → k ≡ OfUnion u → j ≡ u → SurveyedIn s (survey_choice child o inplace (Sc.cases_of S j) (drop pos (bits s))) r
        → SurveyedIn s (survey_body child o S k optional inplace (drop pos (bits s))) r
    unfolding survey_body
    body_union u j q ej t = rw (q, ← ej) t

-- there is no value
pub part_absent : (o : ℕ) (child : Surveyor) (S : Schema) (s : List ℕ) (k : Kind) (optional inplace : Bool) (pos : ℕ) (m : Marked) → MarkedAt s pos m → m.mark ≡ Absent
    → (t : Bool) → t ≡ may_lack optional k → (x : Extent) → Fits (plain t) x
    → SurveyedAt s (survey_part child o S k optional inplace (drop pos (bits s))) (record { extent = x; next = m.next })
unfolding survey_part
part_absent o child S s k optional inplace pos m h e t et x f =
    surveyed_absent s pos m h (plain (may_lack optional k)) (survey_unknown S k) (survey_body child o S k optional inplace) e (plain t) (ap plain et) x f

-- an object that an element refers to
pub object_present : (o : ℕ) (child : Surveyor) (S : Schema) (s : List ℕ) (ob : Object) (pos : ℕ) (r : Option Surveyed)
    → SurveyedIn s (survey_object child o false false ob (drop pos (bits s))) r → SurveyedIn s (survey_body child o S (OfObject ob) true false (drop pos (bits s))) r
object_present o child S s ob pos r t = body_object o child S s (OfObject ob) true false pos r ob refl t

-- ---- elements without marks: bits passed over
module _ (s : List ℕ) (pos w n : ℕ) (a : Extent) (l : pos ≤ 8 * length s) (x : ℕ) (ex : x ≡ w * n) where
  passes : (t : Bool) → leb x (length (drop pos (bits s))) ≡ t → passed (n * w) a (drop pos (bits s)) ≡ pick t (got a (drop (pos + x) (bits s))) fail
  unfolding passed
  passes t e =
      ap (λ (m : ℕ). pick (leb m (length (drop pos (bits s)))) (got a (drop m (drop pos (bits s)))) fail) (mul_comm n w ∙ sym ex)
      ∙ ap (λ (u : Bool). pick u (got a (drop x (drop pos (bits s)))) fail) e
      ∙ ap (λ (ys : List ℕ). pick t (got a ys) fail) (drop-drop x pos (bits s))

  rest-length : length (drop pos (bits s)) ≡ 8 * length s - pos
  rest-length = length-drop pos (bits s) ∙ ap (λ (k : ℕ). k - pos) (bits-length s)

  pub passed_all : x ≤ 8 * length s - pos → Small a → SurveyedAt s (passed (n * w) a (drop pos (bits s))) (record { extent = a; next = pos + x })
  passed_all h sm =
      let r = rest-length in
      record { is = passes true (le-leb x (length (drop pos (bits s))) (omega arith)); inside = omega arith; small = sm }

  pub passed_short : 8 * length s - pos < x → passed (n * w) a (drop pos (bits s)) ≡ fail
  passed_short h = let r = rest-length in passes false (lt-leb x (length (drop pos (bits s))) (omega arith))
