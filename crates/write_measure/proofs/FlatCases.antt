-- The ways out of the tests of what leads to no object, one lemma for each, in the words of the survey.
use mathlib.Core.Path.{◌≡◌, refl, sym, ap, ◌∙◌, subst}
use mathlib.Core.Bool.{Bool, true, false, ◌&&◌, not}
use mathlib.Core.List.{List}
use Prim.Native.Nat.{ℕ, zero, suc, ◌+◌, ◌-◌, ◌*◌, ◌<◌, ◌≤◌}
use native.Mathlib.Omega.{arith}
use native.Mathlib.Numerals.{add-one}
use lib.ListN.{length, take, drop, length-drop, drop_of_length-le}
use lib.Seq.{drop-cons, drop-drop}
use lib.Dec.{ltb, leb, eqb}
use borrow.Author.Tests.{le-leb, lt-leb}
use Rattle.std.specs.Prelude.{Option, None, Some, MatchOption}
use Rattle.coding.specs.Lists.{pick}
use Rattle.coding.specs.Bits.{bits, value}
use Rattle.coding.specs.Schema as Sc
use Rattle.coding.specs.Schema.{Schema}
use Rattle.coding.specs.Packed as P
use Rattle.coding.specs.Sheet.{Parsed, fail, got, bind, take_number, unknown_enum}
use Rattle.coding.specs.declared.Flat.{Flat}
use Rattle.coding.specs.declared.Flat.TheVariants.{Boolean, Integer, Float, Enumerated, Struct}
use Rattle.laws.specs.Sound.{FlatSound}
use Rattle.laws.specs.Lists.{all-at}
use Rattle.laws.specs.Parsed.{structs-length}
use Rattle.laws.specs.Bits.{bits-length}
use Rattle.schema.specs.Directory.{Accepted, accepted_sound}
use Rattle.bitio.specs.Taken.{NumberAt}
use Rattle.bitio.specs.declared.Number.{Number}
use Rattle.write_measure.specs.Survey.{test_number, test_if, any_number, float_fine, below_count, above_count, survey_flat, enum_field, survey_field, survey_fields, survey_struct}
use Rattle.write_measure.specs.Surveyed.{TestedAt, TestedIn, struct_is}
use Rattle.write_measure.specs.declared.Tested.{Tested}

-- ---- any number, passed over
module _ (s : List ℕ) (pos w : ℕ) (l : pos ≤ 8 * length s) where
  any-opened : (t : Bool) → leb w (length (drop pos (bits s))) ≡ t
      → test_number w any_number (drop pos (bits s)) ≡ pick t (got true (drop (pos + w) (bits s))) fail
  unfolding test_number take_number bind
  any-opened t e =
      ap (λ (u : Bool). bind (pick u (got (value (take w (drop pos (bits s)))) (drop w (drop pos (bits s)))) fail) (λ y ys. got true ys)) e ∙ by t
    where
      by : (t : Bool) → bind (pick t (got (value (take w (drop pos (bits s)))) (drop w (drop pos (bits s)))) fail) (λ y ys. got true ys)
          ≡ pick t (got true (drop (pos + w) (bits s))) fail
      by true = ap (λ (ys : List ℕ). got true ys) (drop-drop w pos (bits s))
      by false = refl

  rest-length : length (drop pos (bits s)) ≡ 8 * length s - pos
  rest-length = length-drop pos (bits s) ∙ ap (λ (k : ℕ). k - pos) (bits-length s)

  pub any_left : w ≤ 8 * length s - pos → TestedAt s (test_number w any_number (drop pos (bits s))) (record { next = pos + w; fine = true })
  any_left h =
      let r = rest-length in
      record { is = any-opened true (le-leb w (length (drop pos (bits s))) (omega arith)); inside = omega arith }

  pub any_short : 8 * length s - pos < w → test_number w any_number (drop pos (bits s)) ≡ fail
  any_short h = let r = rest-length in any-opened false (lt-leb w (length (drop pos (bits s))) (omega arith))

-- ---- a number taken
module _ (s : List ℕ) (pos w : ℕ) (x : Number) (taken : NumberAt s pos w x) where
  number_tested : (test : ℕ → Bool) (t : Bool) → t ≡ test x.value → TestedAt s (test_number w test (drop pos (bits s))) (record { next = x.next; fine = t })
  unfolding test_number bind
  number_tested test t e = record { is = rw taken.number (ap (λ a. got a (drop x.next (bits s))) (sym e)); inside = taken.inside }

  -- r: the number passes the test `ok`, by t, or not
  if_tested : (ok : ℕ → Bool) (answer t : Bool) → t ≡ ok x.value → (r : Option Tested)
      → MatchOption r (t ≡ false) (λ y. (t ≡ true) × (y.fine ≡ answer) × (y.next ≡ x.next)) → TestedIn s (test_if w ok answer (drop pos (bits s))) r
  unfolding test_if bind
  if_tested ok answer t e None f = rw (taken.number, ← e, f)
  if_tested ok answer t e (Some y) f =
      record {
        is = rw (taken.number, ← e, f.0) (rw (f.1, f.2));
        inside = rw f.2 taken.inside;
      }

pub float_tested : (s : List ℕ) (pos : ℕ) (optional : Bool) (w k : ℕ) (x : Number) → k ≡ w → NumberAt s pos (8 * k) x
    → (t : Bool) → t ≡ float_fine optional w x.value → TestedAt s (test_number (8 * w) (float_fine optional w) (drop pos (bits s))) (record { next = x.next; fine = t })
float_tested s pos optional w k x e taken t et =
    number_tested s pos (8 * w) x (subst (λ (j : ℕ). NumberAt s pos (8 * j) x) e taken) (float_fine optional w) t et

pub float_fails : (s : List ℕ) (pos : ℕ) (optional : Bool) (w k : ℕ) → k ≡ w → take_number (8 * k) (drop pos (bits s)) ≡ fail
    → test_number (8 * w) (float_fine optional w) (drop pos (bits s)) ≡ fail
unfolding test_number bind
float_fails s pos optional w k e f = rw (← e, f)

module _ (s : List ℕ) (pos : ℕ) (x : Number) (n : ℕ) (r : Option Tested) where
  pub known_tested : NumberAt s pos 8 x → (k : ℕ) → k ≡ n → MatchOption r (ltb x.value k ≡ false) (λ y. (ltb x.value k ≡ true) × (y.fine ≡ true) × (y.next ≡ x.next))
      → TestedIn s (test_if 8 (below_count n) true (drop pos (bits s))) r
  known_tested taken k e t = if_tested s pos 8 x taken (below_count n) true (ltb x.value k) (ap (ltb x.value) e) r t

  pub unknown_tested : NumberAt s pos 8 x → (t : Bool) → t ≡ unknown_enum n x.value → MatchOption r (t ≡ false) (λ y. (t ≡ true) × (y.fine ≡ false) × (y.next ≡ x.next))
      → TestedIn s (test_if 8 (unknown_enum n) false (drop pos (bits s))) r
  unknown_tested taken t e f = if_tested s pos 8 x taken (unknown_enum n) false t e r f

  pub choice_tested : NumberAt s pos 16 x → (k : ℕ) → k ≡ n → MatchOption r (ltb k x.value ≡ false) (λ y. (ltb k x.value ≡ true) × (y.fine ≡ false) × (y.next ≡ x.next))
      → TestedIn s (test_if 16 (above_count n) false (drop pos (bits s))) r
  choice_tested taken k e t = if_tested s pos 16 x taken (above_count n) false (ltb k x.value) (ap (λ (i : ℕ). ltb i x.value) e) r t

-- ---- a struct's member
module _ (inner : ℕ → List ℕ → Parsed Bool) (s : List ℕ) (k : Flat) (pos : ℕ) (r : Option Tested) where
  pub field_enum : (n : ℕ) → k ≡ Enumerated n → TestedIn s (enum_field n (drop pos (bits s))) r → TestedIn s (survey_field inner k (drop pos (bits s))) r
  unfolding survey_field
  field_enum n e t = rw e t

  -- what is no enum, as elsewhere
  pub field_other : ((n : ℕ) → k ≡ Enumerated n → ⊥) → TestedIn s (survey_flat inner false k (drop pos (bits s))) r → TestedIn s (survey_field inner k (drop pos (bits s))) r
  unfolding survey_field
  field_other h t = subst (λ (p : Parsed Bool). TestedIn s p r) (by k h) t
    where
      by : (q : Flat) → ((n : ℕ) → q ≡ Enumerated n → ⊥) → survey_flat inner false q (drop pos (bits s)) ≡ survey_field inner q (drop pos (bits s))
      by Boolean h = refl
      by (Integer g w) h = refl
      by (Float w) h = refl
      by (Enumerated n) h = absurd (h n refl)
      by (Struct i) h = refl

-- what the recursion over structs falls by: a struct in a struct has a lower index
unfoldable pub rank : Flat → ℕ
rank Boolean = 0
rank (Integer g w) = 0
rank (Float w) = 0
rank (Enumerated n) = 0
rank (Struct i) = 3 * i + 4

pub rank_struct : (k : Flat) (i j : ℕ) → k ≡ Struct i → j ≡ i → rank k ≡ 3 * j + 4
unfolding rank
rank_struct k i j e f = rw (e, f)

pub rank_lower : (n : ℕ) (k : Flat) → FlatSound n k → rank k ≤ 3 * n + 1
unfolding rank
rank_lower n Boolean h = omega arith
rank_lower n (Integer g w) h = omega arith
rank_lower n (Float w) h = omega arith
rank_lower n (Enumerated m) h = omega arith
rank_lower n (Struct i) h = omega (arith, h)

pub struct-lower : (n : ℕ) (k : Flat) (i j : ℕ) → k ≡ Struct i → j ≡ i → FlatSound n k → j < n
struct-lower n k i j e ej h = rw ej (subst (FlatSound n) e h)

pub integer_short : (n : ℕ) (k : Flat) (g : Bool) (w j : ℕ) → k ≡ Integer g w → j ≡ w → FlatSound n k → 8 * j ≤ 64
integer_short n k g w j e ej h = let l = (subst (FlatSound n) e h).1 in omega arith

flat_more : (i n : ℕ) (k : Flat) → i ≤ n → FlatSound i k → FlatSound n k
flat_more i n Boolean l h = h
flat_more i n (Integer g w) l h = h
flat_more i n (Float w) l h = h
flat_more i n (Enumerated m) l h = h
flat_more i n (Struct j) l h = omega (arith, h)

pub inner_sound : (b : List ℕ) (i : ℕ) (k : Flat) → i < P.struct_count b → FlatSound i k → FlatSound (length (P.parse b).structs) k
inner_sound b i k l h = flat_more i (length (P.parse b).structs) k (omega (arith, structs-length b)) h

pub float_short : (n : ℕ) (k : Flat) (w : ℕ) → k ≡ Float w → FlatSound n k → w ≤ 8
float_short n k w e h = by (subst (FlatSound n) e h)
  where
    by : FlatSound n (Float w) → w ≤ 8
    by (mathlib.Core.Logic.inl q) = omega arith
    by (mathlib.Core.Logic.inr q) = omega arith

-- ---- the members from j on
pub fields_all : (b dir : List ℕ) → Accepted b dir → (i : ℕ) (xs : List ℕ)
    → survey_struct (P.parse b) i xs ≡ survey_fields (survey_struct (P.parse b)) (drop 0 (Sc.struct_of (P.parse b) i)) true xs
fields_all b dir a i xs = struct_is (P.parse b) (accepted_sound b dir a) i xs

pub field_sound : (b dir : List ℕ) → Accepted b dir → (i j n : ℕ) → n ≡ length (Sc.struct_of (P.parse b) i) → (k : Flat) → k ≡ Sc.field_of (P.parse b) i j → j < n
    → FlatSound i k
unfolding Sc.field_of
field_sound b dir a i j n en k e h =
    rw e (all-at (FlatSound i) Boolean (Sc.struct_of (P.parse b) i) j ((accepted_sound b dir a).structs i).members (omega arith))

module _ (S : Schema) (s : List ℕ) (i at pos j n : ℕ) (fine : Bool) (en : n ≡ length (Sc.struct_of S i))
    (inv : survey_struct S i (drop at (bits s)) ≡ survey_fields (survey_struct S) (drop j (Sc.struct_of S i)) fine (drop pos (bits s))) where
  pub fields_done : n ≤ j → pos ≤ 8 * length s → TestedAt s (survey_struct S i (drop at (bits s))) (record { next = pos; fine = fine })
  unfolding survey_fields
  fields_done h l =
      let m : length (Sc.struct_of S i) ≤ j = omega arith in
      record { is = inv ∙ ap (λ (ks : List Flat). survey_fields (survey_struct S) ks fine (drop pos (bits s))) (drop_of_length-le (Sc.struct_of S i) m); inside = l }

  module _ (h : j < n) (k : Flat) (ek : k ≡ Sc.field_of S i j) where
    abbrev others : Bool → List ℕ → Parsed Bool
    others u ys = survey_fields (survey_struct S) (drop (suc j) (Sc.struct_of S i)) (fine && u) ys

    opened : survey_struct S i (drop at (bits s)) ≡ bind (survey_field (survey_struct S) k (drop pos (bits s))) others
    unfolding survey_fields Sc.field_of
    opened =
        let l : j < length (Sc.struct_of S i) = omega arith in
        inv ∙ ap (λ (ks : List Flat). survey_fields (survey_struct S) ks fine (drop pos (bits s))) (drop-cons (Sc.struct_of S i) j Boolean l)
        ∙ ap (λ (q : Flat). bind (survey_field (survey_struct S) q (drop pos (bits s))) others) (sym ek)

    pub fields_fail : survey_field (survey_struct S) k (drop pos (bits s)) ≡ fail → survey_struct S i (drop at (bits s)) ≡ fail
    unfolding bind
    fields_fail e = opened ∙ ap (λ p. bind p others) e

    pub fields_turn : (t : Tested) → TestedAt s (survey_field (survey_struct S) k (drop pos (bits s))) t → (g : Bool) → g ≡ (fine && t.fine)
        → survey_struct S i (drop at (bits s)) ≡ survey_fields (survey_struct S) (drop (j + 1) (Sc.struct_of S i)) g (drop t.next (bits s))
    unfolding bind
    fields_turn t q g eg =
        opened ∙ ap (λ p. bind p others) q.is
        ∙ ap (λ u. survey_fields (survey_struct S) (drop (suc j) (Sc.struct_of S i)) u (drop t.next (bits s))) (sym eg)
        ∙ ap (λ (m : ℕ). survey_fields (survey_struct S) (drop m (Sc.struct_of S i)) g (drop t.next (bits s))) (sym (add-one j))
