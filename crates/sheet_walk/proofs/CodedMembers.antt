-- Members that are written by their records alone: by the record, their bits, and the cursor behind them.
use mathlib.Core.Path.{◌≡◌, refl, sym, ap, ap₂, ◌∙◌, subst}
use Rattle.std.specs.Prelude.{Option, Some, None, MatchOption}
use mathlib.Core.Bool.{Bool, true, false}
use mathlib.Core.List.{List}
use Prim.Native.Nat.{ℕ, ◌+◌, ◌-◌, ◌*◌, ◌<◌, ◌≤◌}
use native.Mathlib.Omega.{arith}
use lib.ListN.{length, get_or}
use lib.Dec.{leb, ltb, eqb}
use borrow.Author.Tests.{leb-true, leb-false, lt-leb, ltb-true, ltb-false, lt-ltb, le-ltb, eq-eqb, eqb-false, ne_eqb}
use Rattle.coding.specs.Lists.{pick}
use Rattle.coding.specs.Bytes.{le, bit_at, is_nan}
use Rattle.coding.specs.Schema as Sc
use Rattle.coding.specs.Schema.{Schema}
use Rattle.coding.specs.Packed as P
use Rattle.coding.specs.Structs.{flat_width}
use Rattle.coding.specs.Layout as L
use Rattle.coding.specs.Step as T
use Rattle.coding.specs.Bits.{bits_of}
use Rattle.coding.specs.Sheet as E
use Rattle.coding.specs.declared.Flat.{Flat}
use Rattle.coding.specs.declared.Flat.TheVariants as F
use Rattle.coding.specs.declared.Kind.{Kind}
use Rattle.coding.specs.declared.Kind.TheVariants.{OfFlat, OfObject, OfUnion}
use Rattle.coding.specs.declared.Member.{Member}
use Rattle.coding.specs.declared.Cursor.{Cursor}
use Rattle.coding.specs.declared.Step.{Step}
use Rattle.coding.specs.declared.Step.TheVariants as St
use Rattle.laws.specs.RecordSound.{width_range}
use Rattle.schema.specs.Directory.{Block}
use Rattle.message_layout.specs.Bounds.{Laid}
use Rattle.schema.specs.Records.{record-member}
use Rattle.sheet_values.specs.Marks as K
use Rattle.sheet_walk.specs.MessageBits as A
use Rattle.sheet_walk.specs.Stepping.{Coded, Small, behind}
use Rattle.sheet_walk.specs.declared.Code.{Code}
use Rattle.sheet_walk.specs.declared.Code.TheVariants.{Number, Boolean, Float, Enumerated}

-- ---- the record
-- a number or a float of w bytes; an integer alone
unfoldable NumberOf : Flat → ℕ → Type 0
NumberOf F.Boolean w = ⊥
NumberOf (F.Integer s v) w = v ≡ w
NumberOf (F.Float v) w = v ≡ w
NumberOf (F.Enumerated n) w = ⊥
NumberOf (F.Struct i) w = ⊥

unfoldable IntegerOf : Flat → ℕ → Type 0
IntegerOf F.Boolean w = ⊥
IntegerOf (F.Integer s v) w = v ≡ w
IntegerOf (F.Float v) w = ⊥
IntegerOf (F.Enumerated n) w = ⊥
IntegerOf (F.Struct i) w = ⊥

abbrev flat_member : Flat → Bool → Bool → Member
flat_member f o place = record { kind = OfFlat f; optional = o; inplace = place }

among : (v : ℕ) (t u : Bool) → NumberOf (pick t (F.Integer false v) (pick u (F.Integer true v) (F.Float v))) v
unfolding NumberOf
among v true u = refl
among v false true = refl
among v false false = refl

number-flat : (k a : ℕ) → (k ≡ 0 → ⊥) → k < 11 → NumberOf (P.flat_of k a) (P.width_of k)
unfolding P.flat_of
number-flat k a h l = simp (ne_eqb k 0 h, lt-ltb _ _ l) (among (P.width_of k) (ltb k 5) (ltb k 9))

signed : (v : ℕ) (t : Bool) → IntegerOf (pick t (F.Integer false v) (F.Integer true v)) v
unfolding IntegerOf
signed v true = refl
signed v false = refl

integer-flat : (k a : ℕ) → (k ≡ 0 → ⊥) → k ≤ 8 → IntegerOf (P.flat_of k a) (P.width_of k)
unfolding P.flat_of
integer-flat k a h l = let g : k < 9 = omega arith in simp (ne_eqb k 0 h, lt-ltb _ _ g) (signed (P.width_of k) (ltb k 5))

bool-flat : (k a : ℕ) → k ≡ 0 → P.flat_of k a ≡ F.Boolean
unfolding P.flat_of
bool-flat k a h = simp (eq-eqb _ _ h)

float-flat : (k a : ℕ) → 9 ≤ k → k < 11 → P.flat_of k a ≡ F.Float (P.width_of k)
unfolding P.flat_of
float-flat k a h l =
    let i : 5 ≤ k = omega arith in
    simp (ne_eqb k 0 (λ e. omega (arith, e, h)), le-ltb _ _ i, le-ltb _ _ h, lt-ltb _ _ l)

member-at : (b : List ℕ) (at k : ℕ) → k ≡ P.kind_at b at → k ≤ 11 → (o v : Bool) → o ≡ P.optional_at b at → o ≡ v
    → P.member_at b at ≡ record { kind = OfFlat (P.flat_of k (P.argument_at b at)); optional = v; inplace = P.inplace_at b at }
unfolding P.member_at P.element_at P.kind_of
member-at b at k ek l o v eo f =
    let g : k < 13 = omega arith in
    let q : P.element_at b at ≡ OfFlat (P.flat_of k (P.argument_at b at)) =
    ap (λ (i : ℕ). P.kind_of i (P.argument_at b at)) (sym ek)
    ∙ ap (λ (t : Bool). pick t (OfFlat (P.flat_of k (P.argument_at b at))) (pick (eqb k 17) (OfUnion (P.argument_at b at)) (OfObject (P.object_of k (P.argument_at b at))))) (lt-ltb k 13 g) in
    ap₂ (λ (x : Kind) (y : Bool). record { kind = x; optional = y; inplace = P.inplace_at b at }) q (sym eo ∙ f)

-- ---- the bits of a member's step
module _ (o d : ℕ) (S : Schema) (m : List ℕ) (k : Kind) where
  refused-bits : A.step_at o d S m k (T.struct_tested S m (St.Refused 8)) ≡ bits_of 2 0
  unfolding T.struct_tested A.step_at
  refused-bits = refl

  no_bits : A.step_at o d S m k (T.struct_tested S m St.Absent) ≡ bits_of 2 0
  unfolding T.struct_tested A.step_at
  no_bits = refl

  absent-bits : (t u : Bool) → A.step_at o d S m k (T.struct_tested S m (pick t St.Absent (pick u St.Absent (St.Refused 8)))) ≡ bits_of 2 0
  unfolding T.struct_tested A.step_at
  absent-bits true u = refl
  absent-bits false true = refl
  absent-bits false false = refl

  placed-bits : (w n e x : ℕ) (past : Step) → A.step_at o d S m k (T.struct_tested S m past) ≡ bits_of 2 0 → 0 < w → 8 * w ≡ A.value_width k
      → A.step_at o d S m k (T.struct_tested S m (pick (leb n e) past (pick (leb (e + w) n) (St.Value x) (St.Refused 8)))) ≡ pick (leb (e + w) n) (K.marked 1 (8 * w) x) (bits_of 2 0)
  unfolding T.struct_tested A.step_at
  placed-bits w n e x past ep some ew = by (leb n e) (leb (e + w) n) refl refl
    where
      by : (t u : Bool) → leb n e ≡ t → leb (e + w) n ≡ u → A.step_at o d S m k (T.struct_tested S m (pick t past (pick u (St.Value x) (St.Refused 8)))) ≡ pick u (K.marked 1 (8 * w) x) (bits_of 2 0)
      by true true et eu = let a = leb-true n e et in let b = leb-true (e + w) n eu in absurd (let z : ⊥ = omega arith in z)
      by true false et eu = ep
      by false true et eu = ap (λ (i : ℕ). K.marked 1 i x) (sym ew)
      by false false et eu = refl

-- ---- a number that is not optional
module _ (place : Bool) (w : ℕ) where
  number_next : (o : ℕ) (S : Schema) (c : Cursor) (f : Flat) → NumberOf f w → L.after_member o S (flat_member f false place) c ≡ L.after_bytes w c
  unfolding L.after_member L.after_value L.after_flag L.has_flag L.is_bool L.flat_is_bool L.width flat_width NumberOf
  number_next o S c F.Boolean e = absurd e
  number_next o S c (F.Integer s v) e = ap (λ (x : ℕ). L.after_bytes x c) e
  number_next o S c (F.Float v) e = ap (λ (x : ℕ). L.after_bytes x c) e
  number_next o S c (F.Enumerated n) e = absurd e
  number_next o S c (F.Struct i) e = absurd e

  number-bits : (o d : ℕ) (S : Schema) (m : List ℕ) (start n : ℕ) (c : Cursor) → 0 < w → (f : Flat) → NumberOf f w
      → A.step_at o d S m (OfFlat f) (T.member_step o S m start n c (flat_member f false place)) ≡ K.plain_at m w start n c.end
  unfolding T.member_step T.struct_tested T.placed_step L.placement_of L.bit_slot T.inside T.value_step T.flat_step T.float_step L.member_slot L.slot_of L.after_flag L.has_flag L.is_bool L.flat_is_bool L.width flat_width NumberOf K.plain_at A.value_width A.flat_value
  number-bits o d S m start n c some F.Boolean e = absurd e
  number-bits o d S m start n c some (F.Integer s v) e =
      placed-bits o d S m (OfFlat (F.Integer s v)) v n c.end (le m (start + c.end) v) St.Absent (no_bits o d S m (OfFlat (F.Integer s v)))
      (subst (λ (x : ℕ). 0 < x) (sym e) some) refl
      ∙ ap (λ (x : ℕ). K.plain_at m x start n c.end) e
  number-bits o d S m start n c some (F.Float v) e =
      placed-bits o d S m (OfFlat (F.Float v)) v n c.end (le m (start + c.end) v) St.Absent (no_bits o d S m (OfFlat (F.Float v)))
      (subst (λ (x : ℕ). 0 < x) (sym e) some) refl
      ∙ ap (λ (x : ℕ). K.plain_at m x start n c.end) e
  number-bits o d S m start n c some (F.Enumerated k) e = absurd e
  number-bits o d S m start n c some (F.Struct i) e = absurd e

  number_coded : (f : Flat) → NumberOf f w → 0 < w → Coded (flat_member f false place) (Number false w)
  unfolding behind A.coded_at A.number_end
  number_coded f e some =
      record { next_is = λ o S c. number_next o S c f e; bits_are = λ o d S m start n c. number-bits o d S m start n c some f e }

  -- ---- an optional integer
  optional_next : (o : ℕ) (S : Schema) (c : Cursor) (f : Flat) → IntegerOf f w → L.after_member o S (flat_member f true place) c ≡ L.after_bytes w (L.after_bit c)
  unfolding L.after_member L.after_value L.after_flag L.has_flag L.takes_flag L.flat_takes_flag L.is_bool L.flat_is_bool L.width flat_width IntegerOf
  optional_next o S c F.Boolean e = absurd e
  optional_next o S c (F.Integer s v) e = ap (λ (x : ℕ). L.after_bytes x (L.after_bit c)) e
  optional_next o S c (F.Float v) e = absurd e
  optional_next o S c (F.Enumerated n) e = absurd e
  optional_next o S c (F.Struct i) e = absurd e

  optional-bits : (o d : ℕ) (S : Schema) (m : List ℕ) (start n : ℕ) (c : Cursor) → 0 < w → (f : Flat) → IntegerOf f w
      → A.step_at o d S m (OfFlat f) (T.member_step o S m start n c (flat_member f true place)) ≡ K.plain_at m w start n (A.optional_end m start n c)
  unfolding T.member_step T.struct_tested T.placed_step L.placement_of L.bit_slot T.flagged T.inside T.value_step T.flat_step L.member_slot L.slot_of L.after_flag L.has_flag L.takes_flag L.flat_takes_flag L.is_bool L.flat_is_bool L.width flat_width IntegerOf K.plain_at A.optional_end A.value_width A.flat_value
  optional-bits o d S m start n c some F.Boolean e = absurd e
  optional-bits o d S m start n c some (F.Integer s v) e =
      by (L.after_bit c).end (leb n (L.bit_byte c)) (eqb (bit_at m (start + L.bit_byte c) (L.bit_index c)) 1)
      ∙ ap (λ (x : ℕ). K.plain_at m x start n (A.optional_end m start n c)) e
    where
      past : bits_of 2 0 ≡ K.plain_at m v start n n
      past = let h : n < n + v = let z = subst (λ (i : ℕ). 0 < i) (sym e) some in omega arith in simp (lt-leb _ _ h)

      by : (a : ℕ) (t u : Bool)
          → A.step_at o d S m (OfFlat (F.Integer s v))
          (T.struct_tested S m (pick t St.Absent
          (pick u (pick (leb n a) (St.Refused 8) (pick (leb (a + v) n) (St.Value (le m (start + a) v)) (St.Refused 8)))
          (pick (leb n a) St.Absent (pick (leb (a + v) n) St.Absent (St.Refused 8))))))
          ≡ K.plain_at m v start n (pick t n (pick u a n))
      by a true u = no_bits o d S m (OfFlat (F.Integer s v)) ∙ past
      by a false true =
          placed-bits o d S m (OfFlat (F.Integer s v)) v n a (le m (start + a) v) (St.Refused 8) (refused-bits o d S m (OfFlat (F.Integer s v)))
          (subst (λ (i : ℕ). 0 < i) (sym e) some) refl
      by a false false = absent-bits o d S m (OfFlat (F.Integer s v)) (leb n a) (leb (a + v) n) ∙ past
  optional-bits o d S m start n c some (F.Float v) e = absurd e
  optional-bits o d S m start n c some (F.Enumerated k) e = absurd e
  optional-bits o d S m start n c some (F.Struct i) e = absurd e

  optional_coded : (f : Flat) → IntegerOf f w → 0 < w → Coded (flat_member f true place) (Number true w)
  unfolding behind A.coded_at A.number_end
  optional_coded f e some =
      record { next_is = λ o S c. optional_next o S c f e; bits_are = λ o d S m start n c. optional-bits o d S m start n c some f e }

  -- ---- an optional float, which has no flag
  float_next : (o : ℕ) (S : Schema) (c : Cursor) → L.after_member o S (flat_member (F.Float w) true place) c ≡ L.after_bytes w c
  unfolding L.after_member L.after_value L.after_flag L.has_flag L.takes_flag L.flat_takes_flag L.is_bool L.flat_is_bool L.width flat_width
  float_next o S c = refl

  float-bits : (o d : ℕ) (S : Schema) (m : List ℕ) (start n : ℕ) (c : Cursor) → 0 < w
      → A.step_at o d S m (OfFlat (F.Float w)) (T.member_step o S m start n c (flat_member (F.Float w) true place)) ≡ A.optional_float_at m w start n c
  unfolding T.member_step T.struct_tested T.placed_step L.placement_of L.bit_slot T.inside T.value_step T.flat_step T.float_step L.member_slot L.slot_of L.after_flag L.has_flag L.takes_flag L.flat_takes_flag L.is_bool L.flat_is_bool L.width flat_width K.float_at A.optional_float_at A.step_at A.value_width A.flat_value
  float-bits o d S m start n c some = by (le m (start + c.end) w) (leb n c.end) (leb (c.end + w) n) (is_nan w (le m (start + c.end) w)) refl refl
    where
      by : (x : ℕ) (t u v : Bool) → leb n c.end ≡ t → leb (c.end + w) n ≡ u
          → A.step_at o d S m (OfFlat (F.Float w)) (T.struct_tested S m (pick t St.Absent (pick u (pick v St.Absent (St.Value x)) (St.Refused 8))))
          ≡ pick u (pick v (bits_of 2 0) (K.marked 1 (8 * w) x)) (bits_of 2 0)
      by x true true v et eu = let a = leb-true n c.end et in let b = leb-true (c.end + w) n eu in absurd (let z : ⊥ = omega arith in z)
      by x true false v et eu = refl
      by x false true true et eu = refl
      by x false true false et eu = refl
      by x false false v et eu = refl

  float_coded : 0 < w → Coded (flat_member (F.Float w) true place) (Float w)
  unfolding behind A.coded_at
  float_coded some = record { next_is = float_next; bits_are = λ o d S m start n c. float-bits o d S m start n c some }

-- ---- a bool that is not optional
bool-bits : (place : Bool) (o d : ℕ) (S : Schema) (m : List ℕ) (start n : ℕ) (c : Cursor)
    → A.step_at o d S m (OfFlat F.Boolean) (T.member_step o S m start n c (flat_member F.Boolean false place)) ≡ A.bool_at m start n c
unfolding T.member_step T.struct_tested T.placed_step L.placement_of L.bit_slot T.inside T.value_step T.flat_step L.member_slot L.slot_of L.after_flag L.has_flag L.is_bool L.flat_is_bool A.bool_at A.step_at A.value_width A.flat_value
bool-bits place o d S m start n c = by (L.bit_byte c) (bit_at m (start + L.bit_byte c) (L.bit_index c)) (leb n (L.bit_byte c)) (leb (L.bit_byte c + 1) n) refl refl
  where
    by : (a x : ℕ) (t u : Bool) → leb n a ≡ t → leb (a + 1) n ≡ u
        → A.step_at o d S m (OfFlat F.Boolean) (T.struct_tested S m (pick t St.Absent (pick u (St.Value x) (St.Refused 8)))) ≡ pick t (bits_of 2 0) (K.marked 1 1 x)
    by a x true u et eu = refl
    by a x false true et eu = refl
    by a x false false et eu = let g = leb-false n a et in let l = leb-false (a + 1) n eu in absurd (let z : ⊥ = omega arith in z)

bool_next : (place : Bool) (o : ℕ) (S : Schema) (c : Cursor) → L.after_member o S (flat_member F.Boolean false place) c ≡ L.after_bit c
unfolding L.after_member L.after_value L.after_flag L.has_flag L.is_bool L.flat_is_bool
bool_next place o S c = refl

bool_coded : (place : Bool) → Coded (flat_member F.Boolean false place) Boolean
unfolding behind A.coded_at
bool_coded place = record { next_is = bool_next place; bits_are = bool-bits place }

-- ---- an enum
enum_next : (place opt : Bool) (k o : ℕ) (S : Schema) (c : Cursor) → L.after_member o S (flat_member (F.Enumerated k) opt place) c ≡ L.after_bytes 1 c
unfolding L.after_member L.after_value L.after_flag L.has_flag L.takes_flag L.flat_takes_flag L.is_bool L.flat_is_bool L.width flat_width
enum_next place true k o S c = refl
enum_next place false k o S c = refl

enum_step_lem : (k o d : ℕ) (S : Schema) (m : List ℕ) (n a x : ℕ)
    → A.step_at o d S m (OfFlat (F.Enumerated k)) (T.struct_tested S m (pick (leb n a) St.Absent (pick (leb (a + 1) n) (T.enum_step k x) (St.Refused 8))))
    ≡ pick (leb n a) (bits_of 2 0) (K.enum_at k x)
unfolding T.struct_tested A.step_at A.value_width A.flat_value E.unknown_width E.flat_unknown T.enum_step K.enum_at
enum_step_lem k o d S m n a x = by (leb n a) (leb (a + 1) n) (eqb x 255) (ltb x k) refl refl
  where
    by : (t u v w : Bool) → leb n a ≡ t → leb (a + 1) n ≡ u
        → A.step_at o d S m (OfFlat (F.Enumerated k)) (T.struct_tested S m (pick t St.Absent (pick u (pick v St.Absent (pick w (St.Value x) (St.Unknown x))) (St.Refused 8))))
        ≡ pick t (bits_of 2 0) (pick v (bits_of 2 0) (pick w (K.marked 1 8 x) (K.marked 2 8 x)))
    by true u v w et eu = refl
    by false true true w et eu = refl
    by false true false true et eu = refl
    by false true false false et eu = refl
    by false false v w et eu = let g = leb-false n a et in let l = leb-false (a + 1) n eu in absurd (let z : ⊥ = omega arith in z)

enum-bits : (place opt : Bool) (k o d : ℕ) (S : Schema) (m : List ℕ) (start n : ℕ) (c : Cursor)
    → A.step_at o d S m (OfFlat (F.Enumerated k)) (T.member_step o S m start n c (flat_member (F.Enumerated k) opt place)) ≡ A.enumerated_at m k start n c
unfolding T.member_step T.struct_tested T.placed_step L.placement_of L.bit_slot T.inside T.value_step T.flat_step L.member_slot L.slot_of L.after_flag L.has_flag L.takes_flag L.flat_takes_flag L.is_bool L.flat_is_bool L.width flat_width A.enumerated_at
enum-bits place true k o d S m start n c = enum_step_lem k o d S m n c.end (get_or m (start + c.end) 0)
enum-bits place false k o d S m start n c = enum_step_lem k o d S m n c.end (get_or m (start + c.end) 0)

enum_coded : (place opt : Bool) (k : ℕ) → Coded (flat_member (F.Enumerated k) opt place) (Enumerated k)
unfolding behind A.coded_at
enum_coded place opt k = record { next_is = enum_next place opt k; bits_are = enum-bits place opt k }

enum-flat : (k a : ℕ) → k ≡ 11 → P.flat_of k a ≡ F.Enumerated a
unfolding P.flat_of
enum-flat k a h = ap (λ (i : ℕ). P.flat_of i a) h

pub enum-at : (b : List ℕ) (at k : ℕ) → k ≡ P.kind_at b at → k ≡ 11 → (a : ℕ) → a ≡ P.argument_at b at → Coded (P.member_at b at) (Enumerated a)
enum-at b at k ek h a ea =
    let l : k ≤ 11 = omega arith in
    subst (λ (r : Member). Coded r (Enumerated a))
    (sym (member-at b at k ek l (P.optional_at b at) (P.optional_at b at) refl refl
    ∙ ap (λ (x : Flat). flat_member x (P.optional_at b at) (P.inplace_at b at)) (enum-flat k (P.argument_at b at) h ∙ ap F.Enumerated (sym ea))))
    (enum_coded (P.inplace_at b at) (P.optional_at b at) a)

-- ---- the code of a record
-- it is that of the member, and a number that it says is small
abbrev CodeOf : Member → Option Code → Type 0
CodeOf r q = MatchOption q (Unit {0}) (λ (i : Code). Coded r i × Small i)

module _ (b : List ℕ) (at k : ℕ) (ek : k ≡ P.kind_at b at) (l : k < 11) (o : Bool) (eo : o ≡ P.optional_at b at) where
  low : k ≤ 11
  low = omega arith

  pub number_at : o ≡ false → (k ≡ 0 → ⊥) → (w : ℕ) → w ≡ P.width_of k → Coded (P.member_at b at) (Number false w) × (w ≤ 8)
  number_at f h w ew =
      let z = width_range k l in
      let some : 0 < w = omega arith in (
        subst (λ (r : Member). Coded r (Number false w)) (sym (member-at b at k ek low o false eo f))
            (number_coded (P.inplace_at b at) w (P.flat_of k (P.argument_at b at)) (subst (NumberOf (P.flat_of k (P.argument_at b at))) (sym ew) (number-flat k (P.argument_at b at) h l)) some),
        omega arith,
      )

  optional_by : o ≡ true → (t u : Bool) → eqb k 0 ≡ t → ltb k 9 ≡ u
      → CodeOf (P.member_at b at) (pick t None (pick u (Some (Number true (P.width_of k))) (Some (Float (P.width_of k)))))
  optional_by f true u et eu = tt
  optional_by f false true et eu =
      let h = ltb-true k 9 eu in
      let i : k ≤ 8 = omega arith in (
        subst (λ (r : Member). Coded r (Number true (P.width_of k))) (sym (member-at b at k ek low o true eo f))
            (optional_coded (P.inplace_at b at) (P.width_of k) (P.flat_of k (P.argument_at b at)) (integer-flat k (P.argument_at b at) (eqb-false k 0 et) i)
            (width_range k l).0),
        (width_range k l).1,
      )
  optional_by f false false et eu = (
    subst (λ (r : Member). Coded r (Float (P.width_of k)))
        (sym (member-at b at k ek low o true eo f
        ∙ ap (λ (y : Flat). flat_member y true (P.inplace_at b at)) (float-flat k (P.argument_at b at) (ltb-false k 9 eu) l)))
        (float_coded (P.inplace_at b at) (P.width_of k) (width_range k l).0),
    (width_range k l).1,
  )

  pub optional-at : o ≡ true → (q : Option Code) → q ≡ A.optional_code k → CodeOf (P.member_at b at) q
  unfolding A.optional_code
  optional-at f q e = subst (CodeOf (P.member_at b at)) (sym e) (optional_by f (eqb k 0) (ltb k 9) refl refl)

  pub bool_at : o ≡ false → k ≡ 0 → Coded (P.member_at b at) Boolean
  bool_at f h =
      subst (λ (r : Member). Coded r Boolean)
      (sym (member-at b at k ek low o false eo f ∙ ap (λ (x : Flat). flat_member x false (P.inplace_at b at)) (bool-flat k (P.argument_at b at) h)))
      (bool_coded (P.inplace_at b at))

-- ---- the cursor behind it
bit_laid : (e : ℕ) (c : Cursor) → Laid e c → Laid (e + 1) (L.after_bit c)
unfolding L.after_bit
bit_laid e c p = by (ltb c.bit 8) refl
  where
    by : (t : Bool) → ltb c.bit 8 ≡ t → Laid (e + 1) (pick t (record { end = c.end; byte = c.byte; bit = c.bit + 1 }) (record { end = c.end + 1; byte = c.end; bit = 1 }))
    by true h = let x = p.end in let y = ltb-true c.bit 8 h in record { end = omega arith; byte = p.byte; bit = omega arith }
    by false h = let x = p.end in record { end = omega arith; byte = omega arith; bit = omega arith }

bytes_laid : (e f w : ℕ) (c : Cursor) → Laid e c → e + w ≤ f → Laid f (L.after_bytes w c)
unfolding L.after_bytes
bytes_laid e f w c p h = let x = p.end in let y = p.byte in record { end = omega arith; byte = omega arith; bit = p.bit }

laid_more : (e f : ℕ) (c : Cursor) → Laid e c → e ≤ f → Laid f c
laid_more e f c p h = let x = p.end in record { end = omega arith; byte = p.byte; bit = p.bit }

-- `j` members are laid out
pub coded_laid : (j : ℕ) (q : Code) (c next : Cursor) → Small q → Laid (4097 * j) c → next ≡ behind q c → Laid (4097 * (j + 1)) next
unfolding behind
coded_laid j q c next s p e = subst (Laid (4097 * (j + 1))) (sym e) (by q s)
  where
    by : (i : Code) → Small i → Laid (4097 * (j + 1)) (behind i c)
    by (Number false w) h = bytes_laid (4097 * j) (4097 * (j + 1)) w c p (omega arith)
    by (Number true w) h = bytes_laid (4097 * j + 1) (4097 * (j + 1)) w (L.after_bit c) (bit_laid (4097 * j) c p) (omega arith)
    by Boolean h = laid_more (4097 * j + 1) (4097 * (j + 1)) (L.after_bit c) (bit_laid (4097 * j) c p) (omega arith)
    by (Float w) h = bytes_laid (4097 * j) (4097 * (j + 1)) w c p (omega arith)
    by (Enumerated k) h = bytes_laid (4097 * j) (4097 * (j + 1)) 1 c p (omega arith)

-- ---- the record of member j
pub coded-member : (b : List ℕ) (t j : ℕ) → t < P.table_count b → (count : ℕ) → count ≡ length (Sc.table_of (P.parse b) t).members → j < count → (first : ℕ)
    → Block b 4 (P.table_place b t) first → (at : ℕ) → at ≡ P.record_place 4 first j → P.member_at b at ≡ Sc.member_of (P.parse b) t j
coded-member b t j l count ec h first bl at e = record-member b t j first l (subst (λ (k : ℕ). j < k) ec h) bl.is at e
