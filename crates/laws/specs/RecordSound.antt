-- What the rules of one record say of the record as it is read.
use Rattle.std.specs.Prelude.{◌≡◌, Bool, ◌&&◌, List, ◌⊎◌, ℕ, ◌+◌, ◌<◌, ◌≤◌, length, get_or, eqb, leb}
use Rattle.std.proofs.Math.Path.{refl}
use Rattle.std.proofs.Math.Bool.{true, false}
use Rattle.std.proofs.Common.{inl, inr}
use native.Mathlib.Omega.{arith}
use Rattle.std.proofs.Math.Dec.{ltb}
use borrow.Author.Tests.{leb-true, ltb-true, eqb-true, ltb-false, eqb-false, eq-eqb, ne_eqb, lt-ltb, le-ltb, not-true}
use Rattle.coding.specs.Lists.{pick, every}
use Rattle.coding.specs.Packed as P
use Rattle.coding.specs.Lawful as L
use Rattle.coding.specs.Schema.{cases_of}
use Rattle.coding.specs.declared.Flat.{Flat}
use Rattle.coding.specs.declared.Flat.TheVariants.{Boolean, Integer, Float, Enumerated, Struct}
use Rattle.coding.specs.declared.Object.{Object}
use Rattle.coding.specs.declared.Object.TheVariants as O
use Rattle.coding.specs.declared.Kind.{Kind}
use Rattle.coding.specs.declared.Kind.TheVariants.{OfFlat, OfObject, OfUnion}
use Rattle.coding.specs.declared.Role.{Role}
use Rattle.coding.specs.declared.Role.TheVariants.{InStruct, InList, InUnion, InTable}
use Rattle.laws.specs.Sound.{All, FlatSound, DirectSound, NotDirect, ObjectSound, KindSound, FlatScalar, NoStruct, FlatOptional, MayBeOptional, MayStandInPlace, MemberSound}
use Rattle.laws.specs.Lists.{every-at, both_left, both_right, pick_holds, never}
use Rattle.laws.specs.Parsed.{structs-length, lists_length, unions-length, tables-length}
use Rattle.laws.specs.Rules.{record_argument, record_kind_lem, record_flags, record-direct}
use Rattle.laws.specs.DirectRules.{direct_sound, object-not-direct, held_cases}

-- every width is 1 to 8: one test over the table
width_good : ℕ → Bool
width_good k = ltb 0 (P.width_of k) && leb (P.width_of k) 8

all_good : every width_good 11 ≡ true
unfolding width_good every P.width_of
all_good = refl

pub width_range : (k : ℕ) → k < 11 → (0 < P.width_of k) × (P.width_of k ≤ 8)
unfolding width_good
width_range k l =
    let h : width_good k ≡ true = every-at width_good 11 k all_good l in
    (ltb-true _ _ (both_left (ltb 0 (P.width_of k)) (leb (P.width_of k) 8) h), leb-true _ _ (both_right (ltb 0 (P.width_of k)) (leb (P.width_of k) 8) h))

-- kinds 9 and 10
float-width : (k : ℕ) → 9 ≤ k → k < 11 → (P.width_of k ≡ 4) ⊎ (P.width_of k ≡ 8)
unfolding P.width_of
float-width k l m = by (eqb k 9) refl
  where
    by : (t : Bool) → eqb k 9 ≡ t → (P.width_of k ≡ 4) ⊎ (P.width_of k ≡ 8)
    by true e = inl (let z : k ≡ 9 = eqb-true _ _ e in rw z)
    by false e = inr (let n : k ≡ 9 → ⊥ = eqb-false _ _ e in let z : k ≡ 10 = omega (arith, n) in rw z)

-- a flat kind, where an enum's argument and a struct's are good
module _ (n k a : ℕ) (small : a < 256) where
  flat_sound : k < 13 → (k ≡ 11 → 0 < a) → (k ≡ 12 → a < n) → FlatSound n (P.flat_of k a)
  unfolding P.flat_of
  flat_sound l f g =
      let Q : Flat → Type 0 = FlatSound n in
      pick_holds Q (eqb k 0) Boolean _ (λ h. tt) λ h0.
      pick_holds Q (ltb k 5) (Integer false (P.width_of k)) _ (λ h. width_range k (let m : k < 5 = ltb-true _ _ h in omega arith)) λ h1.
      pick_holds Q (ltb k 9) (Integer true (P.width_of k)) _ (λ h. width_range k (let m : k < 9 = ltb-true _ _ h in omega arith)) λ h2.
      pick_holds Q (ltb k 11) (Float (P.width_of k)) _ (λ h. float-width k (ltb-false _ _ h2) (ltb-true _ _ h)) λ h3.
      let m : 11 ≤ k = ltb-false _ _ h3 in
      pick_holds Q (eqb k 11) (Enumerated a) (Struct a) (λ h. (f (eqb-true _ _ h), omega arith)) λ h4.
      let q : k ≡ 11 → ⊥ = eqb-false _ _ h4 in
      g (omega (arith, q))

-- what is left of the kinds of objects
fifteen : (k : ℕ) → 13 ≤ k → (k ≡ 13 → ⊥) → (k ≡ 14 → ⊥) → 15 ≤ k
fifteen k l x y = omega (arith, x, y)

sixteen : (k : ℕ) → 15 ≤ k → k ≤ 18 → (k ≡ 15 → ⊥) → (k ≡ 17 → ⊥) → (k ≡ 18 → ⊥) → k ≡ 16
sixteen k l m x y z = let n : k < 18 = omega (arith, z) in let p : 16 ≤ k = omega (arith, x) in omega (arith, y)

module _ (b : List ℕ) (k a : ℕ) (small : a < 256) (e : L.argument_ok b k a ≡ true) where
  enum_some : k ≡ 11 → 0 < a
  unfolding L.argument_ok
  enum_some z = let m : 11 ≤ k = omega arith in ltb-true _ _ (simp (le-ltb _ _ m, eq-eqb _ _ z) at e)

  struct_in : k ≡ 12 → a < P.struct_count b
  unfolding L.argument_ok
  struct_in z =
      let m : 11 ≤ k = omega arith in
      let n : k ≡ 11 → ⊥ = λ q. omega arith in
      ltb-true _ _ (simp (le-ltb _ _ m, ne_eqb _ _ n, eq-eqb _ _ z) at e)

  pub table-flat_sound : k < 13 → FlatSound (length (P.parse b).structs) (P.flat_of k a)
  table-flat_sound l = flat_sound _ k a small l enum_some (λ z. omega (arith, struct_in z, structs-length b))

  -- kind 18 is the last
  argument_last : k ≤ 18
  unfolding L.argument_ok
  argument_last = by (ltb 18 k) refl
    where
      by : (t : Bool) → ltb 18 k ≡ t → k ≤ 18
      by false h = ltb-false _ _ h
      by true h =
          let l : 18 < k = ltb-true _ _ h in
          let m : 11 ≤ k = omega arith in
          let w : 15 ≤ k = omega arith in
          let n : k ≡ 11 → ⊥ = λ q. omega arith in
          let p : k ≡ 12 → ⊥ = λ q. omega arith in
          let x : k ≡ 15 → ⊥ = λ q. omega arith in
          let y : k ≡ 16 → ⊥ = λ q. omega arith in
          let u : k ≡ 17 → ⊥ = λ q. omega arith in
          let v : k ≡ 18 → ⊥ = λ q. omega arith in
          never (simp (le-ltb _ _ m, ne_eqb _ _ n, ne_eqb _ _ p, le-ltb _ _ w, ne_eqb _ _ x, ne_eqb _ _ y, ne_eqb _ _ u, ne_eqb _ _ v) at e)

  pub list_in : k ≡ 15 → a < P.list_count b
  unfolding L.argument_ok
  list_in z =
      let m : 11 ≤ k = omega arith in
      let w : 15 ≤ k = omega arith in
      let n : k ≡ 11 → ⊥ = λ q. omega arith in
      let p : k ≡ 12 → ⊥ = λ q. omega arith in
      ltb-true _ _ (simp (le-ltb _ _ m, ne_eqb _ _ n, ne_eqb _ _ p, le-ltb _ _ w, eq-eqb _ _ z) at e)

  pub table_in : k ≡ 16 → a < P.table_count b
  unfolding L.argument_ok
  table_in z =
      let m : 11 ≤ k = omega arith in
      let w : 15 ≤ k = omega arith in
      let n : k ≡ 11 → ⊥ = λ q. omega arith in
      let p : k ≡ 12 → ⊥ = λ q. omega arith in
      let x : k ≡ 15 → ⊥ = λ q. omega arith in
      ltb-true _ _ (simp (le-ltb _ _ m, ne_eqb _ _ n, ne_eqb _ _ p, le-ltb _ _ w, ne_eqb _ _ x, eq-eqb _ _ z) at e)

  pub union_in : k ≡ 17 → a < P.union_count b
  unfolding L.argument_ok
  union_in z =
      let m : 11 ≤ k = omega arith in
      let w : 15 ≤ k = omega arith in
      let n : k ≡ 11 → ⊥ = λ q. omega arith in
      let p : k ≡ 12 → ⊥ = λ q. omega arith in
      let x : k ≡ 15 → ⊥ = λ q. omega arith in
      let y : k ≡ 16 → ⊥ = λ q. omega arith in
      ltb-true _ _ (simp (le-ltb _ _ m, ne_eqb _ _ n, ne_eqb _ _ p, le-ltb _ _ w, ne_eqb _ _ x, ne_eqb _ _ y, eq-eqb _ _ z) at e)

  pub direct_in : k ≡ 18 → a < P.table_count b
  unfolding L.argument_ok
  direct_in z =
      let m : 11 ≤ k = omega arith in
      let w : 15 ≤ k = omega arith in
      let n : k ≡ 11 → ⊥ = λ q. omega arith in
      let p : k ≡ 12 → ⊥ = λ q. omega arith in
      let x : k ≡ 15 → ⊥ = λ q. omega arith in
      let y : k ≡ 16 → ⊥ = λ q. omega arith in
      let u : k ≡ 17 → ⊥ = λ q. omega arith in
      ltb-true _ _ (simp (le-ltb _ _ m, ne_eqb _ _ n, ne_eqb _ _ p, le-ltb _ _ w, ne_eqb _ _ x, ne_eqb _ _ y, ne_eqb _ _ u, eq-eqb _ _ z) at e)

  list_at : k ≡ 15 → a < length (P.parse b).lists
  list_at z = omega (arith, list_in z, lists_length b)

  table-at : k ≡ 16 → a < length (P.parse b).tables
  table-at z = omega (arith, table_in z, tables-length b)

  -- an object, where a direct list's table is good
  pub object_sound : 13 ≤ k → (k ≡ 17 → ⊥) → (k ≡ 18 → DirectSound (P.parse b) a) → ObjectSound (P.parse b) (P.object_of k a)
  unfolding P.object_of
  object_sound g u f =
      let Q : Object → Type 0 = ObjectSound (P.parse b) in
      pick_holds Q (eqb k 13) O.Text _ (λ h. tt) λ h0.
      pick_holds Q (eqb k 14) O.Bytes _ (λ h. tt) λ h1.
      pick_holds Q (eqb k 15) (O.List a) _ (λ h. list_at (eqb-true _ _ h)) λ h2.
      pick_holds Q (eqb k 18) (O.DirectList a) (O.Table a) (λ h. f (eqb-true _ _ h)) λ h3.
      table-at (sixteen k (fifteen k g (eqb-false _ _ h0) (eqb-false _ _ h1)) argument_last (eqb-false _ _ h2) u (eqb-false _ _ h3))

  pub kind_sound : (k ≡ 18 → DirectSound (P.parse b) a) → KindSound (P.parse b) (P.kind_of k a)
  unfolding P.kind_of
  kind_sound f =
      let Q : Kind → Type 0 = KindSound (P.parse b) in
      pick_holds Q (ltb k 13) (OfFlat (P.flat_of k a)) _ (λ h. table-flat_sound (ltb-true _ _ h)) λ h0.
      pick_holds Q (eqb k 17) (OfUnion a) (OfObject (P.object_of k a)) (λ h. omega (arith, union_in (eqb-true _ _ h), unions-length b)) λ h1.
      object_sound (ltb-false _ _ h0) (eqb-false _ _ h1) f

-- ---- what a kind may be, optional or in place
module _ (k a : ℕ) where
  flat_scalar : (k ≡ 12 → ⊥) → k < 13 → FlatScalar (P.flat_of k a)
  unfolding P.flat_of
  flat_scalar n l =
      let Q : Flat → Type 0 = FlatScalar in
      pick_holds Q (eqb k 0) Boolean _ (λ h. tt) λ h0.
      pick_holds Q (ltb k 5) (Integer false (P.width_of k)) _ (λ h. tt) λ h1.
      pick_holds Q (ltb k 9) (Integer true (P.width_of k)) _ (λ h. tt) λ h2.
      pick_holds Q (ltb k 11) (Float (P.width_of k)) _ (λ h. tt) λ h3.
      pick_holds Q (eqb k 11) (Enumerated a) (Struct a) (λ h. tt) λ h4.
      let m : 11 ≤ k = ltb-false _ _ h3 in
      let q : k ≡ 11 → ⊥ = eqb-false _ _ h4 in
      n (omega (arith, q))

  no-struct : (k ≡ 12 → ⊥) → NoStruct (P.kind_of k a)
  unfolding P.kind_of
  no-struct n =
      let Q : Kind → Type 0 = NoStruct in
      pick_holds Q (ltb k 13) (OfFlat (P.flat_of k a)) _ (λ h. flat_scalar n (ltb-true _ _ h)) λ h0.
      pick_holds Q (eqb k 17) (OfUnion a) (OfObject (P.object_of k a)) (λ h. tt) λ h1. tt

  flat-optional : (k ≡ 11 → ⊥) → FlatOptional (P.flat_of k a)
  unfolding P.flat_of
  flat-optional n =
      let Q : Flat → Type 0 = FlatOptional in
      pick_holds Q (eqb k 0) Boolean _ (λ h. tt) λ h0.
      pick_holds Q (ltb k 5) (Integer false (P.width_of k)) _ (λ h. tt) λ h1.
      pick_holds Q (ltb k 9) (Integer true (P.width_of k)) _ (λ h. tt) λ h2.
      pick_holds Q (ltb k 11) (Float (P.width_of k)) _ (λ h. tt) λ h3.
      pick_holds Q (eqb k 11) (Enumerated a) (Struct a) (λ h. n (eqb-true _ _ h)) λ h4. tt

  may_be-optional : L.optional_ok InTable k ≡ true → MayBeOptional (P.kind_of k a)
  unfolding P.kind_of L.optional_ok
  may_be-optional e = by (eqb k 12) refl e
    where
      low : k < 13 → (k ≡ 11 → ⊥) → MayBeOptional (P.kind_of k a)
      low l n = simp (lt-ltb _ _ l) (flat-optional n)

      by : (t : Bool) → eqb k 12 ≡ t → pick t true (ltb k 11) ≡ true → MayBeOptional (P.kind_of k a)
      by true q h = let z : k ≡ 12 = eqb-true _ _ q in low (omega arith) (λ x. omega arith)
      by false q h = let z : k < 11 = ltb-true _ _ h in low (omega arith) (λ x. omega arith)

-- what may stand in place, in a schema: no direct list, and no union with one
may_stand_in-place : (b : List ℕ) (k a : ℕ) → L.inplace_ok InTable k ≡ true → (k ≡ 17 → All NotDirect (cases_of (P.parse b) a))
    → MayStandInPlace (P.parse b) (P.kind_of k a)
unfolding P.kind_of L.inplace_ok
may_stand_in-place b k a e f =
    let l : 13 ≤ k = leb-true _ _ (both_left (leb 13 k) _ e) in
    let m : k ≤ 17 = leb-true _ _ (both_right (leb 13 k) _ e) in
    simp (le-ltb _ _ l)
    (pick_holds (MayStandInPlace (P.parse b)) (eqb k 17) (OfUnion a) (OfObject (P.object_of k a)) (λ h. f (eqb-true _ _ h))
    (λ h. object-not-direct k a (λ z. omega arith)))

-- ---- one record of each, in a schema whose bytes are bytes
module _ (b : List ℕ) (bytes : (i : ℕ) → get_or b i 0 < 256) (at : ℕ) where
  argument_small : P.argument_at b at < 256
  unfolding P.argument_at
  argument_small = bytes (at + 1)

  -- 02, K1: a direct list's table
  direct-at : (role : Role) → L.record_ok b role at ≡ true → P.kind_at b at ≡ 18 → DirectSound (P.parse b) (P.argument_at b at)
  unfolding L.direct_ok
  direct-at role e z =
      direct_sound b (P.argument_at b at)
      (direct_in b (P.kind_at b at) (P.argument_at b at) argument_small (record_argument b role at e) z)
      (simp (eq-eqb _ _ z) at (record-direct b role at e))

  -- 02, K1: the cases of a union in place
  held_at : (role : Role) → L.record_ok b role at ≡ true → P.inplace_at b at ≡ true → P.kind_at b at ≡ 17
      → All NotDirect (cases_of (P.parse b) (P.argument_at b at))
  unfolding L.direct_ok
  held_at role e i z =
      let n : P.kind_at b at ≡ 18 → ⊥ = λ q. omega arith in
      held_cases b (P.argument_at b at)
      (union_in b (P.kind_at b at) (P.argument_at b at) argument_small (record_argument b role at e) z)
      (simp (ne_eqb _ _ n, eq-eqb _ _ z, i) at (record-direct b role at e))

  element_sound : (role : Role) → L.record_ok b role at ≡ true → KindSound (P.parse b) (P.element_at b at)
  unfolding P.element_at
  element_sound role e =
      kind_sound b (P.kind_at b at) (P.argument_at b at) argument_small (record_argument b role at e) (direct-at role e)

  pub list_sound : L.record_ok b InList at ≡ true → (KindSound (P.parse b) (P.element_at b at)) × (NoStruct (P.element_at b at))
  unfolding P.element_at L.kind_ok
  list_sound e = (element_sound InList e, no-struct (P.kind_at b at) (P.argument_at b at) (eqb-false _ _ (not-true _ (record_kind_lem b InList at e))))

  pub case_sound : L.record_ok b InUnion at ≡ true → ObjectSound (P.parse b) (P.object_at b at)
  unfolding P.object_at L.kind_ok
  case_sound e = by (eqb (P.kind_at b at) 18) refl (record_kind_lem b InUnion at e)
    where
      sound : 13 ≤ P.kind_at b at → (P.kind_at b at ≡ 17 → ⊥) → ObjectSound (P.parse b) (P.object_of (P.kind_at b at) (P.argument_at b at))
      sound l n =
          object_sound b (P.kind_at b at) (P.argument_at b at) argument_small (record_argument b InUnion at e) l n
          (direct-at InUnion e)

      by : (t : Bool) → eqb (P.kind_at b at) 18 ≡ t → pick t true (leb 13 (P.kind_at b at) && leb (P.kind_at b at) 16) ≡ true
          → ObjectSound (P.parse b) (P.object_of (P.kind_at b at) (P.argument_at b at))
      by true q h = let z : P.kind_at b at ≡ 18 = eqb-true _ _ q in sound (omega arith) (λ y. omega arith)
      by false q h =
          let k : ℕ = P.kind_at b at in
          let m : k ≤ 16 = leb-true _ _ (both_right (leb 13 k) _ h) in
          sound (leb-true _ _ (both_left (leb 13 k) _ h)) (λ y. omega arith)

  pub field_sound : (i : ℕ) → L.record_ok b (InStruct i) at ≡ true → FlatSound i (P.flat_at b at)
  unfolding P.flat_at L.kind_ok
  field_sound i e = by (eqb (P.kind_at b at) 12) refl (record_kind_lem b (InStruct i) at e)
    where
      some : P.kind_at b at ≡ 11 → 0 < P.argument_at b at
      some = enum_some b (P.kind_at b at) (P.argument_at b at) argument_small (record_argument b (InStruct i) at e)

      by : (t : Bool) → eqb (P.kind_at b at) 12 ≡ t → L.kind_ok (InStruct i) (P.kind_at b at) (P.argument_at b at) ≡ true
          → FlatSound i (P.flat_of (P.kind_at b at) (P.argument_at b at))
      by true q h =
          let z : P.kind_at b at ≡ 12 = eqb-true _ _ q in
          flat_sound i (P.kind_at b at) (P.argument_at b at) argument_small (omega arith) some
          (λ y. ltb-true _ _ (simp q at h))
      by false q h =
          let z : P.kind_at b at < 12 = ltb-true _ _ (simp q at h) in
          flat_sound i (P.kind_at b at) (P.argument_at b at) argument_small (omega arith) some (λ y. absurd (omega arith))

  flag : (t x : Bool) → pick t x true ≡ true → t ≡ true → x ≡ true
  flag true x h e = h
  flag false x h e = never e

  pub member_sound : L.record_ok b InTable at ≡ true → MemberSound (P.parse b) (P.member_at b at)
  unfolding P.member_at P.element_at L.flags_ok
  member_sound e =
      let h : L.flags_ok b InTable at ≡ true = record_flags b InTable at e in
      record {
        kind = element_sound InTable e;
        optional = λ o.
            may_be-optional (P.kind_at b at) (P.argument_at b at)
            (flag (P.optional_at b at) (L.optional_ok InTable (P.kind_at b at))
            (both_left (pick (P.optional_at b at) (L.optional_ok InTable (P.kind_at b at)) true) _ h) o);
        inplace = λ o.
            may_stand_in-place b (P.kind_at b at) (P.argument_at b at)
            (flag (P.inplace_at b at) (L.inplace_ok InTable (P.kind_at b at))
            (both_right (pick (P.optional_at b at) (L.optional_ok InTable (P.kind_at b at)) true) _ h) o)
            (held_at InTable e o);
      }
