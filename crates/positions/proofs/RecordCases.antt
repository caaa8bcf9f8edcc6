-- A member by its record: its flag, and the bytes of its value.
use mathlib.Core.Path.{◌≡◌, refl, sym, ap, ◌∙◌, subst}
use mathlib.Core.Bool.{Bool, true, false, not}
use mathlib.Core.List.{List}
use Prim.Native.Nat.{ℕ, ◌+◌, ◌<◌, ◌≤◌}
use native.Mathlib.Omega.{arith}
use lib.Dec.{ltb, leb, eqb}
use lib.ListN.{length}
use borrow.Author.Tests.{not-true, not-false, ltb-true, ltb-false, leb-true, leb-false, eqb-true, eqb-false, lt-ltb, le-ltb, ne_eqb}
use Rattle.coding.specs.Schema.{Schema}
use Rattle.coding.specs.Structs.{flat_width, struct_size}
use Rattle.coding.specs.Packed as P
use Rattle.coding.specs.Layout as L
use Rattle.coding.specs.declared.Flat.{Flat}
use Rattle.coding.specs.declared.Flat.TheVariants.{Boolean, Integer, Float, Enumerated, Struct}
use Rattle.coding.specs.declared.Kind.{Kind}
use Rattle.coding.specs.declared.Kind.TheVariants.{OfFlat, OfObject, OfUnion}
use Rattle.laws.specs.Lists.{pick_holds}
use Rattle.laws.specs.Parsed.{structs-length}
use Rattle.laws.specs.Sound.{FlatOptional, MayBeOptional, KindSound, MemberSound}

-- ---- the flag
-- what may be optional has a flag then, unless it is a float
module _ (k a : ℕ) (other : 9 ≤ k → k < 11 → ⊥) where
  abbrev FlatFlag : Flat → Type 0
  FlatFlag f = FlatOptional f → L.flat_takes_flag f ≡ true

  flat_flag : FlatFlag (P.flat_of k a)
  unfolding P.flat_of L.flat_takes_flag
  flat_flag =
      pick_holds FlatFlag (eqb k 0) Boolean _ (λ e m. refl)
      (λ e. pick_holds FlatFlag (ltb k 5) (Integer false (P.width_of k)) _ (λ e m. refl)
      (λ e. pick_holds FlatFlag (ltb k 9) (Integer true (P.width_of k)) _ (λ e m. refl)
      (λ low. pick_holds FlatFlag (ltb k 11) (Float (P.width_of k)) _ (λ high m. absurd (other (ltb-false k 9 low) (ltb-true k 11 high)))
      (λ e. pick_holds FlatFlag (eqb k 11) (Enumerated a) (Struct a) (λ e m. absurd m) (λ e m. refl)))))

  abbrev KindFlag : Kind → Type 0
  KindFlag q = MayBeOptional q → L.takes_flag q ≡ true

  kind_flag : KindFlag (P.kind_of k a)
  unfolding P.kind_of L.takes_flag
  kind_flag =
      pick_holds KindFlag (ltb k 13) (OfFlat (P.flat_of k a)) _ (λ e. flat_flag)
      (λ e. pick_holds KindFlag (eqb k 17) (OfUnion a) (OfObject (P.object_of k a)) (λ e m. absurd m) (λ e m. absurd m))

-- a float has none
float_flag : (k a : ℕ) → 9 ≤ k → k < 11 → L.takes_flag (P.kind_of k a) ≡ false
unfolding P.kind_of P.flat_of L.takes_flag L.flat_takes_flag
float_flag k a low high =
    simp (lt-ltb k 13 (omega arith), ne_eqb k 0 (omega arith), le-ltb k 5 (omega arith), le-ltb k 9 low, lt-ltb k 11 high)

module _ (b : List ℕ) (at : ℕ) (t : Bool) (et : t ≡ P.optional_at b at) where
  pub flag-plain : not t ≡ true → false ≡ L.has_flag (P.member_at b at)
  unfolding L.has_flag P.member_at
  flag-plain h = simp (← et, not-true t h)

  module _ (ok : MemberSound (P.parse b) (P.member_at b at)) (h : not t ≡ false) (k : ℕ) (ek : k ≡ P.kind_at b at) where
    may : MayBeOptional (P.kind_of k (P.argument_at b at))
    unfolding P.member_at P.element_at
    may = subst (λ (q : ℕ). MayBeOptional (P.kind_of q (P.argument_at b at))) (sym ek) (ok.optional (sym et ∙ not-false t h))

    flag_kind : (r : Bool) → L.takes_flag (P.kind_of k (P.argument_at b at)) ≡ r → r ≡ L.has_flag (P.member_at b at)
    unfolding L.has_flag P.member_at P.element_at
    flag_kind r e = simp (← et, not-false t h, ← ek) (sym e)

    pub flag-number : k < 9 → true ≡ L.has_flag (P.member_at b at)
    flag-number l = flag_kind true (kind_flag k (P.argument_at b at) (λ x y. omega arith) may)

    pub flag-other : 9 ≤ k → leb 11 k ≡ L.has_flag (P.member_at b at)
    flag-other l = by (leb 11 k) refl
      where
        by : (r : Bool) → leb 11 k ≡ r → leb 11 k ≡ L.has_flag (P.member_at b at)
        by true e =
            e ∙ flag_kind true (kind_flag k (P.argument_at b at) (λ x y. let z = leb-true 11 k e in omega arith) may)
        by false e = e ∙ flag_kind false (float_flag k (P.argument_at b at) l (leb-false 11 k e))

-- ---- the bytes of the value
module _ (o : ℕ) (S : Schema) (k a : ℕ) where
  flat-width : k < 11 → flat_width (struct_size S) (P.flat_of k a) ≡ P.width_of k
  unfolding P.flat_of flat_width P.width_of
  flat-width l =
      pick_holds (λ (f : Flat). flat_width (struct_size S) f ≡ P.width_of k) (eqb k 0) Boolean _
      (λ e. sym (ap P.width_of (eqb-true k 0 e)))
      (λ e. pick_holds (λ (f : Flat). flat_width (struct_size S) f ≡ P.width_of k) (ltb k 5) (Integer false (P.width_of k)) _ (λ e. refl)
      (λ e. pick_holds (λ (f : Flat). flat_width (struct_size S) f ≡ P.width_of k) (ltb k 9) (Integer true (P.width_of k)) _ (λ e. refl)
      (λ e. rw (lt-ltb k 11 l) refl)))

  number-width : k < 11 → P.width_of k ≡ L.width o S (P.kind_of k a)
  unfolding L.width P.kind_of
  number-width l = simp (lt-ltb k 13 (omega arith)) (sym (flat-width l))

  enum-width : k ≡ 11 → 1 ≡ L.width o S (P.kind_of k a)
  unfolding L.width P.kind_of P.flat_of flat_width
  enum-width e = rw e refl

  struct-width : k ≡ 12 → struct_size S a ≡ L.width o S (P.kind_of k a)
  unfolding L.width P.kind_of P.flat_of flat_width
  struct-width e = rw e refl

  union-width : k ≡ 17 → 2 + o ≡ L.width o S (P.kind_of k a)
  unfolding L.width P.kind_of
  union-width e = rw e refl

  object-width : 13 ≤ k → (k ≡ 17 → ⊥) → o ≡ L.width o S (P.kind_of k a)
  unfolding L.width P.kind_of
  object-width l e = simp (le-ltb k 13 l, ne_eqb k 17 e)

module _ (o : ℕ) (b : List ℕ) (at k : ℕ) (ek : k ≡ P.kind_at b at) where
  at_width : (r : ℕ) → r ≡ L.width o (P.parse b) (P.kind_of k (P.argument_at b at)) → r ≡ L.width o (P.parse b) (P.element_at b at)
  unfolding P.element_at
  at_width r e = e ∙ ap (λ (q : ℕ). L.width o (P.parse b) (P.kind_of q (P.argument_at b at))) ek

  pub width-number : k < 11 → (w r : ℕ) → w ≡ P.width_of k → r ≡ w → r ≡ L.width o (P.parse b) (P.element_at b at)
  width-number l w r ew er = at_width r (er ∙ ew ∙ number-width o (P.parse b) k _ l)

  pub width-enum : k ≡ 11 → 1 ≡ L.width o (P.parse b) (P.element_at b at)
  width-enum e = at_width 1 (enum-width o (P.parse b) k _ e)

  module _ (e : k ≡ 12) (a i : ℕ) (ea : a ≡ P.argument_at b at) (ei : i ≡ a) where
    pub struct_there : MemberSound (P.parse b) (P.member_at b at) → i < P.struct_count b
    unfolding P.member_at P.element_at P.kind_of P.flat_of
    struct_there ok =
        let twelve : P.kind_at b at ≡ 12 = sym ek ∙ e in
        let s : P.argument_at b at < length (P.parse b).structs =
        subst (λ (q : ℕ). KindSound (P.parse b) (P.kind_of q (P.argument_at b at))) twelve ok.kind in
        omega (arith, s, structs-length b)

    pub width-struct : (r : ℕ) → r ≡ struct_size (P.parse b) i → r ≡ L.width o (P.parse b) (P.element_at b at)
    width-struct r er =
        at_width r (er ∙ ap (struct_size (P.parse b)) (ei ∙ ea) ∙ struct-width o (P.parse b) k (P.argument_at b at) e)

  module _ (t : Bool) (et : t ≡ eqb k 17) where
    pub width-union : t ≡ true → (r : ℕ) → r ≡ 2 + o → r ≡ L.width o (P.parse b) (P.element_at b at)
    width-union h r er = at_width r (er ∙ union-width o (P.parse b) k _ (eqb-true k 17 (sym et ∙ h)))

    pub width-object : t ≡ false → 11 ≤ k → (k ≡ 11 → ⊥) → (k ≡ 12 → ⊥) → o ≡ L.width o (P.parse b) (P.element_at b at)
    width-object h l x y = at_width o (object-width o (P.parse b) k _ (omega arith) (eqb-false k 17 (sym et ∙ h)))
