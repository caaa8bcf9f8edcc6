-- The ways out of the writers of members, elements and objects.
use mathlib.Core.Path.{◌≡◌, refl, sym, ap, ap₂, ◌∙◌, subst}
use mathlib.Core.Logic.{◌⊎◌, inl, inr}
use mathlib.Core.List.{List, ◌++◌}
use Prim.Native.Nat.{ℕ, zero, suc, ◌+◌, ◌-◌, ◌*◌, ◌^◌, ◌<◌, ◌≤◌}
use native.Mathlib.Omega.{arith}
use native.Mathlib.Nat.{mul_comm}
use native.Mathlib.Numerals.{sub-one}
use lib.ListN.{length, take, drop}
use Rattle.coding.specs.Bytes.{le}
use Rattle.coding.specs.Schema as Sc
use Rattle.coding.specs.Schema.{Schema}
use Rattle.coding.specs.Packed as P
use Rattle.coding.specs.Layout as L
use Rattle.coding.specs.Step as T
use Rattle.coding.specs.Walk as W
use Rattle.coding.specs.Value as Tree
use Rattle.coding.specs.Read as R
use Rattle.coding.specs.Bits.{bits_of}
use Rattle.coding.specs.Sheet as E
use Rattle.coding.specs.declared.Object.{Object}
use Rattle.coding.specs.declared.Object.TheVariants as O
use Rattle.coding.specs.declared.Kind.{Kind}
use Rattle.coding.specs.declared.Kind.TheVariants.{OfFlat, OfObject, OfUnion}
use Rattle.coding.specs.declared.Member.{Member}
use Rattle.coding.specs.declared.Cursor.{Cursor}
use Rattle.coding.specs.declared.Placement.{Placement}
use Rattle.coding.specs.declared.Slot.{Slot}
use Rattle.coding.specs.declared.Place.{Place}
use Rattle.coding.specs.declared.Place.TheVariants.{ByOffset, InPlace}
use Rattle.coding.specs.declared.Step.{Step}
use Rattle.coding.specs.declared.Step.TheVariants as St
use Rattle.laws.specs.Sound.{ObjectSound, KindSound, MemberSound}
use Rattle.laws.specs.SoundAt.{member_sound-at, list_index, table_index}
use Rattle.schema.specs.Directory.{Accepted, accepted_sound}
use Rattle.message_layout.specs.Bounds.{Laid, Stands}
use Rattle.message_step.specs.Lead.{reached, reach_of}
use Rattle.message_step.specs.declared.Reach.{Reach}
use Rattle.message_step.specs.declared.Reach.TheVariants.{Cut, Past, Here}
use Rattle.message_step.proofs.ReachCases.{step-reached, here-inside, slot-size}
use Rattle.bitio.specs.Puts.{Room, Puts}
use Rattle.bitio.specs.PutsLaws.{puts_none, puts_then, puts-same}
use Rattle.sheet_values.specs.Marks as K
use Rattle.sheet_walk.specs.MessageBits as A
use Rattle.sheet_walk.specs.Readable as D

-- ---- places
module _ (o : ℕ) (ob : Object) (p : Place) where
  -- where it stands, if some content behind that lies within the message
  placed-within : (n c : ℕ) → D.start_of o ob p + c ≤ n → W.placed p ≤ n
  unfolding D.start_of W.placed
  placed-within n c h = by p h
    where
      by : (q : Place) → D.start_of o ob q + c ≤ n → W.placed q ≤ n
      by (ByOffset x) l = omega arith
      by (InPlace a n) l = omega arith

-- ---- one member
pub member_sound-of : (b dir : List ℕ) → Accepted b dir → (t j : ℕ) (r : Member) → r ≡ Sc.member_of (P.parse b) t j
    → j < length (Sc.table_of (P.parse b) t).members → MemberSound (P.parse b) r
member_sound-of b dir a t j r e h = rw e (member_sound-at (P.parse b) (accepted_sound b dir a) t j h)

-- ---- a step
module _ (o d : ℕ) (S : Schema) (m : List ℕ) (k : Kind) (out out₁ : List ℕ) (p q : ℕ) (step : Step) where
  pub step_absent : step ≡ St.Absent → Puts out p (bits_of 2 0) out₁ q → Puts out p (A.step_at o d S m k step) out₁ q
  unfolding A.step_at
  step_absent e h = rw e h

  pub step-unknown : (x y w : ℕ) → step ≡ St.Unknown x → w ≡ E.unknown_width k → y ≡ x → Puts out p (K.marked 2 w y) out₁ q → Puts out p (A.step_at o d S m k step) out₁ q
  unfolding A.step_at
  step-unknown x y w e ew ey h =
      rw e (subst (λ (v : ℕ). Puts out p (K.marked 2 v x) out₁ q) ew (subst (λ (v : ℕ). Puts out p (K.marked 2 w v) out₁ q) ey h))

  module _ (g : Room out p) (out₂ : List ℕ) (r : ℕ) where
    pub step-choice : (c x : ℕ) (ob : Object) (place : Place) → step ≡ St.Choice c ob place → x ≡ c → Puts out p (K.marked 1 16 x) out₁ q
        → Puts out₁ q (A.object_at o d S m ob place) out₂ r → Puts out p (A.step_at o d S m k step) out₂ r
    unfolding A.step_at
    step-choice c x ob place e ex h l =
        rw e
        (puts_then out out₁ out₂ p q r (K.marked 1 16 c) (A.object_at o d S m ob place) g.short (subst (λ (v : ℕ). Puts out p (K.marked 1 16 v) out₁ q) ex h) l)

module _ (o d : ℕ) (S : Schema) (m : List ℕ) (step : Step) (h : D.StepReadable (D.ObjectReadable o d S m) S m step) where
  pub object_readable : (ob : Object) (p : Place) → step ≡ St.Object ob p → D.ObjectReadable o d S m ob p
  unfolding D.StepReadable
  object_readable ob p e = subst (D.StepReadable (D.ObjectReadable o d S m) S m) e h

  pub choice_readable : (c : ℕ) (ob : Object) (p : Place) → step ≡ St.Choice c ob p → D.ObjectReadable o d S m ob p
  unfolding D.StepReadable
  choice_readable c ob p e = subst (D.StepReadable (D.ObjectReadable o d S m) S m) e h

-- ---- an object
pub object_none : (o d : ℕ) (S : Schema) (m : List ℕ) (ob : Object) (place : Place) (out : List ℕ) (p : ℕ) → d ≡ 0 → Room out p → Puts out p (A.object_at o d S m ob place) out p
unfolding A.object_at E.encode
object_none o d S m ob place out p e g = rw e (puts_none out p g.most)

module _ (o d : ℕ) (S : Schema) (m : List ℕ) (ob : Object) (place : Place) (h : D.ObjectReadable o d S m ob place) (l : d ≡ 0 → ⊥) where
  pub header_there : D.HeaderInside o m ob place
  unfolding D.ObjectReadable
  header_there = by d h l
    where
      by : (k : ℕ) → D.ObjectReadable o k S m ob place → (k ≡ 0 → ⊥) → D.HeaderInside o m ob place
      by zero q f = absurd (f refl)
      by (suc k) q f = q.0

  pub content_readable : (at start n : ℕ) → at ≡ W.placed place → start ≡ D.start_of o ob place → n ≡ D.length_of o m place
      → D.Entered o (D.ObjectReadable o (d - 1) S m) S m ob at start n
  unfolding D.ObjectReadable
  content_readable at start n ea es en = by d h l
    where
      by : (k : ℕ) → D.ObjectReadable o k S m ob place → (k ≡ 0 → ⊥) → D.Entered o (D.ObjectReadable o (k - 1) S m) S m ob at start n
      by zero q f = absurd (f refl)
      by (suc k) q f = rw (sub-one, ea, es, en) q.1

  pub placed_low : length m ≤ 16777215 → (at : ℕ) → at ≡ W.placed place → at < 2 ^ 60
  placed_low short at ea =
      let e = (content_readable (W.placed place) (D.start_of o ob place) (D.length_of o m place) refl refl refl).inside in
      let z = placed-within o ob place (length m) (W.content_size o S m ob (W.placed place) (D.length_of o m place)) e in omega arith

pub object-same : (o d : ℕ) (S : Schema) (m : List ℕ) (ob : Object) (place : Place) (at start n : ℕ) → (d ≡ 0 → ⊥) → at ≡ W.placed place → start ≡ D.start_of o ob place
    → n ≡ D.length_of o m place → A.content_at o (d - 1) S m ob at start n ≡ A.object_at o d S m ob place
unfolding A.content_at A.object_at E.encode R.read R.place_read W.placed D.start_of D.length_of
object-same o zero S m ob place at start n f ea es en = absurd (f refl)
object-same o (suc d) S m ob place at start n f ea es en =
    ap (λ (k : ℕ). A.content_at o k S m ob at start n) (sub-one (suc d)) ∙ ap (λ (k : ℕ). A.content_at o d S m ob k start n) ea
    ∙ ap₂ (λ (a c : ℕ). A.content_at o d S m ob (W.placed place) a c) es en ∙ by place
  where
    by : (pl : Place) → A.content_at o d S m ob (W.placed pl) (D.start_of o ob pl) (D.length_of o m pl) ≡ A.object_at o (suc d) S m ob pl
    by (ByOffset x) = refl
    by (InPlace a c) = refl

pub object-content : (o d : ℕ) (S : Schema) (m : List ℕ) (ob : Object) (place : Place) (out out₁ : List ℕ) (p q at start n : ℕ) → (d ≡ 0 → ⊥) → at ≡ W.placed place
    → start ≡ D.start_of o ob place → n ≡ D.length_of o m place → Puts out p (A.content_at o (d - 1) S m ob at start n) out₁ q → Puts out p (A.object_at o d S m ob place) out₁ q
object-content o d S m ob place out out₁ p q at start n f ea es en h =
    puts-same out out₁ p q (A.content_at o (d - 1) S m ob at start n) (A.object_at o d S m ob place) (object-same o d S m ob place at start n f ea es en) h

-- ---- content by the object
elements-count : (o : ℕ) (child : R.Child) (S : Schema) (m : List ℕ) (start : ℕ) (k : Kind) (n i : ℕ) → Tree.count (R.elements_read child o S m start k n i) ≡ n
unfolding Tree.count R.elements_read
elements-count o child S m start k zero i = refl
elements-count o child S m start k (suc n) i = ap suc (elements-count o child S m start k n (i + 1))

directs-count : (child : R.Child) (t w n at : ℕ) → Tree.count (R.directs_read child t w n at) ≡ n
unfolding Tree.count R.directs_read
directs-count child t w zero at = refl
directs-count child t w (suc n) at = ap suc (directs-count child t w n (at + w))

module _ (o d : ℕ) (S : Schema) (m : List ℕ) (ob : Object) (at start n : ℕ) (out out₁ : List ℕ) (p q : ℕ) where
  pub content-blob : (ob ≡ O.Text) ⊎ (ob ≡ O.Bytes) → Puts out p (E.blob_bits (take n (drop start m))) out₁ q → Puts out p (A.content_at o d S m ob at start n) out₁ q
  unfolding A.content_at E.content_bits R.content_read Tree.as_blob
  content-blob (inl e) h = rw e h
  content-blob (inr e) h = rw e h

  module _ (i j : ℕ) (ej : j ≡ i) where
    pub content-table : ob ≡ O.Table i → Puts out p (A.members_at o d S m start n L.begin (Sc.table_of S j).members) out₁ q → Puts out p (A.content_at o d S m ob at start n) out₁ q
    unfolding A.content_at E.content_bits R.content_read Tree.as_row A.members_at
    content-table e h =
        rw e
        (subst (λ (v : ℕ). Puts out p (E.members_bits (E.encode d S) S (Sc.table_of S v).members (R.members_read (R.read d o S m) o S m start n L.begin (Sc.table_of S v).members)) out₁ q) ej h)

    list_same : A.list_at o d S m (Sc.element_of S i) start n ≡ A.content_at o d S m (O.List i) at start n
    unfolding A.content_at E.content_bits R.content_read Tree.as_row A.list_at A.elements_at
    list_same =
        ap (λ (v : ℕ). bits_of 32 v ++ E.elements_bits (E.encode d S) S (Sc.element_of S i) (R.elements_read (R.read d o S m) o S m start (Sc.element_of S i) n 0))
        (sym (elements-count o (R.read d o S m) S m start (Sc.element_of S i) n 0))

    pub content_list : ob ≡ O.List i → Puts out p (A.list_at o d S m (Sc.element_of S j) start n) out₁ q → Puts out p (A.content_at o d S m ob at start n) out₁ q
    content_list e h =
        subst (λ (v : Object). Puts out p (A.content_at o d S m v at start n) out₁ q) (sym e)
        (puts-same out out₁ p q (A.list_at o d S m (Sc.element_of S i) start n) (A.content_at o d S m (O.List i) at start n) list_same
        (subst (λ (v : ℕ). Puts out p (A.list_at o d S m (Sc.element_of S v) start n) out₁ q) ej h))

  module _ (i : ℕ) where
    direct-same : A.direct_at o d S m i (W.element_size o m at) n start ≡ A.content_at o d S m (O.DirectList i) at start n
    unfolding A.content_at E.content_bits R.content_read Tree.as_row A.direct_at A.directs_at
    direct-same =
        ap (λ (v : ℕ). bits_of 32 v ++ E.directs_bits (E.encode d S) i (R.directs_read (R.read d o S m) i (W.element_size o m at) n start))
        (sym (directs-count (R.read d o S m) i (W.element_size o m at) n start))

    pub content-direct : ob ≡ O.DirectList i → (w : ℕ) → w ≡ W.element_size o m at → Puts out p (A.direct_at o d S m i w n start) out₁ q
        → Puts out p (A.content_at o d S m ob at start n) out₁ q
    content-direct e w ew h =
        puts-same out out₁ p q (A.direct_at o d S m i w n start) (A.content_at o d S m ob at start n)
        (ap (λ (v : ℕ). A.direct_at o d S m i v n start) ew ∙ direct-same ∙ ap (λ (v : Object). A.content_at o d S m v at start n) (sym e)) h

-- what an object's content gives to its list or table
module _ (o : ℕ) (child : D.Child) (b m : List ℕ) (ob : Object) (at start n : ℕ) (h : D.Entered o child (P.parse b) m ob at start n) (i j : ℕ) (ej : j ≡ i) where
  pub table_counted : ob ≡ O.Table i → j < P.table_count b
  table_counted e = rw ej (table_index b i (subst (ObjectSound (P.parse b)) e h.sound))

  pub table-inside : ob ≡ O.Table i → start + n ≤ length m
  unfolding W.content_size
  table-inside e = subst (λ (v : Object). start + W.content_size o (P.parse b) m v at n ≤ length m) e h.inside

  pub table_readable : ob ≡ O.Table i → D.MembersReadable o child (P.parse b) m start n L.begin (Sc.table_of (P.parse b) j).members
  unfolding D.ContentReadable
  table_readable e =
      subst (λ (v : ℕ). D.MembersReadable o child (P.parse b) m start n L.begin (Sc.table_of (P.parse b) v).members) (sym ej)
      (subst (λ (v : Object). D.ContentReadable o child (P.parse b) m v at start n) e h.parts)

  pub list_counted : ob ≡ O.List i → j < P.list_count b
  list_counted e = rw ej (list_index b i (subst (ObjectSound (P.parse b)) e h.sound))

  pub list_inside : ob ≡ O.List i → start + T.elements_size o (P.parse b) (Sc.element_of (P.parse b) j) n ≤ length m
  unfolding W.content_size
  list_inside e =
      subst (λ (v : ℕ). start + T.elements_size o (P.parse b) (Sc.element_of (P.parse b) v) n ≤ length m) (sym ej)
      (subst (λ (v : Object). start + W.content_size o (P.parse b) m v at n ≤ length m) e h.inside)

  pub list_readable : ob ≡ O.List i → D.ElementsReadable o child (P.parse b) m (Sc.element_of (P.parse b) j) start n 0
  unfolding D.ContentReadable
  list_readable e =
      subst (λ (v : ℕ). D.ElementsReadable o child (P.parse b) m (Sc.element_of (P.parse b) v) start n 0) (sym ej)
      (subst (λ (v : Object). D.ContentReadable o child (P.parse b) m v at start n) e h.parts)

-- what a direct list's content gives to its elements, of w bytes each
module _ (o : ℕ) (child : D.Child) (b m : List ℕ) (ob : Object) (at start n : ℕ) (h : D.Entered o child (P.parse b) m ob at start n) (i w : ℕ) (ew : w ≡ W.element_size o m at) where
  pub direct-inside : ob ≡ O.DirectList i → start + w * n ≤ length m
  unfolding W.content_size
  direct-inside e =
      let l : start + n * W.element_size o m at ≤ length m = subst (λ (v : Object). start + W.content_size o (P.parse b) m v at n ≤ length m) e h.inside in
      subst (λ (v : ℕ). start + v ≤ length m) (ap (λ (v : ℕ). n * v) (sym ew) ∙ mul_comm n w) l

  pub direct_readable : ob ≡ O.DirectList i → D.DirectsReadable child i w n start
  unfolding D.ContentReadable
  direct_readable e =
      subst (λ (v : ℕ). D.DirectsReadable child i v n start) (sym ew) (subst (λ (v : Object). D.ContentReadable o child (P.parse b) m v at start n) e h.parts)
