-- The ways out of a struct's members, of a table's members, of a list's elements, and of one number of a path.
use mathlib.Core.Path.{◌≡◌, refl, sym, ap, ◌∙◌, subst}
use mathlib.Core.Bool.{Bool}
use mathlib.Core.List.{List, [], ◌∷◌, ◌++◌}
use Prim.Native.Nat.{ℕ, ◌+◌, ◌*◌, ◌^◌, ◌<◌, ◌≤◌}
use native.Mathlib.Omega.{arith}
use native.Mathlib.Numerals.{add-one}
use lib.ListN.{length, get_or, take}
use lib.Seq.{take-suc}
use borrow.Author.Tests.{lt-ltb, le-ltb}
use Rattle.coding.specs.Schema as Sc
use Rattle.coding.specs.Schema.{Schema}
use Rattle.coding.specs.Packed as P
use Rattle.coding.specs.Layout as L
use Rattle.coding.specs.Step as T
use Rattle.coding.specs.Structs.{flat_width, total, struct_size}
use Rattle.coding.specs.Walk as W
use Rattle.coding.specs.Field as Field
use Rattle.coding.specs.declared.Flat.{Flat}
use Rattle.coding.specs.declared.Flat.TheVariants as F
use Rattle.coding.specs.declared.Object.{Object}
use Rattle.coding.specs.declared.Object.TheVariants as O
use Rattle.coding.specs.declared.Kind.{Kind}
use Rattle.coding.specs.declared.Kind.TheVariants.{OfFlat}
use Rattle.coding.specs.declared.Member.{Member}
use Rattle.coding.specs.declared.Step.{Step}
use Rattle.coding.specs.declared.Step.TheVariants as St
use Rattle.coding.specs.declared.Found.{Found}
use Rattle.coding.specs.declared.Found.TheVariants as Fd
use Rattle.coding.specs.declared.Refusal.{Refusal}
use Rattle.laws.specs.Sound.{FlatSound, ObjectSound}
use Rattle.laws.specs.SoundAt.{struct_index}
use Rattle.laws.specs.Parsed.{structs-length}
use Rattle.message_layout.proofs.Booleans.{flat_weaker, field_sound}
use Rattle.schema.specs.Directory.{Accepted, accepted_sound}
use Rattle.wire.specs.Numbers.{Number}
use Rattle.field_arrival.specs.Within.{Readable, StepWithin, FoundWithin}
use Rattle.field_part.proofs.StepsWithin.{total-append, element-within, field-within}

-- ---- a struct's member
module _ (m : List ℕ) (k : Flat) (at : ℕ) where
  pub at_boolean : k ≡ F.Boolean → (x y : ℕ) → x ≡ get_or m at 0 → y ≡ x → St.Value y ≡ T.field_step m k at
  unfolding T.field_step
  at_boolean e x y ex ey = rw e (ap St.Value (ey ∙ ex))

  pub at_integer : (s : Bool) (w : ℕ) → k ≡ F.Integer s w → (v : ℕ) → v ≡ w → (x : ℕ) → Number m at v x → St.Value x ≡ T.field_step m k at
  unfolding T.field_step
  at_integer s w e v ev x n = rw (e, ← ev) (ap St.Value n.is)

  pub at_float : (w : ℕ) → k ≡ F.Float w → (v : ℕ) → v ≡ w → (x : ℕ) → Number m at v x → St.Value x ≡ T.field_step m k at
  unfolding T.field_step
  at_float w e v ev x n = rw (e, ← ev) (ap St.Value n.is)

  pub at_enum : (n : ℕ) → k ≡ F.Enumerated n → (x : ℕ) → x ≡ get_or m at 0 → (r : Step) → r ≡ T.enum_step n x → r ≡ T.field_step m k at
  unfolding T.field_step
  at_enum n e x ex r f = rw e (f ∙ ap (T.enum_step n) ex)

  pub at-struct : (i : ℕ) → k ≡ F.Struct i → St.Struct i at ≡ T.field_step m k at
  unfolding T.field_step
  at-struct i e = rw e

-- the bytes of the members before it
module _ (S : Schema) (s : ℕ) where
  pub size_start : 0 ≡ total (struct_size S) (take 0 (Sc.struct_of S s))
  unfolding total
  size_start = refl

  pub size_turn : (size i : ℕ) → size ≡ total (struct_size S) (take i (Sc.struct_of S s)) → (j : ℕ) → i < j → j < length (Sc.struct_of S s)
      → (k : Flat) → k ≡ Sc.field_of S s i → (w : ℕ) → w ≡ flat_width (struct_size S) k → size + w ≡ total (struct_size S) (take (i + 1) (Sc.struct_of S s))
  unfolding total Sc.field_of
  size_turn size i e j l h k ek w ew =
      let ks = Sc.struct_of S s in
      let p : take (i + 1) ks ≡ take i ks ++ Sc.field_of S s i ∷ [] = ap (λ (x : ℕ). take x ks) (add-one i) ∙ take-suc ks i F.Boolean (omega arith) in
      let q : total (struct_size S) (take (i + 1) ks) ≡ total (struct_size S) (take i ks) + total (struct_size S) (Sc.field_of S s i ∷ []) =
      ap (total (struct_size S)) p ∙ total-append S (take i ks) (Sc.field_of S s i ∷ []) in
      let z : w ≡ flat_width (struct_size S) (Sc.field_of S s i) = ew ∙ ap (flat_width (struct_size S)) ek in
      omega (arith, q, z, e)

-- its kind
pub field_sound-before : (b dir : List ℕ) → Accepted b dir → (s i j : ℕ) → s < P.struct_count b → i < j → j < length (Sc.struct_of (P.parse b) s)
    → (k : Flat) → k ≡ Sc.field_of (P.parse b) s i → FlatSound (length (P.parse b).structs) k
field_sound-before b dir a s i j l h g k e =
    flat_weaker b s k l (field_sound b dir a s i (length (Sc.struct_of (P.parse b) s)) refl k e (omega arith))

pub field_sound_here : (b dir : List ℕ) → Accepted b dir → (s j : ℕ) → s < P.struct_count b → j < length (Sc.struct_of (P.parse b) s)
    → (k : Flat) → k ≡ Sc.field_of (P.parse b) s j → FlatSound (length (P.parse b).structs) k
field_sound_here b dir a s j l h k e = flat_weaker b s k l (field_sound b dir a s j (length (Sc.struct_of (P.parse b) s)) refl k e h)

-- a place in the message is a small number
pub field_low : (m : List ℕ) → Readable m → (at z : ℕ) → at + z ≤ length m → (size j : ℕ) → size ≤ 4096 * j → j < 256 → at + size < 2 ^ 60
field_low m r at z h size j l g = omega (arith, r.size)

pub field-at_is : (S : Schema) (m : List ℕ) (s at j : ℕ) (k : Flat) (size : ℕ) → size ≡ total (struct_size S) (take j (Sc.struct_of S s))
    → (r : Step) → r ≡ T.field_step m k (at + size) → r ≡ T.field_step m k (at + total (struct_size S) (take j (Sc.struct_of S s)))
field-at_is S m s at j k size ez r e = e ∙ ap (λ (x : ℕ). T.field_step m k (at + x)) ez

pub field-at-within : (b dir m : List ℕ) → Accepted b dir → Readable m → (s at j : ℕ) → s < P.struct_count b
    → at + struct_size (P.parse b) s ≤ length m → j < length (Sc.struct_of (P.parse b) s) → (k : Flat) → k ≡ Sc.field_of (P.parse b) s j
    → (size : ℕ) → size ≡ total (struct_size (P.parse b)) (take j (Sc.struct_of (P.parse b) s))
    → (step : Step) → step ≡ T.field_step m k (at + size) → StepWithin (P.parse b) m step
field-at-within b dir m a r s at j l h g k ek size ez step e =
    subst (StepWithin (P.parse b) m)
    (sym
    (e ∙ ap (λ (f : Flat). T.field_step m f (at + size)) ek
    ∙ ap (λ (x : ℕ). T.field_step m (Sc.field_of (P.parse b) s j) (at + x)) ez))
    (field-within (P.parse b) (accepted_sound b dir a) m r s at j (omega (arith, structs-length b)) h g)

module _ (o : ℕ) (S : Schema) (m : List ℕ) (s at holder j n : ℕ) (en : n ≡ length (Sc.struct_of S s)) (r : Found) where
  pub struct_none : n ≤ j → r ≡ Fd.Refused (W.refusal 15 holder) → r ≡ Field.struct_part o S m s at holder j
  unfolding Field.struct_part Field.no_part
  struct_none h e = simp (← en, le-ltb _ _ h) e

  pub struct_there : j < n → (k : Flat) → k ≡ Sc.field_of S s j → (step : Step)
      → step ≡ T.field_step m k (at + total (struct_size S) (take j (Sc.struct_of S s)))
      → r ≡ Field.stepped 0 o S m holder j (OfFlat k) step → r ≡ Field.struct_part o S m s at holder j
  unfolding Field.struct_part
  struct_there h k ek step et e = simp (← en, lt-ltb _ _ h, ← ek, ← et) e

-- ---- a table's member
module _ (o : ℕ) (S : Schema) (m : List ℕ) (t at start n d j count : ℕ) (ec : count ≡ length (Sc.table_of S t).members) (r : Found) where
  pub table_none : count ≤ j → r ≡ Fd.Refused (W.refusal 15 at) → r ≡ Field.object_part o S m (O.Table t) at start n d j
  unfolding Field.object_part Field.no_part
  table_none h e = simp (← ec, le-ltb _ _ h) e

  pub table_there : j < count → (x : Member) → x ≡ Sc.member_of S t j → (step : Step)
      → step ≡ T.member_step o S m start n (L.after_members o S (take j (Sc.table_of S t).members) L.begin) x
      → r ≡ Field.stepped d o S m at j x.kind step → r ≡ Field.object_part o S m (O.Table t) at start n d j
  unfolding Field.object_part
  table_there h x ex step es e = simp (← ec, lt-ltb _ _ h, ← ex, ← es) e

-- ---- a list's element
module _ (o : ℕ) (S : Schema) (m : List ℕ) (i at start n d j : ℕ) (r : Found) where
  pub list_none : n ≤ j → r ≡ Fd.Refused (W.refusal 15 at) → r ≡ Field.object_part o S m (O.List i) at start n d j
  unfolding Field.object_part Field.no_part
  list_none h e = simp (le-ltb _ _ h) e

  pub list_there : j < n → (k : Kind) → k ≡ Sc.element_of S i → (step : Step) → step ≡ T.element_step o S m k start j
      → r ≡ Field.stepped d o S m at j k step → r ≡ Field.object_part o S m (O.List i) at start n d j
  unfolding Field.object_part
  list_there h k ek step es e = simp (lt-ltb _ _ h, ← ek, ← es) e

pub element_step-within : (o : ℕ) (b dir m : List ℕ) → o ≤ 6 → Accepted b dir → Readable m → (i start n j : ℕ)
    → start + T.elements_size o (P.parse b) (Sc.element_of (P.parse b) i) n ≤ length m → j < n → (k : Kind) → k ≡ Sc.element_of (P.parse b) i
    → (step : Step) → step ≡ T.element_step o (P.parse b) m k start j → StepWithin (P.parse b) m step
element_step-within o b dir m most a r i start n j h l k ek step e =
    subst (StepWithin (P.parse b) m) (sym (e ∙ ap (λ (q : Kind). T.element_step o (P.parse b) m q start j) ek))
    (element-within (P.parse b) (accepted_sound b dir a) m r o most (Sc.element_of (P.parse b) i) ((accepted_sound b dir a).lists i).kind start n j h l)

-- ---- an object's part
module _ (o : ℕ) (S : Schema) (m : List ℕ) (ob : Object) (at start n d j : ℕ) (r : Found) where
  pub part-text : ob ≡ O.Text → r ≡ Fd.Refused (W.refusal 15 at) → r ≡ Field.object_part o S m ob at start n d j
  unfolding Field.object_part Field.no_part
  part-text e f = rw e f

  pub part_bytes : ob ≡ O.Bytes → r ≡ Fd.Refused (W.refusal 15 at) → r ≡ Field.object_part o S m ob at start n d j
  unfolding Field.object_part Field.no_part
  part_bytes e f = rw e f

  pub part_list : (i x : ℕ) → ob ≡ O.List i → x ≡ i → r ≡ Field.object_part o S m (O.List x) at start n d j
      → r ≡ Field.object_part o S m ob at start n d j
  part_list i x e ex f = f ∙ ap (λ (q : Object). Field.object_part o S m q at start n d j) (ap O.List ex ∙ sym e)

  pub part-table : (i x : ℕ) → ob ≡ O.Table i → x ≡ i → r ≡ Field.object_part o S m (O.Table x) at start n d j
      → r ≡ Field.object_part o S m ob at start n d j
  part-table i x e ex f = f ∙ ap (λ (q : Object). Field.object_part o S m q at start n d j) (ap O.Table ex ∙ sym e)

-- ---- one number more
module _ (o : ℕ) (S : Schema) (m : List ℕ) (f : Found) (j : ℕ) where
  pub of_refused : (x : Refusal) → f ≡ Fd.Refused x → Fd.Refused x ≡ Field.part_of o S m f j
  unfolding Field.part_of
  of_refused x e = rw e

  pub of_absent : f ≡ Fd.Absent → Fd.Absent ≡ Field.part_of o S m f j
  unfolding Field.part_of
  of_absent e = rw e

  pub of-unknown : (x : ℕ) → f ≡ Fd.Unknown x → Fd.Unknown x ≡ Field.part_of o S m f j
  unfolding Field.part_of
  of-unknown x e = rw e

  module _ (r : Found) where
    pub of-value : (k : Kind) (x holder : ℕ) → f ≡ Fd.Value k x holder → r ≡ Fd.Refused (W.refusal 15 holder) → r ≡ Field.part_of o S m f j
    unfolding Field.part_of Field.no_part
    of-value k x holder e q = rw e q

    pub of_struct : (i at holder s : ℕ) → f ≡ Fd.Struct i at holder → s ≡ i → r ≡ Field.struct_part o S m s at holder j → r ≡ Field.part_of o S m f j
    unfolding Field.part_of
    of_struct i at holder s e es q = rw e (q ∙ ap (λ (x : ℕ). Field.struct_part o S m x at holder j) es)

    pub of-object : (ob : Object) (at start n d : ℕ) → f ≡ Fd.Object ob at start n d → r ≡ Field.object_part o S m ob at start n d j
        → r ≡ Field.part_of o S m f j
    unfolding Field.part_of
    of-object ob at start n d e q = rw e q

-- what it needs of what was found
module _ (o : ℕ) (S : Schema) (m : List ℕ) (f : Found) (within : FoundWithin o S m f) where
  pub struct_fits : (i at holder s : ℕ) → f ≡ Fd.Struct i at holder → s ≡ i → at + struct_size S s ≤ length m
  struct_fits i at holder s e es = rw es (subst (FoundWithin o S m) e within).1

  pub object_index : (ob : Object) (at start n d : ℕ) → f ≡ Fd.Object ob at start n d → ObjectSound S ob
  object_index ob at start n d e = (subst (FoundWithin o S m) e within).0

  pub object_fits : (ob : Object) (at start n d : ℕ) → f ≡ Fd.Object ob at start n d → start + W.content_size o S m ob at n ≤ length m
  object_fits ob at start n d e = (subst (FoundWithin o S m) e within).1

  pub object-size : (ob : Object) (at start n d : ℕ) → f ≡ Fd.Object ob at start n d → length m ≤ 16777215
  object-size ob at start n d e = (subst (FoundWithin o S m) e within).2

  pub object-place : (ob : Object) (at start n d : ℕ) → f ≡ Fd.Object ob at start n d → at < 2 ^ 60
  object-place ob at start n d e = (subst (FoundWithin o S m) e within).3

-- ---- all of a struct's members before member j
pub size_done : (S : Schema) (s size i j : ℕ) → size ≡ total (struct_size S) (take i (Sc.struct_of S s)) → i ≤ j → j ≤ i
    → size ≡ total (struct_size S) (take j (Sc.struct_of S s))
size_done S s size i j e h l = let z : i ≡ j = omega arith in e ∙ ap (λ (x : ℕ). total (struct_size S) (take x (Sc.struct_of S s))) z

pub struct-counted-of : (o : ℕ) (b m : List ℕ) (f : Found) → FoundWithin o (P.parse b) m f → (i at holder s : ℕ) → f ≡ Fd.Struct i at holder → s ≡ i
    → s < P.struct_count b
struct-counted-of o b m f within i at holder s e es = rw es (struct_index b i (subst (FoundWithin o (P.parse b) m) e within).0)
