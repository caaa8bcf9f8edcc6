-- The bits of what a member or an element holds are the encoding of what it reads as; a struct's bits are those of its
-- members in turn.
use mathlib.Core.Path.{◌≡◌, refl, sym, ap₂, subst}
use mathlib.Core.Bool.{Bool, true, false, ◌&&◌}
use mathlib.Core.List.{List, [], ◌∷◌, ◌++◌, append_assoc}
use Prim.Native.Nat.{ℕ, zero, suc, ◌+◌, ◌%◌, ◌<◌}
use lib.ListN.{length, get_or}
use lib.Dec.{eqb, leb, ltb}
use Rattle.coding.specs.Lists.{pick}
use Rattle.coding.specs.Bytes.{le, is_nan}
use Rattle.coding.specs.Schema.{Schema, struct_of, cases_of, case_of}
use Rattle.coding.specs.Structs.{lower, by_index, flat_width, struct_size, struct_ok}
use Rattle.coding.specs.Layout as L
use Rattle.coding.specs.Step as T
use Rattle.coding.specs.Value.{Value, as_number, as_row, as_object, first, others}
use Rattle.coding.specs.Read as R
use Rattle.coding.specs.Bits.{bits_of}
use Rattle.coding.specs.Sheet as E
use Rattle.coding.specs.declared.Flat.{Flat}
use Rattle.coding.specs.declared.Flat.TheVariants as F
use Rattle.coding.specs.declared.Object.{Object}
use Rattle.coding.specs.declared.Object.TheVariants as O
use Rattle.coding.specs.declared.Kind.{Kind}
use Rattle.coding.specs.declared.Kind.TheVariants.{OfFlat, OfObject, OfUnion}
use Rattle.coding.specs.declared.Member.{Member}
use Rattle.coding.specs.declared.Cursor.{Cursor}
use Rattle.coding.specs.declared.Placement.{Placement}
use Rattle.coding.specs.declared.Place.{Place}
use Rattle.coding.specs.declared.Place.TheVariants.{ByOffset, InPlace}
use Rattle.coding.specs.declared.Step.{Step}
use Rattle.coding.specs.declared.Step.TheVariants as St
use Rattle.laws.specs.Sound.{All, FlatSound, Sound}
use Rattle.laws.specs.Structs.{lower_is}
use Rattle.message_step.specs.Lead.{reached, reach_of}
use Rattle.message_step.specs.declared.Reach.{Reach}
use Rattle.message_step.specs.declared.Reach.TheVariants.{Cut, Past, Here}
use Rattle.message_step.proofs.ReachCases.{step-reached}
use Rattle.sheet_walk.specs.MessageBits.{struct_at, fields_at, object_at, flat_value, value_width, step_at}
use Rattle.sheet_values.specs.Marks.{marked}
use Rattle.sheet_walk.specs.Readable.{StepReadable, ObjectReadable}

-- ---- structs
module _ (S : Schema) (m : List ℕ) (i : ℕ) (f g : ℕ → Value → List ℕ) (e h : ℕ → ℕ → Value) (bits : (j : ℕ) → j < i → f j ≡ g j)
    (read : (j : ℕ) → j < i → e j ≡ h j) where
  enum_same : (n x : ℕ) (t u : Bool)
      → E.mark_bits 8 (E.flat_bits f (F.Enumerated n)) (R.step_read e R.no_object (pick t St.Absent (pick u (St.Value x) (St.Unknown x))))
      ≡ E.mark_bits 8 (E.flat_bits g (F.Enumerated n)) (R.step_read h R.no_object (pick t St.Absent (pick u (St.Value x) (St.Unknown x))))
  unfolding E.mark_bits E.flat_bits R.step_read
  enum_same n x true u = refl
  enum_same n x false true = refl
  enum_same n x false false = refl

  field-same : (k : Flat) (at : ℕ) → FlatSound i k
      → E.field_bits f k (R.step_read e R.no_object (T.field_step m k at)) ≡ E.field_bits g k (R.step_read h R.no_object (T.field_step m k at))
  unfolding E.field_bits E.flat_bits T.field_step R.step_read T.enum_step
  field-same F.Boolean at l = refl
  field-same (F.Integer s w) at l = refl
  field-same (F.Float w) at l = refl
  field-same (F.Enumerated n) at l = enum_same n (get_or m at 0) (eqb (get_or m at 0) 255) (ltb (get_or m at 0) n)
  field-same (F.Struct j) at l = ap₂ (λ (u : Value → List ℕ) (v : ℕ → Value). u (v at)) (bits j l) (read j l)

  fields-same : (ks : List Flat) (at : ℕ) → All (FlatSound i) ks
      → E.fields_bits f ks (R.fields_read e S m ks at) ≡ E.fields_bits g ks (R.fields_read h S m ks at)
  unfolding E.fields_bits R.fields_read first others
  fields-same [] at l = refl
  fields-same (k ∷ ks) at l = ap₂ ◌++◌ (field-same k at l.0) (fields-same ks (at + flat_width (struct_size S) k) l.1)

pub struct_is : (S : Schema) → Sound S → (m : List ℕ) (i at : ℕ) → struct_at S m i at ≡ fields_at S m (struct_of S i) at
unfolding struct_at fields_at E.struct_bits R.struct_read by_index E.bits_by R.read_by as_row
struct_is S sound m i at =
    fields-same S m i (lower E.no_bits (E.bits_by S) i) (E.struct_bits S) (lower R.no_struct (R.read_by S m) i) (R.struct_read S m)
    (λ j l. lower_is E.no_bits (E.bits_by S) i j l) (λ j l. lower_is R.no_struct (R.read_by S m) i j l) (struct_of S i) at (sound.structs i).members

-- ---- what is present
struct_mark : (S : Schema) (m : List ℕ) (i at w : ℕ) (body : Value → List ℕ)
    → E.mark_bits w body (R.struct_read S m i at) ≡ bits_of 2 1 ++ body (R.struct_read S m i at)
unfolding R.struct_read by_index R.read_by E.mark_bits
struct_mark S m i at w body = refl

content_mark : (o : ℕ) (child : R.Child) (S : Schema) (m : List ℕ) (ob : Object) (at start n w : ℕ) (body : Value → List ℕ)
    → E.mark_bits w body (R.content_read child o S m ob at start n) ≡ bits_of 2 1 ++ body (R.content_read child o S m ob at start n)
unfolding R.content_read E.mark_bits
content_mark o child S m O.Text at start n w body = refl
content_mark o child S m O.Bytes at start n w body = refl
content_mark o child S m (O.List i) at start n w body = refl
content_mark o child S m (O.Table i) at start n w body = refl
content_mark o child S m (O.DirectList t) at start n w body = refl

object_mark : (o d : ℕ) (S : Schema) (m : List ℕ) (ob : Object) (p : Place) → ObjectReadable o d S m ob p → (w : ℕ) (body : Value → List ℕ)
    → E.mark_bits w body (R.read d o S m ob p) ≡ bits_of 2 1 ++ body (R.read d o S m ob p)
unfolding R.read R.place_read ObjectReadable
object_mark o zero S m ob p h w body = absurd h
object_mark o (suc d) S m ob (ByOffset x) h w body = content_mark o (R.read d o S m) S m ob x (x + Rattle.coding.specs.Walk.header_size o ob) (le m (x + 4) o) w body
object_mark o (suc d) S m ob (InPlace a n) h w body = content_mark o (R.read d o S m) S m ob a a n w body

-- ---- steps
module _ (o d : ℕ) (S : Schema) (m : List ℕ) where
  -- the bits of a step of a kind are the encoding of what it reads as
  abbrev Part : Kind → Step → Type 0
  Part k s =
      StepReadable (ObjectReadable o d S m) S m s
      → E.part_bits (E.encode d S) S k (R.step_read (R.struct_read S m) (R.read d o S m) s) ≡ step_at o d S m k s

  float-part : (w x : ℕ) (t : Bool) → Part (OfFlat (F.Float w)) (T.struct_tested S m (pick t St.Absent (St.Value x)))
  unfolding T.struct_tested E.part_bits E.mark_bits E.body_bits E.flat_bits E.unknown_width E.flat_unknown R.step_read as_number step_at marked value_width flat_value
  float-part w x true h = refl
  float-part w x false h = refl

  enum-part : (n x : ℕ) (t u : Bool) → Part (OfFlat (F.Enumerated n)) (T.struct_tested S m (pick t St.Absent (pick u (St.Value x) (St.Unknown x))))
  unfolding T.struct_tested E.part_bits E.mark_bits E.body_bits E.flat_bits E.unknown_width E.flat_unknown R.step_read as_number step_at marked value_width flat_value
  enum-part n x true u h = refl
  enum-part n x false true h = refl
  enum-part n x false false h = refl

  struct-part : (i at : ℕ) (t : Bool) → Part (OfFlat (F.Struct i)) (pick t (St.Struct i at) (St.Refused 10))
  unfolding E.part_bits E.body_bits E.flat_bits R.step_read step_at struct_at E.mark_bits E.unknown_width E.flat_unknown
  struct-part i at true h = struct_mark S m i at 0 (λ v. E.struct_bits S i v)
  struct-part i at false h = refl

  flat-part : (k : Flat) (nan : Bool) (at bit : ℕ) → Part (OfFlat k) (T.struct_tested S m (T.flat_step m k nan at bit))
  unfolding T.flat_step T.float_step T.enum_step T.struct_tested E.part_bits E.mark_bits E.body_bits E.flat_bits R.step_read as_number step_at marked value_width flat_value
  flat-part F.Boolean nan at bit h = refl
  flat-part (F.Integer s w) nan at bit h = refl
  flat-part (F.Float w) nan at bit h = float-part w (le m at w) (nan && is_nan w (le m at w)) h
  flat-part (F.Enumerated n) nan at bit h = enum-part n (get_or m at 0) (eqb (get_or m at 0) 255) (ltb (get_or m at 0) n) h
  flat-part (F.Struct i) nan at bit h = struct-part i at (struct_ok S m i at) h

  object-part : (ob : Object) (p : Place) (t : Bool) → Part (OfObject ob) (T.struct_tested S m (pick t St.Absent (St.Object ob p)))
  unfolding T.struct_tested E.part_bits E.mark_bits E.body_bits R.step_read step_at object_at StepReadable E.unknown_width
  object-part ob p true h = refl
  object-part ob p false h = object_mark o d S m ob p h 0 (λ v. E.encode d S ob v)

  union-part : (i c : ℕ) (p : Place) (t u : Bool) → Part (OfUnion i) (T.struct_tested S m (pick t St.Absent (pick u (St.Choice c (case_of (cases_of S i) c) p) (St.Unknown c))))
  unfolding T.struct_tested E.part_bits E.mark_bits E.body_bits E.unknown_width R.step_read step_at object_at marked as_number as_object
  union-part i c p true u h = refl
  union-part i c p false true h =
      sym (append_assoc (bits_of 2 1) (bits_of 16 c) (E.encode d S (case_of (cases_of S i) c) (R.read d o S m (case_of (cases_of S i) c) p)))
  union-part i c p false false h = refl

  value-part : (k : Kind) (nan inplace : Bool) (tail at bit : ℕ) → Part k (T.struct_tested S m (T.value_step o S m k nan inplace tail at bit))
  unfolding T.value_step T.object_step T.union_step
  value-part (OfFlat k) nan inplace tail at bit h = flat-part k nan at bit h
  value-part (OfObject ob) nan inplace tail at bit h = object-part ob (T.place_of inplace tail (le m at o)) (eqb (le m at o) 0) h
  value-part (OfUnion i) nan inplace tail at bit h =
      union-part i (le m at 2) (T.place_of inplace tail (le m (at + 2) o)) (eqb (le m at 2) 0) (leb (le m at 2) (length (cases_of S i))) h

  reached-part : (k : Kind) (g : Reach) (s : Step) → Part k (T.struct_tested S m s) → Part k (T.struct_tested S m (reached g s))
  unfolding T.struct_tested reached E.part_bits E.mark_bits R.step_read step_at
  reached-part k Cut s p h = refl
  reached-part k Past s p h = refl
  reached-part k Here s p h = p h

  pub member-part : (start n : ℕ) (c : Cursor) (r : Member) → Part r.kind (T.member_step o S m start n c r)
  unfolding T.member_step
  member-part start n c r =
      let p : Placement = L.placement_of o S r c in
      subst (λ (s : Step). Part r.kind (T.struct_tested S m s)) (sym (step-reached o S m start n p r))
      (reached-part r.kind (reach_of m start n p (L.has_flag r))
      (T.value_step o S m r.kind r.optional r.inplace (start + n) (start + p.value.at) p.value.bit)
      (value-part r.kind r.optional r.inplace (start + n) (start + p.value.at) p.value.bit))

  pub element-part : (k : Kind) (start i : ℕ) → Part k (T.element_step o S m k start i)
  unfolding T.element_step
  element-part k start i = value-part k true false 0 (T.element_place o S k start i) (i % 8)
