-- The values that an older schema reads from any bytes are the newer's without the appended members.
use Prim.Native.Nat.{ℕ, zero, suc, ◌≤◌, ◌<◌, ◌+◌}
use Rattle.std.proofs.Common.{arith, ◌∙◌, ltb-true, ltb-false, lt-ltb, le-ltb, le-leb}
use Rattle.std.specs.Prelude.{List, Bool, true, false, ◌≡◌, get_or, ltb, eqb}
use Rattle.std.proofs.Math.Path.{refl, sym, ap, ap₂, subst}
use Rattle.std.proofs.Math.ListN.{length}
use Rattle.std.proofs.lemmas.Bool.{lt-leb}
use Rattle.coding.specs.Lists.{pick}
use Rattle.coding.specs.Bytes.{le, deepest}
use Rattle.coding.specs.Schema.{Schema, cases_of}
use Rattle.coding.specs.Structs.{flat_width, struct_size}
use Rattle.coding.specs.Layout.{begin, after_member}
use Rattle.coding.specs.Step.{enum_step, field_step}
use Rattle.coding.specs.Walk.{header_size, element_size, root_place}
use Rattle.coding.specs.Value.{Value, absent, number, row, ◌then◌, first, others}
use Rattle.coding.specs.Read.{Child, step_read, no_object, fields_read, read_by, no_struct, struct_read, members_read, elements_read, directs_read, content_read, place_read, read, message_read}
use Rattle.coding.specs.Append.{Extends, rest, more, Alike, done, also, FlatAppends, boolean, integer, float, enumerated, struct, KindAppends, MemberAppends, SchemaAppends, without_enum, in_row, without_flat, without_fields, without_by, same-value, without_struct, Change, without_choice, without_part, without_members, without_elements, in_elements, without_content, without}
use Rattle.coding.specs.declared.Flat.{Flat}
use Rattle.coding.specs.declared.Flat.TheVariants.{Boolean, Integer, Float, Enumerated, Struct}
use Rattle.coding.specs.declared.Object.{Object}
use Rattle.coding.specs.declared.Object.TheVariants as Ob
use Rattle.coding.specs.declared.Kind.{Kind}
use Rattle.coding.specs.declared.Kind.TheVariants.{OfFlat, OfObject, OfUnion}
use Rattle.coding.specs.declared.Member.{Member}
use Rattle.coding.specs.declared.Cursor.{Cursor}
use Rattle.coding.specs.declared.Place.{Place}
use Rattle.coding.specs.declared.Place.TheVariants.{ByOffset, InPlace}
use Rattle.coding.specs.declared.Step.{Step}
use Rattle.coding.specs.declared.Step.TheVariants as St
use Rattle.laws.specs.Structs.{index_holds, index_holds₃}
use Rattle.laws.specs.Sound.{All, FlatSound, ObjectSound, KindSound, MemberSound, Sound}
use Rattle.demands.specs.SameLayout.{flat-width, struct-same, struct-size-same, element-same, table_same, after-member-same}
use Rattle.demands.specs.SameStep.{Plain, plain_boolean, plain_integer, plain_float, SameStep, refused, no_value, value, enum-value, enum_appended, enum-unknown, struct-value, object-value, choice, choice_appended, choice-unknown, member_step-same, element_step-same}

-- ---- structs
-- an enum's byte by a smaller count
enum-without : (n n' x : ℕ) → n ≤ n' → (a b : ℕ → ℕ → Value)
    → step_read a no_object (enum_step n x) ≡ without_enum n (step_read b no_object (enum_step n' x))
unfolding enum_step step_read without_enum
enum-without n n' x h a b = by_none (eqb x 255)
  where
    by : (t u : Bool) → ltb x n ≡ t → ltb x n' ≡ u
        → step_read a no_object (pick (ltb x n) (St.Value x) (St.Unknown x)) ≡ without_enum n (step_read b no_object (pick u (St.Value x) (St.Unknown x)))
    by true true e f = rw e
    by false true e f = rw e
    by true false e f = absurd (omega (arith, ltb-true x n e, ltb-false x n' f))
    by false false e f = rw e

    by_none : (t : Bool)
        → step_read a no_object (pick t St.Absent (pick (ltb x n) (St.Value x) (St.Unknown x)))
        ≡ without_enum n (step_read b no_object (pick t St.Absent (pick (ltb x n') (St.Value x) (St.Unknown x))))
    by_none true = refl
    by_none false = by (ltb x n) (ltb x n') refl refl

module _ (n : ℕ) (m : List ℕ) (a b : ℕ → ℕ → Value) (c : ℕ → Value → Value)
    (e : (j : ℕ) → j < n → (at : ℕ) → a j at ≡ c j (b j at)) where
  field-without : {k k' : Flat} → FlatAppends k k' → FlatSound n k → (at : ℕ)
      → step_read a no_object (field_step m k at) ≡ without_flat c k (step_read b no_object (field_step m k' at))
  unfolding field_step step_read without_flat
  field-without boolean s at = refl
  field-without integer s at = refl
  field-without float s at = refl
  field-without (enumerated {n} {n'} h) s at = enum-without n n' (get_or m at 0) h a b
  field-without (struct {i}) s at = e i s at

module _ (O N : Schema) (sound : Sound O) (G : SchemaAppends O N) (m : List ℕ) where
  fields-without : (n : ℕ) → n ≤ length O.structs → (a b : ℕ → ℕ → Value) (c : ℕ → Value → Value)
      → ((j : ℕ) → j < n → (at : ℕ) → a j at ≡ c j (b j at)) → {ks ks' : List Flat} → Alike FlatAppends ks ks' → All (FlatSound n) ks
      → (at : ℕ) → fields_read a O m ks at ≡ without_fields c ks (fields_read b N m ks' at)
  unfolding fields_read without_fields first others
  fields-without n h a b c e done s at = refl
  fields-without n h a b c e (also {x} {y} {xs} {ys} r l) s at =
      ap₂ ◌then◌ (field-without n m a b c e r s.0 at)
      (fields-without n h a b c e l s.1 (at + flat_width (struct_size O) x)
      ∙ ap (λ (w : ℕ). without_fields c xs (fields_read b N m ys (at + w)))
      (flat-width n (struct_size O) (struct_size N) (λ j q. struct-size-same O N sound G j (omega arith)) r s.0))

  struct-without : (i : ℕ) → i < length O.structs → (at : ℕ) → struct_read O m i at ≡ without_struct O i (struct_read N m i at)
  unfolding struct_read without_struct read_by without_by in_row
  struct-without =
      index_holds₃ (λ i a b c. i < length O.structs → (at : ℕ) → a at ≡ c (b at)) no_struct (read_by O m) no_struct (read_by N m)
      same-value (without_by O) next
    where
      next : (i : ℕ) (f g : ℕ → ℕ → Value) (c : ℕ → Value → Value)
          → ((j : ℕ) → j < i → j < length O.structs → (at : ℕ) → f j at ≡ c j (g j at)) → i < length O.structs → (at : ℕ)
          → read_by O m f i at ≡ without_by O c i (read_by N m g i at)
      next i f g c e h at =
          ap row (fields-without i (omega arith) f g c (λ j l. e j l (omega arith)) (struct-same O N sound G i h) (sound.structs i).members at)

-- ---- no value stays no value
struct_absent : (S : Schema) (i : ℕ) → without_struct S i absent ≡ absent
unfolding without_struct without_by in_row
struct_absent S = index_holds (λ i f. f absent ≡ absent) same-value (without_by S) (λ i g e. refl)

pub without_absent : (d : ℕ) (S : Schema) (ob : Object) → without d S ob absent ≡ absent
unfolding without without_content in_row
without_absent zero S ob = refl
without_absent (suc d) S Ob.Text = refl
without_absent (suc d) S Ob.Bytes = refl
without_absent (suc d) S (Ob.List i) = refl
without_absent (suc d) S (Ob.Table i) = refl
without_absent (suc d) S (Ob.DirectList t) = refl

pub part_absent : (c : Change) → ((ob : Object) → c ob absent ≡ absent) → (S : Schema) (k : Kind) → without_part c S k absent ≡ absent
unfolding without_part without_flat without_enum without_choice
part_absent c z S (OfFlat Boolean) = refl
part_absent c z S (OfFlat (Integer s w)) = refl
part_absent c z S (OfFlat (Float w)) = refl
part_absent c z S (OfFlat (Enumerated n)) = refl
part_absent c z S (OfFlat (Struct i)) = struct_absent S i
part_absent c z S (OfObject ob) = z ob
part_absent c z S (OfUnion i) = refl

plain-without : {k : Flat} → Plain k → (inner : ℕ → Value → Value) (v : Value) → v ≡ without_flat inner k v
unfolding without_flat
plain-without plain_boolean inner v = refl
plain-without plain_integer inner v = refl
plain-without plain_float inner v = refl

-- ---- objects
module _ (o : ℕ) (O N : Schema) (sound : Sound O) (G : SchemaAppends O N) (m : List ℕ) where
  module _ (a b : Child) (c : Change) (Z : (ob : Object) → c ob absent ≡ absent)
      (H : (ob : Object) → ObjectSound O ob → (p : Place) → a ob p ≡ c ob (b ob p)) where
    step-without : {k : Kind} {s s' : Step} → SameStep O k s s'
        → step_read (struct_read O m) a s ≡ without_part c O k (step_read (struct_read N m) b s')
    unfolding step_read without_part without_choice without_flat without_enum
    step-without (refused {k}) = sym (part_absent c Z O k)
    step-without (no_value {k}) = sym (part_absent c Z O k)
    step-without (value {x} q) = plain-without q (without_struct O) (number x)
    step-without (enum-value {n} {x} l) = rw (lt-ltb x n l)
    step-without (enum_appended {n} {x} l) = rw (le-ltb x n l)
    step-without enum-unknown = refl
    step-without (struct-value {i} {at} l) = struct-without O N sound G m i l at
    step-without (object-value {ob} {p} q) = H ob q p
    step-without (choice {i} {c = x} {ob} {p} l e q) = rw (le-leb x (length (cases_of O i)) l, e, H ob q p)
    step-without (choice_appended {i} {c = x} l) = rw (lt-leb x (length (cases_of O i)) l)
    step-without choice-unknown = refl

    members-without : {rs rs' : List Member} → Extends MemberAppends rs rs' → All (MemberSound O) rs → (start n : ℕ) (at : Cursor)
        → members_read a o O m start n at rs ≡ without_members c O rs (members_read b o N m start n at rs')
    unfolding members_read without_members first others
    members-without rest s start n at = refl
    members-without (more {x} {y} {xs} {ys} q l) s start n at =
        ap₂ ◌then◌ (step-without (member_step-same O N sound G m o q s.0 start n at))
        (rw (after-member-same O N sound G o q s.0 at) (members-without l s.1 start n (after_member o N y at)))

    elements-without : {k k' : Kind} → KindAppends k k' → KindSound O k → (start n i : ℕ)
        → elements_read a o O m start k n i ≡ without_elements c O k (elements_read b o N m start k' n i)
    unfolding elements_read without_elements
    elements-without q s start zero i = refl
    elements-without q s start (suc n) i =
        ap₂ ◌then◌ (step-without (element_step-same O N sound G m o q s start i)) (elements-without q s start n (i + 1))

    directs-without : (t : ℕ) → ObjectSound O (Ob.Table t) → (w n at : ℕ)
        → directs_read a t w n at ≡ in_elements c t (directs_read b t w n at)
    unfolding directs_read in_elements
    directs-without t q w zero at = refl
    directs-without t q w (suc n) at = ap₂ ◌then◌ (H (Ob.Table t) q (InPlace at w)) (directs-without t q w n (at + w))

    content-without : (ob : Object) → ObjectSound O ob → (at start n : ℕ)
        → content_read a o O m ob at start n ≡ without_content c O ob (content_read b o N m ob at start n)
    unfolding content_read without_content in_row
    content-without Ob.Text q at start n = refl
    content-without Ob.Bytes q at start n = refl
    content-without (Ob.List i) q at start n =
        ap row (elements-without (element-same O N sound G i q) (sound.lists i).kind start n 0)
    content-without (Ob.Table i) q at start n =
        ap row (members-without (table_same O N sound G i q).members (sound.tables i).members start n begin)
    content-without (Ob.DirectList t) q at start n = ap row (directs-without t q.table (element_size o m at) n start)

    place-without : (ob : Object) → ObjectSound O ob → (p : Place)
        → place_read a o O m ob p ≡ without_content c O ob (place_read b o N m ob p)
    unfolding place_read
    place-without ob q (ByOffset x) = content-without ob q x (x + header_size o ob) (le m (x + 4) o)
    place-without ob q (InPlace x n) = content-without ob q x x n

  pub read-without : (d : ℕ) (ob : Object) → ObjectSound O ob → (p : Place)
      → read d o O m ob p ≡ without d O ob (read d o N m ob p)
  unfolding read without
  read-without zero ob q p = refl
  read-without (suc d) ob q p =
      place-without (read d o O m) (read d o N m) (without d O) (without_absent d O) (read-without d) ob q p

  -- the older's values are the newer's without the appended members
  pub older_reads : message_read o O m ≡ without deepest O (Ob.Table O.root) (message_read o N m)
  unfolding message_read
  older_reads =
      subst (λ (r : ℕ). read deepest o O m (Ob.Table O.root) (root_place o m) ≡ without deepest O (Ob.Table O.root) (read deepest o N m (Ob.Table r) (root_place o m))) G.root
      (read-without deepest (Ob.Table O.root) sound.root (root_place o m))
