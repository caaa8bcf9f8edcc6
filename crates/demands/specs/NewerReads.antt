-- The values that a newer schema reads from a message that is plain under an older one are the older's with the added members.
use Prim.Native.Nat.{ℕ, zero, suc, ◌≤◌, ◌<◌, ◌+◌}
use Rattle.std.proofs.Common.{arith, ◌∙◌, ltb-true, ltb-false}
use Rattle.std.specs.Prelude.{List, Bool, true, false, ◌≡◌, get_or, drop, ltb, eqb}
use Rattle.std.proofs.Math.Path.{refl, sym, ap, ap₂, subst}
use Rattle.std.proofs.Math.ListN.{length}
use Rattle.coding.specs.Lists.{pick}
use Rattle.coding.specs.Bytes.{le, deepest}
use Rattle.coding.specs.Schema.{Schema}
use Rattle.coding.specs.Structs.{flat_width, struct_size}
use Rattle.coding.specs.Layout.{begin, after_member}
use Rattle.coding.specs.Step.{enum_step, field_step}
use Rattle.coding.specs.Walk.{header_size, element_size, root_place}
use Rattle.coding.specs.Value.{Value, absent, row, ◌then◌, first, others}
use Rattle.coding.specs.Read.{Child, step_read, no_object, fields_read, read_by, no_struct, struct_read, members_read, elements_read, directs_read, content_read, place_read, read, message_read}
use Rattle.coding.specs.Append.{Extends, rest, more, Alike, done, also, FlatAppends, boolean, integer, float, enumerated, struct, KindAppends, MemberAppends, SchemaAppends, in_row, Change, added_values, with_choice, with_part, with_members, with_elements, in_elements, added_members, with_content, with_added}
use Rattle.coding.specs.declared.Flat.{Flat}
use Rattle.coding.specs.declared.Object.{Object}
use Rattle.coding.specs.declared.Object.TheVariants as Ob
use Rattle.coding.specs.declared.Kind.{Kind}
use Rattle.coding.specs.declared.Kind.TheVariants.{OfFlat, OfObject, OfUnion}
use Rattle.coding.specs.declared.Member.{Member}
use Rattle.coding.specs.declared.Cursor.{Cursor}
use Rattle.coding.specs.declared.Place.{Place}
use Rattle.coding.specs.declared.Place.TheVariants.{ByOffset, InPlace}
use Rattle.coding.specs.declared.Step.{Step}
use Rattle.coding.specs.declared.Step.TheVariants as St
use Rattle.laws.specs.Structs.{index_holds₂}
use Rattle.laws.specs.Sound.{All, FlatSound, ObjectSound, KindSound, MemberSound, Sound}
use Rattle.demands.specs.SameLayout.{flat-width, struct-same, struct-size-same, element-same, table_same, after-member-same}
use Rattle.demands.specs.SameStep.{SameStep, refused, no_value, value, enum-value, enum_appended, enum-unknown, struct-value, object-value, choice, choice_appended, choice-unknown, member_step-same, element_step-same}
use Rattle.demands.specs.PlainMessage.{Known, AllKnown, Objects, step_plain, members_plain, elements_plain, directs_plain, content_plain, place_plain, plain, message_plain}
use Rattle.demands.specs.AddedMembers.{full_past, read_added}

-- ---- structs: what is known stays
-- an enum's byte by a larger count
enum_known : (n n' x : ℕ) → n ≤ n' → (a b : ℕ → ℕ → Value) → Known (step_read a no_object (enum_step n x))
    → step_read b no_object (enum_step n' x) ≡ step_read a no_object (enum_step n x)
unfolding enum_step step_read Known
enum_known n n' x h a b = by_none (eqb x 255)
  where
    by : (t u : Bool) → ltb x n ≡ t → ltb x n' ≡ u → Known (step_read a no_object (pick t (St.Value x) (St.Unknown x)))
        → step_read b no_object (pick u (St.Value x) (St.Unknown x)) ≡ step_read a no_object (pick t (St.Value x) (St.Unknown x))
    by true true e f k = refl
    by true false e f k = absurd (omega (arith, ltb-true x n e, ltb-false x n' f))
    by false u e f k = absurd k

    by_none : (t : Bool) → Known (step_read a no_object (pick t St.Absent (pick (ltb x n) (St.Value x) (St.Unknown x))))
        → step_read b no_object (pick t St.Absent (pick (ltb x n') (St.Value x) (St.Unknown x)))
        ≡ step_read a no_object (pick t St.Absent (pick (ltb x n) (St.Value x) (St.Unknown x)))
    by_none true k = refl
    by_none false k = by (ltb x n) (ltb x n') refl refl k

module _ (n : ℕ) (m : List ℕ) (a b : ℕ → ℕ → Value) (e : (j : ℕ) → j < n → (at : ℕ) → Known (a j at) → b j at ≡ a j at) where
  field-known : {k k' : Flat} → FlatAppends k k' → FlatSound n k → (at : ℕ) → Known (step_read a no_object (field_step m k at))
      → step_read b no_object (field_step m k' at) ≡ step_read a no_object (field_step m k at)
  unfolding field_step step_read
  field-known boolean s at h = refl
  field-known integer s at h = refl
  field-known float s at h = refl
  field-known (enumerated {n} {n'} l) s at h = enum_known n n' (get_or m at 0) l a b h
  field-known (struct {i}) s at h = e i s at h

module _ (O N : Schema) (sound : Sound O) (G : SchemaAppends O N) (m : List ℕ) where
  fields-known : (n : ℕ) → n ≤ length O.structs → (a b : ℕ → ℕ → Value) → ((j : ℕ) → j < n → (at : ℕ) → Known (a j at) → b j at ≡ a j at)
      → {ks ks' : List Flat} → Alike FlatAppends ks ks' → All (FlatSound n) ks → (at : ℕ) → AllKnown (fields_read a O m ks at)
      → fields_read b N m ks' at ≡ fields_read a O m ks at
  unfolding fields_read Known
  fields-known n h a b e done s at k = refl
  fields-known n h a b e (also {x} {y} {xs} {ys} r l) s at k =
      ap₂ ◌then◌ (field-known n m a b e r s.0 at k.0)
      (ap (λ (w : ℕ). fields_read b N m ys (at + w))
      (sym (flat-width n (struct_size O) (struct_size N) (λ j q. struct-size-same O N sound G j (omega arith)) r s.0))
      ∙ fields-known n h a b e l s.1 (at + flat_width (struct_size O) x) k.1)

  struct_known : (i : ℕ) → i < length O.structs → (at : ℕ) → Known (struct_read O m i at) → struct_read N m i at ≡ struct_read O m i at
  unfolding struct_read read_by Known
  struct_known =
      index_holds₂ (λ i a b. i < length O.structs → (at : ℕ) → Known (a at) → b at ≡ a at) no_struct (read_by O m) no_struct (read_by N m) next
    where
      next : (i : ℕ) (f g : ℕ → ℕ → Value)
          → ((j : ℕ) → j < i → j < length O.structs → (at : ℕ) → Known (f j at) → g j at ≡ f j at) → i < length O.structs → (at : ℕ)
          → Known (read_by O m f i at) → read_by N m g i at ≡ read_by O m f i at
      next i f g e h at k =
          ap row (fields-known i (omega arith) f g (λ j l. e j l (omega arith)) (struct-same O N sound G i h) (sound.structs i).members at k)

-- ---- no value stays no value
with_absent : (d o : ℕ) (O N : Schema) (ob : Object) → with_added d o O N ob absent ≡ absent
unfolding with_added with_content in_row
with_absent zero o O N ob = refl
with_absent (suc d) o O N Ob.Text = refl
with_absent (suc d) o O N Ob.Bytes = refl
with_absent (suc d) o O N (Ob.List i) = refl
with_absent (suc d) o O N (Ob.Table i) = refl
with_absent (suc d) o O N (Ob.DirectList t) = refl

part_absent : (c : Change) → ((ob : Object) → c ob absent ≡ absent) → (S : Schema) (k : Kind) → with_part c S k absent ≡ absent
unfolding with_part with_choice
part_absent c z S (OfFlat k) = refl
part_absent c z S (OfObject ob) = z ob
part_absent c z S (OfUnion i) = refl

-- ---- objects
module _ (o : ℕ) (O N : Schema) (sound : Sound O) (G : SchemaAppends O N) (m : List ℕ) where
  module _ (P : Objects) (a b : Child) (c : Change) (Z : (ob : Object) → c ob absent ≡ absent)
      (H : (ob : Object) → ObjectSound O ob → (p : Place) → P ob p → b ob p ≡ c ob (a ob p)) where
    step_with : {k : Kind} {s s' : Step} → SameStep O k s s' → step_plain P O m s
        → step_read (struct_read N m) b s' ≡ with_part c O k (step_read (struct_read O m) a s)
    unfolding step_read step_plain with_part with_choice
    step_with (refused {k}) h = sym (part_absent c Z O k)
    step_with (no_value {k}) h = sym (part_absent c Z O k)
    step_with (value q) h = refl
    step_with (enum-value l) h = refl
    step_with (enum_appended l) h = absurd h
    step_with enum-unknown h = absurd h
    step_with (struct-value {i} {at} l) h = struct_known O N sound G m i l at h
    step_with (object-value {ob} {p} q) h = H ob q p h
    step_with (choice {i} {c = x} {ob} {p} l e q) h = rw (e, H ob q p h)
    step_with (choice_appended l) h = absurd h
    step_with choice-unknown h = absurd h

    members_with : {rs rs' : List Member} → Extends MemberAppends rs rs' → All (MemberSound O) rs → (start n : ℕ) (at : Cursor)
        → members_plain P o O m start n at rs
        → members_read b o N m start n at rs' ≡ with_members c o O N rs at (drop (length rs) rs') (members_read a o O m start n at rs)
    unfolding members_read with_members members_plain first others
    members_with (rest {ys}) s start n at h =
        read_added m start n b o N ys at (full_past m start n h) ∙ ap (λ (x : ℕ). added_values o N x at ys) h.size
    members_with (more {x} {y} {xs} {ys} q l) s start n at h =
        ap₂ ◌then◌ (step_with (member_step-same O N sound G m o q s.0 start n at) h.0)
        (rw (← after-member-same O N sound G o q s.0 at) (members_with l s.1 start n (after_member o O x at) h.1))

    elements_with : {k k' : Kind} → KindAppends k k' → KindSound O k → (start n i : ℕ) → elements_plain P o O m start k n i
        → elements_read b o N m start k' n i ≡ with_elements c O k (elements_read a o O m start k n i)
    unfolding elements_read with_elements elements_plain
    elements_with q s start zero i h = refl
    elements_with q s start (suc n) i h =
        ap₂ ◌then◌ (step_with (element_step-same O N sound G m o q s start i) h.0) (elements_with q s start n (i + 1) h.1)

    directs_with : (t : ℕ) → ObjectSound O (Ob.Table t) → (w n at : ℕ) → directs_plain P t w n at
        → directs_read b t w n at ≡ in_elements c t (directs_read a t w n at)
    unfolding directs_read in_elements directs_plain
    directs_with t q w zero at h = refl
    directs_with t q w (suc n) at h = ap₂ ◌then◌ (H (Ob.Table t) q (InPlace at w) h.0) (directs_with t q w n (at + w) h.1)

    content_with : (ob : Object) → ObjectSound O ob → (at start n : ℕ) → content_plain P o O m ob at start n
        → content_read b o N m ob at start n ≡ with_content c o O N ob (content_read a o O m ob at start n)
    unfolding content_read with_content in_row content_plain added_members
    content_with Ob.Text q at start n h = refl
    content_with Ob.Bytes q at start n h = refl
    content_with (Ob.List i) q at start n h =
        ap row (elements_with (element-same O N sound G i q) (sound.lists i).kind start n 0 h)
    content_with (Ob.Table i) q at start n h =
        ap row (members_with (table_same O N sound G i q).members (sound.tables i).members start n begin h)
    content_with (Ob.DirectList t) q at start n h = ap row (directs_with t q.table (element_size o m at) n start h)

    place_with : (ob : Object) → ObjectSound O ob → (p : Place) → place_plain P o O m ob p
        → place_read b o N m ob p ≡ with_content c o O N ob (place_read a o O m ob p)
    unfolding place_read place_plain
    place_with ob q (ByOffset x) h = content_with ob q x (x + header_size o ob) (le m (x + 4) o) h
    place_with ob q (InPlace x n) h = content_with ob q x x n h

  read_with : (d : ℕ) (ob : Object) → ObjectSound O ob → (p : Place) → plain d o O m ob p
      → read d o N m ob p ≡ with_added d o O N ob (read d o O m ob p)
  unfolding read with_added plain
  read_with zero ob q p h = refl
  read_with (suc d) ob q p h =
      place_with (plain d o O m) (read d o O m) (read d o N m) (with_added d o O N) (with_absent d o O N) (read_with d) ob q p h

  -- the newer's values are the older's with the added members
  pub newer_reads : message_plain o O m → message_read o N m ≡ with_added deepest o O N (Ob.Table O.root) (message_read o O m)
  unfolding message_read message_plain
  newer_reads h =
      subst (λ (r : ℕ). read deepest o N m (Ob.Table r) (root_place o m) ≡ with_added deepest o O N (Ob.Table O.root) (read deepest o O m (Ob.Table O.root) (root_place o m))) G.root
      (read_with deepest (Ob.Table O.root) sound.root (root_place o m) h)
