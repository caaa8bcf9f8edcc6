-- What an older and a newer schema have alike: struct sizes, struct booleans, slots and cursors, headers and contents.
use Prim.Native.Nat.{ℕ, zero, suc, ◌≤◌, ◌<◌, ◌+◌}
use Rattle.std.proofs.Common.{not-suc-le-zero, le_of_suc-le-suc, arith, ◌∙◌}
use mathlib.Core.List.{List, []}
use Rattle.std.specs.Prelude.{Bool, ◌≡◌, get_or, Result}
use Rattle.std.proofs.Math.Bool.{◌&&◌}
use Rattle.std.proofs.Math.Path.{refl, ap, ap₂}
use Rattle.std.proofs.Math.ListN.{length}
use Rattle.coding.specs.Schema.{Schema, struct_of, element_of, cases_of, table_of}
use Rattle.coding.specs.Structs.{flat_width, total, size_by, struct_size, flat_ok, flats_ok, ok_by, always, struct_ok}
use Rattle.coding.specs.Layout.{bit_slot, flat_is_bool, is_bool, width, flat_takes_flag, takes_flag, has_flag, after_flag, slot_of, after_value, member_slot, after_member}
use Rattle.coding.specs.Step.{element_place, elements_size}
use Rattle.coding.specs.Walk.{magic, content_size, content_length, direct_header, header_tested}
use Rattle.coding.specs.Append.{Extends, rest, more, Alike, done, also, FlatAppends, boolean, integer, float, enumerated, struct, KindAppends, flat, object, union, MemberAppends, SameObject, TableAppends, SchemaAppends}
use Rattle.coding.specs.declared.Flat.{Flat}
use Rattle.coding.specs.declared.Object.{Object}
use Rattle.coding.specs.declared.Object.TheVariants as Ob
use Rattle.coding.specs.declared.Kind.{Kind}
use Rattle.coding.specs.declared.Member.{Member}
use Rattle.coding.specs.declared.Cursor.{Cursor}
use Rattle.coding.specs.declared.Content.{Content}
use Rattle.laws.specs.Structs.{index_holds₂}
use Rattle.laws.specs.Sound.{All, FlatSound, ObjectSound, KindSound, MemberSound, Sound}

-- ---- a longer list at an index of the shorter
pub extends-at : {A : Type 0} {R : A → A → Type 0} {xs ys : List A} → Extends R xs ys → (i : ℕ) → i < length xs → (d e : A)
    → R (get_or xs i d) (get_or ys i e)
extends-at rest i h d e = absurd (not-suc-le-zero h)
extends-at (more r l) zero h d e = r
extends-at (more r l) (suc i) h d e = extends-at l i (le_of_suc-le-suc h) d e

pub extends-le : {A : Type 0} {R : A → A → Type 0} {xs ys : List A} → Extends R xs ys → length xs ≤ length ys
extends-le rest = omega arith
extends-le (more r l) = let h = extends-le l in omega arith

-- ---- structs, given what stands at the lower indices
module _ (n : ℕ) (f g : ℕ → ℕ) (e : (j : ℕ) → j < n → f j ≡ g j) where
  pub flat-width : {k k' : Flat} → FlatAppends k k' → FlatSound n k → flat_width f k ≡ flat_width g k'
  unfolding flat_width
  flat-width boolean s = refl
  flat-width integer s = refl
  flat-width float s = refl
  flat-width (enumerated h) s = refl
  flat-width (struct {i}) s = e i s

  total-same : {ks ks' : List Flat} → Alike FlatAppends ks ks' → All (FlatSound n) ks → total f ks ≡ total g ks'
  unfolding total
  total-same done s = refl
  total-same (also r l) s = ap₂ ◌+◌ (flat-width r s.0) (total-same l s.1)

module _ (n : ℕ) (m : List ℕ) (a b : ℕ → ℕ → Bool) (e : (j : ℕ) → j < n → (at : ℕ) → a j at ≡ b j at) where
  flat_ok_lem : {k k' : Flat} → FlatAppends k k' → FlatSound n k → (at : ℕ) → flat_ok a m k at ≡ flat_ok b m k' at
  unfolding flat_ok
  flat_ok_lem boolean s at = refl
  flat_ok_lem integer s at = refl
  flat_ok_lem float s at = refl
  flat_ok_lem (enumerated h) s at = refl
  flat_ok_lem (struct {i}) s at = e i s at

-- ---- kinds that differ in an enum's count only
flat_is_bool_lem : {k k' : Flat} → FlatAppends k k' → flat_is_bool k ≡ flat_is_bool k'
unfolding flat_is_bool
flat_is_bool_lem boolean = refl
flat_is_bool_lem integer = refl
flat_is_bool_lem float = refl
flat_is_bool_lem (enumerated h) = refl
flat_is_bool_lem struct = refl

pub is_bool-same : {k k' : Kind} → KindAppends k k' → is_bool k ≡ is_bool k'
unfolding is_bool
is_bool-same (flat r) = flat_is_bool_lem r
is_bool-same object = refl
is_bool-same union = refl

flat_takes_flag_lem : {k k' : Flat} → FlatAppends k k' → flat_takes_flag k ≡ flat_takes_flag k'
unfolding flat_takes_flag
flat_takes_flag_lem boolean = refl
flat_takes_flag_lem integer = refl
flat_takes_flag_lem float = refl
flat_takes_flag_lem (enumerated h) = refl
flat_takes_flag_lem struct = refl

takes_flag_lem : {k k' : Kind} → KindAppends k k' → takes_flag k ≡ takes_flag k'
unfolding takes_flag
takes_flag_lem (flat r) = flat_takes_flag_lem r
takes_flag_lem object = refl
takes_flag_lem union = refl

pub has_flag-same : {r r' : Member} → MemberAppends r r' → has_flag r ≡ has_flag r'
unfolding has_flag
has_flag-same q = ap₂ ◌&&◌ q.optional (takes_flag_lem q.kind)

after_flag-same : {r r' : Member} → MemberAppends r r' → (c : Cursor) → after_flag r c ≡ after_flag r' c
unfolding after_flag
after_flag-same q c = rw (has_flag-same q)

module _ (O N : Schema) (sound : Sound O) (G : SchemaAppends O N) where
  -- ---- what stands at an index of the older
  pub struct-same : (i : ℕ) → i < length O.structs → Alike FlatAppends (struct_of O i) (struct_of N i)
  unfolding struct_of
  struct-same i h = extends-at G.structs i h [] []

  pub element-same : (i : ℕ) → i < length O.lists → KindAppends (element_of O i) (element_of N i)
  unfolding element_of
  element-same i h = extends-at G.lists i h _ _

  pub cases_same : (i : ℕ) → i < length O.unions → Extends SameObject (cases_of O i) (cases_of N i)
  unfolding cases_of
  cases_same i h = extends-at G.unions i h [] []

  pub table_same : (i : ℕ) → i < length O.tables → TableAppends (table_of O i) (table_of N i)
  unfolding table_of
  table_same i h = extends-at G.tables i h _ _

  -- ---- structs
  pub struct-size-same : (i : ℕ) → i < length O.structs → struct_size O i ≡ struct_size N i
  unfolding struct_size size_by
  struct-size-same =
      index_holds₂ (λ i a b. i < length O.structs → a ≡ b) 0 (size_by O) 0 (size_by N) next
    where
      next : (i : ℕ) (f g : ℕ → ℕ) → ((j : ℕ) → j < i → j < length O.structs → f j ≡ g j) → i < length O.structs
          → size_by O f i ≡ size_by N g i
      next i f g e h =
          total-same i f g (λ j l. e j l (omega arith)) (struct-same i h) (sound.structs i).members

  flats_ok_lem : (n : ℕ) → n ≤ length O.structs → (m : List ℕ) (a b : ℕ → ℕ → Bool) → ((j : ℕ) → j < n → (at : ℕ) → a j at ≡ b j at)
      → {ks ks' : List Flat} → Alike FlatAppends ks ks' → All (FlatSound n) ks → (at : ℕ) → flats_ok a O m ks at ≡ flats_ok b N m ks' at
  unfolding flats_ok
  flats_ok_lem n h m a b e done s at = refl
  flats_ok_lem n h m a b e (also {x} {y} {xs} {ys} r l) s at =
      ap₂ ◌&&◌ (flat_ok_lem n m a b e r s.0 at)
      (flats_ok_lem n h m a b e l s.1 (at + flat_width (struct_size O) x)
      ∙ ap (λ (w : ℕ). flats_ok b N m ys (at + w))
      (flat-width n (struct_size O) (struct_size N) (λ j q. struct-size-same j (omega arith)) r s.0))

  pub struct_ok-same : (m : List ℕ) (i : ℕ) → i < length O.structs → (at : ℕ) → struct_ok O m i at ≡ struct_ok N m i at
  unfolding struct_ok ok_by
  struct_ok-same m =
      index_holds₂ (λ i a b. i < length O.structs → (at : ℕ) → a at ≡ b at) always (ok_by O m) always (ok_by N m) next
    where
      next : (i : ℕ) (f g : ℕ → ℕ → Bool) → ((j : ℕ) → j < i → j < length O.structs → (at : ℕ) → f j at ≡ g j at)
          → i < length O.structs → (at : ℕ) → ok_by O m f i at ≡ ok_by N m g i at
      next i f g e h at =
          flats_ok_lem i (omega arith) m f g (λ j l. e j l (omega arith)) (struct-same i h) (sound.structs i).members at

  -- ---- widths, slots and cursors
  module _ (o : ℕ) where
    pub width_same : {k k' : Kind} → KindAppends k k' → KindSound O k → width o O k ≡ width o N k'
    unfolding width
    width_same (flat r) s = flat-width (length O.structs) (struct_size O) (struct_size N) struct-size-same r s
    width_same object s = refl
    width_same union s = refl

    slot_same : {k k' : Kind} → KindAppends k k' → KindSound O k → (c : Cursor) → slot_of o O k c ≡ slot_of o N k' c
    unfolding slot_of bit_slot
    slot_same r s c = rw (is_bool-same r, width_same r s)

    after-value-same : {k k' : Kind} → KindAppends k k' → KindSound O k → (c : Cursor) → after_value o O k c ≡ after_value o N k' c
    unfolding after_value
    after-value-same r s c = rw (is_bool-same r, width_same r s)

    pub member_slot-same : {r r' : Member} → MemberAppends r r' → MemberSound O r → (c : Cursor) → member_slot o O r c ≡ member_slot o N r' c
    unfolding member_slot
    member_slot-same q s c = rw (after_flag-same q c) (slot_same q.kind s.kind _)

    pub after-member-same : {r r' : Member} → MemberAppends r r' → MemberSound O r → (c : Cursor)
        → after_member o O r c ≡ after_member o N r' c
    unfolding after_member
    after-member-same q s c = rw (after_flag-same q c) (after-value-same q.kind s.kind _)

    pub element-place-same : {k k' : Kind} → KindAppends k k' → KindSound O k → (start i : ℕ)
        → element_place o O k start i ≡ element_place o N k' start i
    unfolding element_place
    element-place-same r s start i = rw (is_bool-same r, width_same r s)

    elements-size-same : {k k' : Kind} → KindAppends k k' → KindSound O k → (n : ℕ) → elements_size o O k n ≡ elements_size o N k' n
    unfolding elements_size
    elements-size-same r s n = rw (is_bool-same r, width_same r s)

    -- ---- an arrival
    pub content-size-same : (m : List ℕ) (ob : Object) → ObjectSound O ob → (at n : ℕ) → content_size o O m ob at n ≡ content_size o N m ob at n
    unfolding content_size
    content-size-same m Ob.Text h at n = refl
    content-size-same m Ob.Bytes h at n = refl
    content-size-same m (Ob.List i) h at n = elements-size-same (element-same i h) (sound.lists i).kind n
    content-size-same m (Ob.Table i) h at n = refl
    content-size-same m (Ob.DirectList t) h at n = refl

    pub content-length-same : (ob : Object) → ObjectSound O ob → (n : ℕ) → content_length o O ob n ≡ content_length o N ob n
    unfolding content_length
    content-length-same Ob.Text h n = refl
    content-length-same Ob.Bytes h n = refl
    content-length-same (Ob.List i) h n = elements-size-same (element-same i h) (sound.lists i).kind n
    content-length-same (Ob.Table i) h n = refl
    content-length-same (Ob.DirectList t) h n = refl

    -- what a direct list's header says more: the table's id is the same
    pub header-same : (m : List ℕ) (ob : Object) → ObjectSound O ob → (at : ℕ) (fit : Result Content ℕ)
        → header_tested o O m ob at fit ≡ header_tested o N m ob at fit
    unfolding header_tested direct_header
    header-same m Ob.Text h at fit = refl
    header-same m Ob.Bytes h at fit = refl
    header-same m (Ob.List i) h at fit = refl
    header-same m (Ob.Table i) h at fit = refl
    header-same m (Ob.DirectList t) h at fit = rw (table_same t h.table).id

  pub magic-same : (ob : Object) → ObjectSound O ob → magic O ob ≡ magic N ob
  unfolding magic
  magic-same Ob.Text h = refl
  magic-same Ob.Bytes h = refl
  magic-same (Ob.List i) h = refl
  magic-same (Ob.Table i) h = (table_same i h).id
  magic-same (Ob.DirectList t) h = refl
