-- A value that a schema can show is decoded from its bits, whatever follows them.
use Rattle.std.specs.Prelude.{◌≡◌, List, ◌++◌, Bool, length}
use Rattle.std.proofs.Math.Path.{refl}
use Rattle.std.proofs.Common.{◌∙◌, append_assoc, length-append, drop_at}
use Rattle.std.proofs.Math.Bool.{true, false}
use Rattle.std.proofs.lemmas.Bool.{false≢true}
use Prim.Native.Nat.{ℕ, zero, suc, ◌*◌, ◌^◌, ◌<◌, ◌≤◌}
use native.Mathlib.Omega.{arith}
use Rattle.std.proofs.Math.Dec.{ltb}
use borrow.Author.Tests.{lt-ltb, le-leb, ne_eqb}
use Rattle.coding.specs.Lists.{pick}
use Rattle.coding.specs.Schema.{Schema, struct_of, element_of, cases_of, case_of}
use Rattle.coding.specs.Value.{Value, Values, absent, unknown, number, blob, row, chosen, as_number, as_blob, as_row, as_object, present, first, others, count}
use Rattle.coding.specs.Bits.{bits_of, bits}
use Rattle.coding.specs.Sheet.{mark_bits, flat_bits, field_bits, fields_bits, bits_by, no_bits, struct_bits, Encoder, body_bits, flat_unknown, unknown_width, part_bits, unmarked, element_bits, members_bits, elements_bits, directs_bits, blob_bits, content_bits, encode}
use Rattle.coding.specs.Sheet.{Parsed, got, bind, take_number, take_bytes, take_value, take_if, take_mark, unknown_enum, take_unknown_enum, take_enum, take_flat, take_field, take_fields, take_by, take_nothing, take_struct, Decoder, take_choice, take_body, take_unknown_flat, take_unknown, take_part, take_element, take_members, take_elements, take_directs, take_blob, take_content, decode}
use Rattle.coding.specs.declared.Flat.{Flat}
use Rattle.coding.specs.declared.Object.{Object}
use Rattle.coding.specs.declared.Object.TheVariants as O
use Rattle.coding.specs.declared.Kind.{Kind}
use Rattle.coding.specs.declared.Kind.TheVariants.{OfUnion}
use Rattle.coding.specs.declared.Member.{Member}
use Rattle.laws.specs.Sound.{All, FlatSound, KindSound, MemberSound, Sound}
use Rattle.laws.specs.All.{all_append}
use Rattle.laws.specs.Bits.{Bit, Byte, bits_of-length, bits_of-bits, value_front, bits-length, bits-bits, pack_front}
use Rattle.laws.specs.Structs.{index_holds₂}
use Rattle.demands.specs.Shown.{FlatShown, boolean, integer, float, no-enum, enum, unknown-enum, struct, FlatsShown, no-flat, flats, Objects, PartShown, no-part, flat, object, choice, unknown-choice, MembersShown, no_member, members, ElementsShown, no-element, elements, DirectsShown, no-direct, directs, ContentShown, text, bytes, list, table, direct_list, Shown}

-- xs are bits that a decoder reads as a, and it leaves what follows them
abbrev pub Spells : {A : Type 0} → (List ℕ → Parsed A) → List ℕ → A → Type 0
Spells decoder xs a = All Bit xs × ((r : List ℕ) → decoder (xs ++ r) ≡ got a r)

-- ---- numbers and bytes
number_read : (w x : ℕ) → x < 2 ^ w → (r : List ℕ) → take_number w (bits_of w x ++ r) ≡ got x r
unfolding take_number
number_read w x h r =
    let l : w ≤ length (bits_of w x ++ r) = omega (arith, length-append (bits_of w x) r, bits_of-length w x) in
    rw (le-leb w (length (bits_of w x ++ r)) l, value_front w x r h, drop_at (bits_of w x) r w (bits_of-length w x))

-- a number, and what comes after it
number_next : {B : Type 0} (w x : ℕ) (xs : List ℕ) (next : ℕ → List ℕ → Parsed B) → x < 2 ^ w → (r : List ℕ)
    → bind (take_number w ((bits_of w x ++ xs) ++ r)) next ≡ next x (xs ++ r)
unfolding bind
number_next w x xs next h r = rw (append_assoc (bits_of w x) xs r, number_read w x h (xs ++ r))

bytes_read : (l : List ℕ) → All Byte l → (r : List ℕ) → take_bytes (length l) (bits l ++ r) ≡ got l r
unfolding take_bytes
bytes_read l h r =
    let k : 8 * length l ≤ length (bits l ++ r) = omega (arith, length-append (bits l) r, bits-length l) in
    rw (le-leb (8 * length l) (length (bits l ++ r)) k, pack_front l r h, drop_at (bits l) r (8 * length l) (bits-length l))

value_spelt : (w x : ℕ) → x < 2 ^ w → Spells (take_value w) (bits_of w x) (number x)
unfolding take_value bind
value_spelt w x h = (bits_of-bits w x, λ r. rw (number_read w x h r))

if_spelt : (w x : ℕ) (ok : ℕ → Bool) (f : ℕ → Value) → x < 2 ^ w → ok x ≡ true → Spells (take_if w ok f) (bits_of w x) (f x)
unfolding take_if bind
if_spelt w x ok f h e = (bits_of-bits w x, λ r. rw (number_read w x h r, e))

-- ---- marks
pub mark-present : (w : ℕ) (body : Value → List ℕ) (v : Value) → present v ≡ true → mark_bits w body v ≡ bits_of 2 1 ++ body v
unfolding mark_bits present
mark-present w body absent h = absurd (false≢true h)
mark-present w body (unknown x) h = absurd (false≢true h)
mark-present w body (number x) h = refl
mark-present w body (blob l) h = refl
mark-present w body (row vs) h = refl
mark-present w body (chosen c v) h = refl

module _ (w : ℕ) (body : Value → List ℕ) (lost decoder : List ℕ → Parsed Value) where
  absent_spelt : Spells (take_mark lost decoder) (mark_bits w body absent) absent
  unfolding take_mark mark_bits bind
  absent_spelt = (bits_of-bits 2 0, λ r. rw (number_read 2 0 (omega arith) r))

  unknown_spelt : (x : ℕ) → Spells lost (bits_of w x) (unknown x) → Spells (take_mark lost decoder) (mark_bits w body (unknown x)) (unknown x)
  unfolding take_mark mark_bits
  unknown_spelt x h = (
    all_append Bit (bits_of 2 2) (bits_of w x) (bits_of-bits 2 2) h.0,
    λ r. number_next 2 2 (bits_of w x) _ (omega arith) r ∙ h.1 r,
  )

  present_spelt : (v : Value) → present v ≡ true → Spells decoder (body v) v → Spells (take_mark lost decoder) (mark_bits w body v) v
  unfolding take_mark
  present_spelt v p h =
      rw (mark-present w body v p) (
        all_append Bit (bits_of 2 1) (body v) (bits_of-bits 2 1) h.0,
        λ r. number_next 2 1 (body v) _ (omega arith) r ∙ h.1 r,
      )

-- ---- what leads to no object
enum_lost : (n x : ℕ) → n ≤ x → x < 255 → Spells (take_unknown_enum n) (bits_of 8 x) (unknown x)
unfolding take_unknown_enum
enum_lost n x l u = if_spelt 8 x (unknown_enum n) unknown (omega arith) ok
  where
    ok : unknown_enum n x ≡ true
    ok = unfold unknown_enum in rw (le-leb n x l, ne_eqb x 255 (λ e. omega arith))

enum_known : (n x : ℕ) → n ≤ 255 → x < n → Spells (take_enum n) (bits_of 8 x) (number x)
unfolding take_enum
enum_known n x l u = if_spelt 8 x (λ y. ltb y n) number (omega arith) (lt-ltb x n u)

module _ (S : Schema) (n : ℕ) (encoder : ℕ → Value → List ℕ) (decoder : ℕ → List ℕ → Parsed Value)
    (inner : (j : ℕ) → j < n → (vs : Values) → FlatsShown S (struct_of S j) vs → Spells (decoder j) (encoder j (row vs)) (row vs)) where
  -- a value that is there
  flat_spelt : {k : Flat} {v : Value} → FlatSound n k → FlatShown S k v → present v ≡ true → Spells (take_flat decoder k) (flat_bits encoder k v) v
  unfolding take_flat flat_bits as_number present
  flat_spelt s (boolean {x} h) p = value_spelt 1 x h
  flat_spelt s (integer {s = g} {w} {x} h) p = value_spelt (8 * w) x h
  flat_spelt s (float {w} {x} h) p = value_spelt (8 * w) x h
  flat_spelt s no-enum p = absurd (false≢true p)
  flat_spelt s (enum {n = c} {x} h) p = enum_known c x s.1 h
  flat_spelt s (unknown-enum h l) p = absurd (false≢true p)
  flat_spelt s (struct {i} {vs} h) p = inner i s vs h

  -- with its mark
  marked_spelt : {k : Flat} {v : Value} → FlatSound n k → FlatShown S k v
      → Spells (take_mark (take_unknown_flat k) (take_flat decoder k)) (mark_bits (flat_unknown k) (flat_bits encoder k) v) v
  unfolding take_unknown_flat flat_unknown present
  marked_spelt s (boolean h) = present_spelt _ _ _ _ _ refl (flat_spelt s (boolean h) refl)
  marked_spelt s (integer h) = present_spelt _ _ _ _ _ refl (flat_spelt s (integer h) refl)
  marked_spelt s (float h) = present_spelt _ _ _ _ _ refl (flat_spelt s (float h) refl)
  marked_spelt s no-enum = absent_spelt _ _ _ _
  marked_spelt s (enum h) = present_spelt _ _ _ _ _ refl (flat_spelt s (enum h) refl)
  marked_spelt s (unknown-enum {n = c} {x} h l) = unknown_spelt _ _ _ _ x (enum_lost c x h l)
  marked_spelt s (struct h) = present_spelt _ _ _ _ _ refl (flat_spelt s (struct h) refl)

  -- a struct's member
  field_spelt : {k : Flat} {v : Value} → FlatSound n k → FlatShown S k v → Spells (take_field decoder k) (field_bits encoder k v) v
  unfolding take_field field_bits take_unknown_flat flat_unknown present
  field_spelt s (boolean h) = flat_spelt s (boolean h) refl
  field_spelt s (integer h) = flat_spelt s (integer h) refl
  field_spelt s (float h) = flat_spelt s (float h) refl
  field_spelt s no-enum = marked_spelt s no-enum
  field_spelt s (enum h) = marked_spelt s (enum h)
  field_spelt s (unknown-enum h l) = marked_spelt s (unknown-enum h l)
  field_spelt s (struct h) = flat_spelt s (struct h) refl

  fields_spelt : {ks : List Flat} {vs : Values} → All (FlatSound n) ks → FlatsShown S ks vs
      → Spells (take_fields decoder ks) (fields_bits encoder ks vs) vs
  unfolding take_fields fields_bits first others bind
  fields_spelt s no-flat = (tt, λ r. refl)
  fields_spelt s (flats {k} {ks} {v} {vs} h t) =
      let a = field_spelt s.0 h in
      let b = fields_spelt s.1 t in
      let xs = field_bits encoder k v in
      let ys = fields_bits encoder ks vs in
      (all_append Bit xs ys a.0 b.0, λ r. rw (append_assoc xs ys r, a.1 (ys ++ r), b.1 r))

module _ (S : Schema) (G : Sound S) where
  -- structs, by their index
  StructSpelt : ℕ → (Value → List ℕ) → (List ℕ → Parsed Value) → Type 0
  StructSpelt i encoder decoder = (vs : Values) → FlatsShown S (struct_of S i) vs → Spells decoder (encoder (row vs)) (row vs)

  struct_next : (i : ℕ) (encoder : ℕ → Value → List ℕ) (decoder : ℕ → List ℕ → Parsed Value)
      → ((j : ℕ) → j < i → StructSpelt j (encoder j) (decoder j)) → StructSpelt i (bits_by S encoder i) (take_by S decoder i)
  unfolding StructSpelt bits_by take_by as_row bind
  struct_next i encoder decoder inner vs h =
      let a = fields_spelt S i encoder decoder inner (G.structs i).members h in
      (a.0, λ r. rw (a.1 r))

  struct_spelt : (i : ℕ) (vs : Values) → FlatsShown S (struct_of S i) vs → Spells (take_struct S i) (struct_bits S i (row vs)) (row vs)
  unfolding StructSpelt take_struct struct_bits
  struct_spelt i = index_holds₂ StructSpelt no_bits (bits_by S) take_nothing (take_by S) struct_next i

  -- ---- members, elements and objects
  module _ (child : Objects) (encoder : Encoder) (decoder : Decoder)
      (below : (ob : Object) (v : Value) → child ob v → Spells (decoder ob) (encoder ob v) v × (present v ≡ true)) where
    choice_spelt : (i c : ℕ) (v : Value) → 1 ≤ c → c ≤ length (cases_of S i) → child (case_of (cases_of S i) c) v
        → Spells (take_body decoder S (OfUnion i)) (body_bits encoder S (OfUnion i) (chosen c v)) (chosen c v)
    unfolding take_body take_choice body_bits as_number as_object bind
    choice_spelt i c v l u h =
        let few = (G.unions i).few in
        let small : c < 2 ^ 16 = omega arith in
        let a = (below (case_of (cases_of S i) c) v h).0 in
        let xs = encoder (case_of (cases_of S i) c) v in (
          all_append Bit (bits_of 16 c) xs (bits_of-bits 16 c) a.0,
          λ r. rw (append_assoc (bits_of 16 c) xs r, number_read 16 c small (xs ++ r), le-leb 1 c l, le-leb c (length (cases_of S i)) u, a.1 r),
        )

    -- what is there
    body_spelt : {k : Kind} {v : Value} → KindSound S k → PartShown child S k v → present v ≡ true
        → Spells (take_body decoder S k) (body_bits encoder S k v) v
    unfolding take_body body_bits present
    body_spelt s no-part p = absurd (false≢true p)
    body_spelt s (flat h) p = flat_spelt S (length S.structs) (struct_bits S) (take_struct S) (λ j l. struct_spelt j) s h p
    body_spelt s (object {ob} {v} h) p = (below ob v h).0
    body_spelt s (choice {i} {c} {v} l u h) p = choice_spelt i c v l u h
    body_spelt s (unknown-choice l u) p = absurd (false≢true p)

    choice_lost : (i c : ℕ) → length (cases_of S i) < c → c < 2 ^ 16 → Spells (take_unknown S (OfUnion i)) (bits_of 16 c) (unknown c)
    unfolding take_unknown
    choice_lost i c l u = if_spelt 16 c (λ x. ltb (length (cases_of S i)) x) unknown u (lt-ltb (length (cases_of S i)) c l)

    part_spelt : {k : Kind} {v : Value} → KindSound S k → PartShown child S k v → Spells (take_part decoder S k) (part_bits encoder S k v) v
    unfolding take_part part_bits unknown_width
    part_spelt s no-part = absent_spelt _ _ _ _
    part_spelt s (flat h) =
        unfold take_unknown take_body body_bits in
        marked_spelt S (length S.structs) (struct_bits S) (take_struct S) (λ j l. struct_spelt j) s h
    part_spelt s (object {ob} {v} h) = present_spelt _ _ _ _ v (below ob v h).1 (body_spelt s (object h) (below ob v h).1)
    part_spelt s (choice {i} {c} {v} l u h) = unfold present in present_spelt _ _ _ _ (chosen c v) refl (choice_spelt i c v l u h)
    part_spelt s (unknown-choice {i} {c} l u) = unknown_spelt _ _ _ _ c (choice_lost i c l u)

    element_spelt : {k : Kind} {v : Value} → KindSound S k → PartShown child S k v → (unmarked k ≡ true → present v ≡ true)
        → Spells (take_element decoder S k) (element_bits encoder S k v) v
    unfolding take_element element_bits
    element_spelt {k} {v} s h p = by (unmarked k) p
      where
        by : (t : Bool) → (t ≡ true → present v ≡ true)
            → Spells (λ xs. pick t (take_body decoder S k xs) (take_part decoder S k xs)) (pick t (body_bits encoder S k v) (part_bits encoder S k v)) v
        by true p = body_spelt s h (p refl)
        by false p = part_spelt s h

    members_spelt : {rs : List Member} {vs : Values} → All (MemberSound S) rs → MembersShown child S rs vs
        → Spells (take_members decoder S rs) (members_bits encoder S rs vs) vs
    unfolding take_members members_bits first others bind
    members_spelt s no_member = (tt, λ r. refl)
    members_spelt s (members {r = m} {rs} {v} {vs} h t) =
        let a = part_spelt s.0.kind h in
        let b = members_spelt s.1 t in
        let xs = part_bits encoder S m.kind v in
        let ys = members_bits encoder S rs vs in
        (all_append Bit xs ys a.0 b.0, λ r. rw (append_assoc xs ys r, a.1 (ys ++ r), b.1 r))

    elements_spelt : {k : Kind} {vs : Values} → KindSound S k → ElementsShown child S k vs
        → Spells (take_elements decoder S k (count vs)) (elements_bits encoder S k vs) vs
    unfolding take_elements elements_bits count bind
    elements_spelt s no-element = (tt, λ r. refl)
    elements_spelt {k} s (elements {v} {vs} h p t) =
        let a = element_spelt s h p in
        let b = elements_spelt s t in
        let xs = element_bits encoder S k v in
        let ys = elements_bits encoder S k vs in
        (all_append Bit xs ys a.0 b.0, λ r. rw (append_assoc xs ys r, a.1 (ys ++ r), b.1 r))

    directs_spelt : {t : ℕ} {vs : Values} → DirectsShown child t vs → Spells (take_directs decoder t (count vs)) (directs_bits encoder t vs) vs
    unfolding take_directs directs_bits count bind
    directs_spelt no-direct = (tt, λ r. refl)
    directs_spelt {t} (directs {v} {vs} h g) =
        let a = (below (O.Table t) v h).0 in
        let b = directs_spelt g in
        let xs = encoder (O.Table t) v in
        let ys = directs_bits encoder t vs in
        (all_append Bit xs ys a.0 b.0, λ r. rw (append_assoc xs ys r, a.1 (ys ++ r), b.1 r))

    blob_spelt : (l : List ℕ) → All Byte l → length l < 2 ^ 32 → Spells take_blob (blob_bits l) (blob l)
    unfolding take_blob blob_bits bind
    blob_spelt l h s = (
      all_append Bit (bits_of 32 (length l)) (bits l) (bits_of-bits 32 (length l)) (bits-bits l),
      λ r. rw (append_assoc (bits_of 32 (length l)) (bits l) r, number_read 32 (length l) s (bits l ++ r), bytes_read l h r),
    )

    content_spelt : {ob : Object} {v : Value} → ContentShown child S ob v
        → Spells (take_content decoder S ob) (content_bits encoder S ob v) v × (present v ≡ true)
    unfolding take_content content_bits as_blob as_row present bind
    content_spelt (text {l} h s) = (blob_spelt l h s, refl)
    content_spelt (bytes {l} h s) = (blob_spelt l h s, refl)
    content_spelt (list {i} {vs} s h) =
        let k = element_of S i in
        let a = elements_spelt (G.lists i).kind h in
        let n = bits_of 32 (count vs) in
        let xs = elements_bits encoder S k vs in (
          (
            all_append Bit n xs (bits_of-bits 32 (count vs)) a.0,
            λ r. rw (append_assoc n xs r, number_read 32 (count vs) s (xs ++ r), a.1 r),
          ),
          refl,
        )
    content_spelt (table {i} {vs} h) =
        let a = members_spelt (G.tables i).members h in
        ((a.0, λ r. rw (a.1 r)), refl)
    content_spelt (direct_list {t} {vs} s h) =
        let a = directs_spelt h in
        let n = bits_of 32 (count vs) in
        let xs = directs_bits encoder t vs in (
          (
            all_append Bit n xs (bits_of-bits 32 (count vs)) a.0,
            λ r. rw (append_assoc n xs r, number_read 32 (count vs) s (xs ++ r), a.1 r),
          ),
          refl,
        )

  pub object_spelt : (d : ℕ) (ob : Object) (v : Value) → Shown d S ob v → Spells (decode d S ob) (encode d S ob v) v × (present v ≡ true)
  unfolding decode encode
  object_spelt zero ob v h = absurd h
  object_spelt (suc d) ob v h = content_spelt (Shown d S) (encode d S) (decode d S) (λ k u g. object_spelt d k u g) h
