-- What is decoded is a value that the schema can show, and its bits with what is left are what was read.
use Rattle.std.specs.Prelude.{◌≡◌, Bool, ◌&&◌, not, length, take, drop}
use Rattle.std.proofs.Math.Path.{refl, subst}
use Rattle.std.proofs.Common.{sym, ap, ◌∙◌, arith, take-append-drop}
use mathlib.Core.List.{List, [], ◌∷◌, ◌++◌, append_assoc}
use Rattle.std.proofs.Math.Bool.{true, false}
use Rattle.std.proofs.lemmas.Bool.{false≢true}
use Prim.Native.Nat.{ℕ, zero, suc, ◌*◌, ◌^◌, ◌<◌, ◌≤◌}
use Rattle.std.proofs.Math.Dec.{ltb, leb, eqb}
use borrow.Author.Tests.{ltb-true, leb-true, eqb-true, eqb-false, not-true}
use Rattle.coding.specs.Lists.{pick}
use Rattle.coding.specs.Schema.{Schema, struct_of, element_of, cases_of, case_of, table_of}
use Rattle.coding.specs.Value.{Value, absent, unknown, number, blob, as_number, as_blob, as_row, as_object, present, first, others, count}
use Rattle.coding.specs.Bits.{bits_of, bits, value, pack}
use Rattle.coding.specs.Sheet.{mark_bits, flat_bits, field_bits, fields_bits, bits_by, no_bits, struct_bits, Encoder, body_bits, flat_unknown, unknown_width, part_bits, unmarked, element_bits, members_bits, elements_bits, directs_bits, blob_bits, content_bits, encode}
use Rattle.coding.specs.Sheet.{Parsed, fail, got, bind, take_number, take_bytes, take_value, take_if, take_mark, unknown_enum, take_unknown_enum, take_enum, take_flat, take_field, take_fields, take_by, take_nothing, take_struct, Decoder, take_choice, take_body, take_unknown_flat, take_unknown, take_part, take_element, take_members, take_elements, take_directs, take_blob, take_content, decode}
use Rattle.coding.specs.declared.Flat.{Flat}
use Rattle.coding.specs.declared.Flat.TheVariants.{Boolean, Integer, Float, Enumerated, Struct}
use Rattle.coding.specs.declared.Object.{Object}
use Rattle.coding.specs.declared.Object.TheVariants as O
use Rattle.coding.specs.declared.Kind.{Kind}
use Rattle.coding.specs.declared.Kind.TheVariants.{OfFlat, OfObject, OfUnion}
use Rattle.coding.specs.declared.Member.{Member}
use Rattle.laws.specs.Sound.{All, FlatSound, KindSound, MemberSound, Sound}
use Rattle.laws.specs.Lists.{both_left, both_right}
use Rattle.laws.specs.All.{all_drop}
use Rattle.laws.specs.Bits.{Bit, Byte, front-lt, front-bits, bits-pack, pack-length, pack_bytes}
use Rattle.laws.specs.Structs.{index_holds₂}
use Rattle.demands.specs.Shown.{FlatShown, boolean, integer, float, no-enum, enum, unknown-enum, struct, FlatsShown, no-flat, flats, Objects, PartShown, no-part, flat, object, choice, unknown-choice, MembersShown, no_member, members, ElementsShown, no-element, elements, DirectsShown, no-direct, directs, ContentShown, text, bytes, list, table, direct_list, Shown}
use Rattle.demands.specs.SheetDecode.{mark-present}

-- what is got has P, and its bits with what is left are what was read
pub data From {A : Type 0} (P : A → Type 0) (encoder : A → List ℕ) (xs : List ℕ) : Parsed A → Type 0 where
  from_fail : From P encoder xs fail
  from_got : {a : A} {r : List ℕ} → P a → xs ≡ encoder a ++ r → All Bit r → From P encoder xs (got a r)

from-bind : {A B : Type 0} {P : A → Type 0} {Q : B → Type 0} {e : A → List ℕ} {f : B → List ℕ} {xs ys : List ℕ} {g : Parsed A}
    {k : A → List ℕ → Parsed B} → From P e xs g → ((a : A) (r : List ℕ) → P a → xs ≡ e a ++ r → All Bit r → From Q f ys (k a r))
    → From Q f ys (bind g k)
unfolding bind
from-bind from_fail h = from_fail
from-bind (from_got {a} {r} p q b) h = h a r p q b

from-pick : {A : Type 0} {P : A → Type 0} {e : A → List ℕ} {xs : List ℕ} {g : Parsed A} (t : Bool) → (t ≡ true → From P e xs g)
    → From P e xs (pick t g fail)
from-pick true h = h refl
from-pick false h = from_fail

weaken : {A : Type 0} {P Q : A → Type 0} {e : A → List ℕ} {xs : List ℕ} {g : Parsed A} → ((a : A) → P a → Q a) → From P e xs g → From Q e xs g
weaken w from_fail = from_fail
weaken w (from_got {a} p q b) = from_got (w a p) q b

-- one behind the other
joined : {xs r : List ℕ} (a b q : List ℕ) → xs ≡ a ++ r → r ≡ b ++ q → xs ≡ (a ++ b) ++ q
joined a b q h l = h ∙ ap (λ (x : List ℕ). a ++ x) l ∙ sym (append_assoc a b q)

-- ---- numbers and bytes
number-from : (w : ℕ) (xs : List ℕ) → All Bit xs → From (λ x. x < 2 ^ w) (bits_of w) xs (take_number w xs)
unfolding take_number
number-from w xs h = from-pick (leb w (length xs)) (λ e. front (leb-true w (length xs) e))
  where
    front : w ≤ length xs → From (λ x. x < 2 ^ w) (bits_of w) xs (got (value (take w xs)) (drop w xs))
    front l =
        from_got (front-lt w xs h l)
        (sym (take-append-drop w xs) ∙ ap (λ (s : List ℕ). s ++ drop w xs) (sym (front-bits w xs h l)))
        (all_drop Bit w xs h)

bytes-from : (n : ℕ) (xs : List ℕ) → All Bit xs → From (λ l. (length l ≡ n) × All Byte l) bits xs (take_bytes n xs)
unfolding take_bytes
bytes-from n xs h = from-pick (leb (8 * n) (length xs)) (λ e. front (leb-true (8 * n) (length xs) e))
  where
    front : 8 * n ≤ length xs → From (λ l. (length l ≡ n) × All Byte l) bits xs (got (pack n xs) (drop (8 * n) xs))
    front l =
        from_got (pack-length n xs, pack_bytes n xs h l)
        (sym (take-append-drop (8 * n) xs) ∙ ap (λ (s : List ℕ). s ++ drop (8 * n) xs) (sym (bits-pack n xs h l)))
        (all_drop Bit (8 * n) xs h)

-- ---- marks
-- an unknown number of w bits
data Lost (P : Value → Type 0) (w : ℕ) (xs : List ℕ) : Parsed Value → Type 0 where
  lost_fail : Lost P w xs fail
  lost_got : {x : ℕ} {r : List ℕ} → P (unknown x) → xs ≡ bits_of w x ++ r → All Bit r → Lost P w xs (got (unknown x) r)

lost_if : (P : Value → Type 0) (w : ℕ) (ok : ℕ → Bool) → ((x : ℕ) → x < 2 ^ w → ok x ≡ true → P (unknown x))
    → (xs : List ℕ) → All Bit xs → Lost P w xs (take_if w ok unknown xs)
unfolding take_if bind
lost_if P w ok p xs h = by (number-from w xs h)
  where
    by_ok : (t : Bool) (x : ℕ) (r : List ℕ) → ok x ≡ t → x < 2 ^ w → xs ≡ bits_of w x ++ r → All Bit r
        → Lost P w xs (pick t (got (unknown x) r) fail)
    by_ok true x r e l q b = lost_got (p x l e) q b
    by_ok false x r e l q b = lost_fail

    by : {g : Parsed ℕ} → From (λ x. x < 2 ^ w) (bits_of w) xs g → Lost P w xs (bind g (λ x r. pick (ok x) (got (unknown x) r) fail))
    by from_fail = lost_fail
    by (from_got {a} {r} l q b) = by_ok (ok a) a r refl l q b

module _ (P : Value → Type 0) (w : ℕ) (body : Value → List ℕ) (lost decoder : List ℕ → Parsed Value) (none-ok : P absent)
    (L : (xs : List ℕ) → All Bit xs → Lost P w xs (lost xs))
    (D : (xs : List ℕ) → All Bit xs → From (λ v. P v × (present v ≡ true)) body xs (decoder xs)) where
  from_lost : {xs r : List ℕ} {g : Parsed Value} → xs ≡ bits_of 2 2 ++ r → Lost P w r g → From P (mark_bits w body) xs g
  unfolding mark_bits
  from_lost e lost_fail = from_fail
  from_lost e (lost_got {x} {r = q} p k b) = from_got {a = unknown x} {r = q} p (joined (bits_of 2 2) (bits_of w x) q e k) b

  from-body : {xs r : List ℕ} {g : Parsed Value} → xs ≡ bits_of 2 1 ++ r → From (λ v. P v × (present v ≡ true)) body r g
      → From P (mark_bits w body) xs g
  from-body e from_fail = from_fail
  from-body e (from_got {a} {r = q} p k b) =
      from_got {a = a} {r = q} p.0 (rw (mark-present w body a p.1) (joined (bits_of 2 1) (body a) q e k)) b

  mark-from : (xs : List ℕ) → All Bit xs → From P (mark_bits w body) xs (take_mark lost decoder xs)
  unfolding take_mark
  mark-from xs h = from-bind (number-from 2 xs h) (λ mark r l e b. by_0 mark r e b (eqb mark 0) refl)
    where
      at : (mark n : ℕ) (r : List ℕ) → xs ≡ bits_of 2 mark ++ r → eqb mark n ≡ true → xs ≡ bits_of 2 n ++ r
      at mark n r e t = subst (λ (k : ℕ). xs ≡ bits_of 2 k ++ r) (eqb-true mark n t) e

      by_2 : (mark : ℕ) (r : List ℕ) → xs ≡ bits_of 2 mark ++ r → All Bit r → (t : Bool) → eqb mark 2 ≡ t
          → From P (mark_bits w body) xs (pick t (lost r) fail)
      by_2 mark r e b true t = from_lost (at mark 2 r e t) (L r b)
      by_2 mark r e b false t = from_fail

      by_1 : (mark : ℕ) (r : List ℕ) → xs ≡ bits_of 2 mark ++ r → All Bit r → (t : Bool) → eqb mark 1 ≡ t
          → From P (mark_bits w body) xs (pick t (decoder r) (pick (eqb mark 2) (lost r) fail))
      by_1 mark r e b true t = from-body (at mark 1 r e t) (D r b)
      by_1 mark r e b false t = by_2 mark r e b (eqb mark 2) refl

      by_0 : (mark : ℕ) (r : List ℕ) → xs ≡ bits_of 2 mark ++ r → All Bit r → (t : Bool) → eqb mark 0 ≡ t
          → From P (mark_bits w body) xs (pick t (got absent r) (pick (eqb mark 1) (decoder r) (pick (eqb mark 2) (lost r) fail)))
      by_0 mark r e b true t = unfold mark_bits in from_got {a = absent} {r = r} none-ok (at mark 0 r e t) b
      by_0 mark r e b false t = by_1 mark r e b (eqb mark 1) refl

-- ---- what leads to no object
unknown-enum_is : (S : Schema) (n x : ℕ) → x < 2 ^ 8 → unknown_enum n x ≡ true → FlatShown S (Enumerated n) (unknown x)
unfolding unknown_enum
unknown-enum_is S n x l e =
    let ne = eqb-false x 255 (not-true (eqb x 255) (both_right (leb n x) (not (eqb x 255)) e)) in
    unknown-enum (leb-true n x (both_left (leb n x) (not (eqb x 255)) e)) (omega arith)

lost-enum : (S : Schema) (n : ℕ) (xs : List ℕ) → All Bit xs → Lost (FlatShown S (Enumerated n)) 8 xs (take_unknown_enum n xs)
unfolding take_unknown_enum
lost-enum S n xs h = lost_if (FlatShown S (Enumerated n)) 8 (unknown_enum n) (unknown-enum_is S n) xs h

-- a value of a kind that is there
abbrev Present : Schema → Flat → Value → Type 0
Present S k v = FlatShown S k v × (present v ≡ true)

value-from : (P : Value → Type 0) (w : ℕ) → ((x : ℕ) → x < 2 ^ w → P (number x)) → (xs : List ℕ) → All Bit xs
    → From P (λ v. bits_of w (as_number v)) xs (take_value w xs)
unfolding take_value as_number
value-from P w p xs h = from-bind (number-from w xs h) (λ x r l e b. from_got (p x l) e b)

enum_from : (S : Schema) (n : ℕ) (xs : List ℕ) → All Bit xs → From (Present S (Enumerated n)) (λ v. bits_of 8 (as_number v)) xs (take_enum n xs)
unfolding take_enum take_if as_number present
enum_from S n xs h =
    from-bind (number-from 8 xs h) (λ x r l e b. from-pick (ltb x n) (λ t. from_got (enum (ltb-true x n t), refl) e b))

module _ (S : Schema) (n : ℕ) (encoder : ℕ → Value → List ℕ) (decoder : ℕ → List ℕ → Parsed Value)
    (inner : (j : ℕ) → j < n → (xs : List ℕ) → All Bit xs → From (Present S (Struct j)) (encoder j) xs (decoder j xs)) where
  flat-from : (k : Flat) → FlatSound n k → (xs : List ℕ) → All Bit xs → From (Present S k) (flat_bits encoder k) xs (take_flat decoder k xs)
  unfolding flat_bits take_flat present
  flat-from Boolean s xs h = value-from (Present S Boolean) 1 (λ x l. (boolean l, refl)) xs h
  flat-from (Integer g w) s xs h = value-from (Present S (Integer g w)) (8 * w) (λ x l. (integer l, refl)) xs h
  flat-from (Float w) s xs h = value-from (Present S (Float w)) (8 * w) (λ x l. (float l, refl)) xs h
  flat-from (Enumerated c) s xs h = enum_from S c xs h
  flat-from (Struct i) s xs h = inner i s xs h

  -- a struct's member
  field-from : (k : Flat) → FlatSound n k → (xs : List ℕ) → All Bit xs → From (FlatShown S k) (field_bits encoder k) xs (take_field decoder k xs)
  unfolding field_bits take_field
  field-from Boolean s xs h = weaken (λ v p. p.0) (flat-from Boolean s xs h)
  field-from (Integer g w) s xs h = weaken (λ v p. p.0) (flat-from (Integer g w) s xs h)
  field-from (Float w) s xs h = weaken (λ v p. p.0) (flat-from (Float w) s xs h)
  field-from (Enumerated c) s xs h =
      mark-from (FlatShown S (Enumerated c)) 8 (flat_bits encoder (Enumerated c)) (take_unknown_enum c) (take_flat decoder (Enumerated c)) no-enum
      (lost-enum S c) (flat-from (Enumerated c) s) xs h
  field-from (Struct i) s xs h = weaken (λ v p. p.0) (flat-from (Struct i) s xs h)

  fields-from : (ks : List Flat) → All (FlatSound n) ks → (xs : List ℕ) → All Bit xs
      → From (FlatsShown S ks) (fields_bits encoder ks) xs (take_fields decoder ks xs)
  unfolding fields_bits take_fields first others
  fields-from [] s xs h = from_got no-flat refl h
  fields-from (k ∷ ks) s xs h =
      from-bind (field-from k s.0 xs h)
      (λ v r p e b.
      from-bind (fields-from ks s.1 r b)
      (λ vs q t f c. from_got (flats p t) (joined (field_bits encoder k v) (fields_bits encoder ks vs) q e f) c))

module _ (S : Schema) (G : Sound S) where
  -- structs, by their index
  StructFrom : ℕ → (Value → List ℕ) → (List ℕ → Parsed Value) → Type 0
  StructFrom i encoder decoder = (xs : List ℕ) → All Bit xs → From (Present S (Struct i)) encoder xs (decoder xs)

  struct_next : (i : ℕ) (encoder : ℕ → Value → List ℕ) (decoder : ℕ → List ℕ → Parsed Value)
      → ((j : ℕ) → j < i → StructFrom j (encoder j) (decoder j)) → StructFrom i (bits_by S encoder i) (take_by S decoder i)
  unfolding StructFrom bits_by take_by as_row present
  struct_next i encoder decoder inner xs h =
      from-bind (fields-from S i encoder decoder inner (struct_of S i) (G.structs i).members xs h) (λ vs r p e b. from_got (struct p, refl) e b)

  struct_from : (i : ℕ) (xs : List ℕ) → All Bit xs → From (Present S (Struct i)) (struct_bits S i) xs (take_struct S i xs)
  unfolding StructFrom struct_bits take_struct
  struct_from i = index_holds₂ StructFrom no_bits (bits_by S) take_nothing (take_by S) struct_next i

  -- ---- members, elements and objects
  module _ (child : Objects) (encoder : Encoder) (decoder : Decoder)
      (below : (ob : Object) (xs : List ℕ) → All Bit xs → From (λ v. child ob v × (present v ≡ true)) (encoder ob) xs (decoder ob xs)) where
    -- a part that is there
    Part : Kind → Value → Type 0
    Part k v = PartShown child S k v × (present v ≡ true)

    choice-from : (i : ℕ) (xs : List ℕ) → All Bit xs → From (Part (OfUnion i)) (body_bits encoder S (OfUnion i)) xs (take_choice decoder (cases_of S i) xs)
    unfolding Part body_bits take_choice as_number as_object present
    choice-from i xs h =
        from-bind (number-from 16 xs h)
        (λ c r s e b.
        from-pick (leb 1 c && leb c (length (cases_of S i)))
        (λ t.
        let l = leb-true 1 c (both_left (leb 1 c) (leb c (length (cases_of S i))) t) in
        let u = leb-true c (length (cases_of S i)) (both_right (leb 1 c) (leb c (length (cases_of S i))) t) in
        from-bind (below (case_of (cases_of S i) c) r b)
        (λ v q p f d.
        from_got (choice l u p.0, refl)
        (joined (bits_of 16 c) (encoder (case_of (cases_of S i) c) v) q e f) d)))

    body-from : (k : Kind) → KindSound S k → (xs : List ℕ) → All Bit xs → From (Part k) (body_bits encoder S k) xs (take_body decoder S k xs)
    unfolding Part body_bits take_body
    body-from (OfFlat k) s xs h =
        weaken (λ v p. (flat p.0, p.1))
        (flat-from S (length S.structs) (struct_bits S) (take_struct S) (λ j l. struct_from j) k s xs h)
    body-from (OfObject ob) s xs h = weaken (λ v p. (object p.0, p.1)) (below ob xs h)
    body-from (OfUnion i) s xs h = choice-from i xs h

    lost-flat : (k : Flat) (xs : List ℕ) → All Bit xs → Lost (PartShown child S (OfFlat k)) (flat_unknown k) xs (take_unknown_flat k xs)
    unfolding flat_unknown take_unknown_flat take_unknown_enum
    lost-flat Boolean xs h = lost_fail
    lost-flat (Integer g w) xs h = lost_fail
    lost-flat (Float w) xs h = lost_fail
    lost-flat (Enumerated n) xs h =
        lost_if (PartShown child S (OfFlat (Enumerated n))) 8 (unknown_enum n) (λ x l e. flat (unknown-enum_is S n x l e)) xs h
    lost-flat (Struct i) xs h = lost_fail

    lost-from : (k : Kind) (xs : List ℕ) → All Bit xs → Lost (PartShown child S k) (unknown_width k) xs (take_unknown S k xs)
    unfolding unknown_width take_unknown
    lost-from (OfFlat k) xs h = lost-flat k xs h
    lost-from (OfObject ob) xs h = lost_fail
    lost-from (OfUnion i) xs h =
        lost_if (PartShown child S (OfUnion i)) 16 (λ c. ltb (length (cases_of S i)) c)
        (λ c l e. unknown-choice (ltb-true (length (cases_of S i)) c e) l) xs h

    part-from : (k : Kind) → KindSound S k → (xs : List ℕ) → All Bit xs → From (PartShown child S k) (part_bits encoder S k) xs (take_part decoder S k xs)
    unfolding Part part_bits take_part
    part-from k s xs h =
        mark-from (PartShown child S k) (unknown_width k) (body_bits encoder S k) (take_unknown S k) (take_body decoder S k) no-part (lost-from k) (body-from k s) xs h

    -- an element: one with no mark is there
    Element : Kind → Value → Type 0
    Element k v = PartShown child S k v × (unmarked k ≡ true → present v ≡ true)

    element-from : (k : Kind) → KindSound S k → (xs : List ℕ) → All Bit xs → From (Element k) (element_bits encoder S k) xs (take_element decoder S k xs)
    unfolding Part Element element_bits take_element
    element-from k s xs h = by (unmarked k)
      where
        by : (t : Bool)
            → From (λ v. PartShown child S k v × (t ≡ true → present v ≡ true)) (λ v. pick t (body_bits encoder S k v) (part_bits encoder S k v)) xs
            (pick t (take_body decoder S k xs) (take_part decoder S k xs))
        by true = weaken (λ v p. (p.0, λ e. p.1)) (body-from k s xs h)
        by false = weaken (λ v p. (p, λ e. absurd (false≢true e))) (part-from k s xs h)

    members-from : (rs : List Member) → All (MemberSound S) rs → (xs : List ℕ) → All Bit xs
        → From (MembersShown child S rs) (members_bits encoder S rs) xs (take_members decoder S rs xs)
    unfolding members_bits take_members first others
    members-from [] s xs h = from_got no_member refl h
    members-from (m ∷ rs) s xs h =
        from-bind (part-from m.kind s.0.kind xs h)
        (λ v r p e b.
        from-bind (members-from rs s.1 r b)
        (λ vs q t f c. from_got (members p t) (joined (part_bits encoder S m.kind v) (members_bits encoder S rs vs) q e f) c))

    elements-from : (k : Kind) → KindSound S k → (n : ℕ) (xs : List ℕ) → All Bit xs
        → From (λ vs. (count vs ≡ n) × ElementsShown child S k vs) (elements_bits encoder S k) xs (take_elements decoder S k n xs)
    unfolding Element elements_bits take_elements count
    elements-from k s zero xs h = from_got (refl, no-element) refl h
    elements-from k s (suc n) xs h =
        from-bind (element-from k s xs h)
        (λ v r p e b.
        from-bind (elements-from k s n r b)
        (λ vs q t f c.
        from_got (ap suc t.0, elements p.0 p.1 t.1) (joined (element_bits encoder S k v) (elements_bits encoder S k vs) q e f) c))

    directs-from : (t n : ℕ) (xs : List ℕ) → All Bit xs
        → From (λ vs. (count vs ≡ n) × DirectsShown child t vs) (directs_bits encoder t) xs (take_directs decoder t n xs)
    unfolding directs_bits take_directs count
    directs-from t zero xs h = from_got (refl, no-direct) refl h
    directs-from t (suc n) xs h =
        from-bind (below (O.Table t) xs h)
        (λ v r p e b.
        from-bind (directs-from t n r b)
        (λ vs q g f c.
        from_got (ap suc g.0, directs p.0 g.1) (joined (encoder (O.Table t) v) (directs_bits encoder t vs) q e f) c))

    -- an object that is there
    Content : Object → Value → Type 0
    Content ob v = ContentShown child S ob v × (present v ≡ true)

    blob-from : (P : Value → Type 0) → ((l : List ℕ) → All Byte l → length l < 2 ^ 32 → P (blob l)) → (xs : List ℕ) → All Bit xs
        → From P (λ v. blob_bits (as_blob v)) xs (take_blob xs)
    unfolding take_blob blob_bits as_blob
    blob-from P p xs h =
        from-bind (number-from 32 xs h)
        (λ n r l e b.
        from-bind (bytes-from n r b)
        (λ bs q t f c.
        from_got (p bs t.1 (rw t.0 l))
        (rw t.0 (joined (bits_of 32 n) (bits bs) q e f)) c))

    content-from : (ob : Object) (xs : List ℕ) → All Bit xs → From (Content ob) (content_bits encoder S ob) xs (take_content decoder S ob xs)
    unfolding Content content_bits take_content as_row present
    content-from O.Text xs h = blob-from (Content O.Text) (λ l a s. (text a s, refl)) xs h
    content-from O.Bytes xs h = blob-from (Content O.Bytes) (λ l a s. (bytes a s, refl)) xs h
    content-from (O.List i) xs h =
        from-bind (number-from 32 xs h)
        (λ n r l e b.
        from-bind (elements-from (element_of S i) (G.lists i).kind n r b)
        (λ vs q t f c.
        from_got (list (rw t.0 l) t.1, refl)
        (rw t.0 (joined (bits_of 32 n) (elements_bits encoder S (element_of S i) vs) q e f)) c))
    content-from (O.Table i) xs h =
        from-bind (members-from (table_of S i).members (G.tables i).members xs h) (λ vs r p e b. from_got (table p, refl) e b)
    content-from (O.DirectList t) xs h =
        from-bind (number-from 32 xs h)
        (λ n r l e b.
        from-bind (directs-from t n r b)
        (λ vs q g f c.
        from_got (direct_list (rw g.0 l) g.1, refl)
        (rw g.0 (joined (bits_of 32 n) (directs_bits encoder t vs) q e f)) c))

  pub object-from : (d : ℕ) (ob : Object) (xs : List ℕ) → All Bit xs
      → From (λ v. Shown d S ob v × (present v ≡ true)) (encode d S ob) xs (decode d S ob xs)
  unfolding Content encode decode
  object-from zero ob xs h = from_fail
  object-from (suc d) ob xs h = content-from (Shown d S) (encode d S) (decode d S) (λ k ys b. object-from d k ys b) ob xs h
