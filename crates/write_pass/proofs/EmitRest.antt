-- The pass goes forward: no part of it leaves more of the sheet than it was given.
use mathlib.Core.Path.{◌≡◌, subst}
use mathlib.Core.Bool.{Bool, true, false, ◌&&◌}
use Rattle.std.specs.Prelude.{Some}
use mathlib.Core.List.{List, [], ◌∷◌}
use Prim.Native.Nat.{ℕ, zero, suc, ◌*◌, ◌≤◌}
use native.Mathlib.Omega.{arith}
use lib.ListN.{length, drop, length-drop}
use lib.Dec.{leb, eqb}
use Rattle.coding.specs.Lists.{pick}
use Rattle.coding.specs.Bits.{bits}
use Rattle.coding.specs.Schema as Sc
use Rattle.coding.specs.Schema.{Schema}
use Rattle.coding.specs.Structs.{lower, by_index}
use Rattle.coding.specs.Sheet.{Parsed, fail, got, bind, take_number, take_bytes, unknown_enum, unmarked}
use Rattle.coding.specs.declared.Flat.{Flat}
use Rattle.coding.specs.declared.Flat.TheVariants.{Boolean, Integer, Float, Enumerated, Struct}
use Rattle.coding.specs.declared.Object.{Object}
use Rattle.coding.specs.declared.Object.TheVariants as O
use Rattle.coding.specs.declared.Kind.{Kind}
use Rattle.coding.specs.declared.Kind.TheVariants.{OfFlat, OfObject, OfUnion}
use Rattle.coding.specs.declared.Member.{Member}
use Rattle.laws.specs.Bits.{bits-length}
use Rattle.write_measure.specs.Survey.{below_count, above_count, survey_mark, Surveyor, survey}
use Rattle.write_store.specs.State.{State, enter_content, enter_part, put_number, put_byte}
use Rattle.write_pass.specs.EmitSheet.{Emitter, put_nothing, open_object, emit_number, emit_if, emit_field, emit_fields, emit_by, emit_nothing, emit_struct, emit_flat, lack, pass_flat, pass, emit_object, emit_content_at, emit_refer, emit_choice, emit_body, emit_part, emit_element, flagged, emit_members, emit_elements, direct_head, emit_direct, emit_directs, emit_blob, emit_content, emit}
use Rattle.write_pass.specs.Emitting.{EmittedAt}
use Rattle.write_pass.specs.declared.Emitted.{Emitted}

-- the bits that are left
unfoldable left : {A : Type 0} → Parsed A → ℕ
left fail = 0
left (got a xs) = length xs

-- at most n are left
module _ {A B : Type 0} (n : ℕ) where
  any_left : (p : Parsed A) (f : A → List ℕ → Parsed B) → ((a : A) (ys : List ℕ) → left (f a ys) ≤ n) → left (bind p f) ≤ n
  unfolding left bind
  any_left fail f h = omega arith
  any_left (got a ys) f h = h a ys

  bind_left : (p : Parsed A) (f : A → List ℕ → Parsed B) → left p ≤ n → ((a : A) (ys : List ℕ) → length ys ≤ n → left (f a ys) ≤ n) → left (bind p f) ≤ n
  unfolding left bind
  bind_left fail f l h = omega arith
  bind_left (got a ys) f l h = h a ys l

pick_left : {A : Type 0} (n : ℕ) (t : Bool) (p q : Parsed A) → left p ≤ n → left q ≤ n → left (pick t p q) ≤ n
pick_left n true p q a b = a
pick_left n false p q a b = b

fail_left : (n : ℕ) → left {A = State} fail ≤ n
unfolding left
fail_left n = omega arith

number_left : (w : ℕ) (xs : List ℕ) (n : ℕ) → length xs ≤ n → left (take_number w xs) ≤ n
unfolding take_number left
number_left w xs n l = pick_left n (leb w (length xs)) _ _ (let e = length-drop w xs in omega arith) (omega arith)

bytes_left : (w : ℕ) (xs : List ℕ) (n : ℕ) → length xs ≤ n → left (take_bytes w xs) ≤ n
unfolding take_bytes left
bytes_left w xs n l = pick_left n (leb (8 * w) (length xs)) _ _ (let e = length-drop (8 * w) xs in omega arith) (omega arith)

-- ---- what leads to no object
emit-number_left : (w : ℕ) (put : ℕ → State → State) (st : State) (xs : List ℕ) (n : ℕ) → length xs ≤ n → left (emit_number w put st xs) ≤ n
unfolding emit_number left
emit-number_left w put st xs n l = bind_left n (take_number w xs) _ (number_left w xs n l) (λ a ys h. h)

emit_if_left : (w : ℕ) (ok : ℕ → Bool) (put : ℕ → State → State) (st : State) (xs : List ℕ) (n : ℕ) → length xs ≤ n → left (emit_if w ok put st xs) ≤ n
unfolding emit_if left
emit_if_left w ok put st xs n l = bind_left n (take_number w xs) _ (number_left w xs n l) (λ a ys h. pick_left n (ok a) _ _ h (omega arith))

mark_left : (none : State) (unknown body : List ℕ → Parsed State) (n : ℕ) → ((ys : List ℕ) → length ys ≤ n → left (unknown ys) ≤ n) → ((ys : List ℕ) → length ys ≤ n → left (body ys) ≤ n)
    → (xs : List ℕ) → length xs ≤ n → left (survey_mark none unknown body xs) ≤ n
unfolding survey_mark left
mark_left none unknown body n f g xs l =
    bind_left n (take_number 2 xs) _ (number_left 2 xs n l)
    (λ a ys h. pick_left n (eqb a 0) _ _ h (pick_left n (eqb a 1) _ _ (g ys h) (pick_left n (eqb a 2) _ _ (f ys h) (omega arith))))

module _ (inner : ℕ → State → List ℕ → Parsed State) (f : (i : ℕ) (st : State) (xs : List ℕ) (n : ℕ) → length xs ≤ n → left (inner i st xs) ≤ n) where
  field_left : (k : Flat) (st : State) (xs : List ℕ) (n : ℕ) → length xs ≤ n → left (emit_field inner k st xs) ≤ n
  unfolding emit_field
  field_left Boolean st xs n l = emit-number_left 1 put_byte st xs n l
  field_left (Integer s w) st xs n l = emit-number_left (8 * w) (put_number w) st xs n l
  field_left (Float w) st xs n l = emit-number_left (8 * w) (put_number w) st xs n l
  field_left (Enumerated m) st xs n l =
      mark_left (put_byte 255 st) (emit_if 8 (unknown_enum m) put_nothing (put_byte 255 st)) (emit_if 8 (below_count m) put_byte st) n
      (λ ys h. emit_if_left 8 (unknown_enum m) put_nothing (put_byte 255 st) ys n h) (λ ys h. emit_if_left 8 (below_count m) put_byte st ys n h) xs l
  field_left (Struct i) st xs n l = f i st xs n l

  fields_left : (ks : List Flat) (st : State) (xs : List ℕ) (n : ℕ) → length xs ≤ n → left (emit_fields inner ks st xs) ≤ n
  unfolding emit_fields left
  fields_left [] st xs n l = l
  fields_left (k ∷ ks) st xs n l = bind_left n (emit_field inner k st xs) _ (field_left k st xs n l) (λ a ys h. fields_left ks a ys n h)

lower_left : (S : Schema) (i j : ℕ) (st : State) (xs : List ℕ) (n : ℕ) → length xs ≤ n → left (lower emit_nothing (emit_by S) i j st xs) ≤ n
unfolding lower emit_by
lower_left S zero j st xs n l = fail_left n
lower_left S (suc i) j st xs n l =
    by (eqb j i) (fields_left (lower emit_nothing (emit_by S) i) (lower_left S i) (Sc.struct_of S i) st xs n l) (lower_left S i j st xs n l)
  where
    by : (t : Bool) → left (emit_by S (lower emit_nothing (emit_by S) i) i st xs) ≤ n → left (lower emit_nothing (emit_by S) i j st xs) ≤ n
        → left (pick t (emit_by S (lower emit_nothing (emit_by S) i) i) (lower emit_nothing (emit_by S) i j) st xs) ≤ n
    by true a b = a
    by false a b = b

struct_left : (S : Schema) (i : ℕ) (st : State) (xs : List ℕ) (n : ℕ) → length xs ≤ n → left (emit_struct S i st xs) ≤ n
unfolding emit_struct by_index emit_by
struct_left S i st xs n l = fields_left (lower emit_nothing (emit_by S) i) (lower_left S i) (Sc.struct_of S i) st xs n l

flat_left : (S : Schema) (k : Flat) (st : State) (xs : List ℕ) (n : ℕ) → length xs ≤ n → left (emit_flat S k st xs) ≤ n
unfolding emit_flat
flat_left S Boolean st xs n l = emit-number_left 1 _ st xs n l
flat_left S (Integer s w) st xs n l = emit-number_left (8 * w) (put_number w) st xs n l
flat_left S (Float w) st xs n l = emit-number_left (8 * w) (put_number w) st xs n l
flat_left S (Enumerated m) st xs n l = emit_if_left 8 (below_count m) put_byte st xs n l
flat_left S (Struct i) st xs n l = struct_left S i st xs n l

pass_left : (S : Schema) (k : Kind) (st : State) (xs : List ℕ) (n : ℕ) → length xs ≤ n → left (pass S k st xs) ≤ n
unfolding pass pass_flat
pass_left S (OfFlat Boolean) st xs n l = fail_left n
pass_left S (OfFlat (Integer s w)) st xs n l = fail_left n
pass_left S (OfFlat (Float w)) st xs n l = fail_left n
pass_left S (OfFlat (Enumerated m)) st xs n l = emit_if_left 8 (unknown_enum m) put_nothing st xs n l
pass_left S (OfFlat (Struct i)) st xs n l = fail_left n
pass_left S (OfObject ob) st xs n l = fail_left n
pass_left S (OfUnion i) st xs n l = emit_if_left 16 (above_count (length (Sc.cases_of S i))) put_nothing st xs n l

-- ---- objects, by what is shown for the child
module _ (child : Emitter) (measure : Surveyor) (o : ℕ) (S : Schema) (f : (ob : Object) (st : State) (xs : List ℕ) (n : ℕ) → length xs ≤ n → left (child ob st xs) ≤ n) where
  refer_left : (inplace : Bool) (ob : Object) (st : State) (xs : List ℕ) (n : ℕ) → length xs ≤ n → left (emit_refer child measure o S inplace ob st xs) ≤ n
  unfolding emit_refer emit_object emit_content_at left
  refer_left inplace ob st xs n l =
      any_left n (measure ob xs) _
      (λ x ys. pick_left n inplace _ _ (bind_left n (child ob (enter_content x.width (put_number o x.length st)) xs) _ (f ob _ xs n l) (λ a zs h. h))
      (bind_left n (child ob (open_object o S ob x (put_number o st.next st)) xs) _ (f ob _ xs n l) (λ a zs h. h)))

  body_left : (k : Kind) (inplace : Bool) (st : State) (xs : List ℕ) (n : ℕ) → length xs ≤ n → left (emit_body child measure o S k inplace st xs) ≤ n
  unfolding emit_body emit_choice left
  body_left (OfFlat k) inplace st xs n l = flat_left S k st xs n l
  body_left (OfObject ob) inplace st xs n l = refer_left inplace ob st xs n l
  body_left (OfUnion i) inplace st xs n l =
      bind_left n (take_number 16 xs) _ (number_left 16 xs n l)
      (λ c ys h. pick_left n (leb 1 c && leb c (length (Sc.cases_of S i))) (emit_refer child measure o S inplace (Sc.case_of (Sc.cases_of S i) c) (put_number 2 c st) ys) fail
      (refer_left inplace (Sc.case_of (Sc.cases_of S i) c) (put_number 2 c st) ys n h) (fail_left n))

  part_left : (k : Kind) (inplace : Bool) (st₀ st₁ : State) (xs : List ℕ) (n : ℕ) → length xs ≤ n → left (emit_part child measure o S k inplace st₀ st₁ xs) ≤ n
  unfolding emit_part
  part_left k inplace st₀ st₁ xs n l =
      mark_left (lack o S k st₀) (pass S k (lack o S k st₀)) (emit_body child measure o S k inplace st₁) n (λ ys h. pass_left S k (lack o S k st₀) ys n h)
      (λ ys h. body_left k inplace st₁ ys n h) xs l

  element_left : (k : Kind) (st : State) (xs : List ℕ) (n : ℕ) → length xs ≤ n → left (emit_element child measure o S k st xs) ≤ n
  unfolding emit_element
  element_left k st xs n l = pick_left n (unmarked k) _ _ (body_left k false st xs n l) (part_left k false st st xs n l)

  members_left : (rs : List Member) (st : State) (xs : List ℕ) (n : ℕ) → length xs ≤ n → left (emit_members child measure o S rs st xs) ≤ n
  unfolding emit_members left
  members_left [] st xs n l = l
  members_left (r ∷ rs) st xs n l =
      bind_left n (emit_part child measure o S r.kind r.inplace (flagged r 0 st) (flagged r 1 st) xs) _
      (part_left r.kind r.inplace (flagged r 0 st) (flagged r 1 st) xs n l) (λ a ys h. members_left rs a ys n h)

  elements_left : (k : Kind) (m : ℕ) (st : State) (xs : List ℕ) (n : ℕ) → length xs ≤ n → left (emit_elements child measure o S k m st xs) ≤ n
  unfolding emit_elements left
  elements_left k zero st xs n l = l
  elements_left k (suc m) st xs n l = bind_left n (emit_element child measure o S k st xs) _ (element_left k st xs n l) (λ a ys h. elements_left k m a ys n h)

  directs_left : (t m : ℕ) (st : State) (xs : List ℕ) (n : ℕ) → length xs ≤ n → left (emit_directs child t m st xs) ≤ n
  unfolding emit_directs emit_direct left
  directs_left t zero st xs n l = l
  directs_left t (suc m) st xs n l =
      bind_left n (emit_direct child t st xs) _ (bind_left n (child (O.Table t) (enter_part st) xs) _ (f (O.Table t) (enter_part st) xs n l) (λ a ys h. h))
      (λ a ys h. directs_left t m a ys n h)

  blob_left : (more : List ℕ) (st : State) (xs : List ℕ) (n : ℕ) → length xs ≤ n → left (emit_blob more st xs) ≤ n
  unfolding emit_blob left
  blob_left more st xs n l =
      bind_left n (take_number 32 xs) _ (number_left 32 xs n l) (λ a ys h. bind_left n (take_bytes a ys) _ (bytes_left a ys n h) (λ b zs g. g))

  content_left : (ob : Object) (st : State) (xs : List ℕ) (n : ℕ) → length xs ≤ n → left (emit_content child measure o S ob st xs) ≤ n
  unfolding emit_content
  content_left O.Text st xs n l = blob_left (0 ∷ []) st xs n l
  content_left O.Bytes st xs n l = blob_left [] st xs n l
  content_left (O.List i) st xs n l = bind_left n (take_number 32 xs) _ (number_left 32 xs n l) (λ a ys h. elements_left (Sc.element_of S i) a st ys n h)
  content_left (O.Table i) st xs n l = members_left (Sc.table_of S i).members st xs n l
  content_left (O.DirectList t) st xs n l = bind_left n (take_number 32 xs) _ (number_left 32 xs n l) (λ a ys h. directs_left t a (direct_head o S t st) ys n h)

emit_left : (d o : ℕ) (S : Schema) (ob : Object) (st : State) (xs : List ℕ) (n : ℕ) → length xs ≤ n → left (emit d o S ob st xs) ≤ n
unfolding emit
emit_left zero o S ob st xs n l = fail_left n
emit_left (suc d) o S ob st xs n l = content_left (emit d o S) (survey d o S) o S (emit_left d o S) ob st xs n l

-- so the sheet goes on behind where it was
pub emitted_on : (d o : ℕ) (S : Schema) (s : List ℕ) (ob : Object) (st : State) (g from : Emitted) (e : ℕ) (x : Emitted) (out : List ℕ)
    → EmittedAt s (emit d o S ob st (drop g.next (bits s))) from e (Some x) out → g.next ≤ 8 * length s → g.next ≤ x.next
unfolding left
emitted_on d o S s ob st g from e x out t l =
    let b : length (drop x.next (bits s)) ≤ length (drop g.next (bits s)) =
    subst (λ (p : Parsed State). left p ≤ length (drop g.next (bits s))) t.is (emit_left d o S ob st (drop g.next (bits s)) (length (drop g.next (bits s))) (omega arith)) in
    let i = t.reached.here in
    let f = length-drop x.next (bits s) in
    let h = length-drop g.next (bits s) in
    let k = bits-length s in
    omega arith
