-- What is stored of members, elements and objects is what their slots hold, given that of the objects one level down.
use Rattle.std.specs.Prelude.{◌≡◌, Bool, ◌&&◌, length}
use Rattle.std.proofs.Math.Path.{refl, sym, ap}
use Rattle.std.proofs.Common.{◌∙◌, arith}
use mathlib.Core.List.{List, [], ◌∷◌}
use Rattle.std.proofs.Math.Bool.{true, false}
use Prim.Native.Nat.{ℕ, zero, suc, ◌+◌}
use Rattle.std.proofs.Math.Dec.{leb}
use Rattle.coding.specs.Lists.{pick}
use Rattle.coding.specs.Bytes.{le_bytes}
use Rattle.coding.specs.Schema.{Schema, element_of, cases_of, case_of, table_of}
use Rattle.coding.specs.Layout.{has_flag}
use Rattle.coding.specs.Walk.{magic}
use Rattle.coding.specs.Value.{Value, Values, absent, unknown, blob, row, chosen, present, as_number, as_blob, as_row, as_object, first, others}
use Rattle.coding.specs.Cells.{width, chain, Slots, pack_bits}
use Rattle.coding.specs.Cells.Slots.{end, bytes, bit, reference, in_place}
use Rattle.coding.specs.Sheet.{Parsed, fail, got, bind, take_number, take_bytes, unknown_enum, take_unknown_enum, Decoder, take_choice, take_body, take_unknown_flat, take_unknown, take_part, unmarked, take_element, take_members, take_elements, take_blob, take_directs, take_content}
use Rattle.coding.specs.Message.{length_of, Test, zeros, number_or, flat_slots, Planner, object_slots, refer_slots, value_slots, flag_of, member_slots, members_slots, elements_slots, directs_slots, direct_slots, content_slots}
use Rattle.coding.specs.declared.Flat.{Flat}
use Rattle.coding.specs.declared.Flat.TheVariants as F
use Rattle.coding.specs.declared.Object.{Object}
use Rattle.coding.specs.declared.Object.TheVariants as O
use Rattle.coding.specs.declared.Kind.{Kind}
use Rattle.coding.specs.declared.Kind.TheVariants.{OfFlat, OfObject, OfUnion}
use Rattle.coding.specs.declared.Member.{Member}
use Rattle.laws.specs.Sound.{Sound}
use Rattle.write_measure.specs.Survey.{capped, above_count, head_size, Surveyor}
use Rattle.write_measure.specs.Mapped.{mapped, Has, mapped-same, bind-mapped, bind_has, mapped_got, seq, mark-mapped}
use Rattle.write_measure.specs.SlotSizes.{length-le_bytes}
use Rattle.write_measure.specs.SurveyFlats.{Present, flat_there}
use Rattle.write_measure.specs.SurveyParts.{object_extent, ObjectSurveyed}
use Rattle.write_store.specs.State.{State, put_bytes, put_bit, enter_object, leave_object, enter_content, leave_content, enter_part, leave_part, put_byte, put_number}
use Rattle.write_pass.specs.Emit.{emit_slots}
use Rattle.write_pass.specs.EmitSheet.{put_nothing, lack_flat, lack, pass_flat, pass, Emitter, open_object, emit_object, emit_content_at, emit_refer, emit_choice, emit_body, emit_part, emit_element, flagged, emit_members, emit_elements, direct_head, emit_direct, emit_directs, emit_blob, emit_content}
use Rattle.write_pass.specs.EmitFlats.{put_none, if_emitted, flat_emitted, lack_emitted}

has_all : {A : Type 0} (P : A → Type 0) → ((a : A) → P a) → (p : Parsed A) → Has P p
has_all P h fail = tt
has_all P h (got a xs) = h a

-- a part, and what follows it
module _ (o : ℕ) (S : Schema) (P : Planner) where
  abbrev pub value_state : Kind → Bool → State → Value → State
  value_state k inplace st v = emit_slots o st (value_slots P o S k inplace v end)

  flat-rest : (k : Flat) (v : Value) (st : State) (rest : Slots) → emit_slots o st (flat_slots S k v rest) ≡ emit_slots o (emit_slots o st (flat_slots S k v end)) rest
  unfolding emit_slots flat_slots
  flat-rest F.Boolean v st rest = refl
  flat-rest (F.Integer s w) v st rest = refl
  flat-rest (F.Float w) v st rest = refl
  flat-rest (F.Enumerated n) v st rest = refl
  flat-rest (F.Struct i) v st rest = refl

  refer-rest : (inplace : Bool) (ob : Object) (v : Value) (st : State) (rest : Slots)
      → emit_slots o st (refer_slots P o S inplace ob v rest) ≡ emit_slots o (emit_slots o st (refer_slots P o S inplace ob v end)) rest
  unfolding emit_slots refer_slots
  refer-rest true ob v st rest = refl
  refer-rest false ob v st rest = refl

  value-rest : (k : Kind) (inplace : Bool) (v : Value) (st : State) (rest : Slots)
      → emit_slots o st (value_slots P o S k inplace v rest) ≡ emit_slots o (value_state k inplace st v) rest
  unfolding emit_slots value_slots
  value-rest (OfFlat k) inplace v st rest = flat-rest k v st rest
  value-rest (OfObject ob) inplace v st rest = by (present v)
    where
      by : (t : Bool) → emit_slots o st (pick t (refer_slots P o S inplace ob v rest) (bytes (zeros o) rest))
          ≡ emit_slots o (emit_slots o st (pick t (refer_slots P o S inplace ob v end) (bytes (zeros o) end))) rest
      by true = refer-rest inplace ob v st rest
      by false = refl
  value-rest (OfUnion i) inplace v st rest = by (present v) (case_of (cases_of S i) (as_number v))
    where
      by : (t : Bool) (ob : Object)
          → emit_slots o st (pick t (bytes (le_bytes 2 (as_number v)) (refer_slots P o S inplace ob (as_object v) rest)) (bytes (zeros (2 + o)) rest))
          ≡ emit_slots o (emit_slots o st (pick t (bytes (le_bytes 2 (as_number v)) (refer_slots P o S inplace ob (as_object v) end)) (bytes (zeros (2 + o)) end))) rest
      by true ob = refer-rest inplace ob (as_object v) (put_bytes (le_bytes 2 (as_number v)) st) rest
      by false ob = refl

  -- with its flag
  abbrev pub member_state : Member → State → Value → State
  member_state r st v = value_state r.kind r.inplace (pick (present v) (flagged r 1 st) (flagged r 0 st)) v

  member-rest : (r : Member) (v : Value) (st : State) (rest : Slots) → emit_slots o (member_state r st v) rest ≡ emit_slots o st (member_slots P o S r v rest)
  unfolding member_slots flagged flag_of emit_slots
  member-rest r v st rest = by (has_flag r) (present v)
    where
      value : Slots
      value = value_slots P o S r.kind r.inplace v rest

      by : (t u : Bool)
          → emit_slots o (value_state r.kind r.inplace (pick u (pick t (put_bit 1 st) st) (pick t (put_bit 0 st) st)) v) rest
          ≡ emit_slots o st (pick t (bit (pick u 1 0) value) value)
      by true true = sym (value-rest r.kind r.inplace v (put_bit 1 st) rest)
      by true false = sym (value-rest r.kind r.inplace v (put_bit 0 st) rest)
      by false true = sym (value-rest r.kind r.inplace v st rest)
      by false false = sym (value-rest r.kind r.inplace v st rest)

module _ (o : ℕ) (S : Schema) (sound : Sound S) (child : Emitter) (measure : Surveyor) (decoder : Decoder) (P : Planner) (test : Test)
    (measured : (ob : Object) (xs : List ℕ) → ObjectSurveyed o S sound measure decoder P test ob xs)
    (inner : (ob : Object) (st : State) (xs : List ℕ) → child ob st xs ≡ mapped (λ v. emit_slots o st (P ob v)) (decoder ob xs)) where
  -- ---- an object, by offset or in place
  pub refer_emitted : (inplace : Bool) (ob : Object) (st : State) (xs : List ℕ)
      → emit_refer child measure o S inplace ob st xs ≡ mapped (λ v. emit_slots o st (refer_slots P o S inplace ob v end)) (decoder ob xs)
  unfolding emit_refer emit_content_at emit_object open_object put_number refer_slots object_slots emit_slots bind width chain pack_bits
  refer_emitted inplace ob st xs = by (decoder ob xs) (measured ob xs).is (λ st'. inner ob st' xs)
    where
      wide : (v : Value) → head_size o + width o (pack_bits 0 (P ob v)) ≡ width o (pack_bits 0 (object_slots P o S ob v))
      wide v =
          unfold object_slots pack_bits width head_size in
          omega (arith, length-le_bytes 4 (magic S ob), length-le_bytes o (length_of o S ob v))

      at : (v : Value) (ys : List ℕ) → ((st' : State) → child ob st' xs ≡ got (emit_slots o st' (P ob v)) ys) → (t : Bool)
          → pick t (emit_content_at child o ob (object_extent o S sound measure decoder P test ob v) st xs) (emit_object child o S ob (object_extent o S sound measure decoder P test ob v) st xs)
          ≡ got (emit_slots o st (pick t (bytes (le_bytes o (length_of o S ob v)) (in_place (P ob v) end)) (reference (object_slots P o S ob v) end))) ys
      at v ys c true =
          let st1 = put_bytes (le_bytes o (length_of o S ob v)) st in
          ap (λ p. bind p (λ deep zs. got (leave_content st1 deep) zs)) (c (enter_content (width o (pack_bits 0 (P ob v))) st1))
      at v ys c false =
          let st1 = put_bytes (le_bytes o st.next) st in
          let opens : ℕ → State = λ n. put_bytes (le_bytes o (length_of o S ob v)) (put_bytes (le_bytes 4 (magic S ob)) (enter_object n (capped (chain o (pack_bits 0 (P ob v)))) st1)) in
          ap (λ p. bind p (λ deep zs. got (leave_object st1 deep) zs)) (c (opens (head_size o + width o (pack_bits 0 (P ob v)))))
          ∙ ap (λ (n : ℕ). got (leave_object st1 (emit_slots o (opens n) (P ob v))) ys) (wide v)

      by : (p : Parsed Value) → measure ob xs ≡ mapped (object_extent o S sound measure decoder P test ob) p
          → ((st' : State) → child ob st' xs ≡ mapped (λ v. emit_slots o st' (P ob v)) p)
          → bind (measure ob xs) (λ x ys. pick inplace (emit_content_at child o ob x st xs) (emit_object child o S ob x st xs))
          ≡ mapped (λ v. emit_slots o st (pick inplace (bytes (le_bytes o (length_of o S ob v)) (in_place (P ob v) end)) (reference (object_slots P o S ob v) end))) p
      by fail m c = ap (λ q. bind q (λ x ys. pick inplace (emit_content_at child o ob x st xs) (emit_object child o S ob x st xs))) m
      by (got v ys) m c =
          ap (λ q. bind q (λ x zs. pick inplace (emit_content_at child o ob x st xs) (emit_object child o S ob x st xs))) m ∙ at v ys c inplace

  -- ---- what is there
  choice_emitted : (inplace : Bool) (i : ℕ) (st : State) (xs : List ℕ)
      → emit_choice child measure o S inplace (cases_of S i) st xs ≡ mapped (value_state o S P (OfUnion i) inplace st) (take_choice decoder (cases_of S i) xs)
  unfolding emit_choice take_choice bind value_slots present as_number as_object emit_slots put_number
  choice_emitted inplace i st xs =
      bind-mapped (value_state o S P (OfUnion i) inplace st) (take_number 16 xs) _ _ (λ c ys. by c ys (leb 1 c && leb c (length (cases_of S i))))
    where
      close : (c : ℕ) (p : Parsed Value)
          → mapped (λ v. value_state o S P (OfUnion i) inplace st (chosen c v)) p ≡ mapped (value_state o S P (OfUnion i) inplace st) (bind p (λ v zs. got (chosen c v) zs))
      close c fail = refl
      close c (got v zs) = refl

      by : (c : ℕ) (ys : List ℕ) (t : Bool)
          → pick t (emit_refer child measure o S inplace (case_of (cases_of S i) c) (put_bytes (le_bytes 2 c) st) ys) fail
          ≡ mapped (value_state o S P (OfUnion i) inplace st) (pick t (bind (decoder (case_of (cases_of S i) c) ys) (λ v zs. got (chosen c v) zs)) fail)
      by c ys true =
          refer_emitted inplace (case_of (cases_of S i) c) (put_bytes (le_bytes 2 c) st) ys ∙ close c (decoder (case_of (cases_of S i) c) ys)
      by c ys false = refl

  body_emitted : (k : Kind) (inplace : Bool) (st : State) (xs : List ℕ)
      → emit_body child measure o S k inplace st xs ≡ mapped (value_state o S P k inplace st) (take_body decoder S k xs)
  unfolding emit_body take_body value_slots
  body_emitted (OfFlat k) inplace st xs = flat_emitted S sound o k st xs
  body_emitted (OfObject ob) inplace st xs =
      refer_emitted inplace ob st xs ∙ mapped-same _ _ (decoder ob xs) (all (decoder ob xs) (measured ob xs).there)
    where
      all : (p : Parsed Value) → Has Present p
          → Has (λ v. emit_slots o st (refer_slots P o S inplace ob v end) ≡ emit_slots o st (pick (present v) (refer_slots P o S inplace ob v end) (bytes (zeros o) end))) p
      all fail h = tt
      all (got v ys) h = rw h
  body_emitted (OfUnion i) inplace st xs = choice_emitted inplace i st xs

  body_there : (k : Kind) (xs : List ℕ) → Has Present (take_body decoder S k xs)
  unfolding take_body take_choice present
  body_there (OfFlat k) xs = flat_there S sound k xs
  body_there (OfObject ob) xs = (measured ob xs).there
  body_there (OfUnion i) xs = bind_has Present (take_number 16 xs) _ (λ c ys. by c ys (leb 1 c && leb c (length (cases_of S i))))
    where
      by : (c : ℕ) (ys : List ℕ) (t : Bool) → Has Present (pick t (bind (decoder (case_of (cases_of S i) c) ys) (λ v zs. got (chosen c v) zs)) fail)
      by c ys true = bind_has Present (decoder (case_of (cases_of S i) c) ys) _ (λ v zs. refl)
      by c ys false = tt

  -- ---- with its mark
  unknown-flat : (k : Flat) (inplace : Bool) (st0 st1 : State) (xs : List ℕ)
      → pass_flat k (lack_flat S k st0) xs ≡ mapped (λ v. value_state o S P (OfFlat k) inplace (pick (present v) st1 st0) v) (take_unknown_flat k xs)
  unfolding pass_flat lack_flat take_unknown_flat take_unknown_enum value_slots flat_slots emit_slots put_byte number_or present
  unknown-flat F.Boolean inplace st0 st1 xs = refl
  unknown-flat (F.Integer s w) inplace st0 st1 xs = refl
  unknown-flat (F.Float w) inplace st0 st1 xs = refl
  unknown-flat (F.Enumerated n) inplace st0 st1 xs = if_emitted _ 8 (unknown_enum n) unknown put_nothing (put_byte 255 st0) (λ x. refl) xs
  unknown-flat (F.Struct i) inplace st0 st1 xs = refl

  unknown_emitted : (k : Kind) (inplace : Bool) (st0 st1 : State) (xs : List ℕ)
      → pass S k (lack o S k st0) xs ≡ mapped (λ v. value_state o S P k inplace (pick (present v) st1 st0) v) (take_unknown S k xs)
  unfolding pass lack take_unknown
  unknown_emitted (OfFlat k) inplace st0 st1 xs = unknown-flat k inplace st0 st1 xs
  unknown_emitted (OfObject ob) inplace st0 st1 xs = refl
  unknown_emitted (OfUnion i) inplace st0 st1 xs =
      if_emitted (λ v. value_state o S P (OfUnion i) inplace (pick (present v) st1 st0) v) 16 (above_count (length (cases_of S i))) unknown put_nothing (put_bytes (zeros (2 + o)) st0) (λ x. one x) xs
    where
      one : (x : ℕ) → put_bytes (zeros (2 + o)) st0 ≡ value_state o S P (OfUnion i) inplace (pick (present (unknown x)) st1 st0) (unknown x)
      one x = unfold value_slots emit_slots present in refl

  none_emitted : (k : Kind) (inplace : Bool) (st0 st1 : State) → lack o S k st0 ≡ value_state o S P k inplace (pick (present absent) st1 st0) absent
  unfolding lack value_slots emit_slots present
  none_emitted (OfFlat k) inplace st0 st1 = lack_emitted S sound o k st0
  none_emitted (OfObject ob) inplace st0 st1 = refl
  none_emitted (OfUnion i) inplace st0 st1 = refl

  part_emitted : (k : Kind) (inplace : Bool) (st0 st1 : State) (xs : List ℕ)
      → emit_part child measure o S k inplace st0 st1 xs ≡ mapped (λ v. value_state o S P k inplace (pick (present v) st1 st0) v) (take_part decoder S k xs)
  unfolding emit_part take_part
  part_emitted k inplace st0 st1 xs =
      mark-mapped (λ v. value_state o S P k inplace (pick (present v) st1 st0) v) (lack o S k st0) (pass S k (lack o S k st0)) (emit_body child measure o S k inplace st1)
      (take_unknown S k) (take_body decoder S k) (none_emitted k inplace st0 st1) (λ ys. unknown_emitted k inplace st0 st1 ys)
      (λ ys. body_emitted k inplace st1 ys ∙ mapped-same _ _ (take_body decoder S k ys) (all (take_body decoder S k ys) (body_there k ys))) xs
    where
      all : (p : Parsed Value) → Has Present p → Has (λ v. value_state o S P k inplace st1 v ≡ value_state o S P k inplace (pick (present v) st1 st0) v) p
      all fail h = tt
      all (got v ys) h = ap (λ (t : Bool). value_state o S P k inplace (pick t st1 st0) v) (sym h)

  element_emitted : (k : Kind) (st : State) (xs : List ℕ) → emit_element child measure o S k st xs ≡ mapped (value_state o S P k false st) (take_element decoder S k xs)
  unfolding emit_element take_element
  element_emitted k st xs = by (unmarked k)
    where
      same : (t : Bool) (v : Value) → value_state o S P k false (pick t st st) v ≡ value_state o S P k false st v
      same true v = refl
      same false v = refl

      by : (t : Bool) → pick t (emit_body child measure o S k false st xs) (emit_part child measure o S k false st st xs)
          ≡ mapped (value_state o S P k false st) (pick t (take_body decoder S k xs) (take_part decoder S k xs))
      by true = body_emitted k false st xs
      by false = part_emitted k false st st xs ∙ mapped-same _ _ (take_part decoder S k xs) (has_all _ (λ v. same (present v) v) (take_part decoder S k xs))

  -- ---- members and elements
  members_emitted : (rs : List Member) (st : State) (xs : List ℕ)
      → emit_members child measure o S rs st xs ≡ mapped (λ vs. emit_slots o st (members_slots P o S rs vs)) (take_members decoder S rs xs)
  unfolding emit_members take_members members_slots first others
  members_emitted [] st xs = unfold emit_slots in refl
  members_emitted (r ∷ rs) st xs =
      ap (λ p. bind p (λ next ys. emit_members child measure o S rs next ys)) (part_emitted r.kind r.inplace (flagged r 0 st) (flagged r 1 st) xs)
      ∙ seq (take_part decoder S r.kind xs) (member_state o S P r st) (take_members decoder S rs) (λ next ys. emit_members child measure o S rs next ys)
      (λ vs. emit_slots o st (members_slots P o S (r ∷ rs) vs))
      (λ v ys. members_emitted rs (member_state o S P r st v) ys
      ∙ mapped-same _ _ (take_members decoder S rs ys) (has_all _ (λ vs. member-rest o S P r v st (members_slots P o S rs vs)) (take_members decoder S rs ys)))

  elements_emitted : (k : Kind) (n : ℕ) (st : State) (xs : List ℕ)
      → emit_elements child measure o S k n st xs ≡ mapped (λ vs. emit_slots o st (elements_slots P o S k vs)) (take_elements decoder S k n xs)
  unfolding emit_elements take_elements elements_slots
  elements_emitted k zero st xs = unfold emit_slots in refl
  elements_emitted k (suc n) st xs =
      ap (λ p. bind p (λ next ys. emit_elements child measure o S k n next ys)) (element_emitted k st xs)
      ∙ seq (take_element decoder S k xs) (value_state o S P k false st) (take_elements decoder S k n) (λ next ys. emit_elements child measure o S k n next ys)
      (λ vs. emit_slots o st (elements_slots P o S k vs))
      (λ v ys. elements_emitted k n (value_state o S P k false st v) ys
      ∙ mapped-same _ _ (take_elements decoder S k n ys)
      (has_all _ (λ vs. sym (value-rest o S P k false v st (elements_slots P o S k vs))) (take_elements decoder S k n ys)))

  -- ---- the elements of a direct list
  direct_emitted : (t : ℕ) (st : State) (xs : List ℕ)
      → emit_direct child t st xs ≡ mapped (λ v. leave_part st (emit_slots o (enter_part st) (P (O.Table t) v))) (decoder (O.Table t) xs)
  unfolding emit_direct
  direct_emitted t st xs =
      ap (λ p. bind p (λ deep ys. got (leave_part st deep) ys)) (inner (O.Table t) (enter_part st) xs)
      ∙ mapped_got (λ v. emit_slots o (enter_part st) (P (O.Table t) v)) (leave_part st) (λ v. leave_part st (emit_slots o (enter_part st) (P (O.Table t) v)))
      (decoder (O.Table t) xs) (has_all _ (λ v. refl) (decoder (O.Table t) xs))

  directs_emitted : (t n : ℕ) (st : State) (xs : List ℕ)
      → emit_directs child t n st xs ≡ mapped (λ vs. emit_slots o st (directs_slots P t vs)) (take_directs decoder t n xs)
  unfolding emit_directs take_directs directs_slots emit_slots
  directs_emitted t zero st xs = refl
  directs_emitted t (suc n) st xs =
      ap (λ p. bind p (λ next ys. emit_directs child t n next ys)) (direct_emitted t st xs)
      ∙ seq (decoder (O.Table t) xs) (λ v. leave_part st (emit_slots o (enter_part st) (P (O.Table t) v))) (take_directs decoder t n) (λ next ys. emit_directs child t n next ys)
      (λ vs. emit_slots o st (directs_slots P t vs))
      (λ v ys. directs_emitted t n (leave_part st (emit_slots o (enter_part st) (P (O.Table t) v))) ys)

  -- ---- contents
  blob_emitted : (f : Value → State) (more : List ℕ) (st : State) → ((l : List ℕ) → put_bytes more (put_bytes l st) ≡ f (blob l)) → (xs : List ℕ)
      → emit_blob more st xs ≡ mapped f (take_blob xs)
  unfolding emit_blob take_blob
  blob_emitted f more st h xs =
      bind-mapped f (take_number 32 xs) _ _ (λ n ys. bind-mapped f (take_bytes n ys) _ _ (λ l zs. ap (λ t. got t zs) (h l)))

  pub content_emitted : (ob : Object) (st : State) (xs : List ℕ)
      → emit_content child measure o S ob st xs ≡ mapped (λ v. emit_slots o st (content_slots P o S ob v)) (take_content decoder S ob xs)
  unfolding emit_content take_content content_slots as_blob as_row emit_slots
  content_emitted O.Text st xs = blob_emitted _ (0 ∷ []) st (λ l. refl) xs
  content_emitted O.Bytes st xs = blob_emitted _ [] st (λ l. put_none (put_bytes l st)) xs
  content_emitted (O.List i) st xs =
      bind-mapped _ (take_number 32 xs) _ _ (λ n ys. elements_emitted (element_of S i) n st ys ∙ close (take_elements decoder S (element_of S i) n ys))
    where
      close : (p : Parsed Values)
          → mapped (λ vs. emit_slots o st (elements_slots P o S (element_of S i) vs)) p
          ≡ mapped (λ v. emit_slots o st (elements_slots P o S (element_of S i) (as_row v))) (bind p (λ vs zs. got (row vs) zs))
      close fail = unfold bind in refl
      close (got vs zs) = unfold bind as_row in refl
  content_emitted (O.Table i) st xs = members_emitted (table_of S i).members st xs ∙ close (take_members decoder S (table_of S i).members xs)
    where
      close : (p : Parsed Values)
          → mapped (λ vs. emit_slots o st (members_slots P o S (table_of S i).members vs)) p
          ≡ mapped (λ v. emit_slots o st (members_slots P o S (table_of S i).members (as_row v))) (bind p (λ vs ys. got (row vs) ys))
      close fail = unfold bind in refl
      close (got vs ys) = unfold bind as_row in refl
  content_emitted (O.DirectList t) st xs =
      bind-mapped _ (take_number 32 xs) _ _ (λ n ys. directs_emitted t n (direct_head o S t st) ys ∙ close (take_directs decoder t n ys))
    where
      one : (vs : Values) → emit_slots o (direct_head o S t st) (directs_slots P t vs) ≡ emit_slots o st (direct_slots P o S t vs)
      one vs = unfold direct_head direct_slots emit_slots put_number in refl

      close : (p : Parsed Values)
          → mapped (λ vs. emit_slots o (direct_head o S t st) (directs_slots P t vs)) p
          ≡ mapped (λ v. emit_slots o st (direct_slots P o S t (as_row v))) (bind p (λ vs zs. got (row vs) zs))
      close fail = unfold bind in refl
      close (got vs zs) = unfold bind as_row in ap (λ st'. got st' zs) (one vs)
