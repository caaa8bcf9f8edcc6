-- The ways out of the pass over what leads to no object: numbers, enums, runs of bytes, and what stands for no value.
use mathlib.Core.Path.{◌≡◌, refl, sym, ap, ◌∙◌, subst}
use mathlib.Core.Bool.{Bool, true, false, false≢true}
use mathlib.Core.List.{List, [], ◌∷◌}
use Rattle.std.specs.Prelude.{Option, Some, None}
use Prim.Native.Nat.{ℕ, zero, suc, ◌+◌, ◌*◌, ◌^◌, ◌<◌, ◌≤◌}
use native.Mathlib.Omega.{arith}
use lib.ListN.{length, take, drop, length-drop}
use lib.Seq.{sets}
use lib.Dec.{leb, eqb}
use borrow.Author.Tests.{eq-eqb, ne_eqb, lt-ltb, le-ltb, leb-true}
use Rattle.coding.specs.Lists.{pick}
use Rattle.coding.specs.Bytes.{le_bytes, no_float}
use Rattle.coding.specs.Bits.{bits, value, pack}
use Rattle.coding.specs.Schema as Sc
use Rattle.coding.specs.Schema.{Schema}
use Rattle.coding.specs.Structs.{struct_size}
use Rattle.coding.specs.Message.{zeros}
use Rattle.coding.specs.Sheet.{Parsed, fail, got, bind, take_number, take_bytes, unknown_enum, flat_unmarked}
use Rattle.coding.specs.declared.Flat.{Flat}
use Rattle.coding.specs.declared.Flat.TheVariants.{Boolean, Integer, Float, Enumerated, Struct}
use Rattle.coding.specs.declared.Object.{Object}
use Rattle.coding.specs.declared.Kind.{Kind}
use Rattle.coding.specs.declared.Kind.TheVariants.{OfFlat, OfObject, OfUnion}
use Rattle.laws.specs.Lists.{never}
use Rattle.laws.specs.Bits.{bits-length, pack-length}
use Rattle.laws.specs.Sound.{FlatSound, FlatScalar}
use Rattle.bitio.specs.Taken.{NumberAt, BytesAt}
use Rattle.bitio.specs.declared.Number.{Number}
use Rattle.write_measure.proofs.FlatCases.{float_short}
use Rattle.write_measure.proofs.MarkCases.{mark_fails, marked_is}
use Rattle.write_measure.specs.Marks.{mark_of, MarkedAt, by_mark}
use Rattle.write_measure.specs.declared.Mark.{Mark}
use Rattle.write_measure.specs.declared.Mark.TheVariants as Mark
use Rattle.write_measure.specs.declared.Marked.{Marked}
use Rattle.write_measure.specs.Survey.{below_count, above_count, survey_mark}
use Rattle.write_store.specs.State.{State, put_bytes, put_bit, put_byte, put_number}
use Rattle.write_pass.specs.EmitFlats.{put_none}
use Rattle.write_pass.specs.EmitSheet.{put_nothing, emit_number, emit_if, emit_blob, lack_flat, lack, pass_flat, pass, emit_flat}
use Rattle.write_store.specs.Storing.{state_of, HeldOk, Stood, BitPut, forward}
use Rattle.write_pass.specs.Emitting.{emit_marked_enum, Room, EmittedAt, Lacks, emit_marked_float, emit_marked_flat, CopiedAt}
use Rattle.write_store.specs.declared.Places.{Places}
use Rattle.write_pass.specs.declared.Copied.{Copied}
use Rattle.write_pass.specs.declared.Emitted.{Emitted}
use Rattle.write_store.proofs.PutCases.{copy_put}
use Rattle.write_pass.proofs.EmitRoom.{remains, whether, taken_at, marked_at, none_taken, some_taken, held_same, room_taken, room_stood, room_bit, room_marked, room-byte, room-part, room-below, refused, arrived, later, same, part_fails, part_goes}

-- ---- numbers
-- none is left
module _ (s : List ℕ) (from : Emitted) (w : ℕ) (h : take_number w (drop from.next (bits s)) ≡ fail) (r : Option Emitted) (er : r ≡ None) (st : State) (out : List ℕ) where
  pub number_cut : (put : ℕ → State → State) → EmittedAt s (emit_number w put st (drop from.next (bits s))) from 0 r out
  unfolding emit_number
  number_cut put = refused s _ from 0 (none_taken _ w _ h) r er out

  pub if-cut : (ok : ℕ → Bool) (put : ℕ → State → State) → EmittedAt s (emit_if w ok put st (drop from.next (bits s))) from 0 r out
  unfolding emit_if
  if-cut ok put = refused s _ from 0 (none_taken _ w _ h) r er out

module _ (s : List ℕ) (from : Emitted) (w : ℕ) (x : Number) (taken : NumberAt s from.next w x) where
  if_fails : (ok : ℕ → Bool) (put : ℕ → State → State) (st : State) (out : List ℕ) → ok x.value ≡ false
      → EmittedAt s (emit_if w ok put st (drop from.next (bits s))) from 0 None out
  unfolding emit_if
  if_fails ok put st out e =
      refused s _ from 0 (some_taken _ s from.next w x taken ∙ ap (λ u. pick u (got (put x.value st) (drop x.next (bits s))) fail) e) None refl out

  -- behind what was put
  module _ (room : Room s from) (q : Places) (out : List ℕ) (r : Room s (record { places = q; next = x.next })) (l : q.at ≤ from.places.at + 8192 * w)
      (y : Emitted) (ey : y ≡ record { places = q; next = x.next }) where
    reached : (d : Parsed State) → d ≡ got (state_of q out) (drop x.next (bits s)) → EmittedAt s d from 0 (Some y) out
    reached d e =
        let f = taken_at s from.next w x taken room.here in
        let g : q.at + 8192 * from.next ≤ from.places.at + 0 + 8192 * x.next = omega arith in
        arrived s d from 0 (record { places = q; next = x.next }) out e (record { here = r.here; at = g; bool = r.bool; tail = r.tail; next = r.next }) y ey

    number-reached : (put : ℕ → State → State) (st : State) → state_of q out ≡ put x.value st
        → EmittedAt s (emit_number w put st (drop from.next (bits s))) from 0 (Some y) out
    unfolding emit_number
    number-reached put st e = reached _ (some_taken _ s from.next w x taken ∙ ap (λ a. got a (drop x.next (bits s))) (sym e))

    if-reached : (ok : ℕ → Bool) (put : ℕ → State → State) (st : State) → ok x.value ≡ true → state_of q out ≡ put x.value st
        → EmittedAt s (emit_if w ok put st (drop from.next (bits s))) from 0 (Some y) out
    unfolding emit_if
    if-reached ok put st t e =
        reached _ (some_taken _ s from.next w x taken ∙ ap (λ u. pick u (got (put x.value st) (drop x.next (bits s))) fail) t
        ∙ ap (λ a. got a (drop x.next (bits s))) (sym e))

module _ (s : List ℕ) (from : Emitted) (room : Room s from) (x : Number) (q : Places) (o out : List ℕ) (y : Emitted)
    (ey : y ≡ record { places = q; next = x.next }) where
  pub number_there : (w : ℕ) → NumberAt s from.next (8 * w) x → Stood w (put_number w x.value (state_of from.places o)) (state_of q out) from.places q
      → EmittedAt s (emit_number (8 * w) (put_number w) (state_of from.places o) (drop from.next (bits s))) from 0 (Some y) out
  number_there w taken u =
      let a = u.at in
      number-reached s from (8 * w) x taken room q out (room_stood s from room (8 * w) x taken w (omega arith) _ _ q u _ refl) (omega arith) y ey
      (put_number w) (state_of from.places o) u.is

  pub bit_there : NumberAt s from.next 1 x → BitPut (put_bit x.value (state_of from.places o)) (state_of q out) from.places q
      → EmittedAt s (emit_number 1 put_bit (state_of from.places o) (drop from.next (bits s))) from 0 (Some y) out
  bit_there taken u =
      let a = u.at in
      number-reached s from 1 x taken room q out (room_bit s from room 1 x taken (omega arith) _ _ q u _ refl) (omega arith) y ey
      put_bit (state_of from.places o) u.is

  pub bool_there : NumberAt s from.next 1 x → Stood 1 (put_byte x.value (state_of from.places o)) (state_of q out) from.places q
      → EmittedAt s (emit_number 1 put_byte (state_of from.places o) (drop from.next (bits s))) from 0 (Some y) out
  bool_there taken u =
      let a = u.at in
      number-reached s from 1 x taken room q out (room_stood s from room 1 x taken 1 (omega arith) _ _ q u _ refl) (omega arith) y ey
      put_byte (state_of from.places o) u.is

  pub enum_there : (k m : ℕ) → NumberAt s from.next 8 x → m ≡ k → x.value < m → Stood 1 (put_byte x.value (state_of from.places o)) (state_of q out) from.places q
      → EmittedAt s (emit_if 8 (below_count k) put_byte (state_of from.places o) (drop from.next (bits s))) from 0 (Some y) out
  enum_there k m taken em l u =
      let a = u.at in
      if-reached s from 8 x taken room q out (room_stood s from room 8 x taken 1 (omega arith) _ _ q u _ refl) (omega arith) y ey
      (below_count k) put_byte (state_of from.places o) (lt-ltb x.value k (rw (← em) l)) u.is

-- the number is not stored
module _ (s : List ℕ) (from : Emitted) (x : Number) (o : List ℕ) where
  module _ (room : Room s from) (y : Emitted) (ey : y ≡ record { places = from.places; next = x.next }) where
    pub unknown_there : (k : ℕ) → NumberAt s from.next 8 x → (t : Bool) → t ≡ unknown_enum k x.value → t ≡ true
        → EmittedAt s (emit_if 8 (unknown_enum k) put_nothing (state_of from.places o) (drop from.next (bits s))) from 0 (Some y) o
    unknown_there k taken t et e =
        if-reached s from 8 x taken room from.places o (room_taken s from room 8 x taken _ refl) (omega arith) y ey
        (unknown_enum k) put_nothing (state_of from.places o) (sym et ∙ e) refl

    pub choice_there : (S : Schema) (u m : ℕ) → m ≡ length (Sc.cases_of S u) → NumberAt s from.next 16 x → m < x.value
        → EmittedAt s (emit_if 16 (above_count (length (Sc.cases_of S u))) put_nothing (state_of from.places o) (drop from.next (bits s))) from 0 (Some y) o
    choice_there S u m em taken l =
        if-reached s from 16 x taken room from.places o (room_taken s from room 16 x taken _ refl) (omega arith) y ey
        (above_count (length (Sc.cases_of S u))) put_nothing (state_of from.places o) (lt-ltb (length (Sc.cases_of S u)) x.value (rw (← em) l)) refl

  pub enum_fails : (k m : ℕ) (st : State) → NumberAt s from.next 8 x → m ≡ k → m ≤ x.value
      → EmittedAt s (emit_if 8 (below_count k) put_byte st (drop from.next (bits s))) from 0 None o
  enum_fails k m st taken em l = if_fails s from 8 x taken (below_count k) put_byte st o (le-ltb x.value k (rw (← em) l))

  pub unknown_fails : (k : ℕ) (st : State) → NumberAt s from.next 8 x → (t : Bool) → t ≡ unknown_enum k x.value → t ≡ false
      → EmittedAt s (emit_if 8 (unknown_enum k) put_nothing st (drop from.next (bits s))) from 0 None o
  unknown_fails k st taken t et e = if_fails s from 8 x taken (unknown_enum k) put_nothing st o (sym et ∙ e)

  pub choice_fails : (S : Schema) (u m : ℕ) (st : State) → m ≡ length (Sc.cases_of S u) → NumberAt s from.next 16 x → x.value ≤ m
      → EmittedAt s (emit_if 16 (above_count (length (Sc.cases_of S u))) put_nothing st (drop from.next (bits s))) from 0 None o
  choice_fails S u m st em taken l =
      if_fails s from 16 x taken (above_count (length (Sc.cases_of S u))) put_nothing st o (le-ltb (length (Sc.cases_of S u)) x.value (rw (← em) l))

-- ---- marks
-- `none`, `body` and `unknown` are what the definition goes on with at each
module _ (s : List ℕ) (from : Emitted) (none : State) (unknown body : List ℕ → Parsed State) where
  abbrev marked : Parsed State
  marked = survey_mark none unknown body (drop from.next (bits s))

  pub marks-cut : mark_of (drop from.next (bits s)) ≡ fail → (r : Option Emitted) → r ≡ None → (out : List ℕ) → EmittedAt s marked from 0 r out
  marks-cut h r er out = refused s _ from 0 (mark_fails none unknown body s from.next h) r er out

  module _ (m : Marked) (taken : MarkedAt s from.next m) where
    abbrev rest : List ℕ
    rest = drop m.next (bits s)

    chosen : (k : Mark) → m.mark ≡ k → marked ≡ by_mark k (got none rest) (unknown rest) (body rest)
    chosen k e = marked_is none unknown body s from.next m taken ∙ ap (λ (j : Mark). by_mark j (got none rest) (unknown rest) (body rest)) e

    pub marks-fail : m.mark ≡ Mark.Unknown → unknown rest ≡ fail → (out : List ℕ) → EmittedAt s marked from 0 None out
    marks-fail e h out = refused s _ from 0 (chosen Mark.Unknown e ∙ h) None refl out

    module _ (room : Room s from) where
      -- w bytes at most were put
      pub marks-none : m.mark ≡ Mark.Absent → (q : Places) (out : List ℕ) → state_of q out ≡ none → Room s (record { places = q; next = m.next })
          → q.at ≤ from.places.at + 16384 → (y : Emitted) → y ≡ record { places = q; next = m.next } → EmittedAt s marked from 0 (Some y) out
      marks-none e q out h r l y ey =
          let f = marked_at s from.next m taken room.here in
          let g : q.at + 8192 * from.next ≤ from.places.at + 0 + 8192 * m.next = omega arith in
          arrived s marked from 0 (record { places = q; next = m.next }) out (chosen Mark.Absent e ∙ ap (λ a. got a rest) (sym h))
          (record { here = r.here; at = g; bool = r.bool; tail = r.tail; next = r.next }) y ey

      -- from behind the mark on
      module _ (q : Places) (e₁ : ℕ) (l : q.at + e₁ ≤ from.places.at + 16384) (r : Option Emitted) (out : List ℕ) where
        behind_mark : (d : Parsed State) → marked ≡ d → EmittedAt s d (record { places = q; next = m.next }) e₁ r out → EmittedAt s marked from 0 r out
        behind_mark d h u =
            let f = marked_at s from.next m taken room.here in
            let k : q.at + e₁ + 8192 * from.next ≤ from.places.at + 0 + 8192 * m.next = omega arith in
            later s marked from 0 d h (record { places = q; next = m.next }) e₁ k r out u

        pub marks-there : m.mark ≡ Mark.Present → EmittedAt s (body rest) (record { places = q; next = m.next }) e₁ r out → EmittedAt s marked from 0 r out
        marks-there e u = behind_mark (body rest) (chosen Mark.Present e) u

        pub marks-unknown : m.mark ≡ Mark.Unknown → EmittedAt s (unknown rest) (record { places = q; next = m.next }) e₁ r out → EmittedAt s marked from 0 r out
        marks-unknown e u = behind_mark (unknown rest) (chosen Mark.Unknown e) u

-- ---- an enum's mark
module _ (s : List ℕ) (from : Emitted) (k : ℕ) (o : List ℕ) where
  abbrev enum_marked : Option Emitted → List ℕ → Type 0
  enum_marked r out = EmittedAt s (emit_marked_enum k (state_of from.places o) (drop from.next (bits s))) from 0 r out

  pub mark-cut : mark_of (drop from.next (bits s)) ≡ fail → (r : Option Emitted) → r ≡ None → (out : List ℕ) → enum_marked r out
  unfolding emit_marked_enum
  mark-cut h r er out = marks-cut s from _ _ _ h r er out

  module _ (m : Marked) (taken : MarkedAt s from.next m) (room : Room s from) where
    pub mark_none : m.mark ≡ Mark.Absent → (q : Places) (out : List ℕ) → Stood 1 (put_byte 255 (state_of from.places o)) (state_of q out) from.places q
        → (y : Emitted) → y ≡ record { places = q; next = m.next } → enum_marked (Some y) out
    unfolding emit_marked_enum
    mark_none e q out u y ey =
        let a = u.at in
        marks-none s from _ _ _ m taken room e q out u.is (room-byte s from room m taken _ _ q u _ refl) (omega arith) y ey

    pub mark-known : m.mark ≡ Mark.Present → (g : Emitted) → g ≡ record { places = from.places; next = m.next } → (r : Option Emitted) (out : List ℕ)
        → EmittedAt s (emit_if 8 (below_count k) put_byte (state_of g.places o) (drop g.next (bits s))) g 0 r out → enum_marked r out
    unfolding emit_marked_enum
    mark-known e g eg r out u =
        marks-there s from _ _ _ m taken room from.places 0 (omega arith) r out e
        (subst (λ (z : Emitted). EmittedAt s (emit_if 8 (below_count k) put_byte (state_of z.places o) (drop z.next (bits s))) z 0 r out) eg u)

    pub mark-unknown : m.mark ≡ Mark.Unknown → (q : Places) (o₁ : List ℕ) → Stood 1 (put_byte 255 (state_of from.places o)) (state_of q o₁) from.places q
        → (g : Emitted) → g ≡ record { places = q; next = m.next } → (r : Option Emitted) (out : List ℕ)
        → EmittedAt s (emit_if 8 (unknown_enum k) put_nothing (state_of g.places o₁) (drop g.next (bits s))) g 0 r out → enum_marked r out
    unfolding emit_marked_enum
    mark-unknown e q o₁ v g eg r out u =
        let a = v.at in
        marks-unknown s from _ _ _ m taken room q 0 (omega arith) r out e
        (subst (λ (z : State). EmittedAt s (emit_if 8 (unknown_enum k) put_nothing z (drop m.next (bits s))) (record { places = q; next = m.next }) 0 r out) v.is
        (subst (λ (z : Emitted). EmittedAt s (emit_if 8 (unknown_enum k) put_nothing (state_of z.places o₁) (drop z.next (bits s))) z 0 r out) eg u))

-- ---- a float's mark
module _ (s : List ℕ) (from : Emitted) (k : ℕ) (o : List ℕ) where
  abbrev float_marked : Option Emitted → List ℕ → Type 0
  float_marked r out = EmittedAt s (emit_marked_float k (state_of from.places o) (drop from.next (bits s))) from 0 r out

  pub float_cut : mark_of (drop from.next (bits s)) ≡ fail → (r : Option Emitted) → r ≡ None → (out : List ℕ) → float_marked r out
  unfolding emit_marked_float
  float_cut h r er out = marks-cut s from _ _ _ h r er out

  module _ (m : Marked) (taken : MarkedAt s from.next m) where
    pub float_none : Room s from → m.mark ≡ Mark.Absent → k ≤ 8 → (j v : ℕ) → j ≡ k → v ≡ no_float k → (q : Places) (out : List ℕ)
        → Stood j (put_number j v (state_of from.places o)) (state_of q out) from.places q
        → (y : Emitted) → y ≡ record { places = q; next = m.next } → float_marked (Some y) out
    unfolding emit_marked_float
    float_none room e l j v ej ev q out u y ey =
        let a = u.at in
        marks-none s from _ _ _ m taken room e q out
        (u.is ∙ ap (λ (i : ℕ). put_number i v (state_of from.places o)) ej ∙ ap (λ (z : ℕ). put_number k z (state_of from.places o)) ev)
        (room_marked s from room m taken _ _ q j (omega arith) u _ refl) (omega arith) y ey

    pub float_there : Room s from → m.mark ≡ Mark.Present → (j : ℕ) → j ≡ k → (g : Emitted) → g ≡ record { places = from.places; next = m.next } → (r : Option Emitted) (out : List ℕ)
        → EmittedAt s (emit_number (8 * j) (put_number j) (state_of g.places o) (drop g.next (bits s))) g 0 r out → float_marked r out
    unfolding emit_marked_float
    float_there room e j ej g eg r out u =
        marks-there s from _ _ _ m taken room from.places 0 (omega arith) r out e
        (subst (λ (i : ℕ). EmittedAt s (emit_number (8 * i) (put_number i) (state_of from.places o) (drop m.next (bits s))) (record { places = from.places; next = m.next }) 0 r out) ej
        (subst (λ (z : Emitted). EmittedAt s (emit_number (8 * j) (put_number j) (state_of z.places o) (drop z.next (bits s))) z 0 r out) eg u))

    pub float_bad : m.mark ≡ Mark.Unknown → (out : List ℕ) → float_marked None out
    unfolding emit_marked_float
    float_bad e out = marks-fail s from _ _ _ m taken e refl out

-- ---- elements that lead to no object
module _ (S : Schema) (s : List ℕ) (f : Flat) (st : State) (from : Emitted) (r : Option Emitted) (out : List ℕ) where
  pub marked_float : (w : ℕ) → f ≡ Float w → EmittedAt s (emit_marked_float w st (drop from.next (bits s))) from 0 r out
      → EmittedAt s (emit_marked_flat S f st (drop from.next (bits s))) from 0 r out
  unfolding emit_marked_float emit_marked_flat survey_mark lack_flat pass_flat emit_flat
  marked_float w e u = rw e u

  pub marked-enum : (m : ℕ) → f ≡ Enumerated m → EmittedAt s (emit_marked_enum m st (drop from.next (bits s))) from 0 r out
      → EmittedAt s (emit_marked_flat S f st (drop from.next (bits s))) from 0 r out
  unfolding emit_marked_enum emit_marked_flat survey_mark lack_flat pass_flat emit_flat
  marked-enum m e u = rw e u

  -- no other has a mark
  pub marked_none : FlatScalar f → flat_unmarked f ≡ false → ((w : ℕ) → f ≡ Float w → ⊥) → ((m : ℕ) → f ≡ Enumerated m → ⊥)
      → EmittedAt s (emit_marked_flat S f st (drop from.next (bits s))) from 0 r out
  unfolding flat_unmarked
  marked_none sound h no_float no-enum = absurd (by f sound h no_float no-enum)
    where
      by : (g : Flat) → FlatScalar g → flat_unmarked g ≡ false → ((w : ℕ) → g ≡ Float w → ⊥) → ((m : ℕ) → g ≡ Enumerated m → ⊥) → ⊥
      by Boolean a e u v = never (sym e)
      by (Integer g w) a e u v = never (sym e)
      by (Float w) a e u v = u w refl
      by (Enumerated m) a e u v = v m refl
      by (Struct i) a e u v = a

-- ---- runs of bytes
bytes-at : (s : List ℕ) (pos n next : ℕ) → BytesAt s pos n next → pos ≤ 8 * length s → next ≡ pos + 8 * n
unfolding take_bytes
bytes-at s pos n next t l = by (leb (8 * n) (length (drop pos (bits s)))) refl t.bytes
  where
    by : (u : Bool) → leb (8 * n) (length (drop pos (bits s))) ≡ u
        → pick u (got (pack n (drop pos (bits s))) (drop (8 * n) (drop pos (bits s)))) fail ≡ got (pack n (drop pos (bits s))) (drop next (bits s)) → next ≡ pos + 8 * n
    by false e f = absurd (false≢true (ap whether f))
    by true e f =
        let m : 8 * n ≤ length (drop pos (bits s)) = leb-true (8 * n) (length (drop pos (bits s))) e in
        let k : length (drop (8 * n) (drop pos (bits s))) ≡ length (drop next (bits s)) = ap (λ (p : Parsed (List ℕ)). length (remains p)) f in
        let i = t.inside in
        let a = length-drop (8 * n) (drop pos (bits s)) in
        let b = length-drop pos (bits s) in
        let c = length-drop next (bits s) in
        let z = bits-length s in
        omega arith

pub bytes_in : (s : List ℕ) (pos n next : ℕ) → BytesAt s pos n next → pos ≤ 8 * length s → pos + 8 * n ≤ 8 * length s
bytes_in s pos n next t l = let e = bytes-at s pos n next t l in let i = t.inside in omega arith

-- behind a number
pub bytes_behind : (s : List ℕ) (pos : ℕ) (x : Number) → NumberAt s pos 32 x → (next : ℕ) → BytesAt s x.next x.value next → x.next + 8 * x.value ≤ 8 * length s
bytes_behind s pos x taken next t = bytes_in s x.next x.value next t taken.inside

-- stored, whatever places are there
module _ (s : List ℕ) (pos to : ℕ) (o : List ℕ) where
  abbrev blob_after : Emitted → Parsed State
  blob_after from = emit_blob [] (state_of from.places o) (drop pos (bits s))

  pub copied-cut : take_number 32 (drop pos (bits s)) ≡ fail → (r : Option Copied) → r ≡ None → CopiedAt s o pos to r o
  unfolding emit_blob
  copied-cut h r er = rw er (record { is = λ from room ep et. refused s (blob_after from) from 0 (none_taken _ 32 _ h) None refl o; small = tt })

  module _ (x : Number) (taken : NumberAt s pos 32 x) where
    pub copied_short : take_bytes x.value (drop x.next (bits s)) ≡ fail → (r : Option Copied) → r ≡ None → CopiedAt s o pos to r o
    unfolding emit_blob bind
    copied_short h r er =
        rw er (record {
          is = λ from room ep et. refused s (blob_after from) from 0
              (some_taken _ s pos 32 x taken ∙ ap (λ d. bind d (λ l zs. got (put_bytes [] (put_bytes l (state_of from.places o))) zs)) h) None refl o;
          small = tt;
        })

    pub copied_there : (next : ℕ) → BytesAt s x.next x.value next → (out : List ℕ) → out ≡ sets o to (pack x.value (drop x.next (bits s)))
        → CopiedAt s o pos to (Some (record { length = x.value; next = next })) out
    unfolding emit_blob bind
    copied_there next bs out f =
        record {
          is = λ from room ep et.
              (let c = from.places in
              let q = forward x.value c in
              let u = copy_put c q o out x.value (drop x.next (bits s)) (f ∙ ap (λ (k : ℕ). sets o k (pack x.value (drop x.next (bits s)))) (sym et)) refl in
              let i = taken.inside in
              let h = room.here in
              let g = taken_at s pos 32 x taken (omega arith) in
              let e = bytes-at s x.next x.value next bs i in
              let a = u.at in
              let l : q.at + 8192 * from.next ≤ c.at + 0 + 8192 * next = omega arith in
              arrived s (blob_after from) from 0 (record { places = q; next = next }) out
              (some_taken _ s pos 32 x taken ∙ ap (λ d. bind d (λ l zs. got (put_bytes [] (put_bytes l (state_of c o))) zs)) bs.bytes
              ∙ ap (λ a. got a (drop next (bits s))) (put_none (put_bytes (pack x.value (drop x.next (bits s))) (state_of c o)) ∙ sym u.is))
              (record { here = bs.inside; at = l; bool = held_same c q room.bool u.free u.held; tail = rw u.tail room.tail; next = rw u.next room.next }) _ refl);
          small = taken.small;
        }

-- a text is bytes and one more
abbrev stands : Parsed State → State → State
stands fail st = st
stands (got a xs) st = a

blob_paid : (st st' : State) (xs zs : List ℕ) → emit_blob [] st xs ≡ got st' zs → (8 * st'.at + length zs + 32 ≡ 8 * st.at + length xs)
unfolding emit_blob take_number take_bytes bind put_bytes
blob_paid st st' xs zs = by (leb 32 (length xs)) refl
  where
    go : (n : ℕ) (ys : List ℕ) (u : Bool) → leb (8 * n) (length ys) ≡ u
        → bind (pick u (got (pack n ys) (drop (8 * n) ys)) fail) (λ l zs. got (put_bytes [] (put_bytes l st)) zs) ≡ got st' zs → 8 * st'.at + length zs ≡ 8 * st.at + length ys
    go n ys false e f = absurd (false≢true (ap whether f))
    go n ys true e f =
        let m = leb-true (8 * n) (length ys) e in
        let a : st.at + length (pack n ys) + 0 ≡ st'.at = ap (λ (d : Parsed State). (stands d st).at) f in
        let z : length (drop (8 * n) ys) ≡ length zs = ap (λ (d : Parsed State). length (remains d)) f in
        let q = length-drop (8 * n) ys in
        let y = pack-length n ys in
        omega arith

    by : (u : Bool) → leb 32 (length xs) ≡ u
        → bind (pick u (got (value (take 32 xs)) (drop 32 xs)) fail)
        (λ n ys. bind (pick (leb (8 * n) (length ys)) (got (pack n ys) (drop (8 * n) ys)) fail) (λ l zs. got (put_bytes [] (put_bytes l st)) zs)) ≡ got st' zs
        → 8 * st'.at + length zs + 32 ≡ 8 * st.at + length xs
    by false e f = absurd (false≢true (ap whether f))
    by true e f =
        let m = leb-true 32 (length xs) e in
        let a = go (value (take 32 xs)) (drop 32 xs) (leb (8 * value (take 32 xs)) (length (drop 32 xs))) refl f in
        let q = length-drop 32 xs in
        omega arith

blob_more : (more : List ℕ) (st : State) (xs : List ℕ) → emit_blob more st xs ≡ bind (emit_blob [] st xs) (λ a zs. got (put_bytes more a) zs)
unfolding emit_blob bind
blob_more more st xs = by (take_number 32 xs)
  where
    go : (d : Parsed (List ℕ)) → bind d (λ l zs. got (put_bytes more (put_bytes l st)) zs)
        ≡ bind (bind d (λ l zs. got (put_bytes [] (put_bytes l st)) zs)) (λ a zs. got (put_bytes more a) zs)
    go fail = refl
    go (got l zs) = ap (λ a. got (put_bytes more a) zs) (sym (put_none (put_bytes l st)))

    by : (d : Parsed ℕ) → bind d (λ n ys. bind (take_bytes n ys) (λ l zs. got (put_bytes more (put_bytes l st)) zs))
        ≡ bind (bind d (λ n ys. bind (take_bytes n ys) (λ l zs. got (put_bytes [] (put_bytes l st)) zs))) (λ a zs. got (put_bytes more a) zs)
    by fail = refl
    by (got n ys) = go (take_bytes n ys)

-- ---- by what was copied
module _ (s : List ℕ) (from : Emitted) (room : Room s from) (o o₁ : List ℕ) where
  pub bytes_cut : CopiedAt s o from.next from.places.at None o₁ → (r : Option Emitted) → r ≡ None
      → EmittedAt s (emit_blob [] (state_of from.places o) (drop from.next (bits s))) from 0 r o₁
  bytes_cut k r er = rw er (k.is from room refl refl)

  pub text-not : CopiedAt s o from.next from.places.at None o₁ → (r : Option Emitted) → r ≡ None
      → EmittedAt s (emit_blob (0 ∷ []) (state_of from.places o) (drop from.next (bits s))) from 0 r o₁
  text-not k r er =
      refused s _ from 0 (blob_more (0 ∷ []) (state_of from.places o) (drop from.next (bits s)) ∙ part_fails s _ from 0 o₁ _ (k.is from room refl refl)) r er o₁

  module _ (x : Copied) (k : CopiedAt s o from.next from.places.at (Some x) o₁) where
    pub copied_fits : from.places.at + x.length < 2 ^ 64
    copied_fits = let l = k.small in let b = room-below s from room in omega arith

    module _ (q : Places) (eq : q ≡ forward x.length from.places) where
      there : EmittedAt s (emit_blob [] (state_of from.places o) (drop from.next (bits s))) from 0 (Some (record { places = q; next = x.next })) o₁
      there = rw eq (k.is from room refl refl)

      pub bytes_there : (y : Emitted) → y ≡ record { places = q; next = x.next }
          → EmittedAt s (emit_blob [] (state_of from.places o) (drop from.next (bits s))) from 0 (Some y) o₁
      bytes_there y ey = rw ey there

      pub text_at : q.at < 2 ^ 61
      text_at = room-below s (record { places = q; next = x.next }) (room-part s from room _ _ o₁ there)

      pub text_done : (p : Places) (out : List ℕ) → Stood 1 (put_byte 0 (state_of q o₁)) (state_of p out) q p → (y : Emitted) → y ≡ record { places = p; next = x.next }
          → EmittedAt s (emit_blob (0 ∷ []) (state_of from.places o) (drop from.next (bits s))) from 0 (Some y) out
      unfolding put_byte
      text_done p out u y ey =
          let t = there in
          let paid = blob_paid (state_of from.places o) (state_of q o₁) (drop from.next (bits s)) (drop x.next (bits s)) t.is in
          let a = length-drop from.next (bits s) in
          let b = length-drop x.next (bits s) in
          let z = bits-length s in
          let i = t.reached.here in
          let j = room.here in
          let f = u.at in
          let l : p.at + 8192 * from.next ≤ from.places.at + 0 + 8192 * x.next = omega arith in
          arrived s _ from 0 (record { places = p; next = x.next }) out
          (blob_more (0 ∷ []) (state_of from.places o) (drop from.next (bits s)) ∙ part_goes s _ from 0 o₁ _ _ t ∙ ap (λ a. got a (drop x.next (bits s))) (sym u.is))
          (record { here = i; at = l; bool = held_same q p t.reached.bool u.free u.held; tail = rw u.tail t.reached.tail; next = rw u.next t.reached.next }) y ey

-- ---- no value
module _ (w : ℕ) where
  pub no_four : w ≡ 4 → 0x7FC0_0000 ≡ no_float w
  unfolding no_float
  no_four h = simp (eq-eqb _ _ h)

  pub no_eight : (w ≡ 4 → ⊥) → 0x7FF8_0000_0000_0000 ≡ no_float w
  unfolding no_float
  no_eight h = simp (ne_eqb _ _ h)

-- a width in bytes
pub integer_eight : (n : ℕ) (k : Flat) (g : Bool) (w j : ℕ) → k ≡ Integer g w → j ≡ w → FlatSound n k → j ≤ 8
integer_eight n k g w j e ej h = let l = (subst (FlatSound n) e h).1 in omega arith

pub float_eight : (n : ℕ) (k : Flat) (w j : ℕ) → k ≡ Float w → j ≡ w → FlatSound n k → j ≤ 8
float_eight n k w j e ej h = let l = float_short n k w e h in omega arith

stood_lacks : (n : ℕ) → n ≤ 4096 → (put now : State) (c r : Places) → HeldOk c → Stood n put now c r → Lacks put now c r
stood_lacks n l put now c r ok u =
    let a = u.at in
    record { is = u.is; bool = held_same c r ok u.free u.held; at = omega arith; tail = u.tail; next = u.next }

module _ (S : Schema) (k : Flat) (c r : Places) (ok : HeldOk c) (o o₁ : List ℕ) where
  pub lacks_integer : (m : ℕ) → FlatSound m k → (g : Bool) (w j : ℕ) → k ≡ Integer g w → j ≡ w → Stood j (put_number j 0 (state_of c o)) (state_of r o₁) c r
      → Lacks (lack_flat S k (state_of c o)) (state_of r o₁) c r
  unfolding lack_flat
  lacks_integer m sound g w j e ej u =
      let l = (subst (FlatSound m) e sound).1 in
      rw e (stood_lacks w (omega arith) _ _ c r ok (subst (λ (i : ℕ). Stood i (put_number i 0 (state_of c o)) (state_of r o₁) c r) ej u))

  pub lacks_float : (m : ℕ) → FlatSound m k → (w j v : ℕ) → k ≡ Float w → j ≡ w → v ≡ no_float w → Stood j (put_number j v (state_of c o)) (state_of r o₁) c r
      → Lacks (lack_flat S k (state_of c o)) (state_of r o₁) c r
  unfolding lack_flat
  lacks_float m sound w j v e ej ev u =
      let l = float_short m k w e sound in
      rw (e, ← ev) (stood_lacks w (omega arith) _ _ c r ok (subst (λ (i : ℕ). Stood i (put_number i v (state_of c o)) (state_of r o₁) c r) ej u))

  pub lacks-enum : (n : ℕ) → k ≡ Enumerated n → Stood 1 (put_byte 255 (state_of c o)) (state_of r o₁) c r → Lacks (lack_flat S k (state_of c o)) (state_of r o₁) c r
  unfolding lack_flat
  lacks-enum n e u = rw e (stood_lacks 1 (omega arith) _ _ c r ok u)

  pub lacks-struct : (i j n : ℕ) → k ≡ Struct i → j ≡ i → n ≡ struct_size S j → n ≤ 4096 → Stood n (put_bytes (zeros n) (state_of c o)) (state_of r o₁) c r
      → Lacks (lack_flat S k (state_of c o)) (state_of r o₁) c r
  unfolding lack_flat
  lacks-struct i j n e ej en l u =
      subst (λ (q : Flat). Lacks (lack_flat S q (state_of c o)) (state_of r o₁) c r) (sym e)
      (subst (λ (m : ℕ). Lacks (put_bytes (zeros m) (state_of c o)) (state_of r o₁) c r) (en ∙ ap (struct_size S) ej) (stood_lacks n l _ _ c r ok u))

pub lacks_boolean : (S : Schema) (k : Flat) (c r : Places) (o o₁ : List ℕ) → k ≡ Boolean → BitPut (put_bit 0 (state_of c o)) (state_of r o₁) c r
    → Lacks (lack_flat S k (state_of c o)) (state_of r o₁) c r
unfolding lack_flat
lacks_boolean S k c r o o₁ e u = let a = u.at in rw e (record { is = u.is; bool = u.bool; at = omega arith; tail = u.tail; next = u.next })

-- the bytes of the number 0
zero_bytes : (w : ℕ) → le_bytes w 0 ≡ zeros w
unfolding le_bytes
zero_bytes zero = refl
zero_bytes (suc w) = ap (λ (l : List ℕ). 0 ∷ l) (zero_bytes w)

zero_lacks : (w : ℕ) → w ≤ 8 → (c r : Places) (out out₁ : List ℕ) → HeldOk c → Stood w (put_number w 0 (state_of c out)) (state_of r out₁) c r
    → Lacks (put_bytes (zeros w) (state_of c out)) (state_of r out₁) c r
unfolding put_number
zero_lacks w l c r out out₁ ok u =
    stood_lacks w (omega arith) _ _ c r ok (subst (λ (bs : List ℕ). Stood w (put_bytes bs (state_of c out)) (state_of r out₁) c r) (zero_bytes w) u)

module _ (o : ℕ) (S : Schema) (k : Kind) (c r : Places) (out out₁ : List ℕ) where
  pub lacks-flat : (f : Flat) → k ≡ OfFlat f → Lacks (lack_flat S f (state_of c out)) (state_of r out₁) c r → Lacks (lack o S k (state_of c out)) (state_of r out₁) c r
  unfolding lack
  lacks-flat f e u = rw e u

  pub lacks-object : o ≤ 6 → (ob : Object) → k ≡ OfObject ob → HeldOk c → Stood o (put_number o 0 (state_of c out)) (state_of r out₁) c r
      → Lacks (lack o S k (state_of c out)) (state_of r out₁) c r
  unfolding lack
  lacks-object most ob e ok u = rw e (zero_lacks o (omega arith) c r out out₁ ok u)

  pub lacks-union : o ≤ 6 → (i : ℕ) → k ≡ OfUnion i → HeldOk c → (w : ℕ) → w ≡ 2 + o → Stood w (put_number w 0 (state_of c out)) (state_of r out₁) c r
      → Lacks (lack o S k (state_of c out)) (state_of r out₁) c r
  unfolding lack
  lacks-union most i e ok w ew u =
      rw e (subst (λ (n : ℕ). Lacks (put_bytes (zeros n) (state_of c out)) (state_of r out₁) c r) ew (zero_lacks w (omega arith) c r out out₁ ok u))

-- ---- unknown numbers, passed over
module _ (s : List ℕ) (k : Flat) (from : Emitted) (st : State) (out : List ℕ) where
  -- only an enum has one
  pub pass_none : ((m : ℕ) → k ≡ Enumerated m → ⊥) → EmittedAt s (pass_flat k st (drop from.next (bits s))) from 0 None out
  unfolding pass_flat
  pass_none h = refused s _ from 0 (by k h) None refl out
    where
      by : (f : Flat) → ((m : ℕ) → f ≡ Enumerated m → ⊥) → pass_flat f st (drop from.next (bits s)) ≡ fail
      by Boolean g = refl
      by (Integer g w) u = refl
      by (Float w) g = refl
      by (Enumerated m) g = absurd (g m refl)
      by (Struct i) g = refl

  pub pass-enum : (r : Option Emitted) (m : ℕ) → k ≡ Enumerated m → EmittedAt s (emit_if 8 (unknown_enum m) put_nothing st (drop from.next (bits s))) from 0 r out
      → EmittedAt s (pass_flat k st (drop from.next (bits s))) from 0 r out
  unfolding pass_flat
  pass-enum r m e u = rw e u

module _ (S : Schema) (s : List ℕ) (k : Kind) (from : Emitted) (st : State) (out : List ℕ) where
  pub pass-flat : (r : Option Emitted) (f : Flat) → k ≡ OfFlat f → EmittedAt s (pass_flat f st (drop from.next (bits s))) from 0 r out
      → EmittedAt s (pass S k st (drop from.next (bits s))) from 0 r out
  unfolding pass
  pass-flat r f e u = rw e u

  pub pass-object : (ob : Object) → k ≡ OfObject ob → EmittedAt s (pass S k st (drop from.next (bits s))) from 0 None out
  unfolding pass
  pass-object ob e = refused s _ from 0 (rw e refl) None refl out

  pub pass-union : (r : Option Emitted) (i j : ℕ) → k ≡ OfUnion i → j ≡ i
      → EmittedAt s (emit_if 16 (above_count (length (Sc.cases_of S j))) put_nothing st (drop from.next (bits s))) from 0 r out
      → EmittedAt s (pass S k st (drop from.next (bits s))) from 0 r out
  unfolding pass
  pass-union r i j e ej u = rw e (subst (λ (a : ℕ). EmittedAt s (emit_if 16 (above_count (length (Sc.cases_of S a))) put_nothing st (drop from.next (bits s))) from 0 r out) ej u)
