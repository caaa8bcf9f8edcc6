-- The ways out of the pass over members and elements, one lemma for each.
use mathlib.Core.Path.{◌≡◌, refl, sym, ap, ap₂, ◌∙◌, subst}
use mathlib.Core.Bool.{Bool, true, false, not, ◌&&◌}
use mathlib.Core.List.{List}
use Rattle.std.specs.Prelude.{Option, Some, None}
use Prim.Native.Nat.{ℕ, zero, suc, ◌+◌, ◌*◌, ◌^◌, ◌<◌, ◌≤◌}
use native.Mathlib.Omega.{arith}
use lib.ListN.{length, drop}
use borrow.Author.Tests.{le-leb, lt-leb}
use Rattle.coding.specs.Lists.{pick}
use Rattle.coding.specs.Bits.{bits}
use Rattle.coding.specs.Schema as Sc
use Rattle.coding.specs.Schema.{Schema}
use Rattle.coding.specs.Layout.{has_flag, takes_flag}
use Rattle.coding.specs.Walk.{magic}
use Rattle.coding.specs.Sheet.{Parsed, fail, got, bind, take_number, unmarked, flat_unmarked}
use Rattle.coding.specs.declared.Flat.{Flat}
use Rattle.coding.specs.declared.Object.{Object}
use Rattle.coding.specs.declared.Object.TheVariants as O
use Rattle.coding.specs.declared.Kind.{Kind}
use Rattle.coding.specs.declared.Kind.TheVariants.{OfFlat, OfObject, OfUnion}
use Rattle.coding.specs.declared.Member.{Member}
use Rattle.laws.specs.Lists.{never}
use Rattle.laws.specs.Sound.{FlatScalar, NoStruct, ObjectSound}
use Rattle.bitio.specs.Taken.{NumberAt}
use Rattle.bitio.specs.declared.Number.{Number}
use Rattle.write_measure.specs.Survey.{head_size, Surveyor, survey_mark}
use Rattle.write_measure.specs.Marks.{mark_of, MarkedAt}
use Rattle.write_measure.specs.declared.Mark.TheVariants as Mark
use Rattle.write_measure.specs.declared.Marked.{Marked}
use Rattle.write_measure.specs.Mapped.{Has}
use Rattle.write_measure.specs.Surveyed.{Small}
use Rattle.write_measure.specs.declared.Extent.{Extent}
use Rattle.write_store.specs.State.{State, enter_object, leave_object, enter_content, leave_content, put_number}
use Rattle.write_pass.specs.EmitSheet.{Emitter, emit_flat, lack, pass, open_object, emit_object, emit_content_at, emit_refer, emit_choice, emit_body, emit_part, emit_element, flagged}
use Rattle.write_pass.specs.Measure.{Sizes, Measured, MeasuredAt}
use Rattle.write_store.specs.Storing.{state_of, HeldOk, left_object, left_content, Stood, BitPut}
use Rattle.schema.specs.Kinds.{is_blob}
use Rattle.write_pass.specs.Emitting.{given, closed, referred, opened, emit_member, Room, EmittedAt, Lacks, Absent, Opens, extra, emit_marked_flat, emit_unflagged, refers, is_terminal}
use Rattle.write_store.specs.declared.Places.{Places}
use Rattle.write_pass.specs.declared.Emitted.{Emitted}
use Rattle.write_measure.proofs.ObjectCases.{object-marked}
use Rattle.write_pass.proofs.EmitCases.{lacks-object, marks-cut, marks-none, marks-there, marks-unknown, marks-fail}
use Rattle.write_pass.proofs.EmitRoom.{none_taken, some_taken, taken_at, refused, arrived, later, same, extra_most, held_same, room-absent}

-- ---- an object: what refers to it, its content, and back; by offset or in place
module _ (o : ℕ) (child : Emitter) (S : Schema) (inplace : Bool) (ob : Object) (st : State) (xs : List ℕ) where
  -- the content's pass from u on, back behind z
  within : State → State → Parsed State
  within z u = bind (child ob u xs) (λ inner zs. got (pick inplace (leave_content z inner) (leave_object z inner)) zs)

  surveyed : (measure : Surveyor) (x : Extent) (ys : List ℕ) → measure ob xs ≡ got x ys
      → emit_refer child measure o S inplace ob st xs ≡ within (referred o inplace x st) (opened o S ob inplace x (referred o inplace x st))
  unfolding within
  surveyed measure x ys e = by inplace
    where
      by : (i : Bool) → emit_refer child measure o S i ob st xs
          ≡ bind (child ob (opened o S ob i x (referred o i x st)) xs) (λ inner zs. got (pick i (leave_content (referred o i x st) inner) (leave_object (referred o i x st) inner)) zs)
      by true = unfold emit_refer emit_object emit_content_at opened referred bind in rw e
      by false = unfold emit_refer emit_object emit_content_at opened referred bind in rw e

  module _ (r x : Extent) where
    same-referred : (i : Bool) → Sizes i r x → referred o i x st ≡ referred o i r st
    unfolding referred
    same-referred true s = ap (λ (n : ℕ). put_number o n st) (sym s.length)
    same-referred false s = refl

    same-opened : (i : Bool) → Sizes i r x → (z : State) → opened o S ob i x z ≡ opened o S ob i r z
    unfolding opened open_object
    same-opened true s z = ap (λ (n : ℕ). enter_content n z) (sym s.width)
    same-opened false s z =
        ap (λ (n : ℕ). put_number o n (put_number 4 (magic S ob) (enter_object (head_size o + x.width) x.chain z))) (sym s.length)
        ∙ ap₂ (λ (w k : ℕ). put_number o r.length (put_number 4 (magic S ob) (enter_object (head_size o + w) k z))) (sym s.width) (sym (s.chain refl))

  -- by sizes that are right where the survey gives something; where it does not, the content's pass fails
  refer_is : (measure : Surveyor) (r : Extent) → Has (Sizes inplace r) (measure ob xs) → ((u : State) → measure ob xs ≡ fail → child ob u xs ≡ fail)
      → emit_refer child measure o S inplace ob st xs ≡ within (referred o inplace r st) (opened o S ob inplace r (referred o inplace r st))
  unfolding within bind
  refer_is measure r m fails = by (measure ob xs) refl m
    where
      by : (p : Parsed Extent) → measure ob xs ≡ p → Has (Sizes inplace r) p
          → emit_refer child measure o S inplace ob st xs ≡ within (referred o inplace r st) (opened o S ob inplace r (referred o inplace r st))
      by fail e h =
          let g : emit_refer child measure o S inplace ob st xs ≡ fail = unfold emit_refer in rw e in
          g ∙ sym (ap (λ (p : Parsed State). bind p (λ inner zs. got (pick inplace (leave_content (referred o inplace r st) inner) (leave_object (referred o inplace r st) inner)) zs))
          (fails (opened o S ob inplace r (referred o inplace r st)) e))
      by (got x ys) e h =
          surveyed measure x ys e ∙ ap (within (referred o inplace x st)) (same-opened r x inplace h (referred o inplace x st))
          ∙ ap (λ (z : State). within z (opened o S ob inplace r z)) (same-referred r x inplace h)

module _ (o : ℕ) (child : Emitter) (measure : Surveyor) (S : Schema) (s : List ℕ) (inplace : Bool) (ob : Object) (from : Emitted) (out : List ℕ) (room : Room s from)
    (x : Extent) (m : Measured inplace (measure ob (drop from.next (bits s))) x)
    (fails : (u : State) → measure ob (drop from.next (bits s)) ≡ fail → child ob u (drop from.next (bits s)) ≡ fail)
    (p : Places) (out₁ : List ℕ) (st : Stood o (referred o inplace x (state_of from.places out)) (state_of p out₁) from.places p)
    (q : Places) (out₂ : List ℕ) (op : Opens o (opened o S ob inplace x (state_of p out₁)) (state_of q out₂) q)
    (g : Emitted) (eg : g ≡ record { places = q; next = from.next }) (out₃ : List ℕ) where
  abbrev back : Parsed State → Parsed State
  back r = bind r (λ inner zs. got (pick inplace (leave_content (state_of p out₁) inner) (leave_object (state_of p out₁) inner)) zs)

  abbrev stored_there : Option Emitted → Type 0
  stored_there r = EmittedAt s (child ob (state_of g.places out₂) (drop g.next (bits s))) g 0 r out₃

  inside : (r : Option Emitted) → stored_there r → EmittedAt s (child ob (state_of q out₂) (drop from.next (bits s))) (record { places = q; next = from.next }) 0 r out₃
  inside r t = subst (λ (z : Emitted). EmittedAt s (child ob (state_of z.places out₂) (drop z.next (bits s))) z 0 r out₃) eg t

  referred_is : (r : Option Emitted) → stored_there r → emit_refer child measure o S inplace ob (state_of from.places out) (drop from.next (bits s)) ≡ back (given s out₃ r)
  unfolding within
  referred_is r t =
      refer_is o child S inplace ob (state_of from.places out) (drop from.next (bits s)) measure x m.is fails
      ∙ ap (λ (z : State). bind (child ob (opened o S ob inplace x z) (drop from.next (bits s))) (λ inner zs. got (pick inplace (leave_content z inner) (leave_object z inner)) zs)) (sym st.is)
      ∙ ap (λ (z : State). back (child ob z (drop from.next (bits s)))) (sym op.is) ∙ ap back (inside r t).is

  pub refer-unlawful : stored_there None → (r : Option Emitted) → r ≡ None
      → EmittedAt s (emit_refer child measure o S inplace ob (state_of from.places out) (drop from.next (bits s))) from o r out₃
  unfolding bind
  refer-unlawful t r er = refused s _ from o (referred_is None t) r er out₃

  module _ (y : Emitted) (t : stored_there (Some y)) where
    shut : (i : Bool)
        → pick i (leave_content (state_of p out₁) (state_of y.places out₃)) (leave_object (state_of p out₁) (state_of y.places out₃)) ≡ state_of (closed i p y.places) out₃
    unfolding closed left_content left_object leave_content leave_object
    shut true = refl
    shut false = refl

    shut_at : (i : Bool) → (closed i p y.places).at ≡ p.at
    unfolding closed left_content left_object
    shut_at true = refl
    shut_at false = refl

    shut-held : (i : Bool) → HeldOk p → HeldOk (closed i p y.places)
    unfolding closed left_content left_object
    shut-held true ok = record { free = ok.free; held = ok.held }
    shut-held false ok = record { free = ok.free; held = ok.held }

    shut_tail : (i : Bool) → p.tail ≤ 16777216 → y.places.tail ≤ 16777216 → (closed i p y.places).tail ≤ 16777216
    unfolding closed left_content left_object
    shut_tail true a b = b
    shut_tail false a b = a

    shut_next : (i : Bool) → y.places.next ≤ 16777216 → (closed i p y.places).next ≤ 16777216
    unfolding closed left_content left_object
    shut_next true a = a
    shut_next false a = a

    pub refer-closed : from.next ≤ y.next → (k : Places) → k ≡ closed inplace p y.places → (z : Emitted) → z ≡ record { places = k; next = y.next }
        → EmittedAt s (emit_refer child measure o S inplace ob (state_of from.places out) (drop from.next (bits s))) from o (Some z) out₃
    unfolding bind
    refer-closed on k ek z ez =
        let a = shut_at inplace in
        let b = st.at in
        let h = t.reached in
        let f : (closed inplace p y.places).at + 8192 * from.next ≤ from.places.at + o + 8192 * y.next = omega arith in
        arrived s _ from o (record { places = closed inplace p y.places; next = y.next }) out₃
        (referred_is (Some y) t ∙ ap (λ (v : State). got v (drop y.next (bits s))) (shut inplace))
        (record {
          here = h.here;
          at = f;
          bool = shut-held inplace (held_same from.places p room.bool st.free st.held);
          tail = shut_tail inplace (rw st.tail room.tail) h.tail;
          next = shut_next inplace h.next;
        }) z (ez ∙ ap (λ (v : Places). record { places = v; next = y.next }) ek)

-- whose survey finds it not lawful
pub refer-none : (o : ℕ) (child : Emitter) (measure : Surveyor) (S : Schema) (s : List ℕ) (inplace : Bool) (ob : Object) (from : Emitted) (e : ℕ) (st : State) (out : List ℕ)
    → MeasuredAt inplace (measure ob (drop from.next (bits s))) None → (r : Option Emitted) → r ≡ None
    → EmittedAt s (emit_refer child measure o S inplace ob st (drop from.next (bits s))) from e r out
unfolding emit_refer bind
refer-none o child measure S s inplace ob from e st out m r er =
    refused s _ from e (ap (λ d. bind d (λ x ys. pick inplace (emit_content_at child o ob x st (drop from.next (bits s))) (emit_object child o S ob x st (drop from.next (bits s))))) m.is) r er out

pub measured_some : (inplace : Bool) (p : Parsed Extent) (e : Extent) → MeasuredAt inplace p (Some e) → Measured inplace p e
measured_some inplace p e m = m.is

pub small_some : (inplace : Bool) (p : Parsed Extent) (e : Extent) → MeasuredAt inplace p (Some e) → Small e
small_some inplace p e m = m.is.small

-- ---- a union's known choice
positive : (y : ℕ) → (y ≡ 0 → ⊥) → 1 ≤ y
positive zero f = absurd (f refl)
positive (suc y) f = omega arith

module _ (o : ℕ) (child : Emitter) (measure : Surveyor) (S : Schema) (s : List ℕ) (inplace : Bool) (u : ℕ) (from : Emitted) (out : List ℕ) where
  abbrev chosen : Parsed State
  chosen = emit_choice child measure o S inplace (Sc.cases_of S u) (state_of from.places out) (drop from.next (bits s))

  pub choice-cut : take_number 16 (drop from.next (bits s)) ≡ fail → (r : Option Emitted) → r ≡ None → EmittedAt s chosen from o r out
  unfolding emit_choice
  choice-cut h r er = refused s _ from o (none_taken _ 16 _ h) r er out

  module _ (x : Number) (taken : NumberAt s from.next 16 x) where
    pub choice-zero : x.value ≡ 0 → EmittedAt s chosen from o None out
    unfolding emit_choice
    choice-zero z =
        let lt : x.value < 1 = omega arith in
        refused s _ from o (some_taken _ s from.next 16 x taken ∙ simp (lt-leb 1 x.value lt) refl) None refl out

    pub choice_above : (x.value ≡ 0 → ⊥) → (m : ℕ) → m ≡ length (Sc.cases_of S u) → m < x.value → EmittedAt s chosen from o None out
    unfolding emit_choice
    choice_above h0 m em g =
        let one : 1 ≤ x.value = positive x.value h0 in
        let lt : length (Sc.cases_of S u) < x.value = omega arith in
        refused s _ from o (some_taken _ s from.next 16 x taken ∙ simp (le-leb 1 x.value one, lt-leb x.value (length (Sc.cases_of S u)) lt) refl) None refl out

    pub choice-known : Room s from → (x.value ≡ 0 → ⊥) → (m : ℕ) → m ≡ length (Sc.cases_of S u) → x.value ≤ m → (ob : Object) → ob ≡ Sc.case_of (Sc.cases_of S u) x.value
        → (p : Places) (out₁ : List ℕ) → Stood 2 (put_number 2 x.value (state_of from.places out)) (state_of p out₁) from.places p
        → (g : Emitted) → g ≡ record { places = p; next = x.next } → (r : Option Emitted) (out₂ : List ℕ)
        → EmittedAt s (emit_refer child measure o S inplace ob (state_of g.places out₁) (drop g.next (bits s))) g o r out₂ → EmittedAt s chosen from o r out₂
    unfolding emit_choice
    choice-known room h0 m em l ob eo p out₁ st g eg r out₂ t =
        let one : 1 ≤ x.value = positive x.value h0 in
        let le : x.value ≤ length (Sc.cases_of S u) = omega arith in
        let e = taken_at s from.next 16 x taken room.here in
        let f = st.at in
        let k : p.at + o + 8192 * from.next ≤ from.places.at + o + 8192 * x.next = omega arith in
        later s _ from o (emit_refer child measure o S inplace ob (state_of p out₁) (drop x.next (bits s)))
        (some_taken _ s from.next 16 x taken ∙ simp (le-leb 1 x.value one, le-leb x.value (length (Sc.cases_of S u)) le)
        (ap (λ (b : Object). emit_refer child measure o S inplace b (put_number 2 x.value (state_of from.places out)) (drop x.next (bits s))) (sym eo)
        ∙ ap (λ (z : State). emit_refer child measure o S inplace ob z (drop x.next (bits s))) (sym st.is)))
        (record { places = p; next = x.next }) o k r out₂
        (subst (λ (z : Emitted). EmittedAt s (emit_refer child measure o S inplace ob (state_of z.places out₁) (drop z.next (bits s))) z o r out₂) eg t)

-- ---- what is there
module _ (o : ℕ) (child : Emitter) (measure : Surveyor) (S : Schema) (s : List ℕ) (k : Kind) (inplace : Bool) (from : Emitted) (out : List ℕ) where
  abbrev bodied : Option Emitted → List ℕ → Type 0
  bodied r out₁ = EmittedAt s (emit_body child measure o S k inplace (state_of from.places out) (drop from.next (bits s))) from (extra o k) r out₁

  pub body-flat : (f : Flat) → k ≡ OfFlat f → (r : Option Emitted) (out₁ : List ℕ) → EmittedAt s (emit_flat S f (state_of from.places out) (drop from.next (bits s))) from 0 r out₁
      → bodied r out₁
  unfolding emit_body extra
  body-flat f e r out₁ t = rw e t

  pub body-object : (ob : Object) → k ≡ OfObject ob → (r : Option Emitted) (out₁ : List ℕ)
      → EmittedAt s (emit_refer child measure o S inplace ob (state_of from.places out) (drop from.next (bits s))) from o r out₁ → bodied r out₁
  unfolding emit_body extra
  body-object ob e r out₁ t = rw e t

  pub body-union : (u j : ℕ) → k ≡ OfUnion u → j ≡ u → (r : Option Emitted) (out₁ : List ℕ)
      → EmittedAt s (emit_choice child measure o S inplace (Sc.cases_of S j) (state_of from.places out) (drop from.next (bits s))) from o r out₁ → bodied r out₁
  unfolding emit_body extra
  body-union u j e ej r out₁ t =
      rw e (subst (λ (a : ℕ). EmittedAt s (emit_choice child measure o S inplace (Sc.cases_of S a) (state_of from.places out) (drop from.next (bits s))) from o r out₁) ej t)

  -- where the answer is handed on field by field
  pub kept-object : (ob : Object) → k ≡ OfObject ob → (y : Emitted) (out₁ : List ℕ)
      → EmittedAt s (emit_refer child measure o S inplace ob (state_of from.places out) (drop from.next (bits s))) from o (Some y) out₁ → (z : Emitted) → z ≡ y → bodied (Some z) out₁
  kept-object ob e y out₁ t z ez = rw ez (body-object ob e (Some y) out₁ t)

  pub kept-union : (u j : ℕ) → k ≡ OfUnion u → j ≡ u → (y : Emitted) (out₁ : List ℕ)
      → EmittedAt s (emit_choice child measure o S inplace (Sc.cases_of S j) (state_of from.places out) (drop from.next (bits s))) from o (Some y) out₁ → (z : Emitted) → z ≡ y → bodied (Some z) out₁
  kept-union u j e ej y out₁ t z ez = rw ez (body-union u j e ej (Some y) out₁ t)

  pub none-object : (ob : Object) → k ≡ OfObject ob → (out₁ : List ℕ)
      → EmittedAt s (emit_refer child measure o S inplace ob (state_of from.places out) (drop from.next (bits s))) from o None out₁ → (r : Option Emitted) → r ≡ None → bodied r out₁
  none-object ob e out₁ t r er = rw er (body-object ob e None out₁ t)

  pub none-union : (u j : ℕ) → k ≡ OfUnion u → j ≡ u → (out₁ : List ℕ)
      → EmittedAt s (emit_choice child measure o S inplace (Sc.cases_of S j) (state_of from.places out) (drop from.next (bits s))) from o None out₁ → (r : Option Emitted) → r ≡ None → bodied r out₁
  none-union u j e ej out₁ t r er = rw er (body-union u j e ej None out₁ t)

  pub body_terminal : (ob : Object) → k ≡ OfObject ob → is_terminal k inplace ≡ true → (r : Option Emitted) (out₁ : List ℕ)
      → EmittedAt s (emit_refer child measure o S false ob (state_of from.places out) (drop from.next (bits s))) from o r out₁ → bodied r out₁
  unfolding is_terminal
  body_terminal ob e h r out₁ t = body-object ob e r out₁ (by inplace (subst (λ (q : Kind). is_terminal q inplace ≡ true) e h))
    where
      by : (i : Bool) → (not i && is_blob ob) ≡ true → EmittedAt s (emit_refer child measure o S i ob (state_of from.places out) (drop from.next (bits s))) from o r out₁
      by true g = never g
      by false g = t

  pub body_no_terminal : (i : ℕ) → k ≡ OfUnion i → is_terminal k inplace ≡ true → (r : Option Emitted) (out₁ : List ℕ) → bodied r out₁
  unfolding is_terminal
  body_no_terminal i e h r out₁ = never (subst (λ (q : Kind). is_terminal q inplace ≡ true) e h)

  pub body_no-flat : (f : Flat) → k ≡ OfFlat f → refers k ≡ true → (r : Option Emitted) (out₁ : List ℕ) → bodied r out₁
  unfolding refers
  body_no-flat f e h r out₁ = never (subst (λ (q : Kind). refers q ≡ true) e h)

-- ---- with its mark: st0 is behind the flag of an absent value, st1 behind that of a present one
module _ (o : ℕ) (child : Emitter) (measure : Surveyor) (S : Schema) (s : List ℕ) (k : Kind) (inplace : Bool) (st0 st1 : State) (from : Emitted) where
  abbrev parted : Option Emitted → List ℕ → Type 0
  parted r out = EmittedAt s (emit_part child measure o S k inplace st0 st1 (drop from.next (bits s))) from 0 r out

  parts-cut : mark_of (drop from.next (bits s)) ≡ fail → (r : Option Emitted) → r ≡ None → (out : List ℕ) → parted r out
  unfolding emit_part
  parts-cut h r er out = marks-cut s from _ _ _ h r er out

  module _ (m : Marked) (taken : MarkedAt s from.next m) where
    module _ (room : Room s from) where
      parts_there : o ≤ 6 → m.mark ≡ Mark.Present → (p : Places) (out₁ : List ℕ) → BitPut st1 (state_of p out₁) from.places p → (g : Emitted) → g ≡ record { places = p; next = m.next }
          → (r : Option Emitted) (out : List ℕ)
          → EmittedAt s (emit_body child measure o S k inplace (state_of g.places out₁) (drop g.next (bits s))) g (extra o k) r out → parted r out
      unfolding emit_part
      parts_there most z p out₁ b g eg r out t =
          let few = extra_most o most k in
          let f = b.at in
          marks-there s from _ _ _ m taken room p (extra o k) (omega arith) r out z
          (subst (λ (y : State). EmittedAt s (emit_body child measure o S k inplace y (drop m.next (bits s))) (record { places = p; next = m.next }) (extra o k) r out) b.is
          (subst (λ (y : Emitted). EmittedAt s (emit_body child measure o S k inplace (state_of y.places out₁) (drop y.next (bits s))) y (extra o k) r out) eg t))

      module _ (p : Places) (out₁ : List ℕ) (l : Absent (lack o S k st0) (state_of p out₁) from.places p) where
        parts_none : m.mark ≡ Mark.Absent → (y : Emitted) → y ≡ record { places = p; next = m.next } → parted (Some y) out₁
        unfolding emit_part
        parts_none z y ey =
            let a = l.at in
            marks-none s from _ _ _ m taken room z p out₁ l.is (room-absent s from room m taken _ _ p l _ refl) (omega arith) y ey

        parts-pass : m.mark ≡ Mark.Unknown → (g : Emitted) → g ≡ record { places = p; next = m.next } → (r : Option Emitted) (out : List ℕ)
            → EmittedAt s (pass S k (state_of g.places out₁) (drop g.next (bits s))) g 0 r out → parted r out
        unfolding emit_part
        parts-pass z g eg r out t =
            let a = l.at in
            marks-unknown s from _ _ _ m taken room p 0 (omega arith) r out z
            (subst (λ (y : State). EmittedAt s (pass S k y (drop m.next (bits s))) (record { places = p; next = m.next }) 0 r out) l.is
            (subst (λ (y : Emitted). EmittedAt s (pass S k (state_of y.places out₁) (drop y.next (bits s))) y 0 r out) eg t))

-- a member
module _ (o : ℕ) (child : Emitter) (measure : Surveyor) (S : Schema) (s : List ℕ) (v : Member) (from : Emitted) (o₀ : List ℕ) where
  abbrev membered : Option Emitted → List ℕ → Type 0
  membered r out = EmittedAt s (emit_member child measure o S v (state_of from.places o₀) (drop from.next (bits s))) from 0 r out

  pub part_cut : mark_of (drop from.next (bits s)) ≡ fail → (r : Option Emitted) → r ≡ None → (out : List ℕ) → membered r out
  unfolding emit_member
  part_cut h r er out = parts-cut o child measure S s v.kind v.inplace _ _ from h r er out

  module _ (m : Marked) (taken : MarkedAt s from.next m) where
    module _ (room : Room s from) where
      pub part_there : o ≤ 6 → m.mark ≡ Mark.Present → (p : Places) (out₁ : List ℕ) → BitPut (flagged v 1 (state_of from.places o₀)) (state_of p out₁) from.places p
          → (g : Emitted) → g ≡ record { places = p; next = m.next } → (r : Option Emitted) (out : List ℕ)
          → EmittedAt s (emit_body child measure o S v.kind v.inplace (state_of g.places out₁) (drop g.next (bits s))) g (extra o v.kind) r out → membered r out
      unfolding emit_member
      part_there most z p out₁ b g eg r out t = parts_there o child measure S s v.kind v.inplace _ _ from m taken room most z p out₁ b g eg r out t

      module _ (p : Places) (out₁ : List ℕ) (l : Absent (lack o S v.kind (flagged v 0 (state_of from.places o₀))) (state_of p out₁) from.places p) where
        pub part_none : m.mark ≡ Mark.Absent → (y : Emitted) → y ≡ record { places = p; next = m.next } → membered (Some y) out₁
        unfolding emit_member
        part_none z y ey = parts_none o child measure S s v.kind v.inplace _ _ from m taken room p out₁ l z y ey

        pub part-pass : m.mark ≡ Mark.Unknown → (g : Emitted) → g ≡ record { places = p; next = m.next } → (r : Option Emitted) (out : List ℕ)
            → EmittedAt s (pass S v.kind (state_of g.places out₁) (drop g.next (bits s))) g 0 r out → membered r out
        unfolding emit_member
        part-pass z g eg r out t = parts-pass o child measure S s v.kind v.inplace _ _ from m taken room p out₁ l z g eg r out t

-- a flag that was put, and what stands for no value behind it
pub absent_put : (o : ℕ) (S : Schema) (m : Member) (c p q : Places) (out out₁ out₂ : List ℕ) → BitPut (flagged m 0 (state_of c out)) (state_of p out₁) c p
    → Lacks (lack o S m.kind (state_of p out₁)) (state_of q out₂) p q → Absent (lack o S m.kind (flagged m 0 (state_of c out))) (state_of q out₂) c q
absent_put o S m c p q out out₁ out₂ b l =
    let a = l.at in
    let f = b.at in
    record { is = l.is ∙ ap (lack o S m.kind) b.is; bool = l.bool; at = omega arith; tail = l.tail ∙ b.tail; next = l.next ∙ b.next }

pub flag_low : (put now : State) (c p : Places) → c.at < 2 ^ 60 → BitPut put now c p → p.at < 2 ^ 61
flag_low put now c p l b = let a = b.at in omega arith

-- no flag was put
unput : (c : Places) (out : List ℕ) → HeldOk c → BitPut (state_of c out) (state_of c out) c c
unput c out ok = record { is = refl; bool = ok; at = omega arith; tail = refl; next = refl }

lacks_absent : (put now : State) (c q : Places) → Lacks put now c q → Absent put now c q
lacks_absent put now c q l = let a = l.at in record { is = l.is; bool = l.bool; at = omega arith; tail = l.tail; next = l.next }

-- a part that has no flag
module _ (o : ℕ) (child : Emitter) (measure : Surveyor) (S : Schema) (s : List ℕ) (k : Kind) (inplace : Bool) (from : Emitted) (o₀ : List ℕ) where
  abbrev unflagged_part : Option Emitted → List ℕ → Type 0
  unflagged_part r out = EmittedAt s (emit_unflagged child measure o S k inplace (state_of from.places o₀) (drop from.next (bits s))) from 0 r out

  pub unflagged-cut : mark_of (drop from.next (bits s)) ≡ fail → (r : Option Emitted) → r ≡ None → (out : List ℕ) → unflagged_part r out
  unfolding emit_unflagged
  unflagged-cut h r er out = parts-cut o child measure S s k inplace _ _ from h r er out

  module _ (m : Marked) (taken : MarkedAt s from.next m) where
    module _ (room : Room s from) where
      pub unflagged_there : o ≤ 6 → m.mark ≡ Mark.Present → (g : Emitted) → g ≡ record { places = from.places; next = m.next } → (r : Option Emitted) (out : List ℕ)
          → EmittedAt s (emit_body child measure o S k inplace (state_of g.places o₀) (drop g.next (bits s))) g (extra o k) r out → unflagged_part r out
      unfolding emit_unflagged
      unflagged_there most z g eg r out t = parts_there o child measure S s k inplace _ _ from m taken room most z from.places o₀ (unput from.places o₀ room.bool) g eg r out t

      module _ (p : Places) (out₁ : List ℕ) (l : Lacks (lack o S k (state_of from.places o₀)) (state_of p out₁) from.places p) where
        pub unflagged_none : m.mark ≡ Mark.Absent → (y : Emitted) → y ≡ record { places = p; next = m.next } → unflagged_part (Some y) out₁
        unfolding emit_unflagged
        unflagged_none z y ey = parts_none o child measure S s k inplace _ _ from m taken room p out₁ (lacks_absent _ _ from.places p l) z y ey

        pub unflagged-pass : m.mark ≡ Mark.Unknown → (g : Emitted) → g ≡ record { places = p; next = m.next } → (r : Option Emitted) (out : List ℕ)
            → EmittedAt s (pass S k (state_of g.places out₁) (drop g.next (bits s))) g 0 r out → unflagged_part r out
        unfolding emit_unflagged
        unflagged-pass z g eg r out t = parts-pass o child measure S s k inplace _ _ from m taken room p out₁ (lacks_absent _ _ from.places p l) z g eg r out t

-- ---- an element that refers to an object, with its mark
module _ (o : ℕ) (child : Emitter) (measure : Surveyor) (S : Schema) (s : List ℕ) (ob : Object) (from : Emitted) (o₀ : List ℕ) where
  abbrev element_part : Option Emitted → List ℕ → Type 0
  element_part r out = EmittedAt s (emit_element child measure o S (OfObject ob) (state_of from.places o₀) (drop from.next (bits s))) from 0 r out

  pub marked-cut : mark_of (drop from.next (bits s)) ≡ fail → (r : Option Emitted) → r ≡ None → (out : List ℕ) → element_part r out
  unfolding emit_element unmarked
  marked-cut h r er out = parts-cut o child measure S s (OfObject ob) false _ _ from h r er out

  module _ (m : Marked) (taken : MarkedAt s from.next m) where
    pub marked_bad : m.mark ≡ Mark.Unknown → (out : List ℕ) → element_part None out
    unfolding emit_element unmarked emit_part pass
    marked_bad e out = marks-fail s from _ _ _ m taken e refl out

    -- whose size is not found, since the object is not lawful
    pub marked_unlawful : m.mark ≡ Mark.Present → MeasuredAt false (measure ob (drop m.next (bits s))) None → Room s from → (r : Option Emitted) → r ≡ None → (out : List ℕ) → element_part r out
    unfolding emit_element unmarked emit_part emit_body
    marked_unlawful z n room r er out =
        marks-there s from _ _ _ m taken room from.places 0 (omega arith) r out z
        (refer-none o child measure S s false ob (record { places = from.places; next = m.next }) 0 _ out n r er)

    module _ (room : Room s from) where
      pub marked_there : o ≤ 6 → m.mark ≡ Mark.Present → (g : Emitted) → g ≡ record { places = from.places; next = m.next } → (r : Option Emitted) (out : List ℕ)
          → EmittedAt s (emit_refer child measure o S false ob (state_of g.places o₀) (drop g.next (bits s))) g o r out → element_part r out
      unfolding emit_element unmarked
      marked_there most z g eg r out t =
          parts_there o child measure S s (OfObject ob) false _ _ from m taken room most z from.places o₀ (unput from.places o₀ room.bool) g eg r out
          (body-object o child measure S s (OfObject ob) false g o₀ ob refl r out t)

      pub marked_none : o ≤ 6 → m.mark ≡ Mark.Absent → (p : Places) (out₁ : List ℕ) → Stood o (put_number o 0 (state_of from.places o₀)) (state_of p out₁) from.places p
          → (y : Emitted) → y ≡ record { places = p; next = m.next } → element_part (Some y) out₁
      unfolding emit_element unmarked
      marked_none most z p out₁ u y ey =
          parts_none o child measure S s (OfObject ob) false _ _ from m taken room p out₁
          (lacks_absent _ _ from.places p (lacks-object o S (OfObject ob) from.places p o₀ out₁ most ob refl room.bool u)) z y ey

-- ---- kinds
pub terminal_told : (k : Kind) (inplace t : Bool) → t ≡ is_terminal k inplace → t ≡ true → is_terminal k inplace ≡ true
terminal_told k inplace t e h = sym e ∙ h

pub terminal-refers : (k : Kind) (inplace t : Bool) → t ≡ is_terminal k inplace → t ≡ false → refers k ≡ true
unfolding is_terminal refers
terminal-refers (OfFlat f) inplace t e h = never (sym h ∙ e)
terminal-refers (OfObject ob) inplace t e h = refl
terminal-refers (OfUnion i) inplace t e h = refl

pub object-refers : (k : Kind) (ob : Object) → k ≡ OfObject ob → refers k ≡ true
unfolding refers
object-refers k ob e = rw e

pub union-refers : (k : Kind) (i : ℕ) → k ≡ OfUnion i → refers k ≡ true
unfolding refers
union-refers k i e = rw e

pub terminal_offset : (k : Kind) (inplace : Bool) (ob : Object) → k ≡ OfObject ob → (r : Bool) → r ≡ (not inplace && is_blob ob) → r ≡ is_terminal k inplace
unfolding is_terminal
terminal_offset k inplace ob e r er = rw e er

pub terminal-blob : (k : Kind) (inplace : Bool) (ob : Object) → k ≡ OfObject ob → is_terminal k inplace ≡ true → is_blob ob ≡ true
unfolding is_terminal
terminal-blob k inplace ob e h = by inplace (subst (λ (q : Kind). is_terminal q inplace ≡ true) e h)
  where
    by : (i : Bool) → (not i && is_blob ob) ≡ true → is_blob ob ≡ true
    by true g = never g
    by false g = g

-- a text and bytes are of every schema
pub blob_sound : (S : Schema) (ob : Object) → is_blob ob ≡ true → ObjectSound S ob
unfolding is_blob
blob_sound S O.Text h = tt
blob_sound S O.Bytes h = tt
blob_sound S (O.List i) h = never h
blob_sound S (O.Table i) h = never h
blob_sound S (O.DirectList i) h = never h

-- a member that leads to an object has no flag
no_flag : (r : Member) → refers r.kind ≡ true → has_flag r ≡ false
unfolding has_flag
no_flag r h = by r.kind r.optional h
  where
    by : (k : Kind) (u : Bool) → refers k ≡ true → (u && takes_flag k) ≡ false
    by (OfFlat f) u g = unfold refers in never g
    by (OfObject ob) true g = unfold takes_flag in refl
    by (OfObject ob) false g = refl
    by (OfUnion i) true g = unfold takes_flag in refl
    by (OfUnion i) false g = refl

pub unflagged-member : (o : ℕ) (child : Emitter) (measure : Surveyor) (S : Schema) (s : List ℕ) (m : Member) → refers m.kind ≡ true → (st : State) (xs : List ℕ) (from : Emitted)
    (r : Option Emitted) (out : List ℕ) → EmittedAt s (emit_unflagged child measure o S m.kind m.inplace st xs) from 0 r out
    → EmittedAt s (emit_member child measure o S m st xs) from 0 r out
unfolding emit_member emit_unflagged flagged
unflagged-member o child measure S s m h st xs from r out t = rw (no_flag m h) t

-- ---- elements with a mark
module _ (o : ℕ) (child : Emitter) (measure : Surveyor) (S : Schema) (s : List ℕ) (k : Kind) (h : unmarked k ≡ false) (from : Emitted) (out : List ℕ) (r : Option Emitted) (out₁ : List ℕ) where
  pub element-flat : (f : Flat) → k ≡ OfFlat f → EmittedAt s (emit_marked_flat S f (state_of from.places out) (drop from.next (bits s))) from 0 r out₁
      → EmittedAt s (emit_element child measure o S k (state_of from.places out) (drop from.next (bits s))) from 0 r out₁
  unfolding emit_element emit_part emit_marked_flat survey_mark lack pass emit_body
  element-flat f e t = rw (h, e) t

  pub element-refers : EmittedAt s (emit_unflagged child measure o S k false (state_of from.places out) (drop from.next (bits s))) from 0 r out₁
      → EmittedAt s (emit_element child measure o S k (state_of from.places out) (drop from.next (bits s))) from 0 r out₁
  unfolding emit_element emit_unflagged
  element-refers t = rw h t

pub not-unmarked : (k : Kind) (t : Bool) → t ≡ unmarked k → t ≡ false → unmarked k ≡ false
not-unmarked k t e h = sym e ∙ h

pub flat-marked : (k : Kind) (f : Flat) → k ≡ OfFlat f → unmarked k ≡ false → flat_unmarked f ≡ false
unfolding unmarked
flat-marked k f e h = subst (λ (q : Kind). unmarked q ≡ false) e h

pub flat_scalar : (k : Kind) (f : Flat) → k ≡ OfFlat f → NoStruct k → FlatScalar f
flat_scalar k f e h = subst NoStruct e h
