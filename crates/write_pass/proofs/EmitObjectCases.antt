-- The ways out of the pass over objects, one lemma for each.
use mathlib.Core.Path.{◌≡◌, refl, sym, ap, ◌∙◌, subst}
use mathlib.Core.Bool.{Bool, true, false}
use mathlib.Core.List.{List, [], ◌∷◌}
use Rattle.std.specs.Prelude.{Option, Some, None}
use Prim.Native.Nat.{ℕ, zero, suc, ◌+◌, ◌-◌, ◌*◌, ◌<◌, ◌≤◌}
use native.Mathlib.Omega.{arith}
use native.Mathlib.Numerals.{add-one, sub-one}
use lib.ListN.{length, drop, drop_of_length-le}
use lib.Seq.{drop-cons}
use Rattle.coding.specs.Bits.{bits}
use Rattle.coding.specs.Packed.{parse}
use Rattle.coding.specs.Schema as Sc
use Rattle.coding.specs.Schema.{Schema}
use Rattle.coding.specs.Sheet.{Parsed, fail, got, bind, take_number, unmarked, flat_unmarked}
use Rattle.coding.specs.declared.Flat.{Flat}
use Rattle.coding.specs.declared.Object.{Object}
use Rattle.coding.specs.declared.Object.TheVariants as O
use Rattle.coding.specs.declared.Kind.{Kind}
use Rattle.coding.specs.declared.Kind.TheVariants.{OfFlat, OfObject}
use Rattle.coding.specs.declared.Member.{Member}
use Rattle.laws.specs.Sound.{FlatSound, ObjectSound, KindSound, FlatScalar, NoStruct}
use Rattle.schema.specs.Directory.{Accepted, accepted_sound}
use Rattle.write_measure.proofs.ObjectCases.{element_sound}
use Rattle.bitio.specs.Taken.{NumberAt}
use Rattle.bitio.specs.declared.Number.{Number}
use Rattle.write_measure.specs.Survey.{Surveyor, survey}
use Rattle.write_measure.specs.declared.Extent.{Extent}
use Rattle.write_store.specs.State.{State}
use Rattle.write_pass.specs.EmitSheet.{Emitter, emit_refer, emit_element, emit_members, emit_elements, emit_blob, emit_content, emit}
use Rattle.write_pass.specs.EmitObjects.{emit_fails}
use Rattle.write_pass.specs.EmitRun.{emit_flats, flats-run}
use Rattle.write_pass.specs.Measure.{Measured}
use Rattle.write_store.specs.Storing.{state_of, Stood}
use Rattle.schema.specs.Kinds.{is_blob}
use Rattle.write_pass.specs.Emitting.{closed, referred, opened, emit_member, Room, EmittedAt, Opens, emit_unflagged, is_terminal}
use Rattle.write_store.specs.declared.Places.{Places}
use Rattle.write_pass.specs.declared.Emitted.{Emitted}
use Rattle.write_pass.proofs.OpenCases.{no_other}
use Rattle.write_pass.proofs.EmitRoom.{taken_at, none_taken, some_taken, refused, later, same, Going, begun, ended, stopped, turned}
use Rattle.write_pass.proofs.EmitRest.{emitted_on}
use Rattle.write_pass.proofs.EmitPartCases.{refer-unlawful, refer-closed, terminal-refers, unflagged-member, flat-marked, flat_scalar}

-- ---- an object that is referred to: its content goes forward in the sheet
module _ (o d : ℕ) (b dir : List ℕ) (a : Accepted b dir) (s : List ℕ) (inplace : Bool) (ob : Object) (from : Emitted) (out : List ℕ) (room : Room s from)
    (x : Extent) (m : Measured inplace (survey d o (parse b) ob (drop from.next (bits s))) x)
    (p : Places) (out₁ : List ℕ) (st : Stood o (referred o inplace x (state_of from.places out)) (state_of p out₁) from.places p)
    (q : Places) (out₂ : List ℕ) (op : Opens o (opened o (parse b) ob inplace x (state_of p out₁)) (state_of q out₂) q)
    (g : Emitted) (eg : g ≡ record { places = q; next = from.next }) (out₃ : List ℕ) where
  fails : (u : State) → survey d o (parse b) ob (drop from.next (bits s)) ≡ fail → emit d o (parse b) ob u (drop from.next (bits s)) ≡ fail
  fails u e = emit_fails o (parse b) (accepted_sound b dir a) d ob u (drop from.next (bits s)) e

  pub refer-cut : EmittedAt s (emit d o (parse b) ob (state_of g.places out₂) (drop g.next (bits s))) g 0 None out₃ → (r : Option Emitted) → r ≡ None
      → EmittedAt s (emit_refer (emit d o (parse b)) (survey d o (parse b)) o (parse b) inplace ob (state_of from.places out) (drop from.next (bits s))) from o r out₃
  refer-cut t r er =
      refer-unlawful o (emit d o (parse b)) (survey d o (parse b)) (parse b) s inplace ob from out room x m fails p out₁ st q out₂ op g eg out₃ t r er

  pub refer_done : (y : Emitted) → EmittedAt s (emit d o (parse b) ob (state_of g.places out₂) (drop g.next (bits s))) g 0 (Some y) out₃
      → (k : Places) → k ≡ closed inplace p y.places → (z : Emitted) → z ≡ record { places = k; next = y.next }
      → EmittedAt s (emit_refer (emit d o (parse b)) (survey d o (parse b)) o (parse b) inplace ob (state_of from.places out) (drop from.next (bits s))) from o (Some z) out₃
  refer_done y t k ek z ez =
      let n = ap (λ (v : Emitted). v.next) eg in
      let h = room.here in
      let on = emitted_on d o (parse b) s ob (state_of g.places out₂) g g 0 y out₃ t (omega arith) in
      refer-closed o (emit d o (parse b)) (survey d o (parse b)) (parse b) s inplace ob from out room x m fails p out₁ st q out₂ op g eg out₃ y t (omega arith) k ek z ez

-- ---- the members of a table
module _ (o : ℕ) (child : Emitter) (measure : Surveyor) (S : Schema) (t : ℕ) where
  abbrev members : List Member
  members = (Sc.table_of S t).members

  pub members_start : (s : List ℕ) (from : Emitted) (out : List ℕ) → Room s from
      → Going s (emit_content child measure o S (O.Table t) (state_of from.places out) (drop from.next (bits s))) from (emit_members child measure o S (drop 0 members)) from out
  unfolding emit_content
  members_start s from out room = begun s _ from (emit_members child measure o S (drop 0 members)) out room refl

  -- from member j on
  module _ (s : List ℕ) (D : Parsed State) (from at : Emitted) (out : List ℕ) (j : ℕ) (go : Going s D from (emit_members child measure o S (drop j members)) at out)
      (count : ℕ) (ec : count ≡ length members) where
    pub members_done : count ≤ j → (y : Emitted) → y ≡ at → EmittedAt s D from 0 (Some y) out
    unfolding emit_members
    members_done h y ey =
        let l : length members ≤ j = omega arith in
        ended s D from _ at out go (λ st xs. ap (λ (ms : List Member). emit_members child measure o S ms st xs) (drop_of_length-le members l)) y ey

    module _ (h : j < count) (r : Member) (er : r ≡ Sc.member_of S t j) (out₁ : List ℕ) where
      turn : (st : State) (xs : List ℕ) → emit_members child measure o S (drop j members) st xs
          ≡ bind (emit_member child measure o S r st xs) (emit_members child measure o S (drop (j + 1) members))
      unfolding emit_members emit_member Sc.member_of
      turn st xs =
          let l : j < length members = omega arith in
          ap (λ (ms : List Member). emit_members child measure o S ms st xs) (drop-cons members j Sc.plain_bool l)
          ∙ ap (λ (m : Member). bind (emit_member child measure o S m st xs) (emit_members child measure o S (drop (suc j) members))) (sym er)
          ∙ ap (λ (m : ℕ). bind (emit_member child measure o S r st xs) (emit_members child measure o S (drop m members))) (sym (add-one j))

      pub members_stopped : EmittedAt s (emit_member child measure o S r (state_of at.places out) (drop at.next (bits s))) at 0 None out₁ → (z : Option Emitted) → z ≡ None
          → EmittedAt s D from 0 z out₁
      members_stopped u z ez = stopped s D from _ at out go (emit_member child measure o S r) _ turn out₁ u z ez

      pub members_turn : (x : Emitted) → EmittedAt s (emit_member child measure o S r (state_of at.places out) (drop at.next (bits s))) at 0 (Some x) out₁ → (y : Emitted) → y ≡ x
          → Going s D from (emit_members child measure o S (drop (j + 1) members)) y out₁
      members_turn x u y ey = turned s D from _ at out go (emit_member child measure o S r) _ turn out₁ x u y ey

      -- a member that leads to an object
      module _ (far : Bool) (ef : far ≡ is_terminal r.kind r.inplace) (left : far ≡ false) where
        flagless : (z : Option Emitted) → EmittedAt s (emit_unflagged child measure o S r.kind r.inplace (state_of at.places out) (drop at.next (bits s))) at 0 z out₁
            → EmittedAt s (emit_member child measure o S r (state_of at.places out) (drop at.next (bits s))) at 0 z out₁
        flagless z u = unflagged-member o child measure S s r (terminal-refers r.kind r.inplace far ef left) (state_of at.places out) (drop at.next (bits s)) at z out₁ u

        pub refers_stopped : EmittedAt s (emit_unflagged child measure o S r.kind r.inplace (state_of at.places out) (drop at.next (bits s))) at 0 None out₁
            → (z : Option Emitted) → z ≡ None → EmittedAt s D from 0 z out₁
        refers_stopped u z ez = members_stopped (flagless None u) z ez

        pub refers_turn : (x : Emitted) → EmittedAt s (emit_unflagged child measure o S r.kind r.inplace (state_of at.places out) (drop at.next (bits s))) at 0 (Some x) out₁
            → (y : Emitted) → y ≡ x → Going s D from (emit_members child measure o S (drop (j + 1) members)) y out₁
        refers_turn x u y ey = members_turn x (flagless (Some x) u) y ey

-- ---- the elements of a list
module _ (o : ℕ) (child : Emitter) (measure : Surveyor) (S : Schema) (s : List ℕ) (i : ℕ) (from : Emitted) (out : List ℕ) where
  abbrev listed : Option Emitted → List ℕ → Type 0
  listed r out₁ = EmittedAt s (emit_content child measure o S (O.List i) (state_of from.places out) (drop from.next (bits s))) from 0 r out₁

  pub elements-cut : take_number 32 (drop from.next (bits s)) ≡ fail → (r : Option Emitted) → r ≡ None → listed r out
  unfolding emit_content
  elements-cut h r er = refused s _ from 0 (none_taken _ 32 _ h) r er out

  module _ (room : Room s from) (x : Number) (taken : NumberAt s from.next 32 x) (g : Emitted) (eg : g ≡ record { places = from.places; next = x.next }) (n : ℕ) (en : n ≡ x.value)
      (r : Option Emitted) (out₁ : List ℕ) where
    -- they are those of a list
    pub list-elements : (k : Kind) → k ≡ Sc.element_of S i → EmittedAt s (emit_elements child measure o S k n (state_of g.places out) (drop g.next (bits s))) g 0 r out₁ → listed r out₁
    unfolding emit_content
    list-elements k ek em =
        let e = taken_at s from.next 32 x taken room.here in
        let l : from.places.at + 0 + 8192 * from.next ≤ from.places.at + 0 + 8192 * x.next = omega arith in
        later s _ from 0 _ (some_taken _ s from.next 32 x taken) (record { places = from.places; next = x.next }) 0 l r out₁
        (subst (λ (j : Kind). EmittedAt s (emit_elements child measure o S j x.value (state_of from.places out) (drop x.next (bits s))) (record { places = from.places; next = x.next }) 0 r out₁) ek
        (subst (λ (z : Emitted). EmittedAt s (emit_elements child measure o S k x.value (state_of z.places out) (drop z.next (bits s))) z 0 r out₁) eg
        (subst (λ (m : ℕ). EmittedAt s (emit_elements child measure o S k m (state_of g.places out) (drop g.next (bits s))) g 0 r out₁) en em)))

    pub list_objects : (k : Kind) → k ≡ Sc.element_of S i → (ob : Object) → k ≡ OfObject ob
        → EmittedAt s (emit_elements child measure o S (OfObject ob) n (state_of g.places out) (drop g.next (bits s))) g 0 r out₁ → listed r out₁
    list_objects k ek ob eo em = list-elements (OfObject ob) (sym eo ∙ ek) em

    pub list_flats : (k : Kind) → k ≡ Sc.element_of S i → (f : Flat) → k ≡ OfFlat f → (t : Bool) → t ≡ unmarked k → t ≡ false
        → EmittedAt s (emit_flats S f n (state_of g.places out) (drop g.next (bits s))) g 0 r out₁ → listed r out₁
    list_flats k ek f ef t et h em =
        list-elements (OfFlat f) (sym ef ∙ ek) (same s _ g 0 _ (flats-run child measure o S f (flat-marked k f ef (sym et ∙ h)) n (state_of g.places out) (drop g.next (bits s))) r out₁ em)

pub element_scalar : (b dir : List ℕ) → Accepted b dir → (i : ℕ) (k : Kind) → k ≡ Sc.element_of (parse b) i → NoStruct k
element_scalar b dir a i k e = rw e ((accepted_sound b dir a).lists i).scalar

pub element-object : (b dir : List ℕ) → Accepted b dir → (i : ℕ) (k : Kind) → k ≡ Sc.element_of (parse b) i → (ob : Object) → k ≡ OfObject ob → ObjectSound (parse b) ob
element-object b dir a i k e ob eo = subst (KindSound (parse b)) eo (element_sound b dir a i k e)

-- of a flat kind that has a mark
module _ (b dir : List ℕ) (a : Accepted b dir) (i : ℕ) (k : Kind) (e : k ≡ Sc.element_of (parse b) i) (f : Flat) (ef : k ≡ OfFlat f) where
  pub element-flat_sound : FlatSound (length (parse b).structs) f
  element-flat_sound = subst (KindSound (parse b)) ef (element_sound b dir a i k e)

  pub element-flat_scalar : FlatScalar f
  element-flat_scalar = flat_scalar k f ef (element_scalar b dir a i k e)

pub element-flat-marked : (k : Kind) (f : Flat) → k ≡ OfFlat f → (t : Bool) → t ≡ unmarked k → t ≡ false → flat_unmarked f ≡ false
element-flat-marked k f ef t e h = flat-marked k f ef (sym e ∙ h)

-- from element j on
module _ (o : ℕ) (child : Emitter) (measure : Surveyor) (S : Schema) (k : Kind) (n : ℕ) where
  pub elements_start : (s : List ℕ) (from : Emitted) (out : List ℕ) → Room s from
      → Going s (emit_elements child measure o S k n (state_of from.places out) (drop from.next (bits s))) from (emit_elements child measure o S k (n - 0)) from out
  elements_start s from out room =
      let e : n ≡ n - 0 = omega arith in
      begun s _ from _ out room (ap (λ (y : ℕ). emit_elements child measure o S k y (state_of from.places out) (drop from.next (bits s))) e)

  module _ (s : List ℕ) (D : Parsed State) (from at : Emitted) (out : List ℕ) (j : ℕ) (go : Going s D from (emit_elements child measure o S k (n - j)) at out) where
    pub elements_done : n ≤ j → (y : Emitted) → y ≡ at → EmittedAt s D from 0 (Some y) out
    unfolding emit_elements
    elements_done h y ey = let z : n - j ≡ 0 = omega arith in ended s D from _ at out go (λ st xs. ap (λ (m : ℕ). emit_elements child measure o S k m st xs) z) y ey

    module _ (h : j < n) (out₁ : List ℕ) where
      on : (st : State) (xs : List ℕ) → emit_elements child measure o S k (n - j) st xs ≡ bind (emit_element child measure o S k st xs) (emit_elements child measure o S k (n - (j + 1)))
      unfolding emit_elements
      on st xs = let z : n - j ≡ suc (n - (j + 1)) = omega arith in ap (λ (m : ℕ). emit_elements child measure o S k m st xs) z

      pub elements_stopped : EmittedAt s (emit_element child measure o S k (state_of at.places out) (drop at.next (bits s))) at 0 None out₁ → (r : Option Emitted) → r ≡ None
          → EmittedAt s D from 0 r out₁
      elements_stopped u r er = stopped s D from _ at out go (emit_element child measure o S k) _ on out₁ u r er

      pub elements_turn : (x : Emitted) → EmittedAt s (emit_element child measure o S k (state_of at.places out) (drop at.next (bits s))) at 0 (Some x) out₁ → (y : Emitted) → y ≡ x
          → Going s D from (emit_elements child measure o S k (n - (j + 1))) y out₁
      elements_turn x u y ey = turned s D from _ at out go (emit_element child measure o S k) _ on out₁ x u y ey

-- ---- an object's content
module _ (o d : ℕ) (S : Schema) (s : List ℕ) (ob : Object) (from : Emitted) (out : List ℕ) (r : Option Emitted) (out₁ : List ℕ) where
  pub content_deep : d ≡ 0 → r ≡ None → EmittedAt s (emit d o S ob (state_of from.places out) (drop from.next (bits s))) from 0 r out₁
  unfolding emit
  content_deep z er = refused s _ from 0 (rw z refl) r er out₁

  module _ (h : d ≡ 0 → ⊥) where
    content : EmittedAt s (emit_content (emit (d - 1) o S) (survey (d - 1) o S) o S ob (state_of from.places out) (drop from.next (bits s))) from 0 r out₁
        → EmittedAt s (emit d o S ob (state_of from.places out) (drop from.next (bits s))) from 0 r out₁
    unfolding emit
    content t = by d h t
      where
        by : (k : ℕ) → (k ≡ 0 → ⊥) → EmittedAt s (emit_content (emit (k - 1) o S) (survey (k - 1) o S) o S ob (state_of from.places out) (drop from.next (bits s))) from 0 r out₁
            → EmittedAt s (emit k o S ob (state_of from.places out) (drop from.next (bits s))) from 0 r out₁
        by zero f p = absurd (f refl)
        by (suc k) f p = rw sub-one at p

    pub content-text : ob ≡ O.Text → EmittedAt s (emit_blob (0 ∷ []) (state_of from.places out) (drop from.next (bits s))) from 0 r out₁
        → EmittedAt s (emit d o S ob (state_of from.places out) (drop from.next (bits s))) from 0 r out₁
    unfolding emit_content
    content-text eo t = content (rw eo t)

    pub content_bytes : ob ≡ O.Bytes → EmittedAt s (emit_blob [] (state_of from.places out) (drop from.next (bits s))) from 0 r out₁
        → EmittedAt s (emit d o S ob (state_of from.places out) (drop from.next (bits s))) from 0 r out₁
    unfolding emit_content
    content_bytes eo t = content (rw eo t)

    pub content_list : (i j : ℕ) → ob ≡ O.List i → j ≡ i
        → EmittedAt s (emit_content (emit (d - 1) o S) (survey (d - 1) o S) o S (O.List j) (state_of from.places out) (drop from.next (bits s))) from 0 r out₁
        → EmittedAt s (emit d o S ob (state_of from.places out) (drop from.next (bits s))) from 0 r out₁
    content_list i j eo ej t =
        content (rw eo (subst (λ (a : ℕ). EmittedAt s (emit_content (emit (d - 1) o S) (survey (d - 1) o S) o S (O.List a) (state_of from.places out) (drop from.next (bits s))) from 0 r out₁) ej t))

    pub content-table : (i j : ℕ) → ob ≡ O.Table i → j ≡ i
        → EmittedAt s (emit_content (emit (d - 1) o S) (survey (d - 1) o S) o S (O.Table j) (state_of from.places out) (drop from.next (bits s))) from 0 r out₁
        → EmittedAt s (emit d o S ob (state_of from.places out) (drop from.next (bits s))) from 0 r out₁
    content-table i j eo ej t =
        content (rw eo (subst (λ (a : ℕ). EmittedAt s (emit_content (emit (d - 1) o S) (survey (d - 1) o S) o S (O.Table a) (state_of from.places out) (drop from.next (bits s))) from 0 r out₁) ej t))

    pub content-direct : (i j : ℕ) → ob ≡ O.DirectList i → j ≡ i
        → EmittedAt s (emit_content (emit (d - 1) o S) (survey (d - 1) o S) o S (O.DirectList j) (state_of from.places out) (drop from.next (bits s))) from 0 r out₁
        → EmittedAt s (emit d o S ob (state_of from.places out) (drop from.next (bits s))) from 0 r out₁
    content-direct i j eo ej t =
        content (rw eo (subst (λ (a : ℕ). EmittedAt s (emit_content (emit (d - 1) o S) (survey (d - 1) o S) o S (O.DirectList a) (state_of from.places out) (drop from.next (bits s))) from 0 r out₁) ej t))

-- of a text or bytes
module _ (o d : ℕ) (S : Schema) (s : List ℕ) (ob : Object) (h : is_blob ob ≡ true) (st : State) (from : Emitted) (r : Option Emitted) (out₁ : List ℕ) where
  pub content_no_other : (ob ≡ O.Text → ⊥) → (ob ≡ O.Bytes → ⊥) → EmittedAt s (emit d o S ob st (drop from.next (bits s))) from 0 r out₁
  content_no_other no_text no_bytes = absurd (no_other ob h no_text no_bytes)
