-- The ways out of the pass over direct lists, one lemma for each.
use mathlib.Core.Path.{◌≡◌, refl, sym, ap, ◌∙◌, subst}
use mathlib.Core.List.{List}
use Rattle.std.specs.Prelude.{Option, Some, None}
use Prim.Native.Nat.{ℕ, suc, ◌+◌, ◌-◌, ◌*◌, ◌<◌, ◌≤◌}
use native.Mathlib.Omega.{arith}
use lib.ListN.{drop}
use Rattle.coding.specs.Bits.{bits}
use Rattle.coding.specs.Schema.{Schema}
use Rattle.coding.specs.Sheet.{Parsed, fail, got, bind, take_number}
use Rattle.coding.specs.declared.Object.TheVariants as O
use Rattle.bitio.specs.Taken.{NumberAt}
use Rattle.bitio.specs.declared.Number.{Number}
use Rattle.write_measure.specs.Survey.{Surveyor, survey}
use Rattle.write_store.specs.State.{State, enter_part, leave_part}
use Rattle.write_store.specs.Storing.{state_of, entered_part, left_part, Stood}
use Rattle.write_store.specs.declared.Places.{Places}
use Rattle.write_pass.specs.EmitSheet.{Emitter, direct_head, emit_direct, emit_directs, emit_content, emit}
use Rattle.write_pass.specs.Emitting.{given, Room, EmittedAt}
use Rattle.write_pass.specs.declared.Emitted.{Emitted}
use Rattle.write_pass.proofs.EmitRoom.{taken_at, none_taken, some_taken, room_stood, refused, arrived, later, Going, begun, ended, stopped, turned}
use Rattle.write_pass.proofs.EmitObjectCases.{content-table}

-- ---- an element
pub direct_room : (s : List ℕ) (from : Emitted) → Room s from → (p : Places) → p ≡ entered_part from.places → (y : Emitted) → y ≡ record { places = p; next = from.next } → Room s y
unfolding entered_part
direct_room s from room p e y ey =
    rw (ey, e) (record { short = room.short; here = room.here; at = room.at; bool = record { free = omega arith; held = omega arith }; tail = room.tail; next = room.next })

module _ (o d : ℕ) (S : Schema) (s : List ℕ) (t : ℕ) (from : Emitted) (out : List ℕ) where
  pub direct_deep : d ≡ 0 → EmittedAt s (emit_direct (emit d o S) t (state_of from.places out) (drop from.next (bits s))) from 0 None out
  unfolding emit_direct emit bind
  direct_deep z = refused s _ from 0 (rw z refl) None refl out

  module _ (h : d ≡ 0 → ⊥) (p : Places) (ep : p ≡ entered_part from.places) (g : Emitted) (eg : g ≡ record { places = p; next = from.next }) (out₁ : List ℕ) where
    abbrev behind : Parsed State → Parsed State
    behind r = bind r (λ inner ys. got (leave_part (state_of from.places out) inner) ys)

    abbrev within : Option Emitted → Type 0
    within r = EmittedAt s (emit_content (emit (d - 1) o S) (survey (d - 1) o S) o S (O.Table t) (state_of g.places out) (drop g.next (bits s))) g 0 r out₁

    direct_is : (r : Option Emitted) → within r → emit_direct (emit d o S) t (state_of from.places out) (drop from.next (bits s)) ≡ behind (given s out₁ r)
    unfolding emit_direct enter_part entered_part
    direct_is r em =
        ap (λ (q : Places). behind (emit d o S (O.Table t) (state_of q out) (drop from.next (bits s)))) (sym ep)
        ∙ ap (λ (z : Emitted). behind (emit d o S (O.Table t) (state_of z.places out) (drop z.next (bits s)))) (sym eg)
        ∙ ap behind (content-table o d S s (O.Table t) g out r out₁ h t t refl refl em).is

    pub direct-cut : within None → (r : Option Emitted) → r ≡ None → EmittedAt s (emit_direct (emit d o S) t (state_of from.places out) (drop from.next (bits s))) from 0 r out₁
    unfolding bind
    direct-cut em r er = refused s _ from 0 (direct_is None em) r er out₁

    pub direct_done : Room s from → (y : Emitted) → within (Some y) → (k : Places) → k ≡ left_part from.places y.places → (z : Emitted) → z ≡ record { places = k; next = y.next }
        → EmittedAt s (emit_direct (emit d o S) t (state_of from.places out) (drop from.next (bits s))) from 0 (Some z) out₁
    unfolding bind leave_part left_part entered_part
    direct_done room y em k ek z ez =
        let i = em.reached in
        let a = i.at in
        let b = ap (λ (q : Places). q.at) ep in
        let e = ap (λ (v : Emitted). v.places.at) eg in
        let f = ap (λ (v : Emitted). v.next) eg in
        let l : y.places.at + 8192 * from.next ≤ from.places.at + 0 + 8192 * y.next = omega arith in
        arrived s _ from 0 (record { places = left_part from.places y.places; next = y.next }) out₁ (direct_is (Some y) em)
        (record { here = i.here; at = l; bool = record { free = room.bool.free; held = room.bool.held }; tail = i.tail; next = i.next })
        z (ez ∙ ap (λ (q : Places). record { places = q; next = y.next }) ek)

-- ---- the elements
module _ (o : ℕ) (child : Emitter) (measure : Surveyor) (S : Schema) (s : List ℕ) (t : ℕ) (from : Emitted) (out : List ℕ) where
  pub directs-cut : take_number 32 (drop from.next (bits s)) ≡ fail → (r : Option Emitted) → r ≡ None
      → EmittedAt s (emit_content child measure o S (O.DirectList t) (state_of from.places out) (drop from.next (bits s))) from 0 r out
  unfolding emit_content
  directs-cut h r er = refused s _ from 0 (none_taken _ 32 _ h) r er out

  -- behind the count and what the header says of them
  pub directs-listed : Room s from → (x : Number) → NumberAt s from.next 32 x → (p : Places) (out₁ : List ℕ) → Stood 8 (direct_head o S t (state_of from.places out)) (state_of p out₁) from.places p
      → (g : Emitted) → g ≡ record { places = p; next = x.next } → (n : ℕ) → n ≡ x.value → (r : Option Emitted) (out₂ : List ℕ)
      → EmittedAt s (emit_directs child t n (state_of g.places out₁) (drop g.next (bits s))) g 0 r out₂
      → EmittedAt s (emit_content child measure o S (O.DirectList t) (state_of from.places out) (drop from.next (bits s))) from 0 r out₂
  unfolding emit_content
  directs-listed room x taken p out₁ st g eg n en r out₂ em =
      let e = taken_at s from.next 32 x taken room.here in
      let f = st.at in
      let l : p.at + 0 + 8192 * from.next ≤ from.places.at + 0 + 8192 * x.next = omega arith in
      later s _ from 0 _ (some_taken _ s from.next 32 x taken) (record { places = p; next = x.next }) 0 l r out₂
      (subst (λ (z : State). EmittedAt s (emit_directs child t x.value z (drop x.next (bits s))) (record { places = p; next = x.next }) 0 r out₂) st.is
      (subst (λ (z : Emitted). EmittedAt s (emit_directs child t x.value (state_of z.places out₁) (drop z.next (bits s))) z 0 r out₂) eg
      (subst (λ (m : ℕ). EmittedAt s (emit_directs child t m (state_of g.places out₁) (drop g.next (bits s))) g 0 r out₂) en em)))

-- the count pays for what the header says of the elements
pub directs_room : (s : List ℕ) (from : Emitted) → Room s from → (x : Number) → NumberAt s from.next 32 x
    → (put now : State) (p : Places) → Stood 8 put now from.places p → (y : Emitted) → y ≡ record { places = p; next = x.next } → Room s y
directs_room s from room x taken put now p st = room_stood s from room 32 x taken 8 (omega arith) put now p st

-- from element j on
module _ (child : Emitter) (t n : ℕ) where
  pub directs_start : (s : List ℕ) (from : Emitted) (out : List ℕ) → Room s from
      → Going s (emit_directs child t n (state_of from.places out) (drop from.next (bits s))) from (emit_directs child t (n - 0)) from out
  directs_start s from out room =
      let e : n ≡ n - 0 = omega arith in
      begun s _ from _ out room (ap (λ (y : ℕ). emit_directs child t y (state_of from.places out) (drop from.next (bits s))) e)

  module _ (s : List ℕ) (D : Parsed State) (from at : Emitted) (out : List ℕ) (j : ℕ) (go : Going s D from (emit_directs child t (n - j)) at out) where
    pub directs_done : n ≤ j → (y : Emitted) → y ≡ at → EmittedAt s D from 0 (Some y) out
    unfolding emit_directs
    directs_done h y ey = let z : n - j ≡ 0 = omega arith in ended s D from _ at out go (λ st xs. ap (λ (m : ℕ). emit_directs child t m st xs) z) y ey

    module _ (h : j < n) (out₁ : List ℕ) where
      on : (st : State) (xs : List ℕ) → emit_directs child t (n - j) st xs ≡ bind (emit_direct child t st xs) (emit_directs child t (n - (j + 1)))
      unfolding emit_directs
      on st xs = let z : n - j ≡ suc (n - (j + 1)) = omega arith in ap (λ (m : ℕ). emit_directs child t m st xs) z

      pub directs_stopped : EmittedAt s (emit_direct child t (state_of at.places out) (drop at.next (bits s))) at 0 None out₁ → (r : Option Emitted) → r ≡ None → EmittedAt s D from 0 r out₁
      directs_stopped u r er = stopped s D from _ at out go (emit_direct child t) _ on out₁ u r er

      pub directs_turn : (x : Emitted) → EmittedAt s (emit_direct child t (state_of at.places out) (drop at.next (bits s))) at 0 (Some x) out₁ → (y : Emitted) → y ≡ x
          → Going s D from (emit_directs child t (n - (j + 1))) y out₁
      directs_turn x u y ey = turned s D from _ at out go (emit_direct child t) _ on out₁ x u y ey
