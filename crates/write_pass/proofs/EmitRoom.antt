-- What the pass pays for its stores with: the bits of the sheet that were taken.
use mathlib.Core.Path.{◌≡◌, refl, sym, ap, ◌∙◌, subst}
use mathlib.Core.Bool.{Bool, true, false, false≢true}
use mathlib.Core.List.{List, []}
use Rattle.std.specs.Prelude.{Option, Some, None, IfSome}
use Prim.Native.Nat.{ℕ, ◌+◌, ◌*◌, ◌^◌, ◌<◌, ◌≤◌}
use native.Mathlib.Omega.{arith}
use lib.ListN.{length, take, drop, length-drop}
use lib.Dec.{leb, eqb}
use borrow.Author.Tests.{leb-true}
use Rattle.coding.specs.Lists.{pick}
use Rattle.coding.specs.Bits.{bits, value}
use Rattle.coding.specs.Sheet.{Parsed, fail, got, bind, take_number}
use Rattle.coding.specs.declared.Kind.{Kind}
use Rattle.coding.specs.declared.Kind.TheVariants.{OfFlat, OfObject, OfUnion}
use Rattle.laws.specs.Bits.{bits-length}
use Rattle.bitio.specs.Taken.{NumberAt}
use Rattle.bitio.specs.declared.Number.{Number}
use Rattle.write_measure.specs.Survey.{head_size}
use Rattle.write_measure.specs.Marks.{mark_of, MarkedAt}
use Rattle.write_measure.specs.declared.Mark.{Mark}
use Rattle.write_measure.specs.declared.Mark.TheVariants as Mark
use Rattle.write_measure.specs.declared.Marked.{Marked}
use Rattle.write_store.specs.State.{State}
use Rattle.write_store.specs.Storing.{state_of, HeldOk, Stood, BitPut}
use Rattle.write_store.specs.declared.Places.{Places}
use Rattle.write_pass.specs.Emitting.{Room, Reached, EmittedAt, Lacks, Absent, Opens, extra}
use Rattle.write_pass.specs.declared.Emitted.{Emitted}

-- ---- where the sheet goes on
abbrev pub remains : {A : Type 0} → Parsed A → List ℕ
remains fail = []
remains (got a xs) = xs

abbrev pub whether : {A : Type 0} → Parsed A → Bool
whether fail = false
whether (got a xs) = true

pub taken_at : (s : List ℕ) (pos w : ℕ) (x : Number) → NumberAt s pos w x → pos ≤ 8 * length s → x.next ≡ pos + w
unfolding take_number
taken_at s pos w x t l = by (leb w (length (drop pos (bits s)))) refl t.number
  where
    by : (u : Bool) → leb w (length (drop pos (bits s))) ≡ u
        → pick u (got (value (take w (drop pos (bits s)))) (drop w (drop pos (bits s)))) fail ≡ got x.value (drop x.next (bits s)) → x.next ≡ pos + w
    by false e f = absurd (false≢true (ap whether f))
    by true e f =
        let m : w ≤ length (drop pos (bits s)) = leb-true w (length (drop pos (bits s))) e in
        let k : length (drop w (drop pos (bits s))) ≡ length (drop x.next (bits s)) = ap (λ (p : Parsed ℕ). length (remains p)) f in
        let i = t.inside in
        let a = length-drop w (drop pos (bits s)) in
        let b = length-drop pos (bits s) in
        let c = length-drop x.next (bits s) in
        let n = bits-length s in
        omega arith

-- what goes on behind a number
module _ {A : Type 0} (k : ℕ → List ℕ → Parsed A) where
  pub none_taken : (w : ℕ) (xs : List ℕ) → take_number w xs ≡ fail → bind (take_number w xs) k ≡ fail
  unfolding bind
  none_taken w xs h = ap (λ d. bind d k) h

  pub some_taken : (s : List ℕ) (pos w : ℕ) (x : Number) → NumberAt s pos w x → bind (take_number w (drop pos (bits s))) k ≡ k x.value (drop x.next (bits s))
  unfolding bind
  some_taken s pos w x t = ap (λ d. bind d k) t.number

-- behind a mark
pub marked_at : (s : List ℕ) (pos : ℕ) (m : Marked) → MarkedAt s pos m → pos ≤ 8 * length s → m.next ≡ pos + 2
unfolding mark_of take_number bind
marked_at s pos m t l = by (leb 2 (length (drop pos (bits s)))) refl t.is
  where
    left : (n : ℕ) (a b c : Bool) (ys : List ℕ) → ◌≡◌ {A = Parsed Mark} (pick a (got Mark.Absent ys) (pick b (got Mark.Present ys) (pick c (got Mark.Unknown ys) fail))) (got m.mark (drop m.next (bits s)))
        → length ys ≡ length (drop m.next (bits s))
    left n true b c ys e = ap (λ (p : Parsed Mark). length (remains p)) e
    left n false true c ys e = ap (λ (p : Parsed Mark). length (remains p)) e
    left n false false true ys e = ap (λ (p : Parsed Mark). length (remains p)) e
    left n false false false ys e = absurd (false≢true (ap whether e))

    by : (u : Bool) → leb 2 (length (drop pos (bits s))) ≡ u
        → bind (pick u (got (value (take 2 (drop pos (bits s)))) (drop 2 (drop pos (bits s)))) fail)
        (λ n ys. pick (eqb n 0) (got Mark.Absent ys) (pick (eqb n 1) (got Mark.Present ys) (pick (eqb n 2) (got Mark.Unknown ys) fail)))
        ≡ got m.mark (drop m.next (bits s)) → m.next ≡ pos + 2
    by false e f = absurd (false≢true (ap whether f))
    by true e f =
        let n = value (take 2 (drop pos (bits s))) in
        let g : 2 ≤ length (drop pos (bits s)) = leb-true 2 (length (drop pos (bits s))) e in
        let k = left n (eqb n 0) (eqb n 1) (eqb n 2) (drop 2 (drop pos (bits s))) f in
        let i = t.inside in
        let a = length-drop 2 (drop pos (bits s)) in
        let b = length-drop pos (bits s) in
        let c = length-drop m.next (bits s) in
        let z = bits-length s in
        omega arith

-- ---- places from which there is room
pub held_same : (c p : Places) → HeldOk c → p.free ≡ c.free → p.held ≡ c.held → HeldOk p
held_same c p ok e f = record { free = rw e ok.free; held = rw (e, f) ok.held }

-- where w bits more of the sheet were taken
module _ (s : List ℕ) (from : Emitted) (room : Room s from) (w next : ℕ) (e : next ≡ from.next + w) (i : next ≤ 8 * length s) where
  goes : Room s (record { places = from.places; next = next })
  goes = let a = room.at in record { short = room.short; here = i; at = omega arith; bool = room.bool; tail = room.tail; next = room.next }

  pub goes_stood : (n : ℕ) → n ≤ 8192 * w → (put now : State) (p : Places) → Stood n put now from.places p → Room s (record { places = p; next = next })
  goes_stood n l put now p t =
      let a = room.at in
      let f = t.at in
      record { short = room.short; here = i; at = omega arith; bool = held_same from.places p room.bool t.free t.held; tail = rw t.tail room.tail; next = rw t.next room.next }

  pub goes_bit : 1 ≤ w → (put now : State) (p : Places) → BitPut put now from.places p → Room s (record { places = p; next = next })
  goes_bit l put now p t =
      let a = room.at in
      let f = t.at in
      record { short = room.short; here = i; at = omega arith; bool = t.bool; tail = rw t.tail room.tail; next = rw t.next room.next }

  goes_absent : 1 ≤ w → (put now : State) (p : Places) → Absent put now from.places p → Room s (record { places = p; next = next })
  goes_absent l put now p t =
      let a = room.at in
      let f = t.at in
      record { short = room.short; here = i; at = omega arith; bool = t.bool; tail = rw t.tail room.tail; next = rw t.next room.next }

-- behind a number
module _ (s : List ℕ) (from : Emitted) (room : Room s from) (w : ℕ) (x : Number) (taken : NumberAt s from.next w x) where
  pub room_taken : (y : Emitted) → y ≡ record { places = from.places; next = x.next } → Room s y
  room_taken y ey = rw ey (goes s from room w x.next (taken_at s from.next w x taken room.here) taken.inside)

  pub room_stood : (n : ℕ) → n ≤ 8192 * w → (put now : State) (p : Places) → Stood n put now from.places p
      → (y : Emitted) → y ≡ record { places = p; next = x.next } → Room s y
  room_stood n l put now p t y ey = rw ey (goes_stood s from room w x.next (taken_at s from.next w x taken room.here) taken.inside n l put now p t)

  pub room_bit : 1 ≤ w → (put now : State) (p : Places) → BitPut put now from.places p → (y : Emitted) → y ≡ record { places = p; next = x.next } → Room s y
  room_bit l put now p t y ey = rw ey (goes_bit s from room w x.next (taken_at s from.next w x taken room.here) taken.inside l put now p t)

-- behind a choice's number
pub room-choice : (s : List ℕ) (from : Emitted) → Room s from → (x : Number) → NumberAt s from.next 16 x
    → (put now : State) (p : Places) → Stood 2 put now from.places p → (y : Emitted) → y ≡ record { places = p; next = x.next } → Room s y
room-choice s from room x taken put now p t = room_stood s from room 16 x taken 2 (omega arith) put now p t

-- behind a mark: with nothing put, n bytes, a flag, and what stands for no value with a flag and without
module _ (s : List ℕ) (from : Emitted) (room : Room s from) (m : Marked) (taken : MarkedAt s from.next m) where
  pub room_mark : (y : Emitted) → y ≡ record { places = from.places; next = m.next } → Room s y
  room_mark y ey = rw ey (goes s from room 2 m.next (marked_at s from.next m taken room.here) taken.inside)

  module _ (put now : State) (p : Places) where
    pub room_marked : (n : ℕ) → n ≤ 16384 → Stood n put now from.places p → (y : Emitted) → y ≡ record { places = p; next = m.next } → Room s y
    room_marked n l t y ey = rw ey (goes_stood s from room 2 m.next (marked_at s from.next m taken room.here) taken.inside n l put now p t)

    pub room-byte : Stood 1 put now from.places p → (y : Emitted) → y ≡ record { places = p; next = m.next } → Room s y
    room-byte t y ey = room_marked 1 (omega arith) t y ey

    pub room_flag : BitPut put now from.places p → (y : Emitted) → y ≡ record { places = p; next = m.next } → Room s y
    room_flag t y ey = rw ey (goes_bit s from room 2 m.next (marked_at s from.next m taken room.here) taken.inside (omega arith) put now p t)

    pub room-absent : Absent put now from.places p → (y : Emitted) → y ≡ record { places = p; next = m.next } → Room s y
    room-absent t y ey = rw ey (goes_absent s from room 2 m.next (marked_at s from.next m taken room.here) taken.inside (omega arith) put now p t)

    pub room_lacked : Lacks put now from.places p → (y : Emitted) → y ≡ record { places = p; next = m.next } → Room s y
    room_lacked t y ey =
        let a = t.at in
        room-absent (record { is = t.is; bool = t.bool; at = omega arith; tail = t.tail; next = t.next }) y ey

-- in a content that was opened
pub room_open : (s : List ℕ) (from : Emitted) → Room s from → (o : ℕ) (put now : State) (q : Places) → Opens o put now q → o ≤ 6
    → (y : Emitted) → y ≡ record { places = q; next = from.next } → Room s y
unfolding head_size
room_open s from room o put now q t most y ey =
    let a = room.short in
    let f = t.at in
    rw ey (record { short = room.short; here = room.here; at = omega arith; bool = t.bool; tail = t.tail; next = t.next })

-- behind a part that was emitted
pub room-part : (s : List ℕ) (from : Emitted) → Room s from → (p : Parsed State) (x : Emitted) (out : List ℕ) → EmittedAt s p from 0 (Some x) out → Room s x
room-part s from room p x out t =
    let a = room.at in
    let f = t.reached.at in
    record { short = room.short; here = t.reached.here; at = omega arith; bool = t.reached.bool; tail = t.reached.tail; next = t.reached.next }

pub room-below : (s : List ℕ) (from : Emitted) → Room s from → from.places.at < 2 ^ 61
room-below s from room = let a = room.at in let b = room.here in let d = room.short in omega arith

pub room_low : (s : List ℕ) (from : Emitted) → Room s from → from.places.at < 2 ^ 60
room_low s from room = let a = room.at in let b = room.here in let d = room.short in omega arith

pub stood_next : (s : List ℕ) (from : Emitted) → Room s from → (n : ℕ) (put now : State) (p : Places) → Stood n put now from.places p → p.next ≤ 16777216
stood_next s from room n put now p t = rw t.next room.next

pub stood_tail : (s : List ℕ) (from : Emitted) → Room s from → (n : ℕ) (put now : State) (p : Places) → Stood n put now from.places p → p.tail ≤ 16777216
stood_tail s from room n put now p t = rw t.tail room.tail

-- ---- answers
module _ (s : List ℕ) (p : Parsed State) (from : Emitted) (e : ℕ) where
  pub refused : p ≡ fail → (r : Option Emitted) → r ≡ None → (out : List ℕ) → EmittedAt s p from e r out
  refused h r er out = rw er (record { is = h; reached = tt })

  pub arrived : (x : Emitted) (out : List ℕ) → p ≡ got (state_of x.places out) (drop x.next (bits s)) → Reached s from e x
      → (y : Emitted) → y ≡ x → EmittedAt s p from e (Some y) out
  arrived x out h t y ey = rw ey (record { is = h; reached = t })

  -- by what is stored from g on, a part of it
  pub later : (d : Parsed State) → p ≡ d → (g : Emitted) (e₁ : ℕ) → g.places.at + e₁ + 8192 * from.next ≤ from.places.at + e + 8192 * g.next
      → (r : Option Emitted) (out : List ℕ) → EmittedAt s d g e₁ r out → EmittedAt s p from e r out
  later d h g e₁ l r out t = record { is = h ∙ t.is; reached = by r t.reached }
    where
      by : (q : Option Emitted) → IfSome q (Reached s g e₁) → IfSome q (Reached s from e)
      by None k = tt
      by (Some x) k = let a = k.at in record { here = k.here; at = omega arith; bool = k.bool; tail = k.tail; next = k.next }

  -- by the same definition
  pub same : (d : Parsed State) → p ≡ d → (r : Option Emitted) (out : List ℕ) → EmittedAt s d from e r out → EmittedAt s p from e r out
  same d h r out t = record { is = h ∙ t.is; reached = t.reached }

-- what goes on behind a part
module _ (s : List ℕ) (p : Parsed State) (from : Emitted) (e : ℕ) (out : List ℕ) (k : State → List ℕ → Parsed State) where
  pub part_fails : EmittedAt s p from e None out → bind p k ≡ fail
  unfolding bind
  part_fails t = ap (λ d. bind d k) t.is

  pub part_goes : (x : Emitted) → EmittedAt s p from e (Some x) out → bind p k ≡ k (state_of x.places out) (drop x.next (bits s))
  unfolding bind
  part_goes x t = ap (λ d. bind d k) t.is

-- ---- loops
-- from `at` on, `rest` gives what D does from `from` on, and that is paid for so far
pub record Going (s : List ℕ) (D : Parsed State) (from : Emitted) (rest : State → List ℕ → Parsed State) (at : Emitted) (out : List ℕ) : Type 0 where
  pub is : D ≡ rest (state_of at.places out) (drop at.next (bits s))
  pub paid : at.places.at + 8192 * from.next ≤ from.places.at + 8192 * at.next
  pub room : Room s at

module _ (s : List ℕ) (D : Parsed State) (from : Emitted) where
  pub begun : (rest : State → List ℕ → Parsed State) (out : List ℕ) → Room s from → D ≡ rest (state_of from.places out) (drop from.next (bits s)) → Going s D from rest from out
  begun rest out room h = record { is = h; paid = omega arith; room = room }

  module _ (rest : State → List ℕ → Parsed State) (at : Emitted) (out : List ℕ) (go : Going s D from rest at out) where
    pub going_room : Room s at
    going_room = go.room

    pub ended : ((st : State) (xs : List ℕ) → rest st xs ≡ got st xs) → (y : Emitted) → y ≡ at → EmittedAt s D from 0 (Some y) out
    ended h y ey =
        let a = go.paid in
        arrived s D from 0 at out (go.is ∙ h _ _)
        (record { here = go.room.here; at = omega arith; bool = go.room.bool; tail = go.room.tail; next = go.room.next }) y ey

    module _ (one more : State → List ℕ → Parsed State) (h : (st : State) (xs : List ℕ) → rest st xs ≡ bind (one st xs) more) (out₁ : List ℕ) where
      pub stopped : EmittedAt s (one (state_of at.places out) (drop at.next (bits s))) at 0 None out₁ → (r : Option Emitted) → r ≡ None → EmittedAt s D from 0 r out₁
      stopped t r er = refused s D from 0 (go.is ∙ h _ _ ∙ part_fails s _ at 0 out₁ more t) r er out₁

      pub turned : (x : Emitted) → EmittedAt s (one (state_of at.places out) (drop at.next (bits s))) at 0 (Some x) out₁ → (y : Emitted) → y ≡ x → Going s D from more y out₁
      turned x t y ey =
          let a = go.paid in
          let b = t.reached.at in
          rw ey (record { is = go.is ∙ h _ _ ∙ part_goes s _ at 0 out₁ more x t; paid = omega arith; room = room-part s at go.room _ x out₁ t })

pub extra_most : (o : ℕ) → o ≤ 6 → (k : Kind) → extra o k ≤ 6
unfolding extra
extra_most o most (OfFlat f) = omega arith
extra_most o most (OfObject ob) = most
extra_most o most (OfUnion i) = most
