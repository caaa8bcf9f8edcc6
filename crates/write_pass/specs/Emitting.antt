-- What the code of the pass answers, against the definitions: where the message goes on and where the sheet does, if the part
-- of the sheet is lawful.
use Rattle.std.specs.Prelude.{ℕ, ◌+◌, ◌*◌, ◌^◌, ◌≤◌, ◌<◌, ◌≡◌, List, [], Bool, true, false, ◌&&◌, not, Option, Some, None, IfSome, length, drop}
use Rattle.coding.specs.Lists.{pick}
use Rattle.coding.specs.Bytes.{no_float}
use Rattle.coding.specs.Bits.{bits}
use Rattle.coding.specs.Schema.{Schema}
use Rattle.coding.specs.Sheet.{Parsed, fail, got, unknown_enum}
use Rattle.coding.specs.declared.Object.{Object}
use Rattle.coding.specs.declared.Flat.{Flat}
use Rattle.coding.specs.declared.Kind.{Kind}
use Rattle.coding.specs.declared.Kind.TheVariants.{OfFlat, OfObject, OfUnion}
use Rattle.coding.specs.declared.Member.{Member}
use Rattle.schema.specs.Kinds.{is_blob}
use Rattle.write_measure.specs.Survey.{below_count, survey_mark, head_size, Surveyor}
use Rattle.write_measure.specs.declared.Extent.{Extent}
use Rattle.write_store.specs.State.{State, enter_object, enter_content, put_byte, put_number}
use Rattle.write_pass.specs.EmitSheet.{Emitter, put_nothing, emit_if, open_object, emit_part, flagged, emit_number, lack_flat, pass_flat, emit_flat, emit_blob}
use Rattle.write_store.specs.Storing.{state_of, left_object, left_content, HeldOk, forward}
use Rattle.write_store.specs.declared.Places.{Places}
use Rattle.write_pass.specs.declared.Copied.{Copied}
use Rattle.write_pass.specs.declared.Emitted.{Emitted}

-- ---- moves of the places
unfoldable pub closed : Bool → Places → Places → Places
closed inplace c inner = pick inplace (left_content c inner) (left_object c inner)

-- ---- parts of the pass that the code has functions of their own for
-- an enum of a struct or of a list, with its mark
unfoldable pub emit_marked_enum : ℕ → State → List ℕ → Parsed State
emit_marked_enum n st xs =
    survey_mark (put_byte 255 st) (emit_if 8 (unknown_enum n) put_nothing (put_byte 255 st)) (emit_if 8 (below_count n) put_byte st) xs

-- a list's float, and any flat value, with its mark
unfoldable pub emit_marked_float : ℕ → State → List ℕ → Parsed State
emit_marked_float w st xs = survey_mark (put_number w (no_float w) st) (λ ys. fail) (emit_number (8 * w) (put_number w) st) xs

unfoldable pub emit_marked_flat : Schema → Flat → State → List ℕ → Parsed State
emit_marked_flat S f st xs = survey_mark (lack_flat S f st) (pass_flat f (lack_flat S f st)) (emit_flat S f st) xs

-- what refers to an object: its offset, or its length in place
unfoldable pub referred : ℕ → Bool → Extent → State → State
referred o inplace x st = pick inplace (put_number o x.length st) (put_number o st.next st)

-- an object's header by its magic, at the next object's place
unfoldable pub headed : ℕ → ℕ → Extent → State → State
headed o mg x st = put_number o x.length (put_number 4 mg (enter_object (head_size o + x.width) x.chain st))

-- where an object's content is stored: behind its header, or in place
unfoldable pub opened : ℕ → Schema → Object → Bool → Extent → State → State
opened o S ob inplace x st = pick inplace (enter_content x.width st) (open_object o S ob x st)

-- a member with its flag, if it has one, and its mark
unfoldable pub emit_member : Emitter → Surveyor → ℕ → Schema → Member → State → List ℕ → Parsed State
emit_member child measure o S r st xs =
    emit_part child measure o S r.kind r.inplace (flagged r 0 st) (flagged r 1 st) xs

-- a member or an element that has no flag, with its mark
unfoldable pub emit_unflagged : Emitter → Surveyor → ℕ → Schema → Kind → Bool → State → List ℕ → Parsed State
emit_unflagged child measure o S k inplace st xs = emit_part child measure o S k inplace st st xs

-- ---- kinds
-- whether a kind leads to an object
unfoldable pub refers : Kind → Bool
refers (OfFlat k) = false
refers (OfObject ob) = true
refers (OfUnion i) = true

-- terminal: a flat value, or a text or bytes by its offset. No object stands below it or in place behind it
unfoldable pub is_terminal : Kind → Bool → Bool
is_terminal (OfFlat k) inplace = true
is_terminal (OfObject ob) inplace = not inplace && is_blob ob
is_terminal (OfUnion i) inplace = false

-- ---- numbers that fit
-- Every store takes bits of the sheet, at least one for 8192 bytes, but for a reference, which may take none.
pub record Room (s : List ℕ) (from : Emitted) : Type 0 where
  pub short : length s ≤ 16777215
  pub here : from.next ≤ 8 * length s
  pub at : from.places.at + 16 + 65536 * length s ≤ 2 ^ 60 + 8192 * from.next
  pub bool : HeldOk from.places
  pub tail : from.places.tail ≤ 16777216
  pub next : from.places.next ≤ 16777216

-- the bytes that a part of the message may take beyond what its bits pay for: an offset or a length
unfoldable pub extra : ℕ → Kind → ℕ
extra o (OfFlat k) = 0
extra o (OfObject ob) = o
extra o (OfUnion i) = o

-- ---- answers
-- what is given by an answer: the places and the buffer, and what is left of the sheet
abbrev pub given : List ℕ → List ℕ → Option Emitted → Parsed State
given s out None = fail
given s out (Some x) = got (state_of x.places out) (drop x.next (bits s))

-- x is within the sheet and the message; e is what may be taken beyond what the bits behind `from` pay for
pub record Reached (s : List ℕ) (from : Emitted) (e : ℕ) (x : Emitted) : Type 0 where
  pub here : x.next ≤ 8 * length s
  pub at : x.places.at + 8192 * from.next ≤ from.places.at + e + 8192 * x.next
  pub bool : HeldOk x.places
  pub tail : x.places.tail ≤ 16777216
  pub next : x.places.next ≤ 16777216

-- p is what the definition gives from `from` on
pub record EmittedAt (s : List ℕ) (p : Parsed State) (from : Emitted) (e : ℕ) (r : Option Emitted) (out : List ℕ) : Type 0 where
  pub is : p ≡ given s out r
  pub reached : IfSome r (Reached s from e)

-- behind the places from which a text or bytes were stored
abbrev pub behind : Places → Option Copied → Option Emitted
behind c None = None
behind c (Some x) = Some (record { places = forward x.length c; next = x.next })

-- a text or bytes were stored from `to` on, whatever places are there
pub record CopiedAt (s o : List ℕ) (pos to : ℕ) (r : Option Copied) (out : List ℕ) : Type 0 where
  pub is : (from : Emitted) → Room s from → from.next ≡ pos → from.places.at ≡ to
      → EmittedAt s (emit_blob [] (state_of from.places o) (drop pos (bits s))) from 0 (behind from.places r) out
  pub small : IfSome r (λ x. x.length < 2 ^ 32)

-- the message as a whole
pub record MessageAt (s : List ℕ) (p : Parsed State) (r : Option Emitted) (out : List ℕ) : Type 0 where
  pub is : p ≡ given s out r

-- what stands for no value was put behind the places c
pub record Lacks (put now : State) (c r : Places) : Type 0 where
  pub is : now ≡ put
  pub bool : HeldOk r
  pub at : r.at ≤ c.at + 4096
  pub tail : r.tail ≡ c.tail
  pub next : r.next ≡ c.next

-- so was what stands for no value of a member, with its flag
pub record Absent (put now : State) (c r : Places) : Type 0 where
  pub is : now ≡ put
  pub bool : HeldOk r
  pub at : r.at ≤ c.at + 4097
  pub tail : r.tail ≡ c.tail
  pub next : r.next ≡ c.next

-- the content of an object is stored from the places r on
pub record Opens (o : ℕ) (put now : State) (r : Places) : Type 0 where
  pub is : now ≡ put
  pub bool : HeldOk r
  pub at : r.at ≤ 16777216 + head_size o
  pub tail : r.tail ≤ 16777216
  pub next : r.next ≤ 16777216
