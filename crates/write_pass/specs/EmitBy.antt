-- What the contracts of this crate say, in few words: the pass over each part by the schema's bytes b, and what a function
-- stores and answers for the sheet s from `from` on. `o` is the width of an offset in bytes; d objects may
-- stand below.
use Rattle.std.specs.Prelude.{ℕ, List, Bool, Option, length, drop}
use Rattle.coding.specs.Bits.{bits}
use Rattle.coding.specs.Schema.{cases_of}
use Rattle.coding.specs.Packed.{parse}
use Rattle.coding.specs.Sheet.{Parsed}
use Rattle.coding.specs.declared.Flat.{Flat}
use Rattle.coding.specs.declared.Object.{Object}
use Rattle.coding.specs.declared.Kind.{Kind}
use Rattle.coding.specs.declared.Member.{Member}
use Rattle.write_measure.specs.Survey.{above_count, survey}
use Rattle.write_measure.specs.declared.Extent.{Extent}
use Rattle.write_store.specs.State.{State}
use Rattle.write_store.specs.Storing.{state_of}
use Rattle.write_pass.specs.EmitSheet.{put_nothing, emit_if, emit_field, emit_struct, emit_flat, pass, emit_refer, emit_choice, emit_body, emit_element, emit_elements, emit_direct, emit_directs, emit_content, emit}
use Rattle.write_pass.specs.Emitting.{emit_member, emit_unflagged, EmittedAt}
use Rattle.write_pass.specs.Measure.{Measured, MeasuredAt}
use Rattle.write_pass.specs.declared.Emitted.{Emitted}

-- ---- what leads to no object
module _ (b : List ℕ) where
  abbrev pub struct : ℕ → State → List ℕ → Parsed State
  struct i st xs = emit_struct (parse b) i st xs

  -- a member of a struct
  abbrev pub field : Flat → State → List ℕ → Parsed State
  field k st xs = emit_field (emit_struct (parse b)) k st xs

  abbrev pub flat : Flat → State → List ℕ → Parsed State
  flat k st xs = emit_flat (parse b) k st xs

  -- an unknown choice of union u, and the unknown number of a member or element, passed over
  abbrev pub unknown_choice : ℕ → State → List ℕ → Parsed State
  unknown_choice u st xs = emit_if 16 (above_count (length (cases_of (parse b) u))) put_nothing st xs

  abbrev pub unknown : Kind → State → List ℕ → Parsed State
  unknown k st xs = pass (parse b) k st xs

-- ---- members, elements and objects
module _ (o d : ℕ) (b : List ℕ) where
  abbrev pub object : Object → State → List ℕ → Parsed State
  object ob st xs = emit d o (parse b) ob st xs

  -- an object, and what refers to it
  abbrev pub held : Bool → Object → State → List ℕ → Parsed State
  held inplace ob st xs = emit_refer (emit d o (parse b)) (survey d o (parse b)) o (parse b) inplace ob st xs

  -- a known choice of union u
  abbrev pub choice : Bool → ℕ → State → List ℕ → Parsed State
  choice inplace u st xs = emit_choice (emit d o (parse b)) (survey d o (parse b)) o (parse b) inplace (cases_of (parse b) u) st xs

  -- a member or element, present; and with its mark
  abbrev pub body : Kind → Bool → State → List ℕ → Parsed State
  body k inplace st xs = emit_body (emit d o (parse b)) (survey d o (parse b)) o (parse b) k inplace st xs

  abbrev pub part : Kind → Bool → State → List ℕ → Parsed State
  part k inplace st xs = emit_unflagged (emit d o (parse b)) (survey d o (parse b)) o (parse b) k inplace st xs

  -- a member with its flag
  abbrev pub member : Member → State → List ℕ → Parsed State
  member m st xs = emit_member (emit d o (parse b)) (survey d o (parse b)) o (parse b) m st xs

  abbrev pub element : Kind → State → List ℕ → Parsed State
  element k st xs = emit_element (emit d o (parse b)) (survey d o (parse b)) o (parse b) k st xs

  -- n elements of kind k
  abbrev pub elements : Kind → ℕ → State → List ℕ → Parsed State
  elements k n st xs = emit_elements (emit d o (parse b)) (survey d o (parse b)) o (parse b) k n st xs

  -- an element of a direct list of table t; and n of them
  abbrev pub direct : ℕ → State → List ℕ → Parsed State
  direct t st xs = emit_direct (emit d o (parse b)) t st xs

  abbrev pub directs : ℕ → ℕ → State → List ℕ → Parsed State
  directs t n st xs = emit_directs (emit d o (parse b)) t n st xs

  abbrev pub content : Object → State → List ℕ → Parsed State
  content ob st xs = emit_content (emit d o (parse b)) (survey d o (parse b)) o (parse b) ob st xs

  -- e has the sizes of the object
  abbrev pub HasSizes : Bool → Object → List ℕ → ℕ → Extent → Type 0
  HasSizes inplace ob s pos e = Measured inplace (survey d o (parse b) ob (drop pos (bits s))) e

  -- the object was measured
  abbrev pub Measures : Bool → Object → List ℕ → ℕ → Option Extent → Type 0
  Measures inplace ob s pos r = MeasuredAt inplace (survey d o (parse b) ob (drop pos (bits s))) r

-- ---- answers
-- f makes the buffer `after` of the buffer `before`, and answers r; it may take e bytes beyond what the sheet's bits pay for
abbrev pub Emits : List ℕ → Emitted → (State → List ℕ → Parsed State) → List ℕ → ℕ → Option Emitted → List ℕ → Type 0
Emits s from f before e r after = EmittedAt s (f (state_of from.places before) (drop from.next (bits s))) from e r after
