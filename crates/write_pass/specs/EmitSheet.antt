-- The message from the sheet's bits: decode without the tree, which stores what it reads as it goes. `o` is the width of an
-- offset in bytes.
use Rattle.std.specs.Prelude.{ℕ, zero, suc, ◌+◌, ◌*◌, List, [], ◌∷◌, Bool, false, ◌&&◌, length, leb}
use Rattle.coding.specs.Lists.{pick}
use Rattle.coding.specs.Bytes.{no_float, deepest}
use Rattle.coding.specs.Schema.{Schema, struct_of, element_of, cases_of, case_of, table_of}
use Rattle.coding.specs.Structs.{by_index, struct_size}
use Rattle.coding.specs.Layout.{has_flag, fixed_size}
use Rattle.coding.specs.Walk.{start_size, magic}
use Rattle.coding.specs.Message.{zeros}
use Rattle.coding.specs.Sheet.{Parsed, fail, got, bind, take_number, take_bytes, unknown_enum, unmarked}
use Rattle.coding.specs.declared.Flat.{Flat}
use Rattle.coding.specs.declared.Flat.TheVariants.{Boolean, Integer, Float, Enumerated, Struct}
use Rattle.coding.specs.declared.Object.{Object}
use Rattle.coding.specs.declared.Object.TheVariants as O
use Rattle.coding.specs.declared.Kind.{Kind}
use Rattle.coding.specs.declared.Kind.TheVariants.{OfFlat, OfObject, OfUnion}
use Rattle.coding.specs.declared.Member.{Member}
use Rattle.write_measure.specs.Survey.{below_count, above_count, survey_mark, head_size, Surveyor, survey}
use Rattle.write_store.specs.State.{State, put_bytes, put_byte, put_number, put_bit, enter_object, leave_object, enter_content, leave_content, enter_part, leave_part}
use Rattle.write_measure.specs.declared.Extent.{Extent}

-- ---- numbers
-- a number of w bits, stored
unfoldable pub emit_number : ℕ → (ℕ → State → State) → State → List ℕ → Parsed State
emit_number w put st xs = bind (take_number w xs) (λ x ys. got (put x st) ys)

-- a number of w bits that must pass a test, stored
unfoldable pub emit_if : ℕ → (ℕ → Bool) → (ℕ → State → State) → State → List ℕ → Parsed State
emit_if w ok put st xs = bind (take_number w xs) (λ x ys. pick (ok x) (got (put x st) ys) fail)

abbrev pub put_nothing : ℕ → State → State
put_nothing x st = st

-- ---- structs
-- a member; `inner` stores a struct by its number
unfoldable pub emit_field : (ℕ → State → List ℕ → Parsed State) → Flat → State → List ℕ → Parsed State
emit_field inner Boolean st xs = emit_number 1 put_byte st xs
emit_field inner (Integer s w) st xs = emit_number (8 * w) (put_number w) st xs
emit_field inner (Float w) st xs = emit_number (8 * w) (put_number w) st xs
emit_field inner (Enumerated n) st xs =
    survey_mark (put_byte 255 st) (emit_if 8 (unknown_enum n) put_nothing (put_byte 255 st)) (emit_if 8 (below_count n) put_byte st) xs
emit_field inner (Struct i) st xs = inner i st xs

-- the members of a struct in turn
unfoldable pub emit_fields : (ℕ → State → List ℕ → Parsed State) → List Flat → State → List ℕ → Parsed State
emit_fields inner [] st xs = got st xs
emit_fields inner (k ∷ ks) st xs = bind (emit_field inner k st xs) (λ next ys. emit_fields inner ks next ys)

unfoldable pub emit_by : Schema → (ℕ → State → List ℕ → Parsed State) → ℕ → State → List ℕ → Parsed State
emit_by S inner i st xs = emit_fields inner (struct_of S i) st xs

abbrev pub emit_nothing : State → List ℕ → Parsed State
emit_nothing st xs = fail

unfoldable pub emit_struct : Schema → ℕ → State → List ℕ → Parsed State
emit_struct S i = by_index emit_nothing (emit_by S) i

-- ---- flat values: bools, numbers, enums and structs, which lead to no object
-- of a member or an element, present, behind its mark
unfoldable pub emit_flat : Schema → Flat → State → List ℕ → Parsed State
emit_flat S Boolean st xs = emit_number 1 put_bit st xs
emit_flat S (Integer s w) st xs = emit_number (8 * w) (put_number w) st xs
emit_flat S (Float w) st xs = emit_number (8 * w) (put_number w) st xs
emit_flat S (Enumerated n) st xs = emit_if 8 (below_count n) put_byte st xs
emit_flat S (Struct i) st xs = emit_struct S i st xs

-- what stands for a flat value that is absent
unfoldable pub lack_flat : Schema → Flat → State → State
lack_flat S Boolean st = put_bit 0 st
lack_flat S (Integer s w) st = put_number w 0 st
lack_flat S (Float w) st = put_number w (no_float w) st
lack_flat S (Enumerated n) st = put_byte 255 st
lack_flat S (Struct i) st = put_bytes (zeros (struct_size S i)) st

-- what stands for a member or an element that is absent
unfoldable pub lack : ℕ → Schema → Kind → State → State
lack o S (OfFlat k) st = lack_flat S k st
lack o S (OfObject ob) st = put_bytes (zeros o) st
lack o S (OfUnion i) st = put_bytes (zeros (2 + o)) st

-- the unknown number of a flat value is passed over; no writable sheet has one
unfoldable pub pass_flat : Flat → State → List ℕ → Parsed State
pass_flat Boolean st xs = fail
pass_flat (Integer s w) st xs = fail
pass_flat (Float w) st xs = fail
pass_flat (Enumerated n) st xs = emit_if 8 (unknown_enum n) put_nothing st xs
pass_flat (Struct i) st xs = fail

-- the unknown number of a member or an element: an enum's, or a union's choice
unfoldable pub pass : Schema → Kind → State → List ℕ → Parsed State
pass S (OfFlat k) st xs = pass_flat k st xs
pass S (OfObject ob) st xs = fail
pass S (OfUnion i) st xs = emit_if 16 (above_count (length (cases_of S i))) put_nothing st xs

-- ---- objects
abbrev pub Emitter : Type 0
Emitter = Object → State → List ℕ → Parsed State

-- the state behind the offset, and that in which the object's content is written
unfoldable pub open_object : ℕ → Schema → Object → Extent → State → State
open_object o S ob x st = put_number o x.length (put_number 4 (magic S ob) (enter_object (head_size o + x.width) x.chain st))

unfoldable pub emit_object : Emitter → ℕ → Schema → Object → Extent → State → List ℕ → Parsed State
emit_object child o S ob x st xs =
    bind (child ob (open_object o S ob x (put_number o st.next st)) xs) (λ inner ys. got (leave_object (put_number o st.next st) inner) ys)

unfoldable pub emit_content_at : Emitter → ℕ → Object → Extent → State → List ℕ → Parsed State
emit_content_at child o ob x st xs =
    bind (child ob (enter_content x.width (put_number o x.length st)) xs) (λ inner ys. got (leave_content (put_number o x.length st) inner) ys)

-- an object by its offset or in place, by the extent that its survey gives
unfoldable pub emit_refer : Emitter → Surveyor → ℕ → Schema → Bool → Object → State → List ℕ → Parsed State
emit_refer child measure o S inplace ob st xs =
    bind (measure ob xs) (λ x ys. pick inplace (emit_content_at child o ob x st xs) (emit_object child o S ob x st xs))

-- a union's known choice, and the object of that case
unfoldable pub emit_choice : Emitter → Surveyor → ℕ → Schema → Bool → List Object → State → List ℕ → Parsed State
emit_choice child measure o S inplace cases st xs =
    bind (take_number 16 xs)
    (λ c ys.
    pick (leb 1 c && leb c (length cases)) (emit_refer child measure o S inplace (case_of cases c) (put_number 2 c st) ys) fail)

-- ---- members and elements
-- one that is present, behind its mark
unfoldable pub emit_body : Emitter → Surveyor → ℕ → Schema → Kind → Bool → State → List ℕ → Parsed State
emit_body child measure o S (OfFlat k) inplace st xs = emit_flat S k st xs
emit_body child measure o S (OfObject ob) inplace st xs = emit_refer child measure o S inplace ob st xs
emit_body child measure o S (OfUnion i) inplace st xs = emit_choice child measure o S inplace (cases_of S i) st xs

-- one with its mark, where st0 is behind the flag of an absent value, and st1 behind that of a present one
unfoldable pub emit_part : Emitter → Surveyor → ℕ → Schema → Kind → Bool → State → State → List ℕ → Parsed State
emit_part child measure o S k inplace st0 st1 xs =
    survey_mark (lack o S k st0) (pass S k (lack o S k st0)) (emit_body child measure o S k inplace st1) xs

-- an element, with its mark if it has one
unfoldable pub emit_element : Emitter → Surveyor → ℕ → Schema → Kind → State → List ℕ → Parsed State
emit_element child measure o S k st xs =
    pick (unmarked k) (emit_body child measure o S k false st xs) (emit_part child measure o S k false st st xs)

-- behind a member's flag x, if it has a flag
unfoldable pub flagged : Member → ℕ → State → State
flagged r x st = pick (has_flag r) (put_bit x st) st

-- members, and elements, in turn
unfoldable pub emit_members : Emitter → Surveyor → ℕ → Schema → List Member → State → List ℕ → Parsed State
emit_members child measure o S [] st xs = got st xs
emit_members child measure o S (r ∷ rs) st xs =
    bind (emit_part child measure o S r.kind r.inplace (flagged r 0 st) (flagged r 1 st) xs) (λ next ys. emit_members child measure o S rs next ys)

unfoldable pub emit_elements : Emitter → Surveyor → ℕ → Schema → Kind → ℕ → State → List ℕ → Parsed State
emit_elements child measure o S k zero st xs = got st xs
emit_elements child measure o S k (suc n) st xs =
    bind (emit_element child measure o S k st xs) (λ next ys. emit_elements child measure o S k n next ys)

-- what the header of a direct list of table t says of its elements: the table's id, and its full size
unfoldable pub direct_head : ℕ → Schema → ℕ → State → State
direct_head o S t st = put_number 4 (fixed_size o S (table_of S t).members) (put_number 4 (table_of S t).id st)

-- an element of a direct list of table t, whose bools have bytes of their own; and the elements in turn
unfoldable pub emit_direct : Emitter → ℕ → State → List ℕ → Parsed State
emit_direct child t st xs = bind (child (O.Table t) (enter_part st) xs) (λ inner ys. got (leave_part st inner) ys)

unfoldable pub emit_directs : Emitter → ℕ → ℕ → State → List ℕ → Parsed State
emit_directs child t zero st xs = got st xs
emit_directs child t (suc n) st xs = bind (emit_direct child t st xs) (λ next ys. emit_directs child t n next ys)

-- the content of a text or bytes, with the bytes `more` behind its own
unfoldable pub emit_blob : List ℕ → State → List ℕ → Parsed State
emit_blob more st xs = bind (take_number 32 xs) (λ n ys. bind (take_bytes n ys) (λ l zs. got (put_bytes more (put_bytes l st)) zs))

unfoldable pub emit_content : Emitter → Surveyor → ℕ → Schema → Object → State → List ℕ → Parsed State
emit_content child measure o S O.Text st xs = emit_blob (0 ∷ []) st xs
emit_content child measure o S O.Bytes st xs = emit_blob [] st xs
emit_content child measure o S (O.List i) st xs =
    bind (take_number 32 xs) (λ n ys. emit_elements child measure o S (element_of S i) n st ys)
emit_content child measure o S (O.Table i) st xs = emit_members child measure o S (table_of S i).members st xs
emit_content child measure o S (O.DirectList t) st xs =
    bind (take_number 32 xs) (λ n ys. emit_directs child t n (direct_head o S t st) ys)

-- an object's content, where d objects may stand below each other, this one counted
unfoldable pub emit : ℕ → ℕ → Schema → Object → State → List ℕ → Parsed State
emit zero o S ob st xs = fail
emit (suc d) o S ob st xs = emit_content (emit d o S) (survey d o S) o S ob st xs

-- the message into a buffer: its start, and the root table
unfoldable pub emit_message : ℕ → Schema → List ℕ → List ℕ → Parsed State
emit_message o S out xs =
    emit_refer (emit deepest o S) (survey deepest o S) o S false (O.Table S.root)
    (put_number 4 0xB5C0_C4B3 (record { at = 0; last = 0; free = 0; held = 0; tail = start_size o; next = start_size o; out = out })) xs
