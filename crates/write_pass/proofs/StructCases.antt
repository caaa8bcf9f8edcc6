-- The ways out of the pass over structs and over what leads to no object, one lemma for each.
use mathlib.Core.Path.{◌≡◌, refl, sym, ap, ◌∙◌, subst}
use mathlib.Core.Bool.{Bool}
use Rattle.std.specs.Prelude.{Option, Some, None}
use mathlib.Core.List.{List}
use Prim.Native.Nat.{ℕ, suc, ◌+◌, ◌*◌, ◌<◌, ◌≤◌}
use native.Mathlib.Omega.{arith}
use native.Mathlib.Numerals.{add-one}
use lib.ListN.{length, drop, drop_of_length-le}
use lib.Seq.{drop-cons}
use Rattle.coding.specs.Bits.{bits}
use Rattle.coding.specs.Schema as Sc
use Rattle.coding.specs.Schema.{Schema}
use Rattle.coding.specs.Packed as P
use Rattle.coding.specs.Sheet.{Parsed, fail, got, bind}
use Rattle.coding.specs.declared.Flat.{Flat}
use Rattle.coding.specs.declared.Flat.TheVariants.{Boolean, Integer, Float, Enumerated, Struct}
use Rattle.laws.specs.Sound.{Sound}
use Rattle.schema.specs.Directory.{Accepted, accepted_sound}
use Rattle.write_measure.specs.Survey.{below_count}
use Rattle.write_store.specs.State.{State, put_bit, put_byte, put_number}
use Rattle.write_pass.specs.EmitSheet.{emit_number, emit_if, emit_field, emit_fields, emit_struct, emit_flat}
use Rattle.write_pass.specs.EmitStructs.{struct_is}
use Rattle.write_store.specs.Storing.{state_of}
use Rattle.write_pass.specs.Emitting.{emit_marked_enum, Room, EmittedAt}
use Rattle.write_pass.specs.declared.Emitted.{Emitted}
use Rattle.write_pass.proofs.EmitRoom.{Going, begun, ended, stopped, turned}

-- ---- a struct's member
module _ (inner : ℕ → State → List ℕ → Parsed State) (s : List ℕ) (k : Flat) (st : State) (from : Emitted) (r : Option Emitted) (out : List ℕ) where
  pub field_boolean : k ≡ Boolean → EmittedAt s (emit_number 1 put_byte st (drop from.next (bits s))) from 0 r out
      → EmittedAt s (emit_field inner k st (drop from.next (bits s))) from 0 r out
  unfolding emit_field
  field_boolean e u = rw e u

  pub field_integer : (g : Bool) (w j : ℕ) → k ≡ Integer g w → j ≡ w → EmittedAt s (emit_number (8 * j) (put_number j) st (drop from.next (bits s))) from 0 r out
      → EmittedAt s (emit_field inner k st (drop from.next (bits s))) from 0 r out
  unfolding emit_field
  field_integer g w j e ej u = rw e (subst (λ (i : ℕ). EmittedAt s (emit_number (8 * i) (put_number i) st (drop from.next (bits s))) from 0 r out) ej u)

  pub field_float : (w j : ℕ) → k ≡ Float w → j ≡ w → EmittedAt s (emit_number (8 * j) (put_number j) st (drop from.next (bits s))) from 0 r out
      → EmittedAt s (emit_field inner k st (drop from.next (bits s))) from 0 r out
  unfolding emit_field
  field_float w j e ej u = rw e (subst (λ (i : ℕ). EmittedAt s (emit_number (8 * i) (put_number i) st (drop from.next (bits s))) from 0 r out) ej u)

  pub field-enum : (m : ℕ) → k ≡ Enumerated m → EmittedAt s (emit_marked_enum m st (drop from.next (bits s))) from 0 r out
      → EmittedAt s (emit_field inner k st (drop from.next (bits s))) from 0 r out
  unfolding emit_field emit_marked_enum
  field-enum m e u = rw e u

  pub field-struct : (i j : ℕ) → k ≡ Struct i → j ≡ i → EmittedAt s (inner j st (drop from.next (bits s))) from 0 r out
      → EmittedAt s (emit_field inner k st (drop from.next (bits s))) from 0 r out
  unfolding emit_field
  field-struct i j e ej u = rw e (subst (λ (a : ℕ). EmittedAt s (inner a st (drop from.next (bits s))) from 0 r out) ej u)

-- ---- what leads to no object
module _ (S : Schema) (s : List ℕ) (k : Flat) (st : State) (from : Emitted) (r : Option Emitted) (out : List ℕ) where
  pub flat_boolean : k ≡ Boolean → EmittedAt s (emit_number 1 put_bit st (drop from.next (bits s))) from 0 r out
      → EmittedAt s (emit_flat S k st (drop from.next (bits s))) from 0 r out
  unfolding emit_flat
  flat_boolean e u = rw e u

  pub flat_integer_lem : (g : Bool) (w j : ℕ) → k ≡ Integer g w → j ≡ w → EmittedAt s (emit_number (8 * j) (put_number j) st (drop from.next (bits s))) from 0 r out
      → EmittedAt s (emit_flat S k st (drop from.next (bits s))) from 0 r out
  unfolding emit_flat
  flat_integer_lem g w j e ej u = rw e (subst (λ (i : ℕ). EmittedAt s (emit_number (8 * i) (put_number i) st (drop from.next (bits s))) from 0 r out) ej u)

  pub flat_float : (w j : ℕ) → k ≡ Float w → j ≡ w → EmittedAt s (emit_number (8 * j) (put_number j) st (drop from.next (bits s))) from 0 r out
      → EmittedAt s (emit_flat S k st (drop from.next (bits s))) from 0 r out
  unfolding emit_flat
  flat_float w j e ej u = rw e (subst (λ (i : ℕ). EmittedAt s (emit_number (8 * i) (put_number i) st (drop from.next (bits s))) from 0 r out) ej u)

  pub flat-enum : (m : ℕ) → k ≡ Enumerated m → EmittedAt s (emit_if 8 (below_count m) put_byte st (drop from.next (bits s))) from 0 r out
      → EmittedAt s (emit_flat S k st (drop from.next (bits s))) from 0 r out
  unfolding emit_flat
  flat-enum m e u = rw e u

  pub flat-struct : (i j : ℕ) → k ≡ Struct i → j ≡ i → EmittedAt s (emit_struct S j st (drop from.next (bits s))) from 0 r out
      → EmittedAt s (emit_flat S k st (drop from.next (bits s))) from 0 r out
  unfolding emit_flat
  flat-struct i j e ej u = rw e (subst (λ (a : ℕ). EmittedAt s (emit_struct S a st (drop from.next (bits s))) from 0 r out) ej u)

-- ---- the members from j on
pub field-counted : (j m l : ℕ) → m ≡ l → j < m → j < l
field-counted j m l e h = omega arith

module _ (S : Schema) (i : ℕ) where
  -- what is left from member j on
  abbrev fields_left : ℕ → State → List ℕ → Parsed State
  fields_left j = emit_fields (emit_struct S) (drop j (Sc.struct_of S i))

  fields_next : (j : ℕ) → j < length (Sc.struct_of S i) → (st : State) (xs : List ℕ)
      → fields_left j st xs ≡ bind (emit_field (emit_struct S) (Sc.field_of S i j) st xs) (fields_left (j + 1))
  unfolding emit_fields Sc.field_of
  fields_next j h st xs =
      ap (λ (ks : List Flat). emit_fields (emit_struct S) ks st xs) (drop-cons (Sc.struct_of S i) j Boolean h)
      ∙ ap (λ (l : ℕ). bind (emit_field (emit_struct S) (Sc.field_of S i j) st xs) (fields_left l)) (sym (add-one j))

  fields_end : (j : ℕ) → length (Sc.struct_of S i) ≤ j → (st : State) (xs : List ℕ) → fields_left j st xs ≡ got st xs
  unfolding emit_fields
  fields_end j h st xs = ap (λ (ks : List Flat). emit_fields (emit_struct S) ks st xs) (drop_of_length-le (Sc.struct_of S i) h)

  pub fields_all : (b dir : List ℕ) → Accepted b dir → S ≡ P.parse b → (s : List ℕ) (from : Emitted) → Room s from → (o : List ℕ)
      → Going s (emit_struct S i (state_of from.places o) (drop from.next (bits s))) from (fields_left 0) from o
  fields_all b dir a es s from room o =
      begun s _ from (fields_left 0) o room (struct_is S (subst Sound (sym es) (accepted_sound b dir a)) i (state_of from.places o) (drop from.next (bits s)))

  module _ (s : List ℕ) (D : Parsed State) (from : Emitted) (m : ℕ) (em : m ≡ length (Sc.struct_of S i)) (j : ℕ) (at : Emitted) (o : List ℕ)
      (go : Going s D from (fields_left j) at o) where
    pub fields_done : m ≤ j → (y : Emitted) → y ≡ at → EmittedAt s D from 0 (Some y) o
    fields_done h y ey = ended s D from (fields_left j) at o go (fields_end j (omega arith)) y ey

    module _ (h : j < m) (k : Flat) (ek : k ≡ Sc.field_of S i j) (out : List ℕ) where
      next : (st : State) (xs : List ℕ) → fields_left j st xs ≡ bind (emit_field (emit_struct S) k st xs) (fields_left (j + 1))
      next st xs =
          fields_next j (omega arith) st xs ∙ ap (λ (f : Flat). bind (emit_field (emit_struct S) f st xs) (fields_left (j + 1))) (sym ek)

      pub fields-cut : EmittedAt s (emit_field (emit_struct S) k (state_of at.places o) (drop at.next (bits s))) at 0 None out → (r : Option Emitted) → r ≡ None
          → EmittedAt s D from 0 r out
      fields-cut u r er = stopped s D from (fields_left j) at o go (emit_field (emit_struct S) k) (fields_left (j + 1)) next out u r er

      pub fields_turn : (x : Emitted) → EmittedAt s (emit_field (emit_struct S) k (state_of at.places o) (drop at.next (bits s))) at 0 (Some x) out
          → (y : Emitted) → y ≡ x → Going s D from (fields_left (j + 1)) y out
      fields_turn x u y ey = turned s D from (fields_left j) at o go (emit_field (emit_struct S) k) (fields_left (j + 1)) next out x u y ey
