-- The writer's slots of one member or element: where they stand, the step shows the value, and behind them stands the rest.
use Rattle.std.specs.Prelude.{◌≡◌, List, [], ◌∷◌, Bool, ℕ, ◌+◌, ◌^◌, ◌<◌, ◌≤◌, length}
use Rattle.std.proofs.Math.Path.{refl}
use Rattle.std.proofs.Common.{sym, ap, arith}
use Rattle.std.proofs.Math.Bool.{true, false}
use Rattle.std.proofs.lemmas.List.{length-replicate}
use Rattle.coding.specs.Lists.{pick}
use Rattle.coding.specs.Bytes.{le_bytes, no_float}
use Rattle.coding.specs.Schema.{Schema, cases_of, case_of, table_of}
use Rattle.coding.specs.Structs.{flat_width, struct_size}
use Rattle.coding.specs.Layout as L
use Rattle.coding.specs.Layout.{begin, after_bytes, is_bool, flat_is_bool, after_value, fixed_size}
use Rattle.coding.specs.Walk.{start_size, stands_in_place}
use Rattle.coding.specs.Value.{Value, present, as_number, as_object}
use Rattle.coding.specs.Cells.{Slots}
use Rattle.coding.specs.Cells.Slots.{bytes, in_place}
use Rattle.coding.specs.Message.{length_of, number_or, struct_bytes, zeros, flat_slots, Planner, object_slots, refer_slots, value_slots}
use Rattle.coding.specs.declared.Flat.{Flat}
use Rattle.coding.specs.declared.Flat.TheVariants as F
use Rattle.coding.specs.declared.Object.{Object}
use Rattle.coding.specs.declared.Object.TheVariants as O
use Rattle.coding.specs.declared.Kind.{Kind}
use Rattle.coding.specs.declared.Kind.TheVariants.{OfFlat, OfObject, OfUnion}
use Rattle.coding.specs.declared.Cursor.{Cursor}
use Rattle.coding.specs.declared.Place.TheVariants.{ByOffset, InPlace}
use Rattle.laws.specs.Sound.{Sound, inplace_count}
use Rattle.demands.specs.Holds.{length-le_bytes}
use Rattle.laws.specs.Lists.{never}
use Rattle.demands.specs.AtCursor.{At, at_bytes, at_bit, at_reference, at-in_place}
use Rattle.demands.specs.StructHold.{struct_holds}
use Rattle.demands.specs.Writes.{Objects}
use Rattle.demands.specs.TreeHold.{Below}

after_two : (o : ℕ) (c : Cursor) → after_bytes o (after_bytes 2 c) ≡ after_bytes (2 + o) c
unfolding after_bytes
after_two o c =
    let e : c.end + 2 + o ≡ c.end + (2 + o) = omega arith in
    ap (λ (n : ℕ). record { end = n; byte = c.byte; bit = c.bit }) e

-- what is known of the objects one level down: where their slots stand, they are held
pub record Inner (o : ℕ) (S : Schema) (m : List ℕ) (P : Planner) (G : Objects) (below : Below) : Type 0 where
  pub by_offset : (ob : Object) (v : Value) (x z : ℕ) → G ob v → start_size o ≤ x → At o m x begin z z (object_slots P o S ob v)
      → below ob v (ByOffset x)
  pub in_place_at : (ob : Object) (v : Value) (e z : ℕ) → stands_in_place ob ≡ true → G ob v → At o m e begin z z (P ob v)
      → below ob v (InPlace e (length_of o S ob v))
  pub short : (ob : Object) (v : Value) (e z : ℕ) → stands_in_place ob ≡ true → G ob v → At o m e begin z z (P ob v)
      → length_of o S ob v < 256 ^ o
  -- an element of a direct list: its table has no member in place, so that nothing need stand behind it
  pub direct : (t : ℕ) (v : Value) (at z e : ℕ) → inplace_count (table_of S t).members ≡ 0 → G (O.Table t) v
      → At o m at begin z e (P (O.Table t) v)
      → below (O.Table t) v (InPlace at (fixed_size o S (table_of S t).members)) × (at + fixed_size o S (table_of S t).members ≡ z)

-- the rest behind a part: its in-place content is where it was, unless the part has one itself
abbrev pub Behind : ℕ → List ℕ → ℕ → Cursor → ℕ → ℕ → Bool → Slots → Type 0
Behind o m start c z e inplace rest = (e' : ℕ) × (inplace ≡ false → e' ≡ e) × At o m start c z e' rest

-- ---- behind a part
module _ (o : ℕ) (S : Schema) (sound : Sound S) (m : List ℕ) (P : Planner) (start z : ℕ) where
  struct-length : (i : ℕ) (t : Bool) (v : Value) → length (pick t (struct_bytes S i v) (zeros (struct_size S i))) ≡ struct_size S i
  struct-length i true v = (struct_holds S sound m i).size v
  struct-length i false v = length-replicate (struct_size S i) 0

  behind-flat : (k : Flat) (v : Value) (c : Cursor) (e : ℕ) (rest : Slots) → At o m start c z e (flat_slots S k v rest)
      → At o m start (after_value o S (OfFlat k) c) z e rest
  unfolding flat_slots after_value is_bool flat_is_bool L.width flat_width
  behind-flat F.Boolean v c e rest a = (at_bit o m start c z e (as_number v) rest a).1
  behind-flat (F.Integer s w) v c e rest a =
      rw (length-le_bytes w (as_number v)) at (at_bytes o m start c z e (le_bytes w (as_number v)) rest a).1
  behind-flat (F.Float w) v c e rest a =
      rw (length-le_bytes w (number_or v (no_float w))) at (at_bytes o m start c z e (le_bytes w (number_or v (no_float w))) rest a).1
  behind-flat (F.Enumerated n) v c e rest a = (at_bytes o m start c z e (number_or v 255 ∷ []) rest a).1
  behind-flat (F.Struct i) v c e rest a =
      let bs = pick (present v) (struct_bytes S i v) (zeros (struct_size S i)) in
      rw (struct-length i (present v) v) at (at_bytes o m start c z e bs rest a).1

  behind_refer : (inplace : Bool) (ob : Object) (v : Value) (c : Cursor) (e : ℕ) (rest : Slots)
      → At o m start c z e (refer_slots P o S inplace ob v rest) → Behind o m start (after_bytes o c) z e inplace rest
  unfolding refer_slots
  behind_refer true ob v c e rest a =
      let n = length_of o S ob v in
      let b = rw (length-le_bytes o n) at (at_bytes o m start c z e (le_bytes o n) (in_place (P ob v) rest) a).1 in
      (_, λ h. never (sym h), (at-in_place o m start (after_bytes o c) z e (P ob v) rest b).1)
  behind_refer false ob v c e rest a = (e, λ h. refl, (at_reference o m start c z e (object_slots P o S ob v) rest a).2)

  behind-object : (t inplace : Bool) (ob : Object) (v : Value) (c : Cursor) (e : ℕ) (rest : Slots)
      → At o m start c z e (pick t (refer_slots P o S inplace ob v rest) (bytes (zeros o) rest))
      → Behind o m start (after_bytes o c) z e inplace rest
  behind-object true inplace ob v c e rest a = behind_refer inplace ob v c e rest a
  behind-object false inplace ob v c e rest a =
      (e, λ h. refl, rw (length-replicate {A = ℕ} o 0) at (at_bytes o m start c z e (zeros o) rest a).1)

  behind-union : (t inplace : Bool) (x : ℕ) (ob : Object) (v : Value) (c : Cursor) (e : ℕ) (rest : Slots)
      → At o m start c z e (pick t (bytes (le_bytes 2 x) (refer_slots P o S inplace ob v rest)) (bytes (zeros (2 + o)) rest))
      → Behind o m start (after_bytes (2 + o) c) z e inplace rest
  behind-union true inplace x ob v c e rest a =
      let b = rw (length-le_bytes 2 x) at (at_bytes o m start c z e (le_bytes 2 x) (refer_slots P o S inplace ob v rest) a).1 in
      let h = behind_refer inplace ob v (after_bytes 2 c) e rest b in
      (h.0, h.1, rw (after_two o c) at h.2)
  behind-union false inplace x ob v c e rest a =
      (e, λ h. refl, rw (length-replicate {A = ℕ} (2 + o) 0) at (at_bytes o m start c z e (zeros (2 + o)) rest a).1)

  pub behind-value : (k : Kind) (inplace : Bool) (v : Value) (c : Cursor) (e : ℕ) (rest : Slots)
      → At o m start c z e (value_slots P o S k inplace v rest) → Behind o m start (after_value o S k c) z e inplace rest
  unfolding value_slots after_value is_bool L.width
  behind-value (OfFlat k) inplace v c e rest a = (e, λ h. refl, behind-flat k v c e rest a)
  behind-value (OfObject ob) inplace v c e rest a = behind-object (present v) inplace ob v c e rest a
  behind-value (OfUnion i) inplace v c e rest a =
      behind-union (present v) inplace (as_number v) (case_of (cases_of S i) (as_number v)) (as_object v) c e rest a
