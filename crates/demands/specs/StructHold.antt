-- Structs: a struct's bytes have its size and are bytes; where they stand, the struct reads as what was written, and its
-- booleans are in order.
use Rattle.std.specs.Prelude.{◌≡◌, Bool, true, ℕ, ◌+◌, ◌<◌, length}
use Rattle.std.proofs.Math.Path.{refl, sym, ap}
use Rattle.std.proofs.Common.{ap₂, ◌∙◌}
use mathlib.Core.List.{List, [], ◌∷◌}
use native.Mathlib.Omega.{arith}
use borrow.Author.Tests.{lt-ltb, le-leb, ne_eqb}
use Rattle.std.proofs.Math.ListN.{length-append}
use Rattle.coding.specs.Schema.{Schema, struct_of}
use Rattle.coding.specs.Structs.{flat_width, total, struct_size, flat_ok, flats_ok, ok_by, always, struct_ok}
use Rattle.coding.specs.Step.{enum_step, field_step}
use Rattle.coding.specs.Value.{Value, Values, number, row, ◌then◌, present, as_number, as_row, first, others}
use Rattle.coding.specs.Read.{step_read, no_object, fields_read, read_by, no_struct, struct_read}
use Rattle.coding.specs.Message.{number_or, flat_bytes, flats_bytes, bytes_by, no_bytes, struct_bytes}
use Rattle.coding.specs.declared.Flat.{Flat}
use Rattle.coding.specs.declared.Flat.TheVariants.{Boolean, Integer, Float, Enumerated, Struct}
use Rattle.laws.specs.Sound.{All, FlatSound, Sound}
use Rattle.laws.specs.Structs.{index_holds₃}
use Rattle.laws.specs.Sizes.{struct-size_is}
use Rattle.laws.specs.Bits.{Byte}
use Rattle.laws.specs.All.{all_append}
use Rattle.demands.specs.Holds.{Holds, length-le_bytes, holds-le, holds_left, holds-right, le_bytes_bytes}
use Rattle.demands.specs.Writes.{FlatWrites, FlatsWrite, boolean, integer, float, no-enum, enum, struct, no-flat, flats}

module _ (S : Schema) (sound : Sound S) where
  -- what is shown of a struct, by the recursions of its bytes, its reading and its booleans
  pub record StructHolds (m : List ℕ) (i : ℕ) (bytes_of : Value → List ℕ) (readAt : ℕ → Value) (okAt : ℕ → Bool) : Type 0 where
    pub size : (v : Value) → length (bytes_of v) ≡ struct_size S i
    pub bytes : (v : Value) → FlatWrites S (Struct i) v → All Byte (bytes_of v)
    pub reads : (v : Value) (at : ℕ) → FlatWrites S (Struct i) v → Holds m at (bytes_of v) → readAt at ≡ v
    pub judged : (v : Value) (at : ℕ) → FlatWrites S (Struct i) v → Holds m at (bytes_of v) → okAt at ≡ true

  module _ (m : List ℕ) (i : ℕ) (b : ℕ → Value → List ℕ) (r : ℕ → ℕ → Value) (t : ℕ → ℕ → Bool)
      (inner : (j : ℕ) → j < i → StructHolds m j (b j) (r j) (t j)) where
    flat-size : (k : Flat) (v : Value) → FlatSound i k → length (flat_bytes b k v) ≡ flat_width (struct_size S) k
    unfolding flat_bytes flat_width
    flat-size Boolean v ok = refl
    flat-size (Integer s w) v ok = length-le_bytes w (as_number v)
    flat-size (Float w) v ok = length-le_bytes w (as_number v)
    flat-size (Enumerated n) v ok = refl
    flat-size (Struct j) v ok = (inner j ok).size v

    flats-size : (ks : List Flat) (vs : Values) → All (FlatSound i) ks → length (flats_bytes b ks vs) ≡ total (struct_size S) ks
    unfolding flats_bytes total
    flats-size [] vs ok = refl
    flats-size (k ∷ ks) vs ok =
        omega (arith, length-append (flat_bytes b k (first vs)) (flats_bytes b ks (others vs)), flat-size k (first vs) ok.0, flats-size ks (others vs) ok.1)

    flat_bytes_lem : {k : Flat} {v : Value} → FlatSound i k → FlatWrites S k v → All Byte (flat_bytes b k v)
    unfolding flat_bytes number_or present as_number
    flat_bytes_lem ok (boolean h) = (omega arith, tt)
    flat_bytes_lem ok (integer {w = w} {x = x} h) = le_bytes_bytes w x
    flat_bytes_lem ok (float {w = w} {x = x} h) = le_bytes_bytes w x
    flat_bytes_lem ok no-enum = (omega arith, tt)
    flat_bytes_lem ok (enum h) = (omega arith, tt)
    flat_bytes_lem ok (struct {i = j} {vs = vs} h) = (inner j ok).bytes (row vs) (struct h)

    flats_bytes_lem : {ks : List Flat} {vs : Values} → All (FlatSound i) ks → FlatsWrite S ks vs → All Byte (flats_bytes b ks vs)
    unfolding flats_bytes first others
    flats_bytes_lem ok no-flat = tt
    flats_bytes_lem ok (flats {k = k} {ks = ks} {v = v} {vs = vs} h hs) =
        all_append Byte (flat_bytes b k v) (flats_bytes b ks vs) (flat_bytes_lem ok.0 h) (flats_bytes_lem ok.1 hs)

    flat_reads : {k : Flat} {v : Value} (at : ℕ) → FlatSound i k → FlatWrites S k v → Holds m at (flat_bytes b k v)
        → (step_read r no_object (field_step m k at) ≡ v) × (flat_ok t m k at ≡ true)
    unfolding flat_bytes number_or present as_number step_read field_step enum_step flat_ok
    flat_reads at ok (boolean {x = x} h) g = (rw g.0, rw g.0 (le-leb x 1 (omega arith)))
    flat_reads at ok (integer {w = w} {x = x} h) g = (ap number (holds-le m w at x h g), refl)
    flat_reads at ok (float {w = w} {x = x} h) g = (ap number (holds-le m w at x h g), refl)
    flat_reads at ok no-enum g = (rw g.0, refl)
    flat_reads at ok (enum {n = n} {x = x} h) g =
        let no : x ≡ 255 → ⊥ = λ e. omega arith in
        (rw (g.0, ne_eqb x 255 no, lt-ltb x n h), refl)
    flat_reads at ok (struct {i = j} {vs = vs} h) g =
        ((inner j ok).reads (row vs) at (struct h) g, (inner j ok).judged (row vs) at (struct h) g)

    flats_reads : {ks : List Flat} {vs : Values} (at : ℕ) → All (FlatSound i) ks → FlatsWrite S ks vs → Holds m at (flats_bytes b ks vs)
        → (fields_read r S m ks at ≡ vs) × (flats_ok t S m ks at ≡ true)
    unfolding flats_bytes first others fields_read flats_ok
    flats_reads at ok no-flat g = (refl, refl)
    flats_reads at ok (flats {k = k} {ks = ks} {v = v} {vs = vs} h hs) g =
        let a = flat_reads at ok.0 h (holds_left m at (flat_bytes b k v) (flats_bytes b ks vs) g) in
        let g' : Holds m (at + flat_width (struct_size S) k) (flats_bytes b ks vs) =
        rw (flat-size k v ok.0) at (holds-right m at (flat_bytes b k v) (flats_bytes b ks vs) g) in
        let c = flats_reads (at + flat_width (struct_size S) k) ok.1 hs g' in
        (ap₂ (λ (x : Value) (xs : Values). x then xs) a.0 c.0, rw (a.1, c.1))

    row_bytes_lem : (v : Value) → FlatWrites S (Struct i) v → All Byte (bytes_by S b i v)
    unfolding bytes_by as_row
    row_bytes_lem v (struct h) = flats_bytes_lem (sound.structs i).members h

    row_reads : (v : Value) (at : ℕ) → FlatWrites S (Struct i) v → Holds m at (bytes_by S b i v) → read_by S m r i at ≡ v
    unfolding bytes_by read_by as_row
    row_reads v at (struct h) g = ap row (flats_reads at (sound.structs i).members h g).0

    row_judged : (v : Value) (at : ℕ) → FlatWrites S (Struct i) v → Holds m at (bytes_by S b i v) → ok_by S m t i at ≡ true
    unfolding bytes_by ok_by as_row
    row_judged v at (struct h) g = (flats_reads at (sound.structs i).members h g).1

    row-size : (v : Value) → length (bytes_by S b i v) ≡ struct_size S i
    unfolding bytes_by
    row-size v = flats-size (struct_of S i) (as_row v) (sound.structs i).members ∙ sym (struct-size_is S sound i)

    next : StructHolds m i (bytes_by S b i) (read_by S m r i) (ok_by S m t i)
    next = record { size = row-size; bytes = row_bytes_lem; reads = row_reads; judged = row_judged }

  pub struct_holds : (m : List ℕ) (i : ℕ) → StructHolds m i (struct_bytes S i) (struct_read S m i) (struct_ok S m i)
  unfolding struct_bytes struct_read struct_ok
  struct_holds m i =
      index_holds₃ (StructHolds m) no_bytes (bytes_by S) no_struct (read_by S m) always (ok_by S m) (λ j b r t h. next m j b r t h) i
