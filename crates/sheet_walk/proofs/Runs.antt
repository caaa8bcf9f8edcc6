-- Lists whose elements lead to no object and stand in one run: bytes, and floats and enums with their marks.
use mathlib.Core.Path.{◌≡◌, refl, sym, ap, ap₂, ◌∙◌, subst}
use mathlib.Core.Bool.{Bool, true, false}
use mathlib.Core.List.{List, [], ◌++◌}
use Prim.Native.Nat.{ℕ, zero, suc, ◌+◌, ◌*◌, ◌/◌, ◌%◌, ◌<◌, ◌≤◌}
use native.Mathlib.Omega.{arith}
use native.Mathlib.Nat.{mul-zero, add-zero, mul-suc}
use native.Mathlib.Numerals.{add-one}
use lib.ListN.{length, get_or, take, drop, length-drop}
use lib.Seq.{drop-cons, length-take-le}
use Rattle.coding.specs.Bytes.{le, bit_at}
use Rattle.coding.specs.Schema as Sc
use Rattle.coding.specs.Schema.{Schema}
use Rattle.coding.specs.Packed as P
use Rattle.coding.specs.Structs.{flat_width}
use Rattle.coding.specs.Layout as L
use Rattle.coding.specs.Step as T
use Rattle.coding.specs.Value as Tree
use Rattle.coding.specs.Read as R
use Rattle.coding.specs.Bits.{bits_of, bits}
use Rattle.coding.specs.Sheet as E
use Rattle.coding.specs.declared.Flat.{Flat}
use Rattle.coding.specs.declared.Flat.TheVariants as F
use Rattle.coding.specs.declared.Kind.{Kind}
use Rattle.coding.specs.declared.Kind.TheVariants.{OfFlat, OfObject, OfUnion}
use Rattle.laws.specs.Sound.{FlatSound, FlatScalar, KindSound, NoStruct}
use Rattle.schema.specs.Directory.{Accepted, accepted_sound}
use Rattle.bitio.specs.Puts.{Room, Puts}
use Rattle.bitio.specs.PutsLaws.{puts-same}
use Rattle.sheet_values.specs.Marks as K
use Rattle.sheet_lists.specs.Elements as Es
use Rattle.sheet_walk.specs.MessageBits as A
use Rattle.sheet_walk.specs.Readable as D
use Rattle.sheet_walk.proofs.Flats.{flat-bits}
use Rattle.sheet_walk.proofs.Parts.{elements_cons, list-elements}

-- ---- bytes
le_byte : (m : List ℕ) (at : ℕ) → le m at 1 ≡ get_or m at 0
unfolding le
le_byte m at = omega arith

bytes_same : (m : List ℕ) (n at : ℕ) → at + n ≤ length m → bits (take n (drop at m)) ≡ Es.numbers_at m 1 n at
unfolding bits Es.numbers_at
bytes_same m zero at h = refl
bytes_same m (suc n) at h =
    let l : at < length m = omega arith in
    let z : suc at ≡ at + 1 = sym (add-one at) in
    ap (λ (x : List ℕ). bits (take (suc n) x)) (drop-cons m at 0 l)
    ∙ ap₂ (λ (x y : List ℕ). x ++ y) (ap (bits_of 8) (sym (le_byte m at)))
    (ap (λ (x : ℕ). bits (take n (drop x m))) z ∙ bytes_same m n (at + 1) (omega arith))

-- ---- bools and numbers
bools-same : (o d : ℕ) (S : Schema) (m : List ℕ) (start n i : ℕ) → Es.bools_at m start n i ≡ A.elements_at o d S m (OfFlat F.Boolean) start n i
unfolding Es.bools_at Es.bool_at A.elements_at E.elements_bits R.elements_read E.element_bits E.unmarked E.flat_unmarked E.body_bits E.flat_bits R.step_read T.element_step T.struct_tested T.value_step T.flat_step T.element_place L.is_bool L.flat_is_bool Tree.as_number
bools-same o d S m start zero i = refl
bools-same o d S m start (suc n) i = ap (λ (l : List ℕ). bits_of 1 (bit_at m (start + i / 8) (i % 8)) ++ l) (bools-same o d S m start n (i + 1))

numbers-same : (o d : ℕ) (S : Schema) (m : List ℕ) (s : Bool) (w start n i : ℕ)
    → Es.numbers_at m w n (start + w * i) ≡ A.elements_at o d S m (OfFlat (F.Integer s w)) start n i
unfolding Es.numbers_at A.elements_at E.elements_bits R.elements_read E.element_bits E.unmarked E.flat_unmarked E.body_bits E.flat_bits R.step_read T.element_step T.struct_tested T.value_step T.flat_step T.element_place L.is_bool L.flat_is_bool Tree.as_number L.width flat_width
numbers-same o d S m s w start zero i = refl
numbers-same o d S m s w start (suc n) i =
    let z : w * (i + 1) ≡ w * i + w = ap (λ (x : ℕ). w * x) (add-one i) ∙ mul-suc w i in
    let y : start + w * i + w ≡ start + w * (i + 1) = omega arith in
    ap (λ (l : List ℕ). bits_of (8 * w) (le m (start + w * i) w) ++ l) (ap (Es.numbers_at m w n) y ∙ numbers-same o d S m s w start n (i + 1))

from_zero : (w start : ℕ) → start ≡ start + w * 0
from_zero w start = sym (ap (λ (x : ℕ). start + x) (mul-zero w) ∙ add-zero start)

-- a list of bytes is put as bytes are
pub list_bytes : (o d : ℕ) (S : Schema) (m : List ℕ) (i start n : ℕ) → start + T.elements_size o S (Sc.element_of S i) n ≤ length m
    → (k : Kind) → k ≡ Sc.element_of S i → (f : Flat) → k ≡ OfFlat f → (s : Bool) (w : ℕ) → f ≡ F.Integer s w → w ≡ 1 → (out out₁ : List ℕ) (p q : ℕ) → Puts out p (E.blob_bits (take n (drop start m))) out₁ q
    → Puts out p (A.list_at o d S m (Sc.element_of S i) start n) out₁ q
unfolding E.blob_bits A.list_at T.elements_size L.is_bool L.flat_is_bool L.width flat_width
list_bytes o d S m i start n fits k e f ek s w ef ew out out₁ p q h = puts-same out out₁ p q (E.blob_bits (take n (drop start m))) (A.list_at o d S m (Sc.element_of S i) start n) same h
  where
    one : Sc.element_of S i ≡ OfFlat (F.Integer s 1)
    one = sym e ∙ ek ∙ ap OfFlat (ef ∙ ap (F.Integer s) ew)

    inside : start + n ≤ length m
    inside = let z : start + 1 * n ≤ length m = subst (λ (v : Kind). start + T.elements_size o S v n ≤ length m) one fits in omega arith

    long : length (take n (drop start m)) ≡ n
    long = length-take-le n (drop start m) (omega (arith, length-drop start m, inside))

    run : bits (take n (drop start m)) ≡ A.elements_at o d S m (Sc.element_of S i) start n 0
    run =
        bytes_same m n start inside ∙ ap (Es.numbers_at m 1 n) (from_zero 1 start) ∙ numbers-same o d S m s 1 start n 0
        ∙ ap (λ (v : Kind). A.elements_at o d S m v start n 0) (sym one)

    same : E.blob_bits (take n (drop start m)) ≡ A.list_at o d S m (Sc.element_of S i) start n
    same = ap₂ (λ (x : ℕ) (l : List ℕ). bits_of 32 x ++ l) long run

-- ---- floats and enums
module _ (o d : ℕ) (S : Schema) (m : List ℕ) where
  flats_cons : (f : Flat) (start n i : ℕ) → E.unmarked (OfFlat f) ≡ false → D.ElementsReadable o (D.ObjectReadable o d S m) S m (OfFlat f) start (suc n) i
      → A.elements_at o d S m (OfFlat f) start (suc n) i
      ≡ A.flat_at S m f true (T.element_place o S (OfFlat f) start i) (i % 8) ++ A.elements_at o d S m (OfFlat f) start n (i + 1)
  unfolding D.ElementsReadable T.element_step T.value_step
  flats_cons f start n i e h =
      elements_cons o d S m (OfFlat f) start n i e h.0
      ∙ ap (λ (l : List ℕ). l ++ A.elements_at o d S m (OfFlat f) start n (i + 1)) (sym (flat-bits o d S m f true (T.element_place o S (OfFlat f) start i) (i % 8)))

  flats-rest : (f : Flat) (start n i : ℕ) → D.ElementsReadable o (D.ObjectReadable o d S m) S m (OfFlat f) start (suc n) i
      → D.ElementsReadable o (D.ObjectReadable o d S m) S m (OfFlat f) start n (i + 1)
  unfolding D.ElementsReadable
  flats-rest f start n i h = h.1

  none_left : (k : Kind) (start i : ℕ) → [] ≡ A.elements_at o d S m k start 0 i
  unfolding A.elements_at E.elements_bits R.elements_read
  none_left k start i = refl

  further : (w start i : ℕ) → start + w * i + w ≡ start + w * (i + 1)
  further w start i = let z : w * (i + 1) ≡ w * i + w = ap (λ (x : ℕ). w * x) (add-one i) ∙ mul-suc w i in omega arith

  floats_same : (w start n i : ℕ) → D.ElementsReadable o (D.ObjectReadable o d S m) S m (OfFlat (F.Float w)) start n i
      → Es.floats_at m w n (start + w * i) ≡ A.elements_at o d S m (OfFlat (F.Float w)) start n i
  unfolding Es.floats_at A.flat_at E.unmarked E.flat_unmarked T.element_place L.is_bool L.flat_is_bool L.width flat_width
  floats_same w start zero i h = none_left (OfFlat (F.Float w)) start i
  floats_same w start (suc n) i h =
      ap (λ (l : List ℕ). K.float_at true w (le m (start + w * i) w) ++ l)
      (ap (Es.floats_at m w n) (further w start i) ∙ floats_same w start n (i + 1) (flats-rest (F.Float w) start n i h))
      ∙ sym (flats_cons (F.Float w) start n i refl h)

  enums-same : (k start n i : ℕ) → D.ElementsReadable o (D.ObjectReadable o d S m) S m (OfFlat (F.Enumerated k)) start n i
      → Es.enums_at m k n (start + 1 * i) ≡ A.elements_at o d S m (OfFlat (F.Enumerated k)) start n i
  unfolding Es.enums_at A.flat_at E.unmarked E.flat_unmarked T.element_place L.is_bool L.flat_is_bool L.width flat_width
  enums-same k start zero i h = none_left (OfFlat (F.Enumerated k)) start i
  enums-same k start (suc n) i h =
      ap (λ (l : List ℕ). K.enum_at k (get_or m (start + 1 * i) 0) ++ l)
      (ap (Es.enums_at m k n) (further 1 start i) ∙ enums-same k start n (i + 1) (flats-rest (F.Enumerated k) start n i h))
      ∙ sym (flats_cons (F.Enumerated k) start n i refl h)

  -- a flat element is no struct
  flats-same : (f : Flat) (start n : ℕ) → FlatSound 0 f → D.ElementsReadable o (D.ObjectReadable o d S m) S m (OfFlat f) start n 0
      → A.flats_at m f n start ≡ A.elements_at o d S m (OfFlat f) start n 0
  unfolding A.flats_at
  flats-same F.Boolean start n l good = bools-same o d S m start n 0
  flats-same (F.Integer s w) start n l good = ap (Es.numbers_at m w n) (from_zero w start) ∙ numbers-same o d S m s w start n 0
  flats-same (F.Float w) start n l good = ap (Es.floats_at m w n) (from_zero w start) ∙ floats_same w start n 0 good
  flats-same (F.Enumerated k) start n l good = ap (Es.enums_at m k n) (from_zero 1 start) ∙ enums-same k start n 0 good
  flats-same (F.Struct i) start n l good = absurd (omega arith)

scalar_sound : (c : ℕ) (f : Flat) → FlatSound c f → FlatScalar f → FlatSound 0 f
scalar_sound c F.Boolean h s = tt
scalar_sound c (F.Integer g w) h s = h
scalar_sound c (F.Float w) h s = h
scalar_sound c (F.Enumerated n) h s = h
scalar_sound c (F.Struct i) h s = absurd s

module _ (b dir : List ℕ) (a : Accepted b dir) (i : ℕ) (k : Kind) (e : k ≡ Sc.element_of (P.parse b) i) (f : Flat) (ek : k ≡ OfFlat f) where
  pub element-flat : FlatSound 0 f
  element-flat =
      let l = (accepted_sound b dir a).lists i in
      scalar_sound (length (P.parse b).structs) f (subst (KindSound (P.parse b)) (sym e ∙ ek) l.kind) (subst NoStruct (sym e ∙ ek) l.scalar)

  pub list_flats : (o d : ℕ) (m : List ℕ) (start n x : ℕ) → x ≡ n → (out out₁ out₂ : List ℕ) (p q r : ℕ) → Room out p → Puts out p (bits_of 32 x) out₁ q
      → D.ElementsReadable o (D.ObjectReadable o d (P.parse b) m) (P.parse b) m (Sc.element_of (P.parse b) i) start n 0 → Puts out₁ q (A.flats_at m f n start) out₂ r
      → Puts out p (A.list_at o d (P.parse b) m (Sc.element_of (P.parse b) i) start n) out₂ r
  list_flats o d m start n x ex out out₁ out₂ p q r g h good put =
      list-elements o d (P.parse b) m i start n x k e ex out out₁ out₂ p q r g h
      (puts-same out₁ out₂ q r (A.flats_at m f n start) (A.elements_at o d (P.parse b) m k start n 0)
      (flats-same o d (P.parse b) m f start n element-flat
      (subst (λ (v : Kind). D.ElementsReadable o (D.ObjectReadable o d (P.parse b) m) (P.parse b) m v start n 0) (sym e ∙ ek) good)
      ∙ ap (λ (v : Kind). A.elements_at o d (P.parse b) m v start n 0) (sym ek)) put)
