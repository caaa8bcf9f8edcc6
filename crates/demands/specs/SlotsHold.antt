-- The same of slots, where single bits stand in bool bytes: what stands at a cursor of a fixed part or of a list's elements.
use Rattle.std.specs.Prelude.{◌≡◌, List}
use Rattle.std.proofs.Math.Path.{refl, ap}
use Rattle.std.proofs.Common.{sym, ◌∙◌, pow-suc}
use Prim.Native.Nat.{ℕ, suc, zero, ◌+◌, ◌*◌, ◌-◌, ◌/◌, ◌%◌, ◌^◌, ◌≤◌, ◌<◌}
use native.Mathlib.Omega.{arith}
use Rattle.std.proofs.Math.Nat.{div-div-eq-div-mul}
use Rattle.std.proofs.Math.ListN.{length, get_or}
use Rattle.coding.specs.Bytes.{le, bit_at}
use Rattle.coding.specs.Walk.{start_size}
use Rattle.coding.specs.Cells.{width, chain, Slots, gather, pack_bits}
use Rattle.coding.specs.Cells.Slots.{end, bytes, bit, reference, in_place, part}
use Rattle.laws.specs.Sound.{All}
use Rattle.laws.specs.Bits.{Byte}
use Rattle.demands.specs.Holds.{Holds}
use Rattle.demands.specs.CellsHold.{CellsHold, CellsBytes}

-- ---- bits are bits, and bytes are bytes
abbrev pub SlotsBytes : Slots → Type 0
SlotsBytes end = Unit {0}
SlotsBytes (bytes bs s) = All Byte bs × SlotsBytes s
SlotsBytes (bit x s) = (x < 2) × SlotsBytes s
SlotsBytes (reference k s) = SlotsBytes k × SlotsBytes s
SlotsBytes (in_place k s) = SlotsBytes k × SlotsBytes s
SlotsBytes (part k s) = SlotsBytes k × SlotsBytes s

gather_small : (n : ℕ) (s : Slots) → SlotsBytes s → gather n s < 2 ^ n
unfolding gather
gather_small n end h = omega (arith, pow_pos n)
  where
    pow_pos : (n : ℕ) → 0 < 2 ^ n
    pow_pos zero = omega arith
    pow_pos (suc n) = omega (arith, pow_pos n)
gather_small n (bytes bs s) h = gather_small n s h.1
gather_small zero (bit x s) h = omega arith
gather_small (suc n) (bit x s) h = omega (arith, gather_small n s h.1, h.0)
gather_small n (reference k s) h = gather_small n s h.1
gather_small n (in_place k s) h = gather_small n s h.1
gather_small n (part k s) h = gather_small n s h.1

pub pack_bytes : (f : ℕ) (s : Slots) → SlotsBytes s → CellsBytes (pack_bits f s)
unfolding pack_bits
pack_bytes f end h = tt
pack_bytes f (bytes bs s) h = (h.0, pack_bytes f s h.1)
pack_bytes zero (bit x s) h = ((omega (arith, gather_small 7 s h.1, h.0), tt), pack_bytes 7 s h.1)
pack_bytes (suc f) (bit x s) h = pack_bytes f s h.1
pack_bytes f (reference k s) h = (pack_bytes 0 k h.0, pack_bytes f s h.1)
pack_bytes f (in_place k s) h = (pack_bytes 0 k h.0, pack_bytes f s h.1)
pack_bytes f (part k s) h = (pack_bytes 0 k h.0, pack_bytes f s h.1)

-- ---- a position: the next free byte p, the last bool byte l, and how many of its bits are free, f
abbrev pub byte_of : ℕ → ℕ → ℕ → ℕ
byte_of zero p l = p
byte_of (suc f) p l = l

abbrev pub next_at : ℕ → ℕ → ℕ
next_at zero p = p + 1
next_at (suc f) p = p

abbrev pub next_free : ℕ → ℕ
next_free zero = 7
next_free (suc f) = f

-- the free bits of the last bool byte are 0
abbrev pub Unused : List ℕ → ℕ → ℕ → Type 0
Unused m l zero = Unit {0}
Unused m l (suc g) = get_or m l 0 / 2 ^ (7 - g) ≡ 0

-- the slots stand in m from the position on, their first in-place content at e, and each object where its reference says
abbrev pub SlotsHold : ℕ → List ℕ → ℕ → ℕ → ℕ → ℕ → Slots → Type 0
SlotsHold o m e p l f end = (p ≤ length m) × Unused m l f
SlotsHold o m e p l f (bytes bs s) = Holds m p bs × SlotsHold o m e (p + length bs) l f s
SlotsHold o m e p l f (bit x s) =
    (bit_at m (byte_of f p l) (7 - next_free f) ≡ x) × SlotsHold o m e (next_at f p) (byte_of f p l) (next_free f) s
SlotsHold o m e p l f (reference k s) =
    (start_size o ≤ le m p o) × SlotsHold o m (le m p o + width o (pack_bits 0 k)) (le m p o) 0 0 k × SlotsHold o m e (p + o) l f s
SlotsHold o m e p l f (in_place k s) =
    SlotsHold o m (e + width o (pack_bits 0 k)) e 0 0 k × SlotsHold o m (e + width o (pack_bits 0 k) + chain o (pack_bits 0 k)) p l f s
SlotsHold o m e p l f (part k s) =
    SlotsHold o m e p 0 0 k × SlotsHold o m (e + chain o (pack_bits 0 k)) (p + width o (pack_bits 0 k)) l f s

-- what is left of the last bool byte are the bits to come
abbrev pub Rest : List ℕ → ℕ → ℕ → Slots → Type 0
Rest m l zero s = Unit {0}
Rest m l (suc g) s = (get_or m l 0 / 2 ^ (7 - g) ≡ gather (suc g) s) × (g ≤ 7)

bit_is : (x n k : ℕ) → x < 2 → n ≡ x + 2 * k → n % 2 ≡ x
bit_is x n k h e = omega arith

halves : (x n : ℕ) → x < 2 → (x + 2 * n) / 2 ≡ n
halves x n h = omega arith

rest-after : (m : List ℕ) (l f x : ℕ) (s : Slots) → x < 2 → Rest m l (suc f) (bit x s) → Rest m l f s
unfolding gather
rest-after m l zero x s small h = tt
rest-after m l (suc g) x s small h =
    let le = h.1 in
    let k : 7 - g ≡ suc (7 - suc g) = omega arith in
    let half : get_or m l 0 / 2 ^ (7 - g) ≡ get_or m l 0 / 2 ^ (7 - suc g) / 2 =
    ap (λ (n : ℕ). get_or m l 0 / 2 ^ n) k ∙ ap (λ (n : ℕ). get_or m l 0 / n) (pow-suc 2 (7 - suc g)) ∙ sym (div-div-eq-div-mul (get_or m l 0) (2 ^ (7 - suc g)) 2) in
    let d : (x + 2 * gather (suc g) s) / 2 ≡ gather (suc g) s = halves x (gather (suc g) s) small in
    (half ∙ ap (λ (n : ℕ). n / 2) h.0 ∙ d, omega arith)

rest-same : (m : List ℕ) (l f : ℕ) (s t : Slots) → gather f s ≡ gather f t → Rest m l f s → Rest m l f t
rest-same m l zero s t e h = tt
rest-same m l (suc g) s t e h = (h.0 ∙ e, h.1)

rest_unused : (m : List ℕ) (l f : ℕ) → Rest m l f end → Unused m l f
unfolding gather
rest_unused m l zero h = tt
rest_unused m l (suc g) h = h.0

module _ (o : ℕ) (m : List ℕ) where
  pub slots_hold : (e p l f : ℕ) (s : Slots) → SlotsBytes s → Rest m l f s → CellsHold o m p e (pack_bits f s) → SlotsHold o m e p l f s
  unfolding pack_bits gather bit_at
  slots_hold e p l f end y r h = (h, rest_unused m l f r)
  slots_hold e p l f (bytes bs s) y r h =
      (h.0, slots_hold e (p + length bs) l f s y.1 (rest-same m l f (bytes bs s) s refl r) h.1)
  slots_hold e p l zero (bit x s) y r h =
      let v = h.0.0 in
      let z : get_or m p 0 / 2 ^ (7 - 7) ≡ get_or m p 0 = omega arith in
      let half : get_or m p 0 / 2 ^ (7 - 6) ≡ gather 7 s = ap (λ (n : ℕ). n / 2) v ∙ halves x (gather 7 s) y.0 in
      (rw z (bit_is x (get_or m p 0) (gather 7 s) y.0 v), slots_hold e (p + 1) p 7 s y.1 (half, omega arith) h.1)
  slots_hold e p l (suc f) (bit x s) y r h = (
    bit_is x (get_or m l 0 / 2 ^ (7 - f)) (gather f s) y.0 r.0,
    slots_hold e p l f s y.1 (rest-after m l f x s y.0 r) h,
  )
  slots_hold e p l f (reference k s) y r h = (
    h.0,
    slots_hold (le m p o + width o (pack_bits 0 k)) (le m p o) 0 0 k y.0 tt h.1,
    slots_hold e (p + o) l f s y.1 (rest-same m l f (reference k s) s refl r) h.2,
  )
  slots_hold e p l f (in_place k s) y r h = (
    slots_hold (e + width o (pack_bits 0 k)) e 0 0 k y.0 tt h.0,
    slots_hold (e + width o (pack_bits 0 k) + chain o (pack_bits 0 k)) p l f s y.1 (rest-same m l f (in_place k s) s refl r) h.1,
  )
  slots_hold e p l f (part k s) y r h = (
    slots_hold e p 0 0 k y.0 tt h.0,
    slots_hold (e + chain o (pack_bits 0 k)) (p + width o (pack_bits 0 k)) l f s y.1 (rest-same m l f (part k s) s refl r) h.1,
  )
