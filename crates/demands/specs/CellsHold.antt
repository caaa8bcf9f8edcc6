-- What can be said of a message that is laid out from cells: each object stands where its reference says, and each in-place
-- content behind the sequence that it belongs to.
use Rattle.std.specs.Prelude.{◌≡◌, List, ◌++◌, ℕ, ◌+◌, ◌^◌, ◌≤◌, ◌<◌}
use Rattle.std.proofs.Math.Path.{refl}
use native.Mathlib.Omega.{arith}
use Rattle.std.proofs.Math.ListN.{length, length-append}
use Rattle.coding.specs.Bytes.{le, le_bytes}
use Rattle.coding.specs.Walk.{start_size}
use Rattle.coding.specs.Cells.{Cells, width, chain, below, width_bytes, chain_bytes, below_bytes, layout}
use Rattle.coding.specs.Cells.Cells.{end, bytes, reference, in_place, part}
use Rattle.laws.specs.Sound.{All}
use Rattle.laws.specs.Bits.{Byte}
use Rattle.laws.specs.All.{all_append}
use Rattle.demands.specs.Holds.{Holds, length-le_bytes, holds_fits, holds-right, holds_left, holds-le, holds_self, le_bytes_bytes}

-- the cells c stand in m at p, their first in-place content at e, and each object where its reference says
abbrev pub CellsHold : ℕ → List ℕ → ℕ → ℕ → Cells → Type 0
CellsHold o m p e end = p ≤ length m
CellsHold o m p e (bytes bs c) = Holds m p bs × CellsHold o m (p + length bs) e c
CellsHold o m p e (reference k c) =
    (start_size o ≤ le m p o) × CellsHold o m (le m p o) (le m p o + width o k) k × CellsHold o m (p + o) e c
CellsHold o m p e (in_place k c) = CellsHold o m e (e + width o k) k × CellsHold o m p (e + width o k + chain o k) c
CellsHold o m p e (part k c) = CellsHold o m p e k × CellsHold o m (p + width o k) (e + chain o k) c

-- ---- lengths
module _ (o : ℕ) where
  pub length-width_bytes : (s : ℕ) (c : Cells) → length (width_bytes o s c) ≡ width o c
  unfolding width_bytes width
  length-width_bytes s end = refl
  length-width_bytes s (bytes bs c) = omega (arith, length-append bs (width_bytes o s c), length-width_bytes s c)
  length-width_bytes s (reference k c) =
      let s' = s + (width o k + chain o k + below o k) in
      omega (arith, length-append (le_bytes o s) (width_bytes o s' c), length-le_bytes o s, length-width_bytes s' c)
  length-width_bytes s (in_place k c) = length-width_bytes (s + below o k) c
  length-width_bytes s (part k c) =
      let t = s + below o k in
      omega (arith, length-append (width_bytes o s k) (width_bytes o t c), length-width_bytes s k, length-width_bytes t c)

  pub length-chain_bytes : (s : ℕ) (c : Cells) → length (chain_bytes o s c) ≡ chain o c
  unfolding chain_bytes chain
  length-chain_bytes s end = refl
  length-chain_bytes s (bytes bs c) = length-chain_bytes s c
  length-chain_bytes s (reference k c) = length-chain_bytes (s + (width o k + chain o k + below o k)) c
  length-chain_bytes s (in_place k c) =
      let a = width_bytes o s k in
      let b = chain_bytes o s k in
      let d = chain_bytes o (s + below o k) c in
      omega (
        arith,
        length-append a (b ++ d),
        length-append b d,
        length-width_bytes s k,
        length-chain_bytes s k,
        length-chain_bytes (s + below o k) c,
      )
  length-chain_bytes s (part k c) =
      let t = s + below o k in
      omega (arith, length-append (chain_bytes o s k) (chain_bytes o t c), length-chain_bytes s k, length-chain_bytes t c)

  pub length-below_bytes : (s : ℕ) (c : Cells) → length (below_bytes o s c) ≡ below o c
  unfolding below_bytes below
  length-below_bytes s end = refl
  length-below_bytes s (bytes bs c) = length-below_bytes s c
  length-below_bytes s (reference k c) =
      let s' = s + (width o k + chain o k) in
      let t = s + (width o k + chain o k + below o k) in
      omega (
        arith,
        length-append (width_bytes o s' k) (chain_bytes o s' k ++ (below_bytes o s' k ++ below_bytes o t c)),
        length-append (chain_bytes o s' k) (below_bytes o s' k ++ below_bytes o t c),
        length-append (below_bytes o s' k) (below_bytes o t c),
        length-width_bytes s' k,
        length-chain_bytes s' k,
        length-below_bytes s' k,
        length-below_bytes t c,
      )
  length-below_bytes s (in_place k c) =
      omega (
        arith,
        length-append (below_bytes o s k) (below_bytes o (s + below o k) c),
        length-below_bytes s k,
        length-below_bytes (s + below o k) c,
      )
  length-below_bytes s (part k c) =
      let t = s + below o k in
      omega (arith, length-append (below_bytes o s k) (below_bytes o t c), length-below_bytes s k, length-below_bytes t c)

  pub length-layout : (c : Cells) → length (layout o c) ≡ width o c + chain o c + below o c
  unfolding layout
  length-layout c =
      let s = width o c + chain o c in
      omega (
        arith,
        length-append (width_bytes o s c) (chain_bytes o s c ++ below_bytes o s c),
        length-append (chain_bytes o s c) (below_bytes o s c),
        length-width_bytes s c,
        length-chain_bytes s c,
        length-below_bytes s c,
      )

-- ---- what stands where
module _ (o : ℕ) (m : List ℕ) (small : length m < 256 ^ o) where
  pub cells_hold : (p e s : ℕ) (c : Cells) → start_size o ≤ s → Holds m p (width_bytes o s c) → Holds m e (chain_bytes o s c)
      → Holds m s (below_bytes o s c) → CellsHold o m p e c
  unfolding width_bytes chain_bytes below_bytes
  cells_hold p e s end ten w h b = w
  cells_hold p e s (bytes bs c) ten w h b =
      (holds_left m p bs (width_bytes o s c) w, cells_hold (p + length bs) e s c ten (holds-right m p bs (width_bytes o s c) w) h b)
  cells_hold p e s (reference k c) ten w h b =
      let s' = s + (width o k + chain o k) in
      let t = s + (width o k + chain o k + below o k) in
      let wk = width_bytes o s' k in
      let ck = chain_bytes o s' k in
      let bk = below_bytes o s' k in
      let b1 = holds-right m s wk (ck ++ (bk ++ below_bytes o t c)) b in
      let b2 = holds-right m (s + length wk) ck (bk ++ below_bytes o t c) b1 in
      let b3 = holds-right m (s + length wk + length ck) bk (below_bytes o t c) b2 in
      let e1 : s + length wk ≡ s + width o k = omega (arith, length-width_bytes o s' k) in
      let e2 : s + length wk + length ck ≡ s' = omega (arith, length-width_bytes o s' k, length-chain_bytes o s' k) in
      let e3 : s + length wk + length ck + length bk ≡ t =
      omega (arith, length-width_bytes o s' k, length-chain_bytes o s' k, length-below_bytes o s' k) in
      let fit : s < 256 ^ o = omega (arith, holds_fits m (s + length wk + length ck + length bk) (below_bytes o t c) b3) in
      let at : le m p o ≡ s = holds-le m o p s fit (holds_left m p (le_bytes o s) (width_bytes o t c) w) in
      let w6 : Holds m (p + o) (width_bytes o t c) = rw length-le_bytes at (holds-right m p (le_bytes o s) (width_bytes o t c) w) in
      let ih = cells_hold s (s + width o k) s' k (omega arith)
      (holds_left m s wk (ck ++ (bk ++ below_bytes o t c)) b)
      (rw e1 at (holds_left m (s + length wk) ck (bk ++ below_bytes o t c) b1))
      (rw e2 at (holds_left m (s + length wk + length ck) bk (below_bytes o t c) b2)) in
      rw at (ten, ih, cells_hold (p + o) e t c (omega arith) w6 h (rw e3 at b3))
  cells_hold p e s (in_place k c) ten w h b =
      let t = s + below o k in
      let wk = width_bytes o s k in
      let ck = chain_bytes o s k in
      let bk = below_bytes o s k in
      let h1 = holds-right m e wk (ck ++ chain_bytes o t c) h in
      let h2 = holds-right m (e + length wk) ck (chain_bytes o t c) h1 in
      let b1 = holds-right m s bk (below_bytes o t c) b in
      let ih = cells_hold e (e + width o k) s k ten
      (holds_left m e wk (ck ++ chain_bytes o t c) h)
      (rw length-width_bytes at (holds_left m (e + length wk) ck (chain_bytes o t c) h1))
      (holds_left m s bk (below_bytes o t c) b) in (
        ih,
        cells_hold p (e + width o k + chain o k) t c (omega arith) w (rw (length-width_bytes, length-chain_bytes) at h2) (rw length-below_bytes at b1),
      )
  cells_hold p e s (part k c) ten w h b =
      let t = s + below o k in
      let wk = width_bytes o s k in
      let ck = chain_bytes o s k in
      let bk = below_bytes o s k in (
        cells_hold p e s k ten (holds_left m p wk (width_bytes o t c) w) (holds_left m e ck (chain_bytes o t c) h)
            (holds_left m s bk (below_bytes o t c) b),
        cells_hold (p + width o k) (e + chain o k) t c (omega arith)
            (rw length-width_bytes at (holds-right m p wk (width_bytes o t c) w))
            (rw length-chain_bytes at (holds-right m e ck (chain_bytes o t c) h))
            (rw length-below_bytes at (holds-right m s bk (below_bytes o t c) b)),
      )

-- the whole of it: a layout holds its cells
pub layout_holds : (o : ℕ) (c : Cells) → start_size o ≤ width o c → length (layout o c) < 256 ^ o
    → CellsHold o (layout o c) 0 (width o c) c
unfolding layout
layout_holds o c ten small =
    let s = width o c + chain o c in
    let wb = width_bytes o s c in
    let cb = chain_bytes o s c in
    let bb = below_bytes o s c in
    let w0 = holds_self (layout o c) in
    let w1 = holds-right (layout o c) 0 wb (cb ++ bb) w0 in
    let w2 = holds-right (layout o c) (0 + length wb) cb bb w1 in
    let e1 : 0 + length wb ≡ width o c = omega (arith, length-width_bytes o s c) in
    let e2 : 0 + length wb + length cb ≡ s = omega (arith, length-width_bytes o s c, length-chain_bytes o s c) in
    cells_hold o (layout o c) small 0 (width o c) s c (omega arith)
    (holds_left (layout o c) 0 wb (cb ++ bb) w0)
    (rw e1 at (holds_left (layout o c) (0 + length wb) cb bb w1))
    (rw e2 at w2)

-- ---- bytes are bytes
abbrev pub CellsBytes : Cells → Type 0
CellsBytes end = Unit {0}
CellsBytes (bytes bs c) = All Byte bs × CellsBytes c
CellsBytes (reference k c) = CellsBytes k × CellsBytes c
CellsBytes (in_place k c) = CellsBytes k × CellsBytes c
CellsBytes (part k c) = CellsBytes k × CellsBytes c

module _ (o : ℕ) where
  width_bytes_bytes : (s : ℕ) (c : Cells) → CellsBytes c → All Byte (width_bytes o s c)
  unfolding width_bytes
  width_bytes_bytes s end h = tt
  width_bytes_bytes s (bytes bs c) h = all_append Byte bs (width_bytes o s c) h.0 (width_bytes_bytes s c h.1)
  width_bytes_bytes s (reference k c) h =
      let t = s + (width o k + chain o k + below o k) in
      all_append Byte (le_bytes o s) (width_bytes o t c) (le_bytes_bytes o s) (width_bytes_bytes t c h.1)
  width_bytes_bytes s (in_place k c) h = width_bytes_bytes (s + below o k) c h.1
  width_bytes_bytes s (part k c) h =
      let t = s + below o k in
      all_append Byte (width_bytes o s k) (width_bytes o t c) (width_bytes_bytes s k h.0) (width_bytes_bytes t c h.1)

  chain_bytes_bytes : (s : ℕ) (c : Cells) → CellsBytes c → All Byte (chain_bytes o s c)
  unfolding chain_bytes
  chain_bytes_bytes s end h = tt
  chain_bytes_bytes s (bytes bs c) h = chain_bytes_bytes s c h.1
  chain_bytes_bytes s (reference k c) h = chain_bytes_bytes (s + (width o k + chain o k + below o k)) c h.1
  chain_bytes_bytes s (in_place k c) h =
      all_append Byte (width_bytes o s k) (chain_bytes o s k ++ chain_bytes o (s + below o k) c) (width_bytes_bytes s k h.0)
      (all_append Byte (chain_bytes o s k) (chain_bytes o (s + below o k) c) (chain_bytes_bytes s k h.0) (chain_bytes_bytes (s + below o k) c h.1))
  chain_bytes_bytes s (part k c) h =
      let t = s + below o k in
      all_append Byte (chain_bytes o s k) (chain_bytes o t c) (chain_bytes_bytes s k h.0) (chain_bytes_bytes t c h.1)

  below_bytes_bytes : (s : ℕ) (c : Cells) → CellsBytes c → All Byte (below_bytes o s c)
  unfolding below_bytes
  below_bytes_bytes s end h = tt
  below_bytes_bytes s (bytes bs c) h = below_bytes_bytes s c h.1
  below_bytes_bytes s (reference k c) h =
      let s' = s + (width o k + chain o k) in
      let t = s + (width o k + chain o k + below o k) in
      let bt = below_bytes o t c in
      all_append Byte (width_bytes o s' k) (chain_bytes o s' k ++ (below_bytes o s' k ++ bt)) (width_bytes_bytes s' k h.0)
      (all_append Byte (chain_bytes o s' k) (below_bytes o s' k ++ bt) (chain_bytes_bytes s' k h.0)
      (all_append Byte (below_bytes o s' k) bt (below_bytes_bytes s' k h.0) (below_bytes_bytes t c h.1)))
  below_bytes_bytes s (in_place k c) h =
      all_append Byte (below_bytes o s k) (below_bytes o (s + below o k) c) (below_bytes_bytes s k h.0) (below_bytes_bytes (s + below o k) c h.1)
  below_bytes_bytes s (part k c) h =
      let t = s + below o k in
      all_append Byte (below_bytes o s k) (below_bytes o t c) (below_bytes_bytes s k h.0) (below_bytes_bytes t c h.1)

  pub layout_bytes : (c : Cells) → CellsBytes c → All Byte (layout o c)
  unfolding layout
  layout_bytes c h =
      let s = width o c + chain o c in
      all_append Byte (width_bytes o s c) (chain_bytes o s c ++ below_bytes o s c) (width_bytes_bytes s c h)
      (all_append Byte (chain_bytes o s c) (below_bytes o s c) (chain_bytes_bytes s c h) (below_bytes_bytes s c h))
