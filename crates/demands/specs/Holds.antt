-- Bytes that stand at a place of a message, little-endian numbers among them, and that all of a list's bytes are bytes.
use Rattle.std.specs.Prelude.{◌≡◌, List, [], ◌∷◌, ◌++◌, length, get_or, take, drop, replicate}
use Rattle.std.proofs.Math.Path.{refl}
use Rattle.std.proofs.Common.{ap, append_assoc, append-nil, add-one, length-append, drop-cons}
use Prim.Native.Nat.{ℕ, suc, zero, ◌+◌, ◌/◌, ◌^◌, ◌≤◌, ◌<◌}
use native.Mathlib.Omega.{arith}
use Rattle.std.proofs.Math.Seq.{get_or-append_seam}
use Rattle.coding.specs.Bytes.{le, le_bytes}
use Rattle.laws.specs.Sound.{All}
use Rattle.laws.specs.Bits.{Byte}

-- the bytes bs stand in m from p on, and m reaches to their end
abbrev pub Holds : List ℕ → ℕ → List ℕ → Type 0
Holds m p [] = p ≤ length m
Holds m p (b ∷ bs) = (get_or m p 0 ≡ b) × Holds m (p + 1) bs

pub length-le_bytes : (w x : ℕ) → length (le_bytes w x) ≡ w
unfolding le_bytes
length-le_bytes zero x = refl
length-le_bytes (suc w) x = ap suc (length-le_bytes w (x / 256))

module _ (m : List ℕ) where
  pub holds_fits : (p : ℕ) (bs : List ℕ) → Holds m p bs → p + length bs ≤ length m
  holds_fits p [] h = omega arith
  holds_fits p (b ∷ bs) h = omega (arith, holds_fits (p + 1) bs h.1)

  pub holds-right : (p : ℕ) (a b : List ℕ) → Holds m p (a ++ b) → Holds m (p + length a) b
  holds-right p [] b h = let e : p + 0 ≡ p = omega arith in rw e h
  holds-right p (x ∷ a) b h =
      let e : p + suc (length a) ≡ p + 1 + length a = omega arith in
      rw e (holds-right (p + 1) a b h.1)

  pub holds_left : (p : ℕ) (a b : List ℕ) → Holds m p (a ++ b) → Holds m p a
  holds_left p [] b h = omega (arith, holds_fits p b h)
  holds_left p (x ∷ a) b h = (h.0, holds_left (p + 1) a b h.1)

  pub holds-le : (w p n : ℕ) → n < 256 ^ w → Holds m p (le_bytes w n) → le m p w ≡ n
  unfolding le le_bytes
  holds-le zero p n b h = omega arith
  holds-le (suc w) p n b h =
      let lt : n / 256 < 256 ^ w = omega arith in
      let ih = holds-le w (p + 1) (n / 256) lt h.1 in
      let hd = h.0 in
      omega arith

  -- zero bytes are the number 0
  pub holds-zeros : (w n p : ℕ) → w ≤ n → Holds m p (replicate n 0) → le m p w ≡ 0
  unfolding le
  holds-zeros zero n p b h = refl
  holds-zeros (suc w) zero p b h = absurd (omega arith)
  holds-zeros (suc w) (suc n) p b h =
      let ih = holds-zeros w n (p + 1) (omega arith) h.1 in
      let hd = h.0 in
      omega arith

  pub holds-take : (p : ℕ) (bs : List ℕ) → Holds m p bs → take (length bs) (drop p m) ≡ bs
  holds-take p [] h = refl
  holds-take p (b ∷ bs) h =
      let fit : p < length m = omega (arith, holds_fits (p + 1) bs h.1) in
      let ih : take (length bs) (drop (suc p) m) ≡ bs = rw add-one at (holds-take (p + 1) bs h.1) in
      rw (drop-cons m p 0 fit, h.0, ih)

pub holds_at : (pre bs post : List ℕ) → Holds (pre ++ (bs ++ post)) (length pre) bs
holds_at pre [] post = omega (arith, length-append pre post)
holds_at pre (b ∷ bs) post =
    let e : length (pre ++ (b ∷ [])) ≡ length pre + 1 = omega (arith, length-append pre (b ∷ [])) in
    (get_or-append_seam pre b (bs ++ post) 0, rw (append_assoc, e) at (holds_at (pre ++ (b ∷ [])) bs post))

pub holds_self : (l : List ℕ) → Holds l 0 l
holds_self l = rw append-nil at (holds_at [] l [])

-- ---- bytes below 256
pub le_bytes_bytes : (w x : ℕ) → All Byte (le_bytes w x)
unfolding le_bytes
le_bytes_bytes zero x = tt
le_bytes_bytes (suc w) x = (omega arith, le_bytes_bytes w (x / 256))
