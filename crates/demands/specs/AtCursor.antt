-- Slots that stand at a cursor: `At o m start c z e s` says that the slots s stand in m where the layout cursor c of a part
-- that starts at `start` is, that they end at z, and that their first in-place content is at e.
use Rattle.std.specs.Prelude.{◌≡◌, refl, List, get_or}
use Rattle.std.proofs.Common.{sym, ◌∙◌, pow-add}
use Rattle.std.proofs.Math.Path.{ap, subst}
use Rattle.std.proofs.Math.Bool.{true, false}
use Prim.Native.Nat.{ℕ, suc, zero, ◌+◌, ◌-◌, ◌/◌, ◌^◌, ◌≤◌, ◌<◌}
use native.Mathlib.Omega.{arith}
use Rattle.std.proofs.Math.Nat.{div-div-eq-div-mul, zero-div}
use Rattle.std.proofs.Math.Dec.{ltb}
use borrow.Author.Tests.{lt-ltb, le-ltb}
use Rattle.std.proofs.Math.ListN.{length}
use Rattle.coding.specs.Bytes.{le, bit_at}
use Rattle.coding.specs.Walk.{start_size}
use Rattle.coding.specs.Layout.{begin, bit_byte, bit_index, after_bit, after_bytes}
use Rattle.coding.specs.Cells.{width, chain, Slots, pack_bits}
use Rattle.coding.specs.Cells.Slots.{end, bytes, bit, reference, in_place, part}
use Rattle.coding.specs.declared.Cursor.{Cursor}
use Rattle.demands.specs.Holds.{Holds}
use Rattle.demands.specs.SlotsHold.{SlotsHold}

pub record At (o : ℕ) (m : List ℕ) (start : ℕ) (c : Cursor) (z e : ℕ) (s : Slots) : Type 0 where
  pub p : ℕ
  pub l : ℕ
  pub f : ℕ
  pub place : p ≡ start + c.end
  pub free : f + c.bit ≡ 8
  pub last : 0 < f → l ≡ start + c.byte
  pub before : 0 < f → c.byte < c.end
  pub ends : p + width o (pack_bits f s) ≡ z
  pub holds : SlotsHold o m e p l f s

-- the free bits of the last bool byte are 0
pub record Unused (m : List ℕ) (start : ℕ) (c : Cursor) : Type 0 where
  pub zero : c.bit < 8 → get_or m (start + c.byte) 0 / 2 ^ c.bit ≡ 0

pub unused_bit : (m : List ℕ) (start : ℕ) (c : Cursor) (j : ℕ) → Unused m start c → c.bit ≤ j → j < 8 → bit_at m (start + c.byte) j ≡ 0
unfolding bit_at
unused_bit m start c j u h l =
    let x = get_or m (start + c.byte) 0 in
    let lt : c.bit < 8 = omega arith in
    let e : j ≡ c.bit + (j - c.bit) = omega arith in
    let q : x / 2 ^ j ≡ 0 =
    ap (λ (n : ℕ). x / 2 ^ n) e
    ∙ ap (λ (n : ℕ). x / n) (pow-add 2 c.bit (j - c.bit))
    ∙ sym (div-div-eq-div-mul x (2 ^ c.bit) (2 ^ (j - c.bit)))
    ∙ ap (λ (n : ℕ). n / 2 ^ (j - c.bit)) (u.zero lt)
    ∙ zero-div (2 ^ (j - c.bit)) in
    rw q

-- a cursor's bits are at most 8, and its bool byte lies before its end
pub record Sane (c : Cursor) : Type 0 where
  pub bits : c.bit ≤ 8
  pub before : c.bit < 8 → c.byte < c.end

module _ (o : ℕ) (m : List ℕ) where
  -- how far the slots reach
  slots_fit : (e p l f : ℕ) (s : Slots) → SlotsHold o m e p l f s → p + width o (pack_bits f s) ≤ length m
  unfolding width pack_bits
  slots_fit e p l f end h = omega arith
  slots_fit e p l f (bytes bs s) h = omega (arith, slots_fit e (p + length bs) l f s h.1)
  slots_fit e p l zero (bit x s) h = omega (arith, slots_fit e (p + 1) p 7 s h.1)
  slots_fit e p l (suc f) (bit x s) h = slots_fit e p l f s h.1
  slots_fit e p l f (reference k s) h = omega (arith, slots_fit e (p + o) l f s h.2)
  slots_fit e p l f (in_place k s) h = slots_fit (e + width o (pack_bits 0 k) + chain o (pack_bits 0 k)) p l f s h.1
  slots_fit e p l f (part k s) h =
      omega (arith, slots_fit (e + chain o (pack_bits 0 k)) (p + width o (pack_bits 0 k)) l f s h.1)

  module _ (start : ℕ) (c : Cursor) (z e : ℕ) where
    pub at_fits : (s : Slots) → At o m start c z e s → (start + c.end ≤ z) × (z ≤ length m)
    at_fits s a =
        let h1 = a.ends in
        let h2 = a.place in
        (omega arith, omega (arith, slots_fit e a.p a.l a.f s a.holds))

    pub at_sane : (s : Slots) → At o m start c z e s → Sane c
    at_sane s a = let h = a.free in record { bits = omega arith; before = λ k. a.before (omega arith) }

    pub at_bytes : (bs : List ℕ) (s : Slots) → At o m start c z e (bytes bs s)
        → Holds m (start + c.end) bs × At o m start (after_bytes (length bs) c) z e s
    unfolding width pack_bits after_bytes
    at_bytes bs s a =
        let h1 = a.place in
        let h2 = a.ends in (
          subst (λ (q : ℕ). Holds m q bs) a.place a.holds.0,
          record {
            p = a.p + length bs;
            l = a.l;
            f = a.f;
            place = omega arith;
            free = a.free;
            last = a.last;
            before = λ k. let b = a.before k in omega arith;
            ends = omega arith;
            holds = a.holds.1;
          },
        )

    bit-at : (x : ℕ) (s : Slots) (p l f : ℕ) → p ≡ start + c.end → f + c.bit ≡ 8 → (0 < f → l ≡ start + c.byte) → (0 < f → c.byte < c.end)
        → p + width o (pack_bits f (bit x s)) ≡ z → SlotsHold o m e p l f (bit x s)
        → (bit_at m (start + bit_byte c) (bit_index c) ≡ x) × At o m start (after_bit c) z e s
    unfolding width pack_bits after_bit bit_byte bit_index
    bit-at x s p l zero place free last before ends h =
        let t : ltb c.bit 8 ≡ false = le-ltb c.bit 8 (omega arith) in
        rw (t, ← place) (
          h.0,
          record {
            p = p + 1;
            l = p;
            f = 7;
            place = omega arith;
            free = refl;
            last = λ k. place;
            before = λ k. omega arith;
            ends = omega arith;
            holds = h.1;
          },
        )
    bit-at x s p l (suc f) place free last before ends h =
        let t : ltb c.bit 8 ≡ true = lt-ltb c.bit 8 (omega arith) in
        let i : c.bit ≡ 7 - f = omega arith in
        let q : l ≡ start + c.byte = last (omega arith) in
        let b : c.byte < c.end = before (omega arith) in
        let r : bit_at m (start + c.byte) c.bit ≡ x =
        subst (λ (n : ℕ). bit_at m n c.bit ≡ x) q (subst (λ (n : ℕ). bit_at m l n ≡ x) (sym i) h.0) in
        rw t (
          r,
          record {
            p = p;
            l = l;
            f = f;
            place = place;
            free = omega arith;
            last = λ k. q;
            before = λ k. b;
            ends = ends;
            holds = h.1;
          },
        )

    pub at_bit : (x : ℕ) (s : Slots) → At o m start c z e (bit x s)
        → (bit_at m (start + bit_byte c) (bit_index c) ≡ x) × At o m start (after_bit c) z e s
    at_bit x s a = bit-at x s a.p a.l a.f a.place a.free a.last a.before a.ends a.holds

    pub at_reference : (k s : Slots) → At o m start c z e (reference k s)
        → (start_size o ≤ le m (start + c.end) o)
        × At o m (le m (start + c.end) o) begin (le m (start + c.end) o + width o (pack_bits 0 k)) (le m (start + c.end) o + width o (pack_bits 0 k)) k
        × At o m start (after_bytes o c) z e s
    unfolding width pack_bits after_bytes begin
    at_reference k s a =
        let h1 = a.place in
        let h2 = a.ends in
        let x = le m (start + c.end) o in
        let q : le m a.p o ≡ x = ap (λ (n : ℕ). le m n o) a.place in (
          subst (λ (n : ℕ). start_size o ≤ n) q a.holds.0,
          record {
            p = x;
            l = 0;
            f = 0;
            place = omega arith;
            free = refl;
            last = λ b. absurd (omega arith);
            before = λ b. absurd (omega arith);
            ends = refl;
            holds = subst (λ (n : ℕ). SlotsHold o m (n + width o (pack_bits 0 k)) n 0 0 k) q a.holds.1;
          },
          record {
            p = a.p + o;
            l = a.l;
            f = a.f;
            place = omega arith;
            free = a.free;
            last = a.last;
            before = λ k. let b = a.before k in omega arith;
            ends = omega arith;
            holds = a.holds.2;
          },
        )

    pub at-in_place : (k s : Slots) → At o m start c z e (in_place k s)
        → At o m e begin (e + width o (pack_bits 0 k)) (e + width o (pack_bits 0 k)) k
        × At o m start c z (e + width o (pack_bits 0 k) + chain o (pack_bits 0 k)) s
    unfolding width pack_bits begin
    at-in_place k s a = (
      record {
        p = e;
        l = 0;
        f = 0;
        place = omega arith;
        free = refl;
        last = λ b. absurd (omega arith);
        before = λ b. absurd (omega arith);
        ends = refl;
        holds = a.holds.0;
      },
      record {
        p = a.p;
        l = a.l;
        f = a.f;
        place = a.place;
        free = a.free;
        last = a.last;
        before = a.before;
        ends = a.ends;
        holds = a.holds.1;
      },
    )

    -- a sequence of its own, and behind it the rest
    pub at_part : (k s : Slots) → At o m start c z e (part k s)
        → At o m (start + c.end) begin (start + c.end + width o (pack_bits 0 k)) e k
        × At o m start (after_bytes (width o (pack_bits 0 k)) c) z (e + chain o (pack_bits 0 k)) s
    unfolding width pack_bits begin after_bytes
    at_part k s a =
        let h1 = a.place in
        let h2 = a.ends in
        let w = width o (pack_bits 0 k) in (
          record {
            p = start + c.end;
            l = 0;
            f = 0;
            place = omega arith;
            free = refl;
            last = λ b. absurd (omega arith);
            before = λ b. absurd (omega arith);
            ends = refl;
            holds = subst (λ (n : ℕ). SlotsHold o m e n 0 0 k) a.place a.holds.0;
          },
          record {
            p = a.p + w;
            l = a.l;
            f = a.f;
            place = omega arith;
            free = a.free;
            last = a.last;
            before = λ b. let q = a.before b in omega arith;
            ends = omega arith;
            holds = a.holds.1;
          },
        )

    end-at : (p l f : ℕ) → f + c.bit ≡ 8 → (0 < f → l ≡ start + c.byte) → SlotsHold o m e p l f end → Unused m start c
    end-at p l zero free last h = record { zero = λ b. absurd (omega arith) }
    end-at p l (suc g) free last h =
        let i : c.bit ≡ 7 - g = omega arith in
        record {
          zero =
              λ b. subst (λ (n : ℕ). get_or m n 0 / 2 ^ c.bit ≡ 0) (last (omega arith)) (subst (λ (n : ℕ). get_or m l 0 / 2 ^ n ≡ 0) (sym i) h.1);
        }

    -- at the end, the cursor is where the slots end
    pub at-end : At o m start c z e end → (start + c.end ≡ z) × Unused m start c
    unfolding width pack_bits
    at-end a =
        let h1 = a.place in
        let h2 = a.ends in
        (omega arith, end-at a.p a.l a.f a.free a.last a.holds)

    -- where no bit is free, the rest is a part of its own
    pub at_rebase : (s : Slots) → c.bit ≡ 8 → At o m start c z e s → At o m (start + c.end) begin z e s
    unfolding begin
    at_rebase s b a =
        let h1 = a.place in
        let h2 = a.free in
        let zero_free : a.f ≡ 0 = omega arith in
        record {
          p = a.p;
          l = a.l;
          f = a.f;
          place = omega arith;
          free = omega arith;
          last = λ k. absurd (omega arith);
          before = λ k. absurd (omega arith);
          ends = a.ends;
          holds = a.holds;
        }
