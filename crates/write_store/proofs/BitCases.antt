-- A bit put into the message: into a new byte, or into the last bool byte.
use mathlib.Core.Path.{◌≡◌, refl, sym, ap, ap₂, ◌∙◌, subst}
use mathlib.Core.List.{List}
use Prim.Native.Nat.{ℕ, zero, suc, ◌+◌, ◌-◌, ◌*◌, ◌%◌, ◌^◌, ◌<◌, ◌≤◌}
use native.Mathlib.Omega.{arith}
use native.Mathlib.Nat.{pow-suc}
use lib.ListN.{set}
use lib.Pow.{pow_mono, shl_exact}
use Rattle.write_store.specs.State.{State, put_bit, put_bit_at}
use Rattle.write_store.specs.Storing.{state_of, HeldOk, BitPut}
use Rattle.write_store.specs.declared.Places.{Places}

module _ (c : Places) (x : ℕ) (o o₁ : List ℕ) where
  pub bit_new : c.free ≡ 0 → x < 2 → o₁ ≡ set o c.at x
      → BitPut (put_bit x (state_of c o)) (state_of (record { at = c.at + 1; last = c.at; free = 7; held = x; tail = c.tail; next = c.next }) o₁) c
      (record { at = c.at + 1; last = c.at; free = 7; held = x; tail = c.tail; next = c.next })
  unfolding put_bit put_bit_at
  bit_new e h f =
      record {
        is = ap (λ (l : List ℕ). record { at = c.at + 1; last = c.at; free = 7; held = x; tail = c.tail; next = c.next; out = l }) f
            ∙ ap (λ (k : ℕ). put_bit_at x k (state_of c o)) (sym e);
        bool = record { free = omega arith; held = omega arith };
        at = omega arith;
        tail = refl;
        next = refl;
      }

  pub bit_old : (c.free ≡ 0 → ⊥) → HeldOk c → x < 2 → (b : ℕ) → b ≡ x * 2 ^ (8 - c.free) → b ≤ 2 ^ (8 - c.free) → o₁ ≡ set o c.last (c.held + b)
      → BitPut (put_bit x (state_of c o)) (state_of (record { at = c.at; last = c.last; free = c.free - 1; held = c.held + b; tail = c.tail; next = c.next }) o₁) c
      (record { at = c.at; last = c.last; free = c.free - 1; held = c.held + b; tail = c.tail; next = c.next })
  bit_old n ok h b eb lb f = by c.free refl n
    where
      by : (k : ℕ) → c.free ≡ k → (k ≡ 0 → ⊥)
          → BitPut (put_bit x (state_of c o)) (state_of (record { at = c.at; last = c.last; free = c.free - 1; held = c.held + b; tail = c.tail; next = c.next }) o₁) c
          (record { at = c.at; last = c.last; free = c.free - 1; held = c.held + b; tail = c.tail; next = c.next })
      by zero e no_bit = absurd (no_bit refl)
      by (suc g) e no_bit =
          let few = ok.free in
          let z : 8 - c.free ≡ 7 - g = omega arith in
          let y : c.free - 1 ≡ g = omega arith in
          let eb' : b ≡ x * 2 ^ (7 - g) = eb ∙ ap (λ (k : ℕ). x * 2 ^ k) z in
          let lh : c.held < 2 ^ (7 - g) = subst (λ (k : ℕ). c.held < 2 ^ k) z ok.held in
          let ll : b ≤ 2 ^ (7 - g) = subst (λ (k : ℕ). b ≤ 2 ^ k) z lb in
          let q : 8 - g ≡ suc (7 - g) = omega arith in
          let pw : 2 ^ (8 - g) ≡ 2 ^ (7 - g) * 2 = ap (λ (k : ℕ). 2 ^ k) q ∙ pow-suc 2 (7 - g) in
          let lt : c.held + b < 2 ^ (8 - g) = omega arith in
          let le : g ≤ 7 = omega arith in
          let tight : c.held + b < 2 ^ (8 - (c.free - 1)) = subst (λ (k : ℕ). c.held + b < 2 ^ (8 - k)) (sym y) lt in
          record {
            is = ap (λ (l : List ℕ). state_of (record { at = c.at; last = c.last; free = c.free - 1; held = c.held + b; tail = c.tail; next = c.next }) l) f
                ∙ ap₂ (λ (k j : ℕ). record { at = c.at; last = c.last; free = k; held = c.held + j; tail = c.tail; next = c.next; out = set o c.last (c.held + j) }) y eb'
                ∙ step g e;
            bool = record { free = omega arith; held = tight };
            at = omega arith;
            tail = refl;
            next = refl;
          }
        where
          step : (g : ℕ) → c.free ≡ suc g
              → ◌≡◌ {A = State} (record { at = c.at; last = c.last; free = g; held = c.held + x * 2 ^ (7 - g); tail = c.tail; next = c.next; out = set o c.last (c.held + x * 2 ^ (7 - g)) })
              (put_bit x (state_of c o))
          step g e = unfold put_bit put_bit_at in ap (λ (k : ℕ). put_bit_at x k (state_of c o)) (sym e)

-- the sum is a byte
pub held_byte : (c : Places) → (c.free ≡ 0 → ⊥) → HeldOk c → (b : ℕ) → b ≤ 2 ^ (8 - c.free) → c.held + b < 256
held_byte c n ok b l = by c.free refl n
  where
    by : (k : ℕ) → c.free ≡ k → (k ≡ 0 → ⊥) → c.held + b < 256
    by zero e no_bit = absurd (no_bit refl)
    by (suc g) e no_bit =
        let few = ok.free in
        let z : 8 - c.free ≡ 7 - g = omega arith in
        let lh : c.held < 2 ^ (7 - g) = subst (λ (k : ℕ). c.held < 2 ^ k) z ok.held in
        let ll : b ≤ 2 ^ (7 - g) = subst (λ (k : ℕ). b ≤ 2 ^ k) z l in
        let top : 2 ^ (7 - g) ≤ 2 ^ 7 = pow_mono {i = 7 - g} {j = 7} (omega arith) in
        omega arith

pub held_fits : (c : Places) → (c.free ≡ 0 → ⊥) → HeldOk c → (b : ℕ) → b ≤ 2 ^ (8 - c.free) → c.held + b < 2 ^ 64
held_fits c n ok b l = let h = held_byte c n ok b l in omega arith

pub bit_shifted : (x k : ℕ) → x < 2 → k < 8 → (x * 2 ^ k) % 2 ^ 64 ≡ x * 2 ^ k
bit_shifted x k h l = shl_exact 1 k 64 (omega arith) (omega arith)

pub bit_most : (x k : ℕ) → x < 2 → k < 8 → (x * 2 ^ k) % 2 ^ 64 ≤ 2 ^ k
bit_most x k h l = rw (bit_shifted x k h l) (by x h)
  where
    by : (y : ℕ) → y < 2 → y * 2 ^ k ≤ 2 ^ k
    by zero q = omega arith
    by (suc zero) q = omega arith
    by (suc (suc y)) q = absurd (omega arith)
