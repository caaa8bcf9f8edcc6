-- Going over n blocks and storing where each stands.
use mathlib.Core.Path.{◌≡◌, refl, ap, ◌∙◌}
use mathlib.Core.Bool.{true, false, and-false}
use mathlib.Core.List.{List}
use Prim.Native.Nat.{ℕ, ◌+◌, ◌*◌, ◌<◌, ◌≤◌}
use native.Mathlib.Numerals.{add-one}
use native.Mathlib.Omega.{arith}
use lib.ListN.{length, get_or, set, length-set}
use lib.Seq.{get_or-set_same, get_or-set_other}
use borrow.Author.Tests.{le-leb, lt-leb}
use borrow.Author.Count.{below_more}
use Rattle.std.specs.Prelude.{Some, None, ◌⊎◌}
use Rattle.std.proofs.Common.{inl, inr}
use Rattle.coding.specs.Packed as P
use Rattle.coding.specs.Lawful as L
use Rattle.schema.specs.Directory.{Stored}
use Rattle.laws.specs.Lists.{every_more, every_fail, every_none, never}

-- the loop's invariant: i blocks were gone over
pub record Storing (b : List ℕ) (base head low high start : ℕ) (d₀ d : List ℕ) (at i : ℕ) : Type 0 where
  pub here : at ≡ P.blocks b head start i
  pub bound : at ≤ start + 133 * i
  pub long : length d ≡ 384
  pub good : L.blocks_ok b head low high start i ≡ true
  pub entries : (k : ℕ) → k < i → get_or d (base + k) 0 ≡ P.blocks b head start k
  pub kept : (k : ℕ) → k < base → get_or d k 0 ≡ get_or d₀ k 0

module _ (b : List ℕ) (base head low high start : ℕ) (d₀ : List ℕ) where
  -- a count that is not in its range
  none : (n : ℕ) (d : List ℕ) → L.blocks_ok b head low high start n ≡ false → ((k : ℕ) → k < base → get_or d k 0 ≡ get_or d₀ k 0)
      → Stored b head low high start n base d₀ d None
  none n d e kept = record { is = simp e; entries = λ h. never h; kept = kept }

  pub begins : length d₀ ≡ 384 → Storing b base head low high start d₀ d₀ start 0
  unfolding L.blocks_ok P.blocks
  begins l = record { here = refl; bound = omega arith; long = l; good = every_none _; entries = λ k m. absurd (omega arith); kept = λ k m. refl }

  module _ (d d' : List ℕ) (at i c : ℕ) (g : Storing b base head low high start d₀ d at i) (n : ℕ) (l : i < n) (room : base ≤ 192) (few : n ≤ 64)
      (ed : d' ≡ set d (base + i) at) (ec : c ≡ P.records b head at) where
    store_kept : (k : ℕ) → k < base → get_or d' k 0 ≡ get_or d₀ k 0
    store_kept k m = ap (λ (l : List ℕ). get_or l k 0) ed ∙ get_or-set_other d (base + i) k at 0 (λ e. omega arith) ∙ g.kept k m

    store_entries : (k : ℕ) → k < i + 1 → get_or d' (base + k) 0 ≡ P.blocks b head start k
    store_entries =
        let f : base + i < length d = omega (arith, g.long) in
        below_more (λ (k : ℕ). get_or d' (base + k) 0 ≡ P.blocks b head start k) i
        (λ k m. ap (λ (l : List ℕ). get_or l (base + k) 0) ed ∙ get_or-set_other d (base + i) (base + k) at 0 (λ q. omega arith) ∙ g.entries k m)
        (ap (λ (l : List ℕ). get_or l (base + i) 0) ed ∙ get_or-set_same d (base + i) at 0 f ∙ g.here)

    pub refused : (c < low) ⊎ ((low ≤ c) × (high < c)) → Stored b head low high start n base d₀ d' None
    unfolding L.blocks_ok
    refused (inl h) = none n d' (every_fail _ n i l (simp (← g.here, ← ec, lt-leb _ _ h))) store_kept
    refused (inr h) = none n d' (every_fail _ n i l (simp (← g.here, ← ec, lt-leb _ _ h.1, and-false))) store_kept

    module _ (lo : low ≤ c) (hi : c ≤ high) (most : high ≤ 64) (short : head ≤ 4) (p : ℕ) (ep : p ≡ P.record_place head at c) (eq : p ≡ at + head + 1 + 2 * c) where
      pub goes_on : Storing b base head low high start d₀ d' p (i + 1)
      unfolding L.blocks_ok P.blocks
      goes_on = record {
        here = rw add-one (simp (← g.here, ← ec) ep);
        bound = omega (arith, g.bound);
        long = ap length ed ∙ simp length-set g.long;
        good = every_more _ i g.good (simp (← g.here, ← ec, le-leb _ _ lo, le-leb _ _ hi));
        entries = store_entries;
        kept = store_kept;
      }

  pub done : (d : List ℕ) (at i n : ℕ) → Storing b base head low high start d₀ d at i → i ≤ n → n ≤ i → Stored b head low high start n base d₀ d (Some at)
  done d at i n g m l =
      let z : i ≡ n = omega arith in
      record { is = rw (← z) (simp g.good (ap Some g.here)); entries = λ h k m. g.entries k (omega arith); kept = g.kept }
