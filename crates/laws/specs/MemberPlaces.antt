-- Where the records of a schema's tables stand: one behind the other, behind all else. What 02, K12 clears of them is cleared nowhere
-- else (`coding`'s Moving).
use Rattle.std.specs.Prelude.{◌≡◌, refl, Bool, ◌&&◌, ◌⊎◌, List, ℕ, zero, suc, ◌+◌, ◌<◌, ◌≤◌, eqb}
use Rattle.std.proofs.Math.Path.{sym, ap}
use Rattle.std.proofs.Common.{◌∙◌, inl, inr, eq-eqb, ne_eqb}
use Rattle.std.proofs.Math.Bool.{true, false, not}
use native.Mathlib.Omega.{arith}
use Rattle.std.proofs.Math.ListN.{get_or, length, get_or-eq_default}
use Rattle.coding.specs.Lists.{pick, every, run}
use Rattle.coding.specs.Packed as P
use Rattle.coding.specs.Moving as M
use Rattle.laws.specs.Blocks.{blocks_ge, block-end}
use Rattle.laws.specs.Lists.{every_all, every_fail, run_at, run_length}

-- one of three: before, the same, behind
three : (i k : ℕ) → (i < k) ⊎ ((i ≡ k) ⊎ (k < i))
three zero zero = inr (inl refl)
three zero (suc k) = inl (omega arith)
three (suc i) zero = inr (inr (omega arith))
three (suc i) (suc k) = by (three i k)
  where
    by : (i < k) ⊎ ((i ≡ k) ⊎ (k < i)) → (suc i < suc k) ⊎ ((suc i ≡ suc k) ⊎ (suc k < suc i))
    by (inl h) = inl (omega arith)
    by (inr (inl h)) = inr (inl (ap suc h))
    by (inr (inr h)) = inr (inr (omega arith))

module _ (b : List ℕ) where
  -- where the tables begin
  abbrev pub tables_start : ℕ
  tables_start = P.union_place b (P.union_count b)

  -- p is where the record of a table's member begins
  abbrev pub MemberPlace : ℕ → Type 0
  MemberPlace p =
      (i : ℕ) × ((j : ℕ) × ((i < P.table_count b) × ((j < P.records b 4 (P.table_place b i)) × (p ≡ P.record_place 4 (P.table_place b i) j))))

  -- ---- the test of it
  starts-at : (p : ℕ) → MemberPlace p → every (M.no_member b p) (P.table_count b) ≡ false
  unfolding M.no_member
  starts-at p (i, (j, (l, (m, e)))) =
      every_fail (M.no_member b p) (P.table_count b) i l
      (every_fail (λ k. not (eqb p (P.record_place 4 (P.table_place b i) k))) (P.records b 4 (P.table_place b i)) j m
      (rw (eq-eqb p (P.record_place 4 (P.table_place b i) j) e)))

  starts-not : (p : ℕ) → (MemberPlace p → ⊥) → every (M.no_member b p) (P.table_count b) ≡ true
  unfolding M.no_member
  starts-not p other =
      every_all (M.no_member b p) (P.table_count b)
      (λ i l. every_all (λ k. not (eqb p (P.record_place 4 (P.table_place b i) k))) (P.records b 4 (P.table_place b i))
      (λ j m. rw (ne_eqb p (P.record_place 4 (P.table_place b i) j) (λ e. other (i, (j, (l, (m, e))))))))

  -- ---- the cleared bytes
  -- the first byte of a member's record
  pub cleared-member : (p : ℕ) → MemberPlace p
      → M.cleared_byte b p ≡ pick (M.inplace_union b p) (M.flag_cleared (get_or b p 0)) (get_or b p 0)
  unfolding M.cleared_byte M.member_starts
  cleared-member p at = rw (starts-at p at)

  -- any other
  pub cleared-other : (p : ℕ) → (MemberPlace p → ⊥) → M.cleared_byte b p ≡ get_or b p 0
  unfolding M.cleared_byte M.member_starts
  cleared-other p other = rw (starts-not p other)

  -- ---- which are other: what stands before the tables,
  pub before-tables : (p : ℕ) → p < tables_start → MemberPlace p → ⊥
  unfolding P.record_place P.table_place
  before-tables p l (i, (j, (m, (k, e)))) = omega (arith, blocks_ge b 4 tables_start i)

  -- what a table begins with, its id and its count,
  pub table_head : (i k p : ℕ) → k < 5 → p ≡ P.table_place b i + k → MemberPlace p → ⊥
  unfolding P.record_place P.table_place
  table_head i k p l e (x, (j, (m, (n, f)))) = by (three i x)
    where
      by : (i < x) ⊎ ((i ≡ x) ⊎ (x < i)) → ⊥
      by (inl h) = omega (arith, block-end b 4 tables_start x i h)
      by (inr (inl h)) = let q = ap (P.blocks b 4 tables_start) h in omega arith
      by (inr (inr h)) = omega (arith, block-end b 4 tables_start i x h)

  -- and the second byte of a record
  pub table_argument : (i j p : ℕ) → j < P.records b 4 (P.table_place b i) → p ≡ P.record_place 4 (P.table_place b i) j + 1 → MemberPlace p → ⊥
  unfolding P.record_place P.table_place
  table_argument i j p l e (x, (y, (m, (n, f)))) = by (three i x)
    where
      by : (i < x) ⊎ ((i ≡ x) ⊎ (x < i)) → ⊥
      by (inl h) = omega (arith, block-end b 4 tables_start x i h)
      by (inr (inl h)) = let q = ap (P.blocks b 4 tables_start) h in omega arith
      by (inr (inr h)) = omega (arith, block-end b 4 tables_start i x h)

  -- ---- the cleared schema, place by place
  pub without-length : length (M.without_inplace_unions b) ≡ length b
  unfolding M.without_inplace_unions
  without-length = run_length (M.cleared_byte b) (length b) 0

  -- past the end there is nothing to clear
  cleared_past : (p : ℕ) → length b ≤ p → M.cleared_byte b p ≡ 0
  unfolding M.cleared_byte M.flag_cleared
  cleared_past p l = by (M.member_starts b p && M.inplace_union b p) (get_or-eq_default b 0 l)
    where
      by : (t : Bool) → get_or b p 0 ≡ 0 → pick t (M.flag_cleared (get_or b p 0)) (get_or b p 0) ≡ 0
      by true e = omega arith
      by false e = e

  pub without_at : (p : ℕ) → get_or (M.without_inplace_unions b) p 0 ≡ M.cleared_byte b p
  unfolding M.without_inplace_unions
  without_at p = by (three p (length b))
    where
      past : length b ≤ p → get_or (run (M.cleared_byte b) 0 (length b)) p 0 ≡ M.cleared_byte b p
      past h =
          get_or-eq_default (run (M.cleared_byte b) 0 (length b)) 0 (omega (arith, run_length (M.cleared_byte b) (length b) 0))
          ∙ sym (cleared_past p h)

      by : (p < length b) ⊎ ((p ≡ length b) ⊎ (length b < p)) → get_or (run (M.cleared_byte b) 0 (length b)) p 0 ≡ M.cleared_byte b p
      by (inl h) = run_at (M.cleared_byte b) 0 (length b) p h
      by (inr (inl h)) = past (omega arith)
      by (inr (inr h)) = past (omega arith)
