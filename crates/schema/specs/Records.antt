-- The record of member j of a table: it stands inside the schema's bytes, and is the member that `parse` gives.
use Rattle.std.specs.Prelude.{◌≡◌, List, ℕ, ◌+◌, ◌*◌, ◌<◌, ◌≤◌, length}
use Rattle.std.proofs.Common.{sym, ap, ◌∙◌, subst, arith}
use Rattle.coding.specs.Schema as Sc
use Rattle.coding.specs.Packed as P
use Rattle.laws.specs.Parsed.{member-at, members-length}
use Rattle.schema.specs.Directory.{Block}

module _ (b : List ℕ) (t j p : ℕ) (l : t < P.table_count b) (h : j < length (Sc.table_of (P.parse b) t).members) (ep : p ≡ P.table_place b t) where
  pub among : j < P.records b 4 p
  among = subst (λ (q : ℕ). j < P.records b 4 q) (sym ep) (subst (λ (q : ℕ). j < q) (members-length b t l) h)

  pub record-inside : p + 4 + 1 + 2 * P.records b 4 p ≤ length b → (at : ℕ) → at ≡ p + 4 + 1 + 2 * j → at < length b
  record-inside i at e = let a = among in omega arith

  pub record-member : (at : ℕ) → at ≡ P.record_place 4 p j → P.member_at b at ≡ Sc.member_of (P.parse b) t j
  record-member at e =
      ap (P.member_at b) (e ∙ ap (λ (q : ℕ). P.record_place 4 q j) ep)
      ∙ sym (member-at b t j l (subst (λ (q : ℕ). j < P.records b 4 q) ep among))

module _ (b : List ℕ) (t j : ℕ) (l : t < P.table_count b) (count : ℕ) (ec : count ≡ length (Sc.table_of (P.parse b) t).members) (h : j < count) (first : ℕ)
    (bl : Block b 4 (P.table_place b t) first) (at : ℕ) where
  pub record_whole : at ≡ first + 4 + 1 + 2 * j → at + 1 < length b
  record_whole e = let z = bl.inside in let y = among b t j first l (subst (λ (k : ℕ). j < k) ec h) bl.is in omega arith
