-- What is read of a row that stands in a table of member positions (02, K10): its three numbers.
use Rattle.std.specs.Prelude.{◌≡◌, ℕ, zero, suc, ◌+◌, ◌/◌, ◌%◌, ◌^◌, ◌<◌, length, get_or}
use Rattle.std.proofs.Common.{sym, ◌∙◌, arith}
use Rattle.std.proofs.Math.Path.{ap}
use mathlib.Core.List.{List, [], ◌∷◌, ◌++◌, append_assoc}
use Rattle.std.proofs.Math.ListN.{length-append}
use Rattle.std.proofs.Math.Seq.{get_or-append_seam}
use Rattle.coding.specs.Bytes.{le, le_bytes}
use Rattle.coding.specs.Positions.{row_bytes}
use Rattle.coding.specs.declared.Row.{Row}
use Rattle.laws.specs.PositionRows.{RowIn}
use Rattle.laws.specs.RowBounds.{RowSmall}

-- the w bytes of a number, read between two lists
pub le-between : (w x : ℕ) → x < 256 ^ w → (pre post : List ℕ) (at : ℕ) → length pre ≡ at → le (pre ++ (le_bytes w x ++ post)) at w ≡ x
unfolding le le_bytes
le-between zero x h pre post at e = omega arith
le-between (suc w) x h pre post at e =
    let low = x % 256 in
    let rest = le_bytes w (x / 256) ++ post in
    let first : get_or (pre ++ (low ∷ rest)) at 0 ≡ low = ap (λ (k : ℕ). get_or (pre ++ (low ∷ rest)) k 0) (sym e) ∙ get_or-append_seam pre low rest 0 in
    let longer : length (pre ++ (low ∷ [])) ≡ at + 1 = omega (arith, length-append pre (low ∷ [])) in
    let others : le (pre ++ (low ∷ rest)) (at + 1) w ≡ x / 256 =
    ap (λ (m : List ℕ). le m (at + 1) w) (sym (append_assoc pre (low ∷ []) rest))
    ∙ le-between w (x / 256) (omega arith) (pre ++ (low ∷ [])) post (at + 1) longer in
    omega (arith, first, others)

regrouped : (a b c d : List ℕ) → a ++ ((b ++ c) ++ d) ≡ (a ++ b) ++ (c ++ d)
regrouped a b c d = ap (λ (l : List ℕ). a ++ l) (append_assoc b c d) ∙ sym (append_assoc a b (c ++ d))

-- three runs of four bytes
module _ (v f z : ℕ) (before behind : List ℕ) (at : ℕ) (e : length before ≡ at) where
  abbrev table : List ℕ
  table = before ++ ((le_bytes 4 v ++ (le_bytes 4 f ++ le_bytes 4 z)) ++ behind)

  behind-value : table ≡ (before ++ le_bytes 4 v) ++ ((le_bytes 4 f ++ le_bytes 4 z) ++ behind)
  behind-value = regrouped before (le_bytes 4 v) (le_bytes 4 f ++ le_bytes 4 z) behind

  behind_flag : table ≡ ((before ++ le_bytes 4 v) ++ le_bytes 4 f) ++ (le_bytes 4 z ++ behind)
  behind_flag = behind-value ∙ regrouped (before ++ le_bytes 4 v) (le_bytes 4 f) (le_bytes 4 z) behind

  value-length : length (before ++ le_bytes 4 v) ≡ at + 4
  unfolding le_bytes
  value-length = length-append before (le_bytes 4 v) ∙ ap (λ (k : ℕ). k + 4) e

  flag-length : length ((before ++ le_bytes 4 v) ++ le_bytes 4 f) ≡ at + 8
  unfolding le_bytes
  flag-length = omega (arith, length-append (before ++ le_bytes 4 v) (le_bytes 4 f), value-length)

  value_there : v < 4294967296 → le table at 4 ≡ v
  value_there l =
      ap (λ (m : List ℕ). le m at 4) (ap (λ (s : List ℕ). before ++ s) (append_assoc (le_bytes 4 v) (le_bytes 4 f ++ le_bytes 4 z) behind))
      ∙ le-between 4 v l before ((le_bytes 4 f ++ le_bytes 4 z) ++ behind) at e

  flag_there : f < 4294967296 → le table (at + 4) 4 ≡ f
  flag_there l =
      ap (λ (m : List ℕ). le m (at + 4) 4)
      (behind-value ∙ ap (λ (s : List ℕ). (before ++ le_bytes 4 v) ++ s) (append_assoc (le_bytes 4 f) (le_bytes 4 z) behind))
      ∙ le-between 4 f l (before ++ le_bytes 4 v) (le_bytes 4 z ++ behind) (at + 4) value-length

  size_there : z < 4294967296 → le table (at + 8) 4 ≡ z
  size_there l =
      ap (λ (m : List ℕ). le m (at + 8) 4) behind_flag
      ∙ le-between 4 z l ((before ++ le_bytes 4 v) ++ le_bytes 4 f) behind (at + 8) flag-length

-- a row
module _ (t : List ℕ) (at : ℕ) (x : Row) (h : RowIn t at x) (small : RowSmall x) where
  pub value_read : le t at 4 ≡ x.value
  unfolding row_bytes
  value_read =
      ap (λ (m : List ℕ). le m at 4) h.is
      ∙ value_there x.value x.flag x.size h.before h.behind at h.place small.value

  pub flag-read : le t (at + 4) 4 ≡ x.flag
  unfolding row_bytes
  flag-read =
      ap (λ (m : List ℕ). le m (at + 4) 4) h.is
      ∙ flag_there x.value x.flag x.size h.before h.behind at h.place small.flag

  pub size-read : le t (at + 8) 4 ≡ x.size
  unfolding row_bytes
  size-read =
      ap (λ (m : List ℕ). le m (at + 8) 4) h.is
      ∙ size_there x.value x.flag x.size h.before h.behind at h.place small.size
