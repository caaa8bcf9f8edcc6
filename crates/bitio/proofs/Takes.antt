-- A number and whole bytes taken at a cursor: each way out.
use mathlib.Core.Path.{◌≡◌, sym, ap, ◌∙◌}
use mathlib.Core.Bool.{Bool, true, false}
use mathlib.Core.List.{List}
use Prim.Native.Nat.{ℕ, ◌+◌, ◌-◌, ◌*◌, ◌/◌, ◌≤◌, ◌<◌}
use native.Mathlib.Omega.{arith}
use lib.ListN.{length, take, drop, length-drop}
use lib.Seq.{drop-drop}
use lib.Dec.{leb}
use borrow.Author.Tests.{le-leb, lt-leb}
use Rattle.coding.specs.Lists.{pick}
use Rattle.coding.specs.Bits.{bits, value, pack}
use Rattle.coding.specs.Sheet.{got, fail, take_number, take_bytes}
use Rattle.laws.specs.Bits.{bits-length}
use Rattle.bitio.specs.Taken.{Run, NumberAt, BytesAt}

rest-length : (s : List ℕ) (pos : ℕ) → length (drop pos (bits s)) ≡ 8 * length s - pos
rest-length s pos = length-drop pos (bits s) ∙ ap (λ (k : ℕ). k - pos) (bits-length s)

module _ (s : List ℕ) (pos w : ℕ) (h : pos ≤ 8 * length s) where
  number-opened : (t : Bool) → leb w (length (drop pos (bits s))) ≡ t
      → take_number w (drop pos (bits s)) ≡ pick t (got (value (take w (drop pos (bits s)))) (drop (pos + w) (bits s))) fail
  unfolding take_number
  number-opened t e =
      ap (λ (u : Bool). pick u (got (value (take w (drop pos (bits s)))) (drop w (drop pos (bits s)))) fail) e
      ∙ ap (λ (ys : List ℕ). pick t (got (value (take w (drop pos (bits s)))) ys) fail) (drop-drop w pos (bits s))

  pub number_left : (x : ℕ) → w ≤ 8 * length s - pos → Run s pos w x → NumberAt s pos w (record { value = x; next = pos + w })
  number_left x g r =
      record {
        number = number-opened true (le-leb w (length (drop pos (bits s))) (let l = rest-length s pos in omega arith))
            ∙ ap (λ (y : ℕ). got y (drop (pos + w) (bits s))) (sym r.number);
        small = r.small;
        inside = omega arith;
      }

  pub number_short : 8 * length s - pos < w → take_number w (drop pos (bits s)) ≡ fail
  number_short g = number-opened false (lt-leb w (length (drop pos (bits s))) (let l = rest-length s pos in omega arith))

module _ (s : List ℕ) (pos n : ℕ) (h : pos ≤ 8 * length s) where
  bytes-opened : (t : Bool) → leb (8 * n) (length (drop pos (bits s))) ≡ t
      → take_bytes n (drop pos (bits s)) ≡ pick t (got (pack n (drop pos (bits s))) (drop (pos + 8 * n) (bits s))) fail
  unfolding take_bytes
  bytes-opened t e =
      ap (λ (u : Bool). pick u (got (pack n (drop pos (bits s))) (drop (8 * n) (drop pos (bits s)))) fail) e
      ∙ ap (λ (ys : List ℕ). pick t (got (pack n (drop pos (bits s))) ys) fail) (drop-drop (8 * n) pos (bits s))

  pub bytes_left : n ≤ (8 * length s - pos) / 8 → BytesAt s pos n (pos + 8 * n)
  bytes_left g =
      record {
        bytes = bytes-opened true (le-leb (8 * n) (length (drop pos (bits s))) (let l = rest-length s pos in omega arith));
        inside = omega arith;
      }

  pub bytes_short : (8 * length s - pos) / 8 < n → take_bytes n (drop pos (bits s)) ≡ fail
  bytes_short g = bytes-opened false (lt-leb (8 * n) (length (drop pos (bits s))) (let l = rest-length s pos in omega arith))
