-- The bytes of a text or bytes in a sheet, which stand at any bit position: what the functions over them promise.
use Rattle.std.specs.Prelude.{ℕ, zero, suc, ◌+◌, ◌*◌, ◌^◌, ◌<◌, ◌≤◌, ◌≡◌, List, Bool, true, length, drop}
use Rattle.coding.specs.Bits.{bits, pack}
use Rattle.coding.specs.Utf8.{is_text}
use Rattle.utf8.specs.Steps.{state_in, HoldsState, after_octets}

-- n bytes from bit `pos` on stand in the sheet s, whose bits can be counted
abbrev pub Fits : List ℕ → ℕ → ℕ → Type 0
Fits s pos n = (pos + 8 * n ≤ 8 * length s) × (8 * length s < 2 ^ 64)

-- the word r holds the state after the n bytes from bit `pos` on in the state of w
pub record Passes (s : List ℕ) (pos n w r : ℕ) : Type 0 where
  pub holds : HoldsState r
  pub is : state_in r ≡ after_octets (state_in w) (pack n (drop pos (bits s)))

-- whether bytes can be written, behind which stands one byte more, as of a text, or none, as of bytes: those of a text must be text
unfoldable pub blob_fine : ℕ → List ℕ → Bool
blob_fine zero l = true
blob_fine (suc k) l = is_text l
