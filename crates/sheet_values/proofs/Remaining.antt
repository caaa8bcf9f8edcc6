-- Loops that write: to put what remains from here is to put the whole from the start.
use mathlib.Core.Path.{◌≡◌, sym}
use mathlib.Core.List.{List, [], ◌++◌}
use Prim.Native.Nat.{ℕ, ◌*◌, ◌<◌, ◌≤◌}
use lib.ListN.{length}
use Rattle.bitio.specs.Puts.{Room, Puts}
use Rattle.bitio.specs.PutsLaws.{puts_none, puts_over, puts_then, puts-same}

pub record Remaining (o₀ : List ℕ) (p₀ : ℕ) (whole o : List ℕ) (p : ℕ) (rest : List ℕ) : Type 0 where
  pub on : (o' : List ℕ) (q : ℕ) → Puts o p rest o' q → Puts o₀ p₀ whole o' q

pub remaining_all : (o : List ℕ) (p : ℕ) (whole rest : List ℕ) → rest ≡ whole → Remaining o p whole o p rest
remaining_all o p whole rest e = record { on = λ o' q h. puts-same o o' p q rest whole e h }

-- one turn
pub remaining_turn : (o₀ o o₁ : List ℕ) (p₀ p p₁ : ℕ) (whole rest x rest₁ : List ℕ) → Remaining o₀ p₀ whole o p rest → 8 * length o ≤ 134217720
    → rest ≡ x ++ rest₁ → Puts o p x o₁ p₁ → Remaining o₀ p₀ whole o₁ p₁ rest₁
remaining_turn o₀ o o₁ p₀ p p₁ whole rest x rest₁ inv g e h =
    record { on = λ o' q k. inv.on o' q (puts-same o o' p q (x ++ rest₁) rest (sym e) (puts_then o o₁ o' p p₁ q x rest₁ g h k)) }

pub remaining_over : (o₀ o : List ℕ) (p₀ p : ℕ) (whole rest : List ℕ) → Remaining o₀ p₀ whole o p rest → Room o p → 134217720 < p → Puts o₀ p₀ whole o p
remaining_over o₀ o p₀ p whole rest inv g h = inv.on o p (puts_over o p rest g h)

pub remaining_done : (o₀ o : List ℕ) (p₀ p : ℕ) (whole rest : List ℕ) → Remaining o₀ p₀ whole o p rest → Room o p → rest ≡ [] → Puts o₀ p₀ whole o p
remaining_done o₀ o p₀ p whole rest inv g e = inv.on o p (puts-same o o p p [] rest (sym e) (puts_none o p g.most))
