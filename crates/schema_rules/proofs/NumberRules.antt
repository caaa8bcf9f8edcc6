-- A number's record in a table, by its first byte.
use mathlib.Core.Path.{◌≡◌, refl, sym, ◌∙◌}
use mathlib.Core.Bool.{Bool, true, false}
use mathlib.Core.List.{List}
use Prim.Native.Nat.{ℕ, ◌+◌, ◌/◌, ◌%◌, ◌<◌}
use native.Mathlib.Omega.{arith}
use lib.Bits.{bit_and, and_mask}
use lib.ListN.{get_or}
use lib.Dec.{eqb}
use borrow.Author.Tests.{lt-ltb, eq-eqb, ne_eqb}
use Rattle.coding.specs.Lists.{pick}
use Rattle.coding.specs.Packed as P
use Rattle.coding.specs.Lawful as L
use Rattle.coding.specs.declared.Role.TheVariants.{InTable}

pick_same : (t x : Bool) → pick t x x ≡ x
pick_same true x = refl
pick_same false x = refl

module _ (b : List ℕ) (at : ℕ) (low : get_or b at 0 < 88) (flags : bit_and (get_or b at 0) 3 ≡ 0) where
  low_two : get_or b at 0 % 4 ≡ 0
  low_two = sym (and_mask (get_or b at 0) 2) ∙ flags

  number_kind : P.kind_at b at < 11
  unfolding P.kind_at
  number_kind = omega arith

  number_zero : P.zero_at b at ≡ true
  unfolding P.zero_at
  number_zero = let l = low_two in eq-eqb (get_or b at 0 % 2) 0 (omega arith)

  number_inplace : P.inplace_at b at ≡ false
  unfolding P.inplace_at
  number_inplace = let l = low_two in ne_eqb (get_or b at 0 / 2 % 2) 1 (λ (z : get_or b at 0 / 2 % 2 ≡ 1). absurd (omega arith))

  pub number_ok : eqb (get_or b (at + 1) 0) 0 ≡ true → L.record_ok b InTable at ≡ true
  unfolding L.record_ok L.argument_ok L.kind_ok L.flags_ok L.optional_ok L.inplace_ok L.direct_ok P.argument_at
  number_ok e =
      let l = number_kind in
      let z : (P.kind_at b at ≡ 12 → ⊥) = λ q. absurd (omega arith) in
      let u : (P.kind_at b at ≡ 17 → ⊥) = λ q. absurd (omega arith) in
      let d : (P.kind_at b at ≡ 18 → ⊥) = λ q. absurd (omega arith) in
      simp (number_zero, lt-ltb _ _ l, e, ne_eqb _ _ z, ne_eqb _ _ u, ne_eqb _ _ d, number_inplace, pick_same)
