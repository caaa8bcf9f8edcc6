-- Two bytes as one number of 16 bits.
use Rattle.std.proofs.Common.{◌≡◌, ℕ, ◌+◌, ◌*◌, ◌/◌, ◌%◌, ◌^◌, ap, ◌∙◌, arith, shl_exact}
use Rattle.std.specs.Int.Bits.{bit_or}
use Rattle.std.proofs.lemmas.Nat.{or_shifted}
use Rattle.bits.proofs.across.Goals as goal

pub returns : goal.returns
returns c = let a = c.args in
    let p = c.from.result in
    let x = c.from-2.result in
    let both : bit_or ((p * 2 ^ 8) % 2 ^ 16) x ≡ p * 2 ^ 8 + x =
    ap (λ (k : ℕ). bit_or k x) (shl_exact 8 8 16 (omega arith) (omega arith)) ∙ or_shifted p 8 x (omega arith) in
    let same : p * 2 ^ 8 + x ≡ a.p * 2 ^ 8 + a.x = omega arith in
    ap (λ (k : ℕ). k / 2 ^ a.a % 2 ^ 8) (both ∙ same)
