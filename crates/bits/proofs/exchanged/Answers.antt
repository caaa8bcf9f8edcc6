-- A rotation by half of the bits.
use Rattle.std.proofs.Common.{◌≡◌, ℕ, ◌*◌, ◌/◌, ◌%◌, ◌^◌, ◌<◌, ap, ◌∙◌, arith}
use Rattle.std.specs.Int.Bits.{bit_or}
use Rattle.std.proofs.lemmas.Nat.{or_shifted}
use Rattle.bits.proofs.exchanged.Goals as goal

pub returns : goal.returns
returns c = let x = c.args.x in
    let e : (x * 2 ^ 32) % 2 ^ 64 ≡ x % 2 ^ 32 * 2 ^ 32 = omega arith in
    let small : x / 2 ^ 32 < 2 ^ 32 = omega arith in
    c.rotate_left.ensures ∙ ap (λ (k : ℕ). bit_or k (x / 2 ^ 32)) e ∙ or_shifted (x % 2 ^ 32) 32 (x / 2 ^ 32) small
