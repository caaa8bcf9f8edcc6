-- `utf8::two_ascii` meets its contract: the words have no high bit.
use Rattle.std.proofs.Common.{ℕ, ◌-◌, ◌*◌, refl, ap}
use Rattle.utf8.proofs.ShortLaws.{two_ascii}
use Rattle.utf8.proofs.two_ascii.Goals as goal

pub returns : goal.returns
returns c = two_ascii _ (λ i. (c.type_inv.m i).fits) _ _ _ _ _ _ _ c.requires.0 c.requires.1 refl
    (ap (λ (k : ℕ). 32 - 4 * k) c.min.ensures) c.min-2.ensures c.number_in-first.ensures c.number_in.ensures
