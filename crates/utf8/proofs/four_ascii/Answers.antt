-- `utf8::four_ascii` meets its contract: the words have no high bit.
use Rattle.std.proofs.Common.{refl}
use Rattle.utf8.proofs.ShortLaws.{four_ascii}
use Rattle.utf8.proofs.four_ascii.Goals as goal

pub returns : goal.returns
returns c = four_ascii _ (λ i. (c.type_inv.m i).fits) _ _ _ _ _ _ _ c.requires.0 c.requires.1 refl
    c.number_in.ensures c.number_in-2.ensures c.number_in-3.ensures c.number_in-4.ensures
