-- `scalgo::scalgo_clear_unions` meets its contract.
use mathlib.Core.Path.{ap}
use Rattle.coding.specs.declared.WriteAnswer.{WriteAnswer}
use Rattle.scalgo.proofs.scalgo_clear_unions.Goals as goal

pub returns : goal.returns
returns c = let cleared = c.clear_unions-answer.ensures in record { value = ap (λ (x : WriteAnswer). x.number) cleared.value; length_after = ap (λ (x : WriteAnswer). x.length) cleared.value; cleared_after = cleared.out_after }
