-- `scalgo::scalgo_positions` meets its contract.
use mathlib.Core.Path.{ap}
use Rattle.coding.specs.declared.WriteAnswer.{WriteAnswer}
use Rattle.scalgo.proofs.Codings.{positions_by, positions_out_by}
use Rattle.scalgo.proofs.scalgo_positions.Goals as goal

pub returns : goal.returns
returns c = let made = c.positions-answer.ensures in
    let w = c.width_of-o.ensures in
    let e = positions_by _ _ w _ _ _ made.value in record { value = ap (λ (x : WriteAnswer). x.number) e; length_after = ap (λ (x : WriteAnswer). x.length) e; positions_after = positions_out_by _ _ w _ _ _ made.out_after }
