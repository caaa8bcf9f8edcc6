-- `scalgo::scalgo_write` meets its contract.
use mathlib.Core.Path.{ap}
use Rattle.coding.specs.declared.WriteAnswer.{WriteAnswer}
use Rattle.scalgo.proofs.Codings.{write_by, write_out_by}
use Rattle.scalgo.proofs.scalgo_write.Goals as goal

pub returns : goal.returns
returns c = let wrote = c.write-answer.ensures in
    let w = c.width_of-o.ensures in
    let e = write_by _ _ w _ _ _ _ wrote.value in record { value = ap (λ (x : WriteAnswer). x.number) e; length_after = ap (λ (x : WriteAnswer). x.length) e; message_after = write_out_by _ _ w _ _ _ _ wrote.out_after }
