-- `scalgo::scalgo_read` meets its contract.
use mathlib.Core.Path.{ap, ◌∙◌}
use Rattle.coding.specs.declared.ReadAnswer.{ReadAnswer}
use Rattle.scalgo.specs.Numbers.{verdict_numbers}
use Rattle.scalgo.proofs.Codings.{read_by, read_out_by}
use Rattle.scalgo.proofs.scalgo_read.Goals as goal

pub returns : goal.returns
returns c = let read = c.read-answer.ensures in
    let w = c.width_of-o.ensures in
    let e = read_by _ _ w _ _ _ _ _ _ read.value in record { value = ap (λ (x : ReadAnswer). x.verdict.number) e; verdict_after = c.store.ensures ∙ ap (λ (x : ReadAnswer). verdict_numbers x.verdict) e; length_after = ap (λ (x : ReadAnswer). x.length) e; sheet_after = read_out_by _ _ w _ _ _ _ _ _ read.out_after }
