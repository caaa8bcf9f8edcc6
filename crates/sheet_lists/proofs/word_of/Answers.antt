use Rattle.sheet_lists.proofs.Words.{word-one, word_two, word_four}
use Rattle.sheet_lists.proofs.word_of.Goals as goal

pub returns-then-this-eq8 : goal.returns-then-this-eq8
returns-then-this-eq8 g c = search word-one

pub returns-then-this-eq4 : goal.returns-then-this-eq4
returns-then-this-eq4 g c = word_two c.args.m.now _ _ (λ i. (c.type_inv.m i).fits) _ _ c.if-this-eq4.true c.number-then-this-eq4.ensures c.rotate_left.ensures

pub returns : goal.returns
returns g c = search word_four
