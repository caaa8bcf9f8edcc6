-- `scalgo::scalgo_list` meets its contract.
use Rattle.scalgo.proofs.Codings.{count_by, over_by}
use Rattle.scalgo.proofs.scalgo_list.Goals as goal

pub returns : goal.returns
returns c = let got = c.read_list.ensures in
    let w = c.width_of-o.ensures in
    record { value = count_by _ _ w _ _ _ _ _ got.value; cases_after = over_by _ _ w _ _ _ _ _ _ _ got.out_after }
