use Rattle.promises.proofs.Trips.{lays_out, lays_out_only}
use Rattle.promises.proofs.Writing.{kept}
use Rattle.promises.proofs.UnionsRefused.{union_refused, others_as-before}
use Rattle.promises.proofs.written.Goals as goal

pub returns : goal.returns
returns c = let ea = c.write.ensures.value in
    let eo = c.write.ensures.out_after in record { whole = ea; output = eo; every = lays_out _ _ _ _ _ ea _ eo; only = lays_out_only _ _ _ _ _ ea _ eo; kept = kept _ _ _ _ _ ea _ eo; unions = union_refused _ _ _ _ _ ea; others = others_as-before _ _ _ _ _ ea }
