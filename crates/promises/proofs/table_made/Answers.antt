use Rattle.promises.proofs.Tables.{says-rows, says-unlawful, says_room, says-made}
use Rattle.promises.proofs.table_made.Goals as goal

pub returns : goal.returns
returns c = let ea = c.positions.ensures.value in
    let eo = c.positions.ensures.out_after in
    let schema-known = c.shared_slice_known-1 in record { whole = ea; output = eo; unlawful = says-unlawful _ _ _ _ ea _ eo; room = says_room _ _ _ _ ea _ eo; made = says-made _ _ _ _ ea _ eo; rows = says-rows _ _ _ (λ i. (schema-known.given i).fits) _ ea _ eo }
