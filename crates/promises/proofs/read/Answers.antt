use Rattle.promises.proofs.Tables.{lent_bytes, old-read, other-read}
use Rattle.promises.proofs.Promised.{reads-exactly, reads-arrivals, reads-content, reads_room, reads-lawful}
use Rattle.promises.proofs.Reading.{hands_out, refused_kept}
use Rattle.promises.proofs.read.Goals as goal

pub returns : goal.returns
returns c = let ea = c.read.ensures.value in
    let eo = c.read.ensures.out_after in
    let schema-known = c.shared_slice_known-1 in
    let message-known = c.shared_slice_known-3-1 in record { whole = ea; output = eo; exactly = reads-exactly _ _ _ _ _ _ ea; arrivals = reads-arrivals _ _ _ _ _ _ ea; content = reads-content _ _ _ _ _ _ ea; room = reads_room _ _ _ _ _ _ ea; kept = refused_kept _ _ _ _ _ _ _ ea eo; sheet = hands_out _ _ _ _ _ _ _ ea eo; lawful = reads-lawful _ _ _ (lent_bytes _ _ _ (λ i. (schema-known.given i).fits)) (λ i. (message-known.given i).fits) _ _ _ _ ea eo; right_table = λ table. old-read _ _ _ table _ _ _ _ _ ea eo; other_table = λ other. other-read _ _ _ other _ _ _ _ _ ea eo }
