use Rattle.promises.proofs.Promised.{older_reads, older_hands_out}
use Rattle.promises.proofs.Reading.{hands_out}
use Rattle.promises.proofs.read_by_both.Goals as goal

pub returns : goal.returns
returns c = let ea = c.read-by_older.ensures.value in
    let eo = c.read-by_older.ensures.out_after in
    let ec = c.read-by_newer.ensures.value in
    let en = c.read-by_newer.ensures.out_after in
    let older-known = c.shared_slice_known-1 in
    let newer-known = c.shared_slice_known-3-1 in
    let message-known = c.shared_slice_known-5-1 in record { by_older = ea; older_out = eo; by_newer = ec; newer_out = en; accepts = older_reads _ _ _ _ _ (λ i. (older-known.given i).fits) (λ i. (newer-known.given i).fits) (λ i. (message-known.given i).fits) _ _ _ _ ea eo; without = older_hands_out _ _ _ _ _ (λ i. (older-known.given i).fits) (λ i. (newer-known.given i).fits) (λ i. (message-known.given i).fits) _ _ _ _ ea eo; handed = hands_out _ _ _ _ _ _ _ ec en }
