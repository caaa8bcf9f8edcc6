use Rattle.promises.proofs.Promised.{three-read}
use Rattle.promises.proofs.Reading.{hands_out}
use Rattle.promises.proofs.read_by_three.Goals as goal

pub returns : goal.returns
returns c = let ea = c.read-by_oldest.ensures in
    let eb = c.read-by_middle.ensures in
    let ec = c.read-by_newest.ensures in
    let oldest-known = c.shared_slice_known-1 in
    let middle-known = c.shared_slice_known-3-1 in
    let newest-known = c.shared_slice_known-5-1 in
    let message-known = c.shared_slice_known-7-1 in record { by_oldest = ea.value; oldest_out = ea.out_after; by_middle = eb.value; middle_out = eb.out_after; by_newest = ec.value; newest_out = ec.out_after; three = three-read _ _ _ _ _ (λ i. (oldest-known.given i).fits) (λ i. (middle-known.given i).fits) (λ i. (newest-known.given i).fits) (λ i. (message-known.given i).fits) _ _ _ _ _ _ ea.value ea.out_after _ _ _ eb.value eb.out_after; handed = hands_out _ _ _ _ _ _ _ ec.value ec.out_after }
