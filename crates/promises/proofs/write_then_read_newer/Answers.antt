use Rattle.promises.proofs.Trips.{reads_added, hands_added, added-sheet}
use Rattle.promises.proofs.Writing.{within_room, part_length}
use Rattle.promises.proofs.write_then_read_newer.Goals as goal

pub slice_bounds-read-end : goal.slice_bounds-read-end
slice_bounds-read-end c = within_room _ _ _ _ _ c.write-written.ensures.value _ c.write-written.ensures.out_after

pub slice_bounds-read-end-2 : goal.slice_bounds-read-end-2
slice_bounds-read-end-2 c = part_length _ _ _ _ _ c.write-written.ensures.value _ c.write-written.ensures.out_after

pub returns : goal.returns
returns c = let ew = c.write-written.ensures.value in
    let er = c.write-written.ensures.out_after in
    let ea = c.read-read.ensures.value in
    let eo = c.read-read.ensures.out_after in
    let older-known = c.shared_slice_known-1 in
    let sheet-known = c.shared_slice_known-4-1 in record { written = ew; message = er; read = ea; output = eo; accepts = λ appends h. reads_added _ _ _ (λ i. (older-known.given i).fits) (λ i. (sheet-known.given i).fits) _ _ _ ew er h _ appends _ _ _ _ _ ea eo; added = λ appends h. hands_added _ _ _ (λ i. (older-known.given i).fits) (λ i. (sheet-known.given i).fits) _ _ _ ew er h _ appends _ _ _ _ _ ea eo; sheet = λ appends h. added-sheet _ _ _ (λ i. (older-known.given i).fits) (λ i. (sheet-known.given i).fits) _ _ _ ew er h _ appends }
