use Rattle.promises.proofs.Trips.{reads_back, trip-sheet, falls_short, few_visits, little-content}
use Rattle.promises.proofs.Writing.{within_room, part_length}
use Rattle.promises.proofs.write_then_read.Goals as goal

pub slice_bounds-read-end : goal.slice_bounds-read-end
slice_bounds-read-end c = within_room _ _ _ _ _ c.write-written.ensures.value _ c.write-written.ensures.out_after

pub slice_bounds-read-end-2 : goal.slice_bounds-read-end-2
slice_bounds-read-end-2 c = part_length _ _ _ _ _ c.write-written.ensures.value _ c.write-written.ensures.out_after

pub returns : goal.returns
returns c = let ew = c.write-written.ensures.value in
    let er = c.write-written.ensures.out_after in
    let ea = c.read-read.ensures.value in
    let eo = c.read-read.ensures.out_after in
    let schema-known = c.shared_slice_known-1 in
    let sheet-known = c.shared_slice_known-3-1 in record { written = ew; message = er; read = ea; output = eo; same = λ h. reads_back _ _ _ (λ i. (schema-known.given i).fits) (λ i. (sheet-known.given i).fits) _ _ _ ew er h _ _ _ _ _ ea eo; sheet = λ h. trip-sheet _ _ _ (λ i. (schema-known.given i).fits) (λ i. (sheet-known.given i).fits) _ _ _ ew er h; less = λ h. falls_short _ _ _ (λ i. (schema-known.given i).fits) (λ i. (sheet-known.given i).fits) _ _ _ ew er h _ _ _ _ _ ea eo; few_visits = λ h. few_visits _ _ _ (λ i. (schema-known.given i).fits) (λ i. (sheet-known.given i).fits) _ _ _ ew er h _ _ _ _ _ ea eo; little_content = λ h. little-content _ _ _ (λ i. (schema-known.given i).fits) (λ i. (sheet-known.given i).fits) _ _ _ ew er h _ _ _ _ _ ea eo }
