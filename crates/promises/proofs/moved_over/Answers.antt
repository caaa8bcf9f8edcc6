use Rattle.promises.proofs.MovedOver.{clear_within, clear-part, schema_clears, schema_cleared, move_reasons, back-lent, back-sheet}
use Rattle.promises.proofs.Reading.{read-within, read-part}
use Rattle.promises.proofs.Writing.{within_room, part_length}
use borrow.Author.Rules.{rules}
use Rattle.promises.proofs.moved_over.Goals as goal

pub slice_bounds-write-end : goal.slice_bounds-write-end
slice_bounds-write-end c = let e = c.clear_unions-cleared.ensures in clear_within _ _ _ _ e.value e.out_after

pub slice_bounds-write-end-2 : goal.slice_bounds-write-end-2
slice_bounds-write-end-2 c = let e = c.clear_unions-cleared.ensures in clear-part _ _ _ _ e.value e.out_after

pub slice_bounds-write-end-3 : goal.slice_bounds-write-end-3
slice_bounds-write-end-3 c = let e = c.read-stored.ensures in read-within _ _ _ _ _ _ _ e.value e.out_after

pub slice_bounds-write-end-4 : goal.slice_bounds-write-end-4
slice_bounds-write-end-4 c = let e = c.read-stored.ensures in read-part _ _ _ _ _ _ _ e.value e.out_after

pub slice_bounds-read-end : goal.slice_bounds-read-end
slice_bounds-read-end c = let e = c.clear_unions-cleared.ensures in clear_within _ _ _ _ e.value e.out_after

pub slice_bounds-read-end-2 : goal.slice_bounds-read-end-2
slice_bounds-read-end-2 c = let e = c.clear_unions-cleared.ensures in clear-part _ _ _ _ e.value e.out_after

pub slice_bounds-read-end-3 : goal.slice_bounds-read-end-3
slice_bounds-read-end-3 c = let e = c.write-written.ensures in within_room _ _ _ _ _ e.value _ e.out_after

pub slice_bounds-read-end-4 : goal.slice_bounds-read-end-4
slice_bounds-read-end-4 c = let e = c.write-written.ensures in part_length _ _ _ _ _ e.value _ e.out_after

pub returns : goal.returns
returns c = let r = c.read-stored.ensures in
    let k = c.clear_unions-cleared.ensures in
    let w = c.write-written.ensures in
    let e = c.read-back.ensures in
    let schema-known = c.shared_slice_known-1 in
    let message-known = c.shared_slice_known-3-1 in record { stored = r.value; sheet = r.out_after; cleared = k.value; newer = k.out_after; written = w.value; message = w.out_after; back = e.value; output = e.out_after; clears = λ h. schema_clears _ _ _ (λ i. (schema-known.given i).fits) (λ i. (message-known.given i).fits) _ _ _ _ r.value r.out_after h _ _ _ k.value k.out_after; schema = λ h. schema_cleared _ _ _ (λ i. (schema-known.given i).fits) (λ i. (message-known.given i).fits) _ _ _ _ r.value r.out_after h _ _ _ k.value k.out_after; reasons = λ h g. move_reasons _ _ _ (λ i. (schema-known.given i).fits) (λ i. (message-known.given i).fits) _ _ _ _ r.value r.out_after h _ _ _ k.value k.out_after g _ _ _ w.value w.out_after; same = λ h g z t. back-lent _ _ _ (λ i. (schema-known.given i).fits) (λ i. (message-known.given i).fits) _ _ _ _ r.value r.out_after h _ _ _ k.value k.out_after g _ _ _ w.value w.out_after z _ t _ _ _ _ e.value e.out_after; rules = λ h g z. back-sheet _ _ _ (λ i. (schema-known.given i).fits) (λ i. (message-known.given i).fits) _ _ _ _ r.value r.out_after h _ _ _ k.value k.out_after g _ _ _ w.value w.out_after z }
