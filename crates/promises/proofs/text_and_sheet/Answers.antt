use Rattle.promises.proofs.Tables.{lent_bytes, old_span, other_span}
use Rattle.promises.proofs.Promised.{shows-text, there-exactly, there_long}
use Rattle.promises.proofs.Reading.{hands_out}
use Rattle.promises.proofs.text_and_sheet.Goals as goal

pub returns : goal.returns
returns c = let ea = c.read-read.ensures.value in
    let eo = c.read-read.ensures.out_after in
    let ep = c.text_span-text.ensures.0 in
    let within = c.text_span-text.ensures.1 in
    let schema-known = c.shared_slice_known-1 in
    let message-known = c.shared_slice_known-3-1 in record { part = ep; sheet = ea; output = eo; within = within; exactly = there-exactly _ _ _ _ _ ep; long = there_long _ _ _ _ _ ep; text = λ accepted short. shows-text _ _ _ (lent_bytes _ _ _ (λ i. (schema-known.given i).fits)) (λ i. (message-known.given i).fits) _ _ accepted short _ ep; handed = hands_out _ _ _ _ _ _ _ ea eo; right_table = λ table. old_span _ _ _ table _ _ _ ep; other_table = λ other. other_span _ _ _ other _ _ _ ep }
