use Rattle.promises.proofs.Tables.{lent_bytes, old-field, other-field}
use Rattle.promises.proofs.Promised.{shows_entry, shows-refusal}
use Rattle.promises.proofs.Reading.{hands_out}
use Rattle.promises.proofs.field_and_sheet.Goals as goal

pub returns : goal.returns
returns c = let ea = c.read-read.ensures.value in
    let eo = c.read-read.ensures.out_after in
    let eq = c.field-answer.ensures in
    let schema-known = c.shared_slice_known-1 in
    let message-known = c.shared_slice_known-3-1 in record { field = eq; sheet = ea; output = eo; entry = λ accepted short. shows_entry _ _ _ (lent_bytes _ _ _ (λ i. (schema-known.given i).fits)) (λ i. (message-known.given i).fits) _ _ accepted short _ eq; handed = hands_out _ _ _ _ _ _ _ ea eo; refused = λ accepted short. shows-refusal _ _ _ (lent_bytes _ _ _ (λ i. (schema-known.given i).fits)) (λ i. (message-known.given i).fits) _ _ accepted short _ eq; right_table = λ table. old-field _ _ _ table _ _ _ eq; other_table = λ other. other-field _ _ _ other _ _ _ eq }
