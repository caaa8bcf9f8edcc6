use Rattle.write_text.proofs.TextLaws.{fine_bytes, fine-text}
use Rattle.write_text.proofs.blob_fine.Goals as goal

pub returns-then-more-eq0 : goal.returns-then-more-eq0
returns-then-more-eq0 c = search fine_bytes

pub returns-else-more-eq0 : goal.returns-else-more-eq0
returns-else-more-eq0 c = search fine-text
