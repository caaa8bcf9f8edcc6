use Rattle.judge_member.proofs.RowRecords.{row-of-text}
use Rattle.judge_member.proofs.is_row_member.Goals as goal

pub returns-then-is_text_reference : goal.returns-then-is_text_reference
returns-then-is_text_reference c = λ e. row-of-text _ _ c.is_text_reference.ensures c.if-is_text_reference.true
