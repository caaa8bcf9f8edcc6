use Rattle.judge_member.proofs.RowRecords.{width-text, width-plain, row_kind}
use native.Mathlib.Omega.{arith}
use Rattle.judge_member.proofs.row_width.Goals as goal

pub returns-then-is_text_reference : goal.returns-then-is_text_reference
returns-then-is_text_reference c = (search width-text, omega arith)

pub plain_width-requires : goal.plain_width-requires
plain_width-requires c = search row_kind

pub returns : goal.returns
returns c = (search width-plain, omega arith)
