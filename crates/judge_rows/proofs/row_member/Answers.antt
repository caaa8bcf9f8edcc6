use Rattle.judge_rows.proofs.RowCases.{row_cut, row-text, row_number}
use Rattle.judge_member.proofs.RowRecords.{text-wide}
use native.Mathlib.Omega.{arith}
use Rattle.judge_rows.proofs.row_member.Goals as goal

pub returns-then-x-end : goal.returns-then-x-end
returns-then-x-end c = search row_cut

pub offset_in-requires : goal.offset_in-requires
offset_in-requires c = (c.args.reading.now.schema.coded, omega (arith, text-wide _ _ _ c.is_text_reference.ensures c.if-is_text_reference.true _ c.row_width.ensures.0))

pub returns-then-is_text_reference : goal.returns-then-is_text_reference
returns-then-is_text_reference c = search row-text

pub returns : goal.returns
returns c = search row_number
