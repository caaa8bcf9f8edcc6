use Rattle.judge_text.proofs.ElementCases.{refer_none, refer-object}
use Rattle.judge_rows.proofs.refer_row.Goals as goal

pub returns-then-x-eq0 : goal.returns-then-x-eq0
returns-then-x-eq0 c = search refer_none

pub returns : goal.returns
returns c = search refer-object
