-- `judge_text::text_tested` meets its contract.
use Rattle.judge_text.proofs.TextCases.{text_bad, text_good}
use Rattle.judge_text.proofs.text_tested.Goals as goal

pub returns-in-Ok : goal.returns-in-Ok
returns-in-Ok c = search text_good

pub returns-in-Err : goal.returns-in-Err
returns-in-Err c = search text_bad
