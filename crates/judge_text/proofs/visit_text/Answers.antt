use Rattle.outcome.proofs.ArrivalCases.{offset_stopped, offset_refused, not_more, text_unpaid, text_paid}
use Rattle.message_object.proofs.OpenCases.{text-found}
use Rattle.judge_text.proofs.visit_text.Goals as goal

pub returns-then-g-ne0 : goal.returns-then-g-ne0
returns-then-g-ne0 c = search offset_stopped

pub returns-then-exceeds : goal.returns-then-exceeds
returns-then-exceeds c = search text_unpaid

pub rest-requires : goal.rest-requires
rest-requires c = search not_more

pub text_tested-requires : goal.text_tested-requires
text_tested-requires c = search text-found

pub returns-in-Err : goal.returns-in-Err
returns-in-Err c = search offset_refused

pub returns-else-exceeds : goal.returns-else-exceeds
returns-else-exceeds c = search text_paid
