-- `outcome::refuse_part` meets its contract.
use Rattle.outcome.proofs.AnswerCases.{part_refuses}
use Rattle.outcome.proofs.refuse_part.Goals as goal

pub returns : goal.returns
returns c = search part_refuses
