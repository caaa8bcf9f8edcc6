use Rattle.sheet.proofs.Whole.{lent_answer, lent_over, unlawful_answer, unlawful_over}
use Rattle.sheet.proofs.read.Goals as goal

pub returns-in-Some : goal.returns-in-Some
returns-in-Some c = record { value = search lent_answer; out_after = search lent_over }

pub returns-in-None : goal.returns-in-None
returns-in-None c = record { value = search unlawful_answer; out_after = search unlawful_over }
