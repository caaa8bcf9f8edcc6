use Rattle.message_step.proofs.LeadCases.{case_seen, case_sound, place_small}
use borrow.Author.Rules.{rules}
use Rattle.message_step.proofs.union_step.Goals as goal

pub returns-then-n-case_count : goal.returns-then-n-case_count
returns-then-n-case_count g c = search (case_seen, case_sound, place_small, rules)
