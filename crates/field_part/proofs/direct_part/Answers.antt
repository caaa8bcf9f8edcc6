use Rattle.field_part.proofs.DirectCases.{direct_steps, direct-place, direct-stands}
use borrow.Author.Rules.{rules}
use Rattle.field_part.proofs.direct_part.Goals as goal

pub overflow_mul-p : goal.overflow_mul-p
overflow_mul-p c = record { fits = search direct_steps }

pub overflow_add-p : goal.overflow_add-p
overflow_add-p c = record { fits = search direct-place }

pub arrive-requires : goal.arrive-requires
arrive-requires c = (search rules, search direct-stands)
