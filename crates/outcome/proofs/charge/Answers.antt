use Rattle.outcome.proofs.ArrivalCases.{charge_spent, charge_deep, charge_going}
use Rattle.outcome.proofs.charge.Goals as goal

pub returns-then-visits-eq0 : goal.returns-then-visits-eq0
returns-then-visits-eq0 c = search charge_spent

pub returns-then-depth-eq0 : goal.returns-then-depth-eq0
returns-then-depth-eq0 c = search charge_deep

pub returns : goal.returns
returns c = search charge_going
