use Rattle.write_measure.specs.Marks.{mark_of}
use Rattle.write_measure.proofs.MarkCases.{bind_fails, mark_absent, mark_present, mark_unknown, mark_none}
use Rattle.write_measure.proofs.take_mark.Goals as goal

pub returns-in_err-x : goal.returns-in_err-x
unfolding mark_of
returns-in_err-x c = rw c.from_residual.ensures (search (bind_fails, c.in_err-x.ensures))

pub returns-in_default : goal.returns-in_default
returns-in_default c = search (mark_none, c.in_ok-x.ensures)

pub returns-in-0 : goal.returns-in-0
returns-in-0 c = search (mark_absent, c.in_ok-x.ensures)

pub returns-in-1 : goal.returns-in-1
returns-in-1 c = search (mark_present, c.in_ok-x.ensures)

pub returns-in-2 : goal.returns-in-2
returns-in-2 c = search (mark_unknown, c.in_ok-x.ensures)
