use Rattle.write_measure.specs.SimpleMembers.{flat_part}
use Rattle.write_measure.proofs.MarkCases.{mark_fails, tested_absent, tested_present, tested_unknown}
use Rattle.write_measure.proofs.flat_part.Goals as goal

pub returns-in_err-m : goal.returns-in_err-m
unfolding flat_part
returns-in_err-m c = rw c.from_residual.ensures (search (mark_fails, c.in_err-m.ensures))

pub returns-in-Absent : goal.returns-in-Absent
unfolding flat_part
returns-in-Absent c = search (tested_absent, c.in_ok-m.ensures)

pub returns-in-Present : goal.returns-in-Present
unfolding flat_part
returns-in-Present c = search (tested_present, c.in_ok-m.ensures)

pub returns-in-Unknown : goal.returns-in-Unknown
unfolding flat_part
returns-in-Unknown c = rw (← c.flat_at.ensures) (search (tested_unknown, c.in_ok-m.ensures))
