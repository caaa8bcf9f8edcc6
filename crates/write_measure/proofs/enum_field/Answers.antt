use Rattle.write_measure.specs.Survey.{enum_field}
use Rattle.write_measure.proofs.MarkCases.{mark_fails, tested_absent, tested_present, tested_unknown}
use Rattle.write_measure.proofs.enum_field.Goals as goal

pub returns-in_err-m : goal.returns-in_err-m
unfolding enum_field
returns-in_err-m c = rw c.from_residual.ensures (search (mark_fails, c.in_err-m.ensures))

pub returns-in-Absent : goal.returns-in-Absent
unfolding enum_field
returns-in-Absent c = search (tested_absent, c.in_ok-m.ensures)

pub returns-in-Present : goal.returns-in-Present
unfolding enum_field
returns-in-Present c = search (tested_present, c.in_ok-m.ensures)

pub returns-in-Unknown : goal.returns-in-Unknown
unfolding enum_field
returns-in-Unknown c = search (tested_unknown, c.in_ok-m.ensures)
